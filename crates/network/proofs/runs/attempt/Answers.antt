use Rattle.std.proofs.Common.{◌≡◌, length, take, sym, refl, ap, ◌∙◌, arith}
use Rattle.std.proofs.lemmas.Result.{err_from_is_err_and}
use Rattle.network.specs.Seen.{feed_of}
use Rattle.network.specs.Run.{Feed, outputs, written}
use Rattle.network.specs.Admitted.{Admitted}
use Rattle.cordic.specs.Outcome.{went, mapped}
use Rattle.cordic.specs.Seen.{state_of}
use Rattle.network.proofs.Placing.{over_length}
use Rattle.network.proofs.Attempting.{Delivers, delivery, halt, first_places}
use Rattle.network.proofs.runs.attempt.Goals as goal
use Rattle.network.proofs.runs.attempt.Goals.{In-Ok, In_ok-unit}

abbrev fed : (g : _) (c : In-Ok g) → Feed
fed g c = feed_of g.S.Stage g.P.Sample c.args.plan.now c.args.samples.now c.args.out.now c.args.unit.stage

passed : (g : _) (c : In-Ok g) → Admitted (fed g c) c.in-Ok.inputs
passed g c = c.in-Ok.ensures.answer (fed g c) refl refl refl

pub run_layers-requires : goal.run_layers-requires
run_layers-requires g c =
    let a = passed g (goal.at.run_layers-requires g c).In-Ok in
    (a.plan, a.wide)

pub returns-in_err-unit : goal.returns-in_err-unit
returns-in_err-unit g c =
    let p = err_from_is_err_and c.from_residual.result c.from_residual.ensures.1 in
    let e = halt _ _ (passed g (goal.at.returns-in_err-unit g c).In-Ok) _ _ _ c.in_err-unit.ensures.answer in
    rw (p.1, p.2) (record { same = ap (mapped outputs) (sym e); within = tt; lent = ap (λ o. written o c.args.out.now) (sym e) })

delivers : (g : _) (c : In_ok-unit g) → Delivers (feed_of g.S.Stage g.P.Sample c.args.plan.now c.args.samples.now c.args.out.now c.args.unit.stage) c.in_ok-unit.field-0.value.items c.in_ok-unit.field-0.steps (state_of g.S.Stage c.in_ok-unit.field-0.unit.stage)
delivers g c = delivery _ _ (c.in-Ok.ensures.answer (feed_of g.S.Stage g.P.Sample c.args.plan.now c.args.samples.now c.args.out.now c.args.unit.stage) refl refl refl) _ _ _ c.in_ok-unit.ensures.answer

pub deliver-requires : goal.deliver-requires
deliver-requires g c = rw c.as_slice.ensures.value (delivers g (goal.at.deliver-requires g c).In_ok-unit).room

pub returns : goal.returns
returns g c =
    let d = delivers g (goal.at.returns g c).In_ok-unit in
    let l : c.deliver.new.out ≡ _ = rw c.as_slice.ensures.value at c.deliver.ensures.lent in
    record {
      same = ap (λ ys. went ys c.in_ok-unit.field-0.steps (state_of g.S.Stage c.in_ok-unit.field-0.unit.stage)) (ap (take c.len.result) l ∙ first_places _ _ _ c.len.ensures.value) ∙ d.same;
      within = let r = d.room in let e = ap length l ∙ over_length _ _ r in let k = c.len.ensures.value in omega arith;
      lent = l ∙ d.lent;
    }
