use Rattle.std.proofs.Common.{map, sym, refl, ◌∙◌, arith}
use Rattle.std.proofs.lemmas.List.{length-map}
use Rattle.std.proofs.lemmas.Result.{err_from_is_err_and}
use Rattle.network.proofs.Admitting.{entrance_narrow, bad_plan, few_places, bad_count, gathers_all}
use Rattle.network.specs.Walk.{layers_of}
use Rattle.network.proofs.admit.admit.Goals as goal

pub returns-in_err-plan : goal.returns-in_err-plan
returns-in_err-plan g c =
    let e = err_from_is_err_and c.from_residual.result c.from_residual.ensures.1 in
    rw (e.1, e.2) (record { answer = λ f p q r. bad_plan f _ _ _ p q r c.in_err-plan.ensures.answer })

pub returns-then-places-outputs : goal.returns-then-places-outputs
returns-then-places-outputs g c =
    let d = c.in_ok-plan.ensures.answer in
    record { answer = λ f p q r. few_places f c.args.bytes.now (map g.P.Sample.yields c.args.samples.now) _ p q r d.1 (omega (arith, c.if-places-outputs.true, c.outputs.ensures.answer, d.3)) }

pub returns-then-samples-inputs : goal.returns-then-samples-inputs
returns-then-samples-inputs g c =
    let d = c.in_ok-plan.ensures.answer in
    record { answer = λ f p q r. bad_count f c.args.bytes.now (map g.P.Sample.yields c.args.samples.now) _ p q r d.1 (omega (arith, c.if-places-outputs.false, c.outputs.ensures.answer, d.3)) (λ n. c.if-samples-inputs.true (sym (length-map c.args.samples.now g.P.Sample.yields) ∙ n ∙ sym (c.inputs.ensures.answer ∙ d.2))) }

pub gather-requires : goal.gather-requires
gather-requires g c =
    let d = c.in_ok-plan.ensures.answer in
    let e = entrance_narrow (layers_of c.args.bytes.now) (c.in_ok-plan.ensures.accepted.0 (layers_of c.args.bytes.now) d.1).formed.0.sized in
    omega (arith, c.if-samples-inputs.false, c.inputs.ensures.answer, d.2, e)

pub returns : goal.returns
returns g c =
    let d = c.in_ok-plan.ensures.answer in
    record { answer = λ f p q r. rw c.gather.ensures.answer (gathers_all f c.args.bytes.now (map g.P.Sample.yields c.args.samples.now) _ p q r d.1 (omega (arith, c.if-places-outputs.false, c.outputs.ensures.answer, d.3)) (length-map c.args.samples.now g.P.Sample.yields ∙ c.if-samples-inputs.false ∙ c.inputs.ensures.answer ∙ d.2) (c.in_ok-plan.ensures.accepted.0 (layers_of c.args.bytes.now) d.1) _ refl) }
