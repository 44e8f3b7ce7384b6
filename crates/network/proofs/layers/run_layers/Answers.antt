use Rattle.std.proofs.Common.{◌≡◌, ◌+◌, [], length, sym, ap, ◌∙◌, arith}
use Rattle.std.proofs.lemmas.List.{nil_from_length}
use Rattle.std.proofs.lemmas.Result.{err_from_is_err_and}
use Rattle.cordic.proofs.Outs.{counted_zero}
use Rattle.network.specs.Plan.{records}
use Rattle.network.specs.Walk.{layers_of}
use Rattle.network.proofs.Bytes.{records_none}
use Rattle.network.proofs.Encoding.{describes_records}
use Rattle.network.proofs.Flowing.{flow_on, flow_halt, flow_done, flow_width, layer_made, later_made, bytes_enough, records_drop, ahead_room, ahead_past, Faces, faces, starts_at}
use Rattle.network.proofs.ReadBack.{layers_none}
use Rattle.network.proofs.layers.run_layers.Goals as goal
use Rattle.network.proofs.layers.run_layers.Goals.{In-Some, else-loop-number-test, then-loop-number-test+in_default}

pub loop-number-init : goal.loop-number-init
loop-number-init g c =
    let bs = c.args.plan.now in
    let d = c.requires.0 in
    let n = d.formed.0.few in
    (layers_of bs, describes_records bs (layers_of bs) d, d.formed.0.sized, starts_at (layers_of bs) _ c.requires.1 d.formed.0.chained, counted_zero _, omega arith, omega arith)

-- the layer that the record heads
facing : (g : _) (c : In-Some g) → Faces c.in-Some.head (records c.in-Some.tail.now) c.loop-number.invariant.0 (length c.loop-number.answer.value.items)
facing g c =
    let i = c.loop-number.invariant in
    faces _ c.in-Some.head (records c.in-Some.tail.now) i.0 (length c.loop-number.answer.value.items) i.1 i.2 i.3 c.in-Some.ensures.answer.parts

pub unreachable-requires : goal.unreachable-requires
unreachable-requires g c =
    let f = facing g (goal.at.unreachable-requires g c).In-Some in
    cc (c.in_default-try_from.ensures, f.activation)

pub after_neurons-rest-requires : goal.after_neurons-rest-requires
after_neurons-rest-requires g c =
    let f = facing g (goal.at.after_neurons-rest-requires g c).In-Some in
    let l : c.len.result ≡ length c.loop-number.answer.value.items = c.len.ensures.value in
    let r = ahead_room _ _ _ _ _ f.ahead in
    let n = f.narrow in
    (f.few, (omega arith, rw l (bytes_enough _ c.in-Some.tail.now r)))

pub run_layer-requires : goal.run_layer-requires
run_layer-requires g c =
    let f = facing g (goal.at.run_layer-requires g c).In-Some in
    ((f.within.neurons, f.others, rw c.as_slice.ensures.value f.ahead), f.few)

pub later-requires : goal.later-requires
later-requires g c =
    let f = facing g (goal.at.later-requires g c).In-Some in
    let e = c.run_layer.ensures.answer f.within.neurons f.others (rw c.as_slice.ensures.value f.ahead) in
    let h = layer_made g.S.Stage c.run_layer.result _ _ _ _ _ _ (rw c.as_slice.ensures.value f.narrow) f.some e in
    let i = c.loop-number.invariant.5 in
    let j = c.loop-number.invariant.6 in
    let k : length c.loop-number.invariant.0 ≡ 1 + length f.others = ap length f.are ∙ omega arith in
    omega arith

pub returns-in_err-answer : goal.returns-in_err-answer
returns-in_err-answer g c =
    let f = facing g (goal.at.returns-in_err-answer g c).In-Some in
    let e = c.run_layer.ensures.answer f.within.neurons f.others (rw c.as_slice.ensures.value f.ahead) in
    let a : c.in-Ok.activation ≡ f.within.activation = cc (c.in-Ok.ensures, f.activation) in
    let p = err_from_is_err_and c.from_residual.result c.from_residual.ensures.1 in
    rw (p.1, p.2) (record {
      answer = flow_halt g.S.Stage g.S.Stage.rule c.loop-number.number _ c.loop-number.invariant.0 f.others f.within _ _ c.loop-number.invariant.4 f.are c.run_layer.result
          (rw (c.as_slice.ensures.value, a) at e) _ (sym c.in_err-answer.was ∙ c.later.ensures.answer);
    })

pub loop-number-preserved : goal.loop-number-preserved
loop-number-preserved g c =
    let f = facing g (goal.at.loop-number-preserved g c).In-Some in
    let l : c.len.result ≡ length c.loop-number.answer.value.items = c.len.ensures.value in
    let r = rw (← l) at (ahead_room _ _ _ _ _ f.ahead) in
    let past = rw (← l) at (ahead_past _ _ _ _ _ f.ahead) in
    let e = c.run_layer.ensures.answer f.within.neurons f.others (rw c.as_slice.ensures.value f.ahead) in
    let a : c.in-Ok.activation ≡ f.within.activation = cc (c.in-Ok.ensures, f.activation) in
    let d = rw (c.as_slice.ensures.value, a) at e in
    let ok = sym c.in_ok-answer.was ∙ c.later.ensures.answer in
    let h = layer_made g.S.Stage c.run_layer.result _ _ _ _ _ _ (rw c.as_slice.ensures.value f.narrow) f.some e in
    let m = later_made _ c.run_layer.result _ ok in
    let w = flow_width g.S.Stage g.S.Stage.rule c.loop-number.number _ c.loop-number.invariant.0 f.others f.within _ _ c.loop-number.invariant.4 f.are c.run_layer.result d _ ok in
    let i = c.loop-number.invariant.5 in
    let j = c.loop-number.invariant.6 in
    let k : length c.loop-number.invariant.0 ≡ 1 + length f.others = ap length f.are ∙ omega arith in (
      f.others,
      ap records c.after_neurons-rest.ensures.answer ∙ records_drop _ c.in-Some.tail.now (bytes_enough _ c.in-Some.tail.now r) ∙ past,
      f.sized,
      rw w f.follows,
      flow_on g.S.Stage g.S.Stage.rule c.loop-number.number _ c.loop-number.invariant.0 f.others f.within _ _ c.loop-number.invariant.4 f.are c.run_layer.result d _ ok,
      omega arith,
      omega arith,
    )

pub returns : goal.returns
returns g c =
    let i = c.loop-number.invariant in
    let n : i.0 ≡ [] = elim c.loop-number-test.branch [
      | else-loop-number-test w ↦ (let k = w.loop-number-test.false in nil_from_length i.0 (omega arith))
      | then-loop-number-test+in_default w ↦ layers_none _ i.0 i.1 (records_none c.loop-number.rest.now w.in_default.ensures.answer)
    ] in
    record { answer = flow_done g.S.Stage.rule _ _ i.0 _ _ i.4 n }
