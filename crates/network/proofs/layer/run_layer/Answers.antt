use Rattle.std.proofs.Common.{arith, w32, SFits, rules}
use Rattle.std.proofs.lemmas.Result.{err_from_is_err_and}
use Rattle.network.proofs.Laying.{site_at, fire_short, layer_kept, layer_halt, layer_done}
use Rattle.network.proofs.Places.{placed_steps}
use Rattle.network.proofs.ReadBack.{ahead_enough, ahead_more, ahead_none}
use Rattle.network.proofs.layer.run_layer.Goals as goal

pub read-neuron-requires : goal.read-neuron-requires
read-neuron-requires g c =
    let p = c.requires.0 in
    let a = c.loop-number.invariant.0 p.0 p.1 p.2 in
    (p.2.few, ahead_enough _ _ _ _ a.0 p.1 a.1 (omega arith))

pub later-requires : goal.later-requires
later-requires g c =
    let h = fire_short g.S.Stage c.fire-fired.result _ _ _ _ _ c.requires.0.2.few c.fire-fired.ensures.answer in
    let k = c.loop-number.invariant.2 in
    omega arith

pub returns-in_err-unit : goal.returns-in_err-unit
returns-in_err-unit g c =
    let p = err_from_is_err_and c.from_residual.result c.from_residual.ensures.1 in
    rw (p.1, p.2) (record {
      answer = λ all ls h.
          let a = c.loop-number.invariant.0 all ls h in
          let m = ahead_more _ _ _ _ a.0 ls _ _ a.1 (omega arith) c.read-neuron.ensures.answer in
          layer_halt g.S.Stage g.S.Stage.rule c.args.head.number c.args.head.activation c.args.inputs.now _ c.loop-number.number _ a.0 m.others c.read-neuron.result.0 _ a.2 m.are
          _ _ c.fire-fired.ensures.answer c.later.ensures.answer _ c.in_err-unit.ensures.answer;
    })

pub loop-number-preserved : goal.loop-number-preserved
loop-number-preserved g c =
    let y : SFits w32 c.in_ok-unit.field-0.value = search rules in
    let h = fire_short g.S.Stage c.fire-fired.result _ _ _ _ _ c.requires.0.2.few c.fire-fired.ensures.answer in
    let k = c.loop-number.invariant.2 in
    let s = placed_steps (site_at c.args.head.number c.loop-number.number) _ _ _ _ c.later.ensures.answer c.in_ok-unit.ensures.answer in (
      (λ all ls h.
          let a = c.loop-number.invariant.0 all ls h in
          let m = ahead_more _ _ _ _ a.0 ls _ _ a.1 (omega arith) c.read-neuron.ensures.answer in
          let o = layer_kept g.S.Stage g.S.Stage.rule c.args.head.number c.args.head.activation c.args.inputs.now _ c.loop-number.number _ a.0 m.others c.read-neuron.result.0 _ a.2 m.are
          _ _ c.fire-fired.ensures.answer c.later.ensures.answer _ _ c.in_ok-unit.ensures.answer y c.push.ensures.items in
          (m.others, m.ahead, o)),
      omega arith,
      omega (arith, s),
    )

pub returns : goal.returns
returns g c = record {
  answer = λ all ls h.
      let a = c.loop-number.invariant.0 all ls h in
      let d = ahead_none _ _ _ _ a.0 ls a.1 (omega arith) in
      layer_done g.S.Stage.rule _ _ _ _ _ _ _ _ a.2 d.0;
}
