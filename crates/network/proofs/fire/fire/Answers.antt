use Rattle.std.proofs.Common.{None, ap, ◌∙◌, arith, w32, SFits, rules}
use Rattle.std.proofs.lemmas.Result.{err_from_is_err_and}
use Rattle.std.proofs.lemmas.Int.{to_z-of_z}
use Rattle.cordic.specs.Outcome.{counted, inside}
use Rattle.network.specs.Placing.{in_neuron}
use Rattle.network.proofs.Fires.{fire_identity, fire_stopped, fire_tanh, tanh_made}
use Rattle.network.proofs.Places.{ok_seen, err_seen}
use Rattle.network.proofs.fire.fire.Goals as goal

pub returns-in_err-answer : goal.returns-in_err-answer
returns-in_err-answer g c =
    let p = err_from_is_err_and c.from_residual.result c.from_residual.ensures.1 in
    let n = c.args.neuron.now in
    rw (p.1, p.2) (record { answer = fire_stopped _ _ n _ c.args.activation c.in_err-answer.ensures.answer })

pub returns-in-Identity : goal.returns-in-Identity
returns-in-Identity g c =
    let n = c.args.neuron.now in
    record { answer = rw c.in-Identity.is (c.in_ok-answer.ensures.answer ∙ fire_identity g.S.Stage.rule _ n _) }

pub later-requires : goal.later-requires
later-requires g c =
    let a = c.in_ok-answer.ensures.steps in
    let b = tanh_made g.S.Stage c.tanh.result _ _ _ c.tanh.ensures.answer in
    omega arith

pub returns-in_err-squashed-in-Tanh : goal.returns-in_err-squashed-in-Tanh
returns-in_err-squashed-in-Tanh g c =
    let v : SFits w32 c.in_ok-answer.answer.value = search rules in
    let n = c.args.neuron.now in
    let p = err_from_is_err_and c.from_residual-in_err-squashed-in-Tanh.result c.from_residual-in_err-squashed-in-Tanh.ensures.1 in
    let e = err_seen None c.in_ok-answer.answer.steps g.S.Stage in_neuron c.tanh.result _ _ c.later.ensures.answer c.in_err-squashed-in-Tanh.ensures.answer in
    rw (p.1, p.2, c.in-Tanh.is) (record {
      answer = e ∙ ap (λ o. inside (in_neuron None) (counted c.in_ok-answer.answer.steps o)) (simp to_z-of_z at c.tanh.ensures.answer)
          ∙ fire_tanh g.S.Stage.rule _ n _ c.in_ok-answer.ensures.answer;
    })

pub returns-in_ok-squashed-in-Tanh : goal.returns-in_ok-squashed-in-Tanh
returns-in_ok-squashed-in-Tanh g c =
    let v : SFits w32 c.in_ok-answer.answer.value = search rules in
    let n = c.args.neuron.now in
    let e = ok_seen None c.in_ok-answer.answer.steps g.S.Stage in_neuron c.tanh.result _ _ c.later.ensures.answer c.in_ok-squashed-in-Tanh.ensures.answer in
    rw c.in-Tanh.is (record {
      answer = e ∙ ap (λ o. inside (in_neuron None) (counted c.in_ok-answer.answer.steps o)) (simp to_z-of_z at c.tanh.ensures.answer)
          ∙ fire_tanh g.S.Stage.rule _ n _ c.in_ok-answer.ensures.answer;
    })
