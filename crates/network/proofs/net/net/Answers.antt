use Rattle.std.proofs.Common.{length, Some, ap, arith, w32, SFits, rules}
use Rattle.std.proofs.lemmas.Result.{err_from_is_err_and}
use Rattle.std.proofs.lemmas.Int.{to_z-of_z}
use Rattle.cordic.specs.Outcome.{inside}
use Rattle.network.specs.Plain.{in_product}
use Rattle.network.proofs.Nets.{product_short, turned, net_on, net_halt, net_done}
use Rattle.network.proofs.Places.{placed_steps}
use Rattle.network.proofs.net.net.Goals as goal

pub later-requires : goal.later-requires
later-requires g c =
    let h = product_short g.S.Stage c.compute-product.result _ _ _ c.compute-product.ensures.answer in
    let i = c.loop-i.invariant in
    let a = i.room in
    let b = i.short in
    omega arith

pub returns-in_err-answer-clause-answer : goal.returns-in_err-answer-clause-answer
returns-in_err-answer-clause-answer g c =
    let t = turned c.loop-i.i-iterator c.next.new.self c.next.result _ c.in-Some.is c.next.ensures.steps in
    let x : SFits w32 c.in-Some.input.now = search rules in
    let y : SFits w32 c.loop-i.answer.value = search rules in
    let w : SFits w32 c.in-Some.weight.now = search rules in
    let e = simp to_z-of_z at c.compute-product.ensures.answer in
    let p = err_from_is_err_and c.from_residual.result c.from_residual.ensures.1 in
    rw (p.1, p.2) (net_halt g.S.Stage g.S.Stage.rule c.loop-i.i-iterator c.next.new.self _ _ _ c.loop-i.invariant.goes _ _ _ t _ _ e c.later.ensures.answer _ c.in_err-answer.ensures.answer)

pub loop-i-preserved : goal.loop-i-preserved
loop-i-preserved g c =
    let t = turned c.loop-i.i-iterator c.next.new.self c.next.result _ c.in-Some.is c.next.ensures.steps in
    let x : SFits w32 c.in-Some.input.now = search rules in
    let y : SFits w32 c.loop-i.answer.value = search rules in
    let w : SFits w32 c.in-Some.weight.now = search rules in
    let e = simp to_z-of_z at c.compute-product.ensures.answer in
    let h = product_short g.S.Stage c.compute-product.result _ _ _ c.compute-product.ensures.answer in
    let i = c.loop-i.invariant in
    record {
      room = omega (arith, i.room, t.next, ap length t.weight);
      short = omega (arith, i.short, t.next, placed_steps (Some c.in-Some.i) _ _ _ _ c.later.ensures.answer c.in_ok-answer.ensures.answer);
      goes = net_on g.S.Stage g.S.Stage.rule c.loop-i.i-iterator c.next.new.self _ _ _ i.goes _ _ _ t _ _ e c.later.ensures.answer _ c.in_ok-answer.ensures.answer;
    }

pub returns-clause-answer : goal.returns-clause-answer
returns-clause-answer g c =
    ap (inside in_product) (net_done g.S.Stage g.S.Stage.rule c.loop-i.i-iterator c.next.new.self _ _ _ c.loop-i.invariant.goes c.in-None.is c.next.ensures.steps)
