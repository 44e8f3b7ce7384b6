use Rattle.std.proofs.Common.{◌≤◌, length, arith, w32, SFits, rules}
use Rattle.std.proofs.lemmas.Result.{err_from_is_err_and}
use Rattle.std.proofs.lemmas.Int.{to_z-of_z}
use Rattle.cordic.specs.Tables.{linear, hyperbolic}
use Rattle.cordic.proofs.Ends.{linear_length}
use Rattle.network.specs.Placing.{steps_made}
use Rattle.network.proofs.Activating.{tanh_refused, tanh_seen}
use Rattle.network.proofs.Short.{made_steps, mapped_steps, passed_short, went_short}
use Rattle.network.proofs.Systems.{hyperbolic_length}
use Rattle.network.proofs.tanh.tanh.Goals as goal

pub returns-in_err-unit : goal.returns-in_err-unit
returns-in_err-unit g c =
    let f : SFits w32 c.args.net = c.ranges.net in
    let p = err_from_is_err_and c.from_residual.result c.from_residual.ensures.1 in
    rw (p.1, p.2) (record { answer = tanh_refused _ _ _ (simp to_z-of_z at c.in_err-unit.ensures.answer) })

pub later-requires : goal.later-requires
later-requires g c =
    let h = went_short _ _ hyperbolic _ _ _ _ _ _ c.in_ok-unit.ensures.answer in
    let k : steps_made c.compute.result ≤ length linear = rw (made_steps g.S.Stage c.compute.result, c.compute.ensures.answer, mapped_steps) (passed_short _ _ linear _ _ _) in
    let a = hyperbolic_length in
    let b = linear_length in
    omega arith

pub returns : goal.returns
returns g c =
    let f : SFits w32 c.args.net = c.ranges.net in
    let fx : SFits w32 c.in_ok-unit.field-0.value.x = search rules in
    let fy : SFits w32 c.in_ok-unit.field-0.value.y = search rules in
    record { answer = tanh_seen _ _ _ g.S.Stage c.in_ok-unit.field-0.value _ _ _ _ (simp to_z-of_z at c.in_ok-unit.ensures.answer) (simp to_z-of_z at c.compute.ensures.answer) c.later.ensures.answer }
