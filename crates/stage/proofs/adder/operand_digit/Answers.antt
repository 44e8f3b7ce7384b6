use Rattle.std.proofs.Common.{◌<◌, arith}
use Rattle.stage.specs.Adder.{wide}
use Rattle.stage.proofs.Carry.{gathers}
use Rattle.stage.proofs.adder.operand_digit.Goals as goal

pub loop-j-preserved : goal.loop-j-preserved
loop-j-preserved g c =
    let h : c.loop-j.j < 32 = omega arith in
    gathers (wide c.args.b.bits) c.args.place c.loop-j.j _ _ h c.loop-j.invariant c.bit.ensures.answer
