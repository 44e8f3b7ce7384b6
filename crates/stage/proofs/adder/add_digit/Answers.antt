use Rattle.std.proofs.Common.{◌+◌, ◌-◌, ◌<◌, arith}
use Rattle.stage.proofs.Carry.{masked}
use Rattle.stage.proofs.adder.add_digit.Goals as goal

pub returns : goal.returns
returns g c =
    let h : g.row.K < 32 = omega arith in
    let k : g.row.K - 1 < 32 = omega arith in
    record { answer = simp (masked (c.args.p + c.args.q + c.args.carry) g.row.K h, masked c.args.p (g.row.K - 1) k, masked c.args.q (g.row.K - 1) k) }
