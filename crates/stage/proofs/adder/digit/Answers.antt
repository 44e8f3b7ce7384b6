use Rattle.std.proofs.Common.{arith}
use Rattle.stage.proofs.Carry.{masked}
use Rattle.stage.proofs.adder.digit.Goals as goal

pub returns : goal.returns
returns g c = record { answer = masked _ g.row.K (omega (arith, c.requires)) }
