use Rattle.std.proofs.Common.{refl}
use Rattle.cordic.specs.Tables.{linear}
use Rattle.cordic.proofs.linear.LinearCoordinate.total.Goals as goal

pub returns : goal.returns
unfolding linear
returns c = record { answer = refl }
