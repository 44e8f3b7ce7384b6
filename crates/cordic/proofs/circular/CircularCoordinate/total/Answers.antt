use Rattle.std.proofs.Common.{refl}
use Rattle.cordic.specs.Tables.{circular}
use Rattle.cordic.proofs.circular.CircularCoordinate.total.Goals as goal

pub returns : goal.returns
unfolding circular
returns c = record { answer = refl }
