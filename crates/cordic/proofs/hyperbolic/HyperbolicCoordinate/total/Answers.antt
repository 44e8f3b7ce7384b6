use Rattle.std.proofs.Common.{refl}
use Rattle.cordic.specs.Tables.{hyperbolic}
use Rattle.cordic.proofs.hyperbolic.HyperbolicCoordinate.total.Goals as goal

pub returns : goal.returns
unfolding hyperbolic
returns c = record { answer = refl }
