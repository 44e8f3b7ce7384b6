use Rattle.std.proofs.Common.{refl}
use Rattle.cordic.specs.Tables.{hyperbolic}
use Rattle.cordic.proofs.hyperbolic.HyperbolicCoordinate.rows.Goals as goal

pub returns-clause-answer : goal.returns-clause-answer
unfolding hyperbolic
returns-clause-answer c = refl
