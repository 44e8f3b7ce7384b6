use Rattle.std.proofs.Common.{refl}
use Rattle.cordic.specs.Tables.{linear}
use Rattle.cordic.proofs.linear.LinearCoordinate.rows.Goals as goal

pub returns-clause-answer : goal.returns-clause-answer
unfolding linear
returns-clause-answer c = refl
