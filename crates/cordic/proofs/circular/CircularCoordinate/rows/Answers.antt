use Rattle.std.proofs.Common.{refl}
use Rattle.cordic.specs.Tables.{circular}
use Rattle.cordic.proofs.circular.CircularCoordinate.rows.Goals as goal

pub returns-clause-answer : goal.returns-clause-answer
unfolding circular
returns-clause-answer c = refl
