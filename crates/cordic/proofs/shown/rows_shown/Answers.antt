use Rattle.std.proofs.Common.{refl}
use Rattle.stage.specs.Step.{stepped}
use Rattle.cordic.specs.Rows.{rows}
use Rattle.cordic.specs.Tables.{linear, circular, hyperbolic}
use Rattle.cordic.specs.Unit.{ran, passed}
use Rattle.cordic.proofs.shown.rows_shown.Goals as goal

pub returns : goal.returns
unfolding rows stepped linear circular hyperbolic ran passed
returns c = record { answer = refl; rows = refl }
