-- A rotation by the number of its system, from a stage that was just made.
use Rattle.std.specs.Prelude.{ℕ, cond, Some, None, Option, ◌==◌}
use Rattle.stage.specs.Stage.{silent}
use Rattle.stage.specs.declared.registers.Triple.{Triple}
use Rattle.stage.specs.declared.step.System.{System}
use Rattle.stage.specs.declared.step.System.TheVariants.{Linear, Circular, Hyperbolic}
use Rattle.cordic.specs.Tables.{order}
use Rattle.cordic.specs.Unit.{passed}
use Rattle.cordic.specs.declared.mode.Mode.TheVariants.{Rotation}
use Rattle.capi.specs.Feeds.{fresh}
use Rattle.capi.specs.Reports.{pass_report, no_such_system}
use Rattle.capi.specs.declared.reports.PassReport.{PassReport}

abbrev pub system_of : ℕ → Option System
system_of n = cond (n == 0) (Some Linear) (cond (n == 1) (Some Circular) (cond (n == 2) (Some Hyperbolic) None))

abbrev pub rotation : Option System → Triple → PassReport
rotation (Some m) t = pass_report (passed silent m (order m) Rotation t fresh)
rotation None t = no_such_system
