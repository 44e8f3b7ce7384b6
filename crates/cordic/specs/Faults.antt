-- The number of every fault of the unit, and what it carries.
--   reported   the number: 5, no choice of directions reaches the angle; 6, vectoring cannot start there; 7, a register would leave
--              the word; system, mode and the steps accepted before; of 7 also the step from 1, the register and the old triple
use Rattle.std.specs.Prelude.{ℕ, Some, None}
use Rattle.stage.specs.declared.step.System.{System}
use Rattle.cordic.specs.declared.mode.Mode.{Mode}
use Rattle.cordic.specs.declared.faults.Cause.{Cause}
use Rattle.cordic.specs.declared.faults.Cause.TheVariants.{Unreachable, BadStart, Overflowed}
use Rattle.cordic.specs.declared.faults.UnitFault.{UnitFault}
use Rattle.cordic.specs.declared.faults.Report.{Report}

abbrev pub report_of : System → Mode → ℕ → Cause → Report
report_of m o n Unreachable = record { number = 5; system = m; mode = o; step = None; register = None; kept = None; steps = n }
report_of m o n BadStart = record { number = 6; system = m; mode = o; step = None; register = None; kept = None; steps = n }
report_of m o n (Overflowed step overflow) =
    record { number = 7; system = m; mode = o; step = Some step; register = Some overflow.register; kept = Some overflow.kept; steps = n }

abbrev pub reported : UnitFault → Report
reported f = report_of f.system f.mode f.steps f.cause
