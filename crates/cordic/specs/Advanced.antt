-- What one iteration gives back, as an outcome.
use Rattle.std.specs.Prelude.{Ok, Err, Result}
use Rattle.stage.specs.declared.stage.Stage.{Ghosts}
use Rattle.stage.specs.declared.step.Overflow.{Overflow}
use Rattle.cordic.specs.Outcome.{Out, went, stopped}
use Rattle.cordic.specs.Seen.{state_of}
use Rattle.cordic.specs.declared.halted.Halted.{Halted}

abbrev pub advanced : {X : Type 0} → Ghosts X → Result X (Halted X) → Out (Unit {0}) Overflow
advanced S (Ok s) = went tt 1 (state_of S s)
advanced S (Err h) = stopped h.overflow 0 (state_of S h.stage)
