-- The unit: which loads are refused, and the way of a triple through all iterations of a system.
--   refusal    why a load is refused
--   told       what an iteration tells the stage
--   took       one step of the stage
--   ran        all iterations, in order
--   loaded     a load
--   unit_ran   the run of a loaded unit
--   passed     a load, its run and the read-out
--   Escapes    what the refusal of a step says
use Rattle.std.specs.Prelude.{◌≡◌, ℕ, ◌+◌, ◌*◌, Bool, false, cond, ◌||◌, List, [], ◌∷◌, ℤ, pos, ◌+ℤ◌, ◌*ℤ◌, Some, None, Ok, Err, Option, Result, int_lt, nat_lt, unsigned_abs}
use Rattle.stage.specs.Word.{shifted}
use Rattle.stage.specs.Step.{stepped}
use Rattle.stage.specs.Stage.{loads, steps, Rule}
use Rattle.stage.specs.declared.registers.Triple.{Triple}
use Rattle.stage.specs.declared.step.Step.{Step}
use Rattle.stage.specs.declared.step.System.{System}
use Rattle.stage.specs.declared.step.System.TheVariants.{Linear, Circular, Hyperbolic}
use Rattle.stage.specs.declared.step.Overflow.{Overflow}
use Rattle.cordic.specs.Mode.{directed}
use Rattle.cordic.specs.Outcome.{State, Out, went, stopped, onward, inside}
use Rattle.cordic.specs.Order.{nth, total}
use Rattle.cordic.specs.declared.mode.Mode.{Mode}
use Rattle.cordic.specs.declared.mode.Mode.TheVariants.{Rotation, Vectoring}
use Rattle.cordic.specs.declared.order.Iteration.{Iteration}
use Rattle.cordic.specs.declared.faults.Cause.{Cause}
use Rattle.cordic.specs.declared.faults.Cause.TheVariants.{Unreachable, BadStart, Overflowed}
use Rattle.cordic.specs.declared.faults.UnitFault.{UnitFault}

-- |z| is more than all entries and one unit can turn
abbrev pub beyond : List Iteration → ℤ → Bool
beyond ks z = nat_lt (total ks + 1) (unsigned_abs z)

-- x shifted by each shift of the order, summed
abbrev pub span : ℤ → List Iteration → ℤ
span x [] = pos 0
span x (k ∷ ks) = shifted x k.shift.amount +ℤ span x ks

-- a(1) + .. + a(28) + a(28) + 27, a(s) being x shifted by s
abbrev pub limit : List Iteration → Triple → ℤ
limit ks t = span t.x ks +ℤ (shifted t.x 28 +ℤ pos 27)

-- |y| is too large for x: in linear above that limit, in hyperbolic 5·|y| above 4·x
abbrev pub steep : System → List Iteration → Triple → Bool
steep Linear ks t = int_lt (limit ks t) (pos (unsigned_abs t.y))
steep Circular ks t = false
steep Hyperbolic ks t = int_lt (pos 4 *ℤ t.x) (pos (5 * unsigned_abs t.y))

-- a rotation for its angle; a vectoring for x below 2^24, or for a y too large
abbrev pub refusal : System → List Iteration → Mode → Triple → Option Cause
refusal m ks Rotation t = cond (beyond ks t.z) (Some Unreachable) None
refusal m ks Vectoring t = cond (int_lt t.x (pos 0x100_0000) || steep m ks t) (Some BadStart) None

abbrev pub told : System → Mode → Iteration → Triple → Step
told m o k t = record { system = m; direction = directed o t; shift = k.shift; entry = pos k.entry }

abbrev pub took_by : Rule → Step → State → Result Triple Overflow → Out (Unit {0}) Overflow
took_by rule c s (Ok t) = went tt 1 (record { held = t; notes = rule (steps c) s.held s.notes })
took_by rule c s (Err f) = stopped f 0 s

-- an accepted step counts, sets the triple, and the notes by the rule; a refused one changes nothing
abbrev pub took : Rule → Step → State → Out (Unit {0}) Overflow
took rule c s = took_by rule c s (stepped c s.held)

unfoldable pub ran : Rule → System → Mode → List Iteration → State → Out (Unit {0}) Overflow
ran rule m o [] s = went tt 0 s
ran rule m o (k ∷ ks) s = onward (λ _. ran rule m o ks) (took rule (told m o k s.held) s)

abbrev pub unit_fault : System → Mode → Cause → ℕ → UnitFault
unit_fault m o why n = record { system = m; mode = o; cause = why; steps = n }

-- the step that is refused is counted from 1
abbrev pub overflowed : System → Mode → Overflow → ℕ → UnitFault
overflowed m o f n = unit_fault m o (Overflowed (n + 1) f) n

abbrev pub unit_ran : Rule → System → List Iteration → Mode → State → Out (Unit {0}) UnitFault
unit_ran rule m ks o s = inside (overflowed m o) (ran rule m o ks s)

abbrev pub loaded_by : Rule → System → Mode → Triple → State → Option Cause → Out (Unit {0}) UnitFault
loaded_by rule m o t s None = went tt 0 (record { held = t; notes = rule (loads t) s.held s.notes })
loaded_by rule m o t s (Some why) = stopped (unit_fault m o why 0) 0 s

-- a refused load changes nothing; any other sets the triple, and the notes by the rule
abbrev pub loaded : Rule → System → List Iteration → Mode → Triple → State → Out (Unit {0}) UnitFault
loaded rule m ks o t s = loaded_by rule m o t s (refusal m ks o t)

-- the triple that the stage holds at the end
abbrev pub read_out : {V F : Type 0} → Out V F → Out Triple F
read_out (went v n s) = went s.held n s
read_out (stopped f n s) = stopped f n s

unfoldable pub passed : Rule → System → List Iteration → Mode → Triple → State → Out Triple UnitFault
passed rule m ks o t s = read_out (onward (λ _. unit_ran rule m ks o) (loaded rule m ks o t s))

-- the iteration that follows n accepted ones takes the register of f out of the word, from the triple that is still held
pub record Escapes (m : System) (ks : List Iteration) (o : Mode) (n : ℕ) (f : Overflow) (held : Triple) : Type 0 where
  pub next : Iteration
  pub follows : nth ks n ≡ Some next
  pub refused : stepped (told m o next held) held ≡ Err f
  pub kept : f.kept ≡ held
