-- What a stage means: a triple, and notes with a rule.
--   Call          a call that changes a stage
--   Rule          what such a call makes of the notes
--   silent        the rule of a kind that has no notes
--   answered      what a step answers, by what it comes to
--   held_after    the triple that is then held
--   noted_after   the notes that are then kept
use Rattle.std.specs.Prelude.{List, [], ℤ, pos, Ok, Err, Result}
use Rattle.stage.specs.declared.registers.Triple.{Triple}
use Rattle.stage.specs.declared.step.Step.{Step}
use Rattle.stage.specs.declared.step.Overflow.{Overflow}

-- a load, or an accepted step
pub data Call : Type 0 where
  loads : Triple → Call
  steps : Step → Call

-- from the call, the triple before it and the notes before it
abbrev pub Rule : Type 0
Rule = Call → Triple → List ℤ → List ℤ

abbrev pub silent : Rule
silent call t notes = []

-- what a stage holds when it is made
abbrev pub zeros : Triple
zeros = record { x = pos 0; y = pos 0; z = pos 0 }

abbrev pub answered : Result Triple Overflow → Result (Unit {0}) Overflow
answered (Ok new) = Ok tt
answered (Err refused) = Err refused

-- a refused step keeps the triple
abbrev pub held_after : Triple → Result Triple Overflow → Triple
held_after old (Ok new) = new
held_after old (Err refused) = old

-- and the notes
abbrev pub noted_after : Rule → Step → Triple → List ℤ → Result Triple Overflow → List ℤ
noted_after rule s t notes (Ok new) = rule (steps s) t notes
noted_after rule s t notes (Err refused) = notes
