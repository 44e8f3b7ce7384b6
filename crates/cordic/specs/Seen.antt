-- What the code of the unit gives back, as an outcome, for a kind of stage.
use Rattle.std.specs.Prelude.{◌≡◌, ℕ, List, Ok, Err, Result}
use Rattle.stage.specs.declared.stage.Stage.{Ghosts}
use Rattle.stage.specs.declared.step.Overflow.{Overflow}
use Rattle.stage.specs.declared.step.System.{System}
use Rattle.cordic.specs.Outcome.{State, Out, went, stopped}
use Rattle.cordic.specs.Faults.{reported}
use Rattle.cordic.specs.Unit.{overflowed, Escapes}
use Rattle.cordic.specs.declared.mode.Mode.{Mode}
use Rattle.cordic.specs.declared.order.Iteration.{Iteration}
use Rattle.cordic.specs.declared.faults.UnitFault.{UnitFault}
use Rattle.cordic.specs.declared.states.Loaded.{Loaded}
use Rattle.cordic.specs.declared.states.Finished.{Finished}
use Rattle.cordic.specs.declared.states.Answer.{Answer}
use Rattle.cordic.specs.declared.states.Refused.{Refused}

abbrev pub state_of : {X : Type 0} → Ghosts X → X → State
state_of S s = record { held = S.triple s; notes = S.notes s }

abbrev pub load_seen : {X C : Type 0} → Ghosts X → Result (Loaded X C) (Refused X UnitFault) → Out (Unit {0}) UnitFault
load_seen S (Ok u) = went tt 0 (state_of S u.stage)
load_seen S (Err e) = stopped e.fault e.steps (state_of S e.unit.stage)

abbrev pub run_seen : {X : Type 0} → Ghosts X → Result (Finished X) (Refused X UnitFault) → Out (Unit {0}) UnitFault
run_seen S (Ok f) = went tt f.steps (state_of S f.stage)
run_seen S (Err e) = stopped e.fault e.steps (state_of S e.unit.stage)

-- of any level: the value or the fault, the steps, and the stage's state
abbrev pub seen : {X V F : Type 0} → Ghosts X → Result (Answer X V) (Refused X F) → Out V F
seen S (Ok a) = went a.value a.steps (state_of S a.unit.stage)
seen S (Err e) = stopped e.fault e.steps (state_of S e.unit.stage)

-- refused with this number
abbrev pub RefusedWith : {X A : Type 0} → ℕ → Result A (Refused X UnitFault) → Type 0
RefusedWith n (Ok a) = ⊥
RefusedWith n (Err e) = (reported e.fault).number ≡ n

-- a refused run: 7 at the step after those made, from the triple that the stage still holds
pub record Halts {X : Type 0} (S : Ghosts X) (m : System) (ks : List Iteration) (o : Mode) (e : Refused X UnitFault) : Type 0 where
  pub overflow : Overflow
  pub fault : e.fault ≡ overflowed m o overflow e.steps
  pub number : (reported e.fault).number ≡ 7
  pub escapes : Escapes m ks o e.steps overflow (S.triple e.unit.stage)

abbrev pub HaltsIn : {X A : Type 0} → Ghosts X → System → List Iteration → Mode → Result A (Refused X UnitFault) → Type 0
HaltsIn S m ks o (Ok a) = Unit {0}
HaltsIn S m ks o (Err e) = Halts S m ks o e
