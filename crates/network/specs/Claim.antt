-- The whole claim of a network run, for one kind of stage, one kind of sample and one call.
--   f        what the run was fed: plan bytes, what each sample yields, the places lent, the stage's state and rule
--   per      the ticks in one step, the constant of the stage's kind
--   seen     what the code gave back: the outputs or the fault, the steps, the stage's state after the call
--   ticks    the ticks that the answer or the fault carries
--   places   what the lent places hold after the call
use Rattle.std.specs.Prelude.{◌≡◌, ℕ, ◌*◌, List, map, ℤ, Some}
use Rattle.stage.specs.Stage.{Rule}
use Rattle.cordic.specs.Outcome.{Out, went, stopped, mapped, steps_in, bare}
use Rattle.network.specs.Neuron.{Working}
use Rattle.network.specs.Plan.{LayerOf}
use Rattle.network.specs.Run.{Feed, recurrence, outputs, written, cost}
use Rattle.network.specs.Network.{Describes}
use Rattle.network.specs.Laws.{Chains, Reach}
use Rattle.network.specs.Refusals.{Barred, Explained}
use Rattle.network.specs.declared.faults.NetworkFault.{NetworkFault}

-- An accepted run: the plan is that of a well-formed network, each sample yields a word, the working is of this network at these
-- words with every bound kept, and the steps are those that the plan costs.
abbrev pub Accepted : Feed → List (List Working) → ℕ → Type 0
Accepted f w n = (hs : List LayerOf) × (xs : List ℤ) × Describes hs f.plan × (map Some xs ≡ f.samples) × Chains xs hs w × (n ≡ cost hs)

abbrev pub Explains : Feed → Out (List (List Working)) NetworkFault → Type 0
Explains f (went w n s) = Accepted f w n
Explains f (stopped why n s) = Explained f why s

abbrev pub otherwise : Feed → Rule → List ℤ → Feed
otherwise f rule notes = record { plan = f.plan; samples = f.samples; places = f.places; state = record { held = f.state.held; notes = notes }; rule = rule }

pub record Whole (f : Feed) (per : ℕ) (seen : Out (List ℤ) NetworkFault) (ticks : ℕ) (places : List ℤ) : Type 0 where
  -- accepted or refused alike, with equal outputs, fault, steps, last triple and notes
  pub same : seen ≡ mapped outputs (recurrence f)
  pub ticked : ticks ≡ steps_in (recurrence f) * per
  -- a refusal writes no place, an accepted run the first ones and no other
  pub lent : places ≡ written (recurrence f) f.places
  -- in the words of the subject: what an acceptance means, and what each refusal
  pub meant : Explains f (recurrence f)
  -- a check that fails refuses, and at no other time
  pub only : (why : NetworkFault) → Barred f why → recurrence f ≡ stopped why 0 f.state
  -- any other kind of stage, whatever it notes, gives the same but for notes and ticks
  pub alike : (rule : Rule) (notes : List ℤ) → bare (recurrence (otherwise f rule notes)) ≡ bare (recurrence f)
  -- an angle is refused exactly when no choice of directions would do
  pub reach : Reach
