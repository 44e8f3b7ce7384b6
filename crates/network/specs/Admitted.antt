-- What the checks before the arithmetic give back, against the recurrence of a run.
use Rattle.std.specs.Prelude.{◌≡◌, ◌≤◌, length, ℤ, Ok, Err, Result}
use Rattle.arrayvec.specs.ArrayVec.{ArrayVec}
use Rattle.cordic.specs.Outcome.{stopped}
use Rattle.network.specs.Network.{Describes}
use Rattle.network.specs.Run.{Feed, layers, entrance, exits, recurrence}
use Rattle.network.specs.Walk.{layers_of}
use Rattle.network.specs.declared.faults.NetworkFault.{NetworkFault}

-- all checks pass, and these are the inputs
pub record Admitted (f : Feed) (inputs : ArrayVec ℤ) : Type 0 where
  pub plan : Describes (layers_of f.plan) f.plan
  pub wide : length inputs.items ≡ entrance (layers_of f.plan)
  pub room : exits (layers_of f.plan) ≤ length f.places
  pub goes : recurrence f ≡ layers f.rule 0 (layers_of f.plan) inputs.items f.state

abbrev pub Admits : Feed → Result (ArrayVec ℤ) NetworkFault → Type 0
Admits f (Ok inputs) = Admitted f inputs
Admits f (Err why) = recurrence f ≡ stopped why 0 f.state
