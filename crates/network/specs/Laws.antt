-- What is true of every accepted run, and of every refused angle, in the words of the subject.
use Rattle.std.specs.Prelude.{◌≡◌, ℕ, ◌+◌, ◌*◌, ◌^◌, ◌<◌, ◌≤◌, List, [], ◌∷◌, map, ℤ, pos, ◌+ℤ◌, ◌-ℤ◌, ◌*ℤ◌, ◌<ℤ◌, Some, None, unsigned_abs}
use Rattle.std.specs.List.{AllByRecursion}
use Rattle.stage.specs.Word.{shifted}
use Rattle.cordic.specs.declared.order.Iteration.{Iteration}
use Rattle.cordic.specs.Order.{Lawful, Reachable}
use Rattle.stage.specs.Stage.{Rule}
use Rattle.cordic.specs.Outcome.{State, stopped}
use Rattle.cordic.specs.Tables.{order}
use Rattle.cordic.specs.Unit.{loaded, unit_fault}
use Rattle.network.specs.Neuron.{Term, Quotient, Working, Neuron}
use Rattle.network.specs.Plan.{LayerOf}
use Rattle.network.specs.Run.{output}
use Rattle.stage.specs.declared.registers.Triple.{Triple}
use Rattle.stage.specs.declared.step.System.{System}
use Rattle.cordic.specs.declared.mode.Mode.TheVariants.{Rotation}
use Rattle.cordic.specs.declared.faults.Cause.TheVariants.{Unreachable}
use Rattle.network.specs.declared.activation.Activation.{Activation}
use Rattle.network.specs.declared.activation.Activation.TheVariants.{Identity, Tanh}

-- the exact sum of input times weight
abbrev pub exact : List Term → ℤ
exact [] = pos 0
exact (k ∷ ks) = (k.input *ℤ k.weight) +ℤ exact ks

-- the rounding that is booked for the products: 28 × 2^28 and the input's size, for each
abbrev pub budget : List Term → ℕ
budget [] = 0
budget (k ∷ ks) = (28 * 2 ^ 28 + unsigned_abs k.input) + budget ks

-- a weight is spent to within one unit
abbrev pub Spent : Term → Type 0
Spent k = unsigned_abs k.residual ≤ 1

abbrev pub Divided : Quotient → Type 0
Divided q = pos (unsigned_abs ((pos (2 ^ 28) *ℤ q.y) -ℤ (q.t *ℤ q.x))) <ℤ ((pos 55 +ℤ shifted q.x 28) *ℤ pos (2 ^ 28))

-- the output is the net, or the quotient, which keeps its bound
abbrev pub Output : Activation → Working → Type 0
Output Identity w = (w.quotient ≡ None) × (w.output ≡ w.net)
Output Tanh w = (q : Quotient) × (w.quotient ≡ Some q) × (w.output ≡ q.t) × Divided q

-- the working w is of the neuron n at the inputs xs, and its rounding is within bounds
pub record Bounded (h : Activation) (xs : List ℤ) (n : Neuron) (w : Working) : Type 0 where
  pub bias : w.bias ≡ n.bias
  pub inputs : map (λ k. k.input) w.terms ≡ xs
  pub weights : map (λ k. k.weight) w.terms ≡ n.weights
  pub spent : AllByRecursion Spent w.terms
  pub rounded : unsigned_abs ((pos (2 ^ 28) *ℤ (w.net -ℤ w.bias)) -ℤ exact w.terms) < budget w.terms
  pub result : Output h w

-- so for every neuron of a layer
abbrev pub Fires : Activation → List ℤ → List Neuron → List Working → Type 0
Fires h xs [] [] = Unit {0}
Fires h xs [] (w ∷ ws) = ⊥
Fires h xs (n ∷ ns) [] = ⊥
Fires h xs (n ∷ ns) (w ∷ ws) = Bounded h xs n w × Fires h xs ns ws

-- and of every layer: the first reads xs, each later one the outputs before it
abbrev pub Chains : List ℤ → List LayerOf → List (List Working) → Type 0
Chains xs [] [] = Unit {0}
Chains xs [] (ws ∷ rest) = ⊥
Chains xs (h ∷ hs) [] = ⊥
Chains xs (h ∷ hs) (ws ∷ rest) = Fires h.activation xs h.neurons ws × Chains (map output ws) hs rest

-- Where a unit refuses a rotation's angle: exactly where no choice of directions, one for each iteration, would do.
pub record Reach : Type 0 where
  -- in any system whose entries keep the three laws
  pub sound : (ks : List Iteration) → Lawful ks → (rule : Rule) (m : System) (t : Triple) (s : State) →
      loaded rule m ks Rotation t s ≡ stopped (unit_fault m Rotation Unreachable 0) 0 s → Reachable ks t.z → ⊥
  pub complete : (ks : List Iteration) → Lawful ks → (rule : Rule) (m : System) (t : Triple) (s : State) →
      (Reachable ks t.z → ⊥) → loaded rule m ks Rotation t s ≡ stopped (unit_fault m Rotation Unreachable 0) 0 s
  -- and the three systems keep them
  pub lawful : (m : System) → Lawful (order m)
