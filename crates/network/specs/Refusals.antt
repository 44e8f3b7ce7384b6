-- Why a run is refused, by the number of the refusal.
--   Barred         a check fails, and those before it pass
--   InArithmetic   what stops the arithmetic
--   Explained      what a refusal means
use Rattle.std.specs.Prelude.{◌≡◌, ℕ, zero, suc, ◌<◌, ◌≤◌, true, false, List, [], ◌∷◌, length, ℤ, Some, None, Ok, Option, ◌≢◌, slice_index_or}
use Rattle.stage.specs.declared.step.Overflow.{Overflow}
use Rattle.stage.specs.declared.step.System.TheVariants.{Linear, Hyperbolic}
use Rattle.cordic.specs.Order.{Reachable}
use Rattle.cordic.specs.Outcome.{State}
use Rattle.cordic.specs.Tables.{linear, hyperbolic}
use Rattle.cordic.specs.Unit.{unit_fault, overflowed, Escapes}
use Rattle.cordic.specs.declared.mode.Mode.TheVariants.{Rotation}
use Rattle.cordic.specs.declared.faults.Cause.TheVariants.{Unreachable}
use Rattle.network.specs.Faults.{reported}
use Rattle.network.specs.Neuron.{Neuron}
use Rattle.network.specs.Plan.{LayerOf, plan_of, has_bad_length, records}
use Rattle.network.specs.Network.{BreaksAt}
use Rattle.network.specs.Run.{Feed, entrance, exits}
use Rattle.network.specs.declared.faults.Located.{Located}
use Rattle.network.specs.declared.faults.NetworkFault.{NetworkFault}
use Rattle.network.specs.declared.faults.NetworkFault.TheVariants.{NoSample, SampleCount, PlanLength, PlanRecord, Arithmetic, Places}

-- the checks in their order, 3, 4, 8, 2, 1: those before pass, and this one does not
abbrev pub Barred : Feed → NetworkFault → Type 0
Barred f PlanLength = has_bad_length (length f.plan) ≡ true
Barred f (PlanRecord p) = (has_bad_length (length f.plan) ≡ false) × BreaksAt p (records f.plan)
Barred f Places = (hs : List LayerOf) × (plan_of f.plan ≡ Ok hs) × (length f.places < exits hs)
Barred f SampleCount = (hs : List LayerOf) × (plan_of f.plan ≡ Ok hs) × (exits hs ≤ length f.places) × (length f.samples ≢ entrance hs)
Barred f (NoSample p) = (hs : List LayerOf) × (plan_of f.plan ≡ Ok hs) × (exits hs ≤ length f.places) × (length f.samples ≡ entrance hs) × (p < length f.samples) × (slice_index_or f.samples p None ≡ None) × ((k : ℕ) → k < p → slice_index_or f.samples k None ≢ None)
Barred f (Arithmetic l) = ⊥

-- what stands at a place of a list, if anything does
abbrev pub place : {A : Type 0} → List A → ℕ → Option A
place [] i = None
place (a ∷ rest) zero = Some a
place (a ∷ rest) (suc i) = place rest i

-- w is the weight of input i of neuron j of layer l
pub record Weighs (hs : List LayerOf) (l j i : ℕ) (w : ℤ) : Type 0 where
  pub layer : LayerOf
  pub neuron : Neuron
  pub at_layer : place hs l ≡ Some layer
  pub at_neuron : place layer.neurons j ≡ Some neuron
  pub at_input : place neuron.weights i ≡ Some w

-- a network hs stops at l, and leaves the stage in the state s; 6 never arises
pub data InArithmetic (hs : List LayerOf) (l : Located) (s : State) : Type 0 where
  -- 5 in the product of an input: no choice of directions spends its weight
  weight : (i : ℕ) (w : ℤ) → (reported (Arithmetic l)).number ≡ 5 → l.inner.input ≡ Some i → l.inner.unit ≡ unit_fault Linear Rotation Unreachable 0
      → Weighs hs l.layer l.neuron i w → (Reachable linear w → ⊥) → InArithmetic hs l s
  -- 5 in the activation: no choice of directions reaches the net, which the stage still holds as y
  net : (reported (Arithmetic l)).number ≡ 5 → l.inner.input ≡ None → l.inner.unit ≡ unit_fault Hyperbolic Rotation Unreachable 0
      → (Reachable hyperbolic s.held.y → ⊥) → InArithmetic hs l s
  -- 7 in the product of an input: the iteration after n accepted ones would take a register out of the word
  register : (i n : ℕ) (f : Overflow) → (reported (Arithmetic l)).number ≡ 7 → l.inner.input ≡ Some i → l.inner.unit ≡ overflowed Linear Rotation f n
      → Escapes Linear linear Rotation n f s.held → InArithmetic hs l s

-- what a refusal means that leaves the stage in the state s
abbrev pub Explained : Feed → NetworkFault → State → Type 0
Explained f PlanLength s = ((reported PlanLength).number ≡ 3) × Barred f PlanLength
Explained f (PlanRecord p) s = ((reported (PlanRecord p)).number ≡ 4) × Barred f (PlanRecord p)
Explained f Places s = ((reported Places).number ≡ 8) × Barred f Places
Explained f SampleCount s = ((reported SampleCount).number ≡ 2) × Barred f SampleCount
Explained f (NoSample p) s = ((reported (NoSample p)).number ≡ 1) × Barred f (NoSample p)
Explained f (Arithmetic l) s = (hs : List LayerOf) × (plan_of f.plan ≡ Ok hs) × InArithmetic hs l s
