-- A neuron: its net, its activation, and the working that a run leaves of it.
use Rattle.std.specs.Prelude.{ℕ, ◌+◌, List, [], ◌∷◌, ℤ, pos, Some, None, Option}
use Rattle.stage.specs.Stage.{Rule}
use Rattle.cordic.specs.Outcome.{State, Out, went, onward, mapped, inside}
use Rattle.cordic.specs.Tables.{linear, hyperbolic}
use Rattle.cordic.specs.Unit.{passed}
use Rattle.stage.specs.declared.registers.Triple.{Triple}
use Rattle.stage.specs.declared.step.System.TheVariants.{Linear, Hyperbolic}
use Rattle.cordic.specs.declared.mode.Mode.TheVariants.{Rotation, Vectoring}
use Rattle.network.specs.declared.activation.Activation.{Activation}
use Rattle.network.specs.declared.activation.Activation.TheVariants.{Identity, Tanh}
use Rattle.cordic.specs.declared.faults.UnitFault.{UnitFault}
use Rattle.network.specs.declared.faults.NeuronFault.{NeuronFault}

-- a neuron as a plan gives it
pub record Neuron : Type 0 where
  pub bias : ℤ
  pub weights : List ℤ

-- one product of a net: the input, its weight, and what the rotation left of the weight
pub record Term : Type 0 where
  pub input : ℤ
  pub weight : ℤ
  pub residual : ℤ

-- the two registers that tanh divides, and the quotient
pub record Quotient : Type 0 where
  pub x : ℤ
  pub y : ℤ
  pub t : ℤ

-- the working of one neuron in one run
pub record Working : Type 0 where
  pub bias : ℤ
  pub terms : List Term
  pub net : ℤ
  pub quotient : Option Quotient
  pub output : ℤ

-- a net: its value, and its products
pub record Net : Type 0 where
  pub value : ℤ
  pub terms : List Term

abbrev pub start : ℤ → ℤ → ℤ → Triple
start a b c = record { x = a; y = b; z = c }

abbrev pub term : ℤ → ℤ → Triple → Term
term x w t = record { input = x; weight = w; residual = t.z }

abbrev pub before : Term → Net → Net
before k n = record { value = n.value; terms = k ∷ n.terms }

-- inputs times weights, one after the other, from y on; i inputs went before
unfoldable pub products : Rule → ℕ → List ℤ → List ℤ → ℤ → State → Out Net (ℕ × UnitFault)
products rule i [] ws y s = went (record { value = y; terms = [] }) 0 s
products rule i (x ∷ xs) [] y s = went (record { value = y; terms = [] }) 0 s
products rule i (x ∷ xs) (w ∷ ws) y s =
    onward (λ t u. mapped (before (term x w t)) (products rule (i + 1) xs ws t.y u))
    (inside (λ f _. (i, f)) (passed rule Linear linear Rotation (start x y w) s))

-- hyperbolic rotation of the net, then linear vectoring of the two registers that it leaves
unfoldable pub tanh : Rule → ℤ → State → Out Quotient UnitFault
tanh rule u s =
    onward (λ r v. mapped (λ q. record { x = r.x; y = r.y; t = q.z }) (passed rule Linear linear Vectoring (start r.x r.y (pos 0)) v))
    (passed rule Hyperbolic hyperbolic Rotation (start (pos 0x1000_0000) (pos 0) u) s)

abbrev pub plain : ℤ → Net → Working
plain b n = record { bias = b; terms = n.terms; net = n.value; quotient = None; output = n.value }

abbrev pub squashed : ℤ → Net → Quotient → Working
squashed b n q = record { bias = b; terms = n.terms; net = n.value; quotient = Some q; output = q.t }

abbrev pub activated : Rule → Activation → ℤ → Net → State → Out Working (Option ℕ × UnitFault)
activated rule Identity b n s = went (plain b n) 0 s
activated rule Tanh b n s = mapped (squashed b n) (inside (λ f _. (None, f)) (tanh rule n.value s))

abbrev pub neuron_fault : Option ℕ × UnitFault → ℕ → NeuronFault
neuron_fault p n = record { input = p.0; unit = p.1; steps = n }

-- a neuron at its inputs: the net, then the activation
unfoldable pub fired : Rule → Activation → List ℤ → Neuron → State → Out Working NeuronFault
fired rule h xs n s =
    inside neuron_fault
    (onward (activated rule h n.bias) (inside (λ p _. (Some p.0, p.1)) (products rule 0 xs n.weights n.bias s)))
