-- What holds while the records of a plan are walked over, and where that ends.
use Rattle.std.specs.Prelude.{ℕ, ◌<◌, ◌≤◌, List, [], Ok, Err, Result}
use Rattle.network.specs.Plan.{LayerOf, plan_of}
use Rattle.network.specs.declared.faults.NetworkFault.{NetworkFault}
use Rattle.network.specs.declared.next.Next.{Next}
use Rattle.network.specs.declared.next.Next.TheVariants.{Layer, Bias, Weight}

-- places stay within the layer
abbrev pub Sound : Next → Type 0
Sound (Layer prior left) = Unit {0}
Sound (Bias shape neuron) = (neuron < shape.neurons) × (shape.neurons ≤ 64) × (0 < shape.inputs) × (shape.inputs ≤ 64)
Sound (Weight shape neuron input) = (neuron < shape.neurons) × (shape.neurons ≤ 64) × (input < shape.inputs) × (shape.inputs ≤ 64)

abbrev pub given : Result (List LayerOf) NetworkFault → List LayerOf
given (Ok hs) = hs
given (Err why) = []

-- the layers of a plan, none where it is refused
abbrev pub layers_of : List ℕ → List LayerOf
layers_of bytes = given (plan_of bytes)
