-- The recurrence without its working, as the code inside the crate computes it.
use Rattle.std.specs.Prelude.{ℕ, List, [], ◌∷◌, ◌++◌, map, ℤ, Some}
use Rattle.stage.specs.Stage.{Rule}
use Rattle.cordic.specs.Outcome.{State, Out, mapped}
use Rattle.stage.specs.declared.registers.Triple.{Triple}
use Rattle.cordic.specs.declared.faults.UnitFault.{UnitFault}
use Rattle.cordic.specs.declared.mode.Mode.{Mode}
use Rattle.cordic.specs.declared.mode.Mode.TheVariants.{Rotation, Vectoring}
use Rattle.network.specs.Neuron.{Neuron, Net, Working, products}
use Rattle.network.specs.Placing.{in_neuron}
use Rattle.network.specs.Plan.{LayerOf}
use Rattle.network.specs.Run.{output, layer, layers}
use Rattle.network.specs.declared.activation.Activation.{Activation}
use Rattle.network.specs.declared.faults.NetworkFault.{NetworkFault}
use Rattle.network.specs.declared.faults.NeuronFault.{NeuronFault}

abbrev pub net_value : Net → ℤ
net_value m = m.value

-- the register that a linear pass computes
abbrev pub computed : Mode → Triple → ℤ
computed Rotation t = t.y
computed Vectoring t = t.z

-- the net alone
abbrev pub netted : Rule → ℕ → List ℤ → List ℤ → ℤ → State → Out ℤ (ℕ × UnitFault)
netted rule i xs ws y s = mapped net_value (products rule i xs ws y s)

-- a fault of the product of an input
abbrev pub in_product : ℕ × UnitFault → ℕ → NeuronFault
in_product p n = in_neuron (Some p.0) p.1 n

-- a layer of this activation, of which nothing else is read
abbrev pub layer_of : Activation → LayerOf
layer_of a = record { activation = a; inputs = 0; neurons = [] }

abbrev pub outs : List ℤ → List Working → List ℤ
outs ys ws = ys ++ map output ws

-- the outputs ys and those of the neurons of a layer, of which j went before
abbrev pub laid : Rule → ℕ → Activation → List ℤ → List ℤ → ℕ → List Neuron → State → Out (List ℤ) NetworkFault
laid rule l a xs ys j ns s = mapped (outs ys) (layer rule l (layer_of a) xs j ns s)

-- what the last layer puts out, or xs where there is none
abbrev pub lasts : List ℤ → List (List Working) → List ℤ
lasts xs [] = xs
lasts xs (ws ∷ rest) = lasts (map output ws) rest

-- the outputs of the last of the layers, of which l went before
abbrev pub flown : Rule → ℕ → List LayerOf → List ℤ → State → Out (List ℤ) NetworkFault
flown rule l hs xs s = mapped (lasts xs) (layers rule l hs xs s)
