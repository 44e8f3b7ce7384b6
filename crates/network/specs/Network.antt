-- Well-formed networks, and the records and bytes that describe one.
use Rattle.std.specs.Prelude.{◌≡◌, ℕ, ◌+◌, ◌/◌, ◌%◌, ◌≤◌, List, [], ◌∷◌, ◌++◌, length, take, ℤ, pos, FitsSigned}
use Rattle.std.proofs.Common.{of_z}
use Rattle.std.specs.Int.{w32}
use Rattle.std.specs.List.{flat_map, AllByRecursion}
use Rattle.network.specs.declared.record.Record.{Record}
use Rattle.network.specs.declared.activation.Activation.{Activation}
use Rattle.network.specs.declared.activation.Activation.TheVariants.{Identity, Tanh}
use Rattle.network.specs.Plan.{LayerOf}
use Rattle.network.specs.Neuron.{Neuron}

abbrev pub flag_of : Activation → ℕ
flag_of Identity = 0
flag_of Tanh = 1

abbrev pub weight_records : ℕ → List ℤ → List Record
weight_records i [] = []
weight_records i (w ∷ ws) = record { kind = 3; flag = 0; index = i; value = w } ∷ weight_records (i + 1) ws

abbrev pub neuron_records : ℕ → List Neuron → List Record
neuron_records j [] = []
neuron_records j (n ∷ ns) = record { kind = 2; flag = 0; index = j; value = n.bias } ∷ (weight_records 0 n.weights ++ neuron_records (j + 1) ns)

abbrev pub layer_records : List LayerOf → List Record
layer_records [] = []
layer_records (l ∷ ls) = record { kind = 1; flag = flag_of l.activation; index = length l.neurons; value = pos l.inputs } ∷ (neuron_records 0 l.neurons ++ layer_records ls)

-- one layer: 1 to 64 neurons of 1 to 64 inputs, each with a weight for every input
pub record Sized (l : LayerOf) : Type 0 where
  pub some : 1 ≤ length l.neurons
  pub few : length l.neurons ≤ 64
  pub fed : 1 ≤ l.inputs
  pub narrow : l.inputs ≤ 64
  pub full : AllByRecursion (λ n. length n.weights ≡ l.inputs) l.neurons

-- each layer reads the outputs of the one before it, the first of them `width` outputs
abbrev pub Follows : ℕ → List LayerOf → Type 0
Follows width [] = Unit {0}
Follows width (l ∷ ls) = (l.inputs ≡ width) × Follows (length l.neurons) ls

abbrev pub Chained : List LayerOf → Type 0
Chained [] = Unit {0}
Chained (l ∷ ls) = Follows (length l.neurons) ls

pub record Shaped (ls : List LayerOf) : Type 0 where
  pub some : 1 ≤ length ls
  pub few : length ls ≤ 4
  pub sized : AllByRecursion Sized ls
  pub chained : Chained ls

-- biases and weights are words
abbrev pub Words : List LayerOf → Type 0
Words ls = AllByRecursion (λ l. AllByRecursion (λ n. FitsSigned w32 n.bias × AllByRecursion (λ w. FitsSigned w32 w) n.weights) l.neurons) ls

abbrev pub WellFormed : List LayerOf → Type 0
WellFormed ls = Shaped ls × Words ls

abbrev pub word_bytes : ℕ → List ℕ
word_bytes u = u / 16777216 ∷ (u / 65536 % 256 ∷ (u / 256 % 256 ∷ (u % 256 ∷ [])))

abbrev pub record_bytes : Record → List ℕ
record_bytes r = r.kind ∷ (r.flag ∷ (r.index / 256 ∷ (r.index % 256 ∷ word_bytes (of_z w32 r.value))))

abbrev pub encode : List LayerOf → List ℕ
encode ls = flat_map record_bytes (layer_records ls)

-- bytes are the plan of a network
pub record Describes (ls : List LayerOf) (bytes : List ℕ) : Type 0 where
  pub encoded : bytes ≡ encode ls
  pub formed : WellFormed ls
  pub short : length bytes ≤ 65528

-- the first p of these records begin the plan of a network
abbrev pub Begins : ℕ → List Record → List LayerOf → Type 0
Begins p rs ls = Shaped ls × (take p (layer_records ls) ≡ take p rs)

-- the record at p is the first that no network's plan can have there, or the first that is missing
pub record BreaksAt (p : ℕ) (rs : List Record) : Type 0 where
  pub within : p ≤ length rs
  pub before : (ls : List LayerOf) × Begins p rs ls
  pub broken : (ls : List LayerOf) → Begins (p + 1) rs ls → ⊥
