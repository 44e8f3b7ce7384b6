-- A network run: the checks, then layer by layer and neuron by neuron.
use Rattle.std.specs.Prelude.{ℕ, ◌+◌, ◌*◌, cond, List, [], ◌∷◌, ◌++◌, map, length, drop, ℤ, Some, None, Ok, Err, Option, Result, ◌==◌, nat_lt}
use Rattle.stage.specs.Stage.{Rule}
use Rattle.cordic.specs.Outcome.{State, Out, went, stopped, onward, mapped, inside}
use Rattle.network.specs.Neuron.{Working, Neuron, fired}
use Rattle.network.specs.Plan.{LayerOf, plan_of}
use Rattle.network.specs.declared.activation.Activation.{Activation}
use Rattle.network.specs.declared.activation.Activation.TheVariants.{Identity, Tanh}
use Rattle.network.specs.declared.faults.NeuronFault.{NeuronFault}
use Rattle.network.specs.declared.faults.NetworkFault.{NetworkFault}
use Rattle.network.specs.declared.faults.NetworkFault.TheVariants.{NoSample, SampleCount, Arithmetic, Places}

-- all that a run is fed
pub record Feed : Type 0 where
  pub plan : List ℕ
  pub samples : List (Option ℤ)
  pub places : List ℤ
  pub state : State
  pub rule : Rule

abbrev pub output : Working → ℤ
output w = w.output

abbrev pub located : ℕ → ℕ → NeuronFault → ℕ → NetworkFault
located l j f _ = Arithmetic (record { layer = l; neuron = j; inner = f })

-- the neurons of layer l, of which j went before
unfoldable pub layer : Rule → ℕ → LayerOf → List ℤ → ℕ → List Neuron → State → Out (List Working) NetworkFault
layer rule l h xs j [] s = went [] 0 s
layer rule l h xs j (n ∷ ns) s =
    onward (λ w u. mapped (λ ws. w ∷ ws) (layer rule l h xs (j + 1) ns u)) (inside (located l j) (fired rule h.activation xs n s))

-- the layers, of which l went before: the first reads xs, each later one the outputs before it
unfoldable pub layers : Rule → ℕ → List LayerOf → List ℤ → State → Out (List (List Working)) NetworkFault
layers rule l [] xs s = went [] 0 s
layers rule l (h ∷ hs) xs s =
    onward (λ ws u. mapped (λ rest. ws ∷ rest) (layers rule (l + 1) hs (map output ws) u)) (layer rule l h xs 0 h.neurons s)

abbrev pub with_word : ℤ → Result (List ℤ) ℕ → Result (List ℤ) ℕ
with_word w (Ok ws) = Ok (w ∷ ws)
with_word w (Err p) = Err p

-- the words that samples yield, or the position of the first that yields nothing
abbrev pub words : ℕ → List (Option ℤ) → Result (List ℤ) ℕ
words i [] = Ok []
words i (None ∷ ss) = Err i
words i (Some w ∷ ss) = with_word w (words (i + 1) ss)

-- the inputs of the first layer, and the neurons of the last
abbrev pub entrance : List LayerOf → ℕ
entrance [] = 0
entrance (h ∷ hs) = h.inputs

abbrev pub exits : List LayerOf → ℕ
exits [] = 0
exits (h ∷ []) = length h.neurons
exits (h ∷ v ∷ vs) = exits (v ∷ vs)

abbrev pub finals : {A : Type 0} → List (List A) → List A
finals [] = []
finals (ws ∷ []) = ws
finals (ws ∷ v ∷ vs) = finals (v ∷ vs)

abbrev pub sampled : Feed → List LayerOf → Result (List ℤ) ℕ → Out (List (List Working)) NetworkFault
sampled f hs (Ok ws) = layers f.rule 0 hs ws f.state
sampled f hs (Err p) = stopped (NoSample p) 0 f.state

-- places, sample count and samples, in this order
abbrev pub checked : Feed → Result (List LayerOf) NetworkFault → Out (List (List Working)) NetworkFault
checked f (Ok hs) =
    cond (nat_lt (length f.places) (exits hs)) (stopped Places 0 f.state)
    (cond (length f.samples == entrance hs) (sampled f hs (words 0 f.samples)) (stopped SampleCount 0 f.state))
checked f (Err why) = stopped why 0 f.state

-- the steps of a run, known from the plan: 28 for each product, 58 for each tanh
abbrev pub cost_of : Activation → ℕ
cost_of Identity = 0
cost_of Tanh = 58

abbrev pub neuron_cost : LayerOf → List Neuron → ℕ
neuron_cost h [] = 0
neuron_cost h (n ∷ ns) = (28 * length n.weights + cost_of h.activation) + neuron_cost h ns

abbrev pub cost : List LayerOf → ℕ
cost [] = 0
cost (h ∷ hs) = neuron_cost h h.neurons + cost hs

-- the recurrence of a run: the working of every neuron, or the fault; the steps; the stage's state
unfoldable pub recurrence : Feed → Out (List (List Working)) NetworkFault
recurrence f = checked f (plan_of f.plan)

-- what an accepted run puts out
abbrev pub outputs : List (List Working) → List ℤ
outputs ws = map output (finals ws)

-- the places after a run: outputs over the first ones, if it is accepted
abbrev pub written : Out (List (List Working)) NetworkFault → List ℤ → List ℤ
written (went ws n s) old = outputs ws ++ drop (length (outputs ws)) old
written (stopped f n s) old = old
