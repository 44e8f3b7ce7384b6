-- How a run of the layers ends: with as many values as there are neurons, or with an arithmetic fault.
use Rattle.std.proofs.Common.{◌≡◌, ℕ, suc, ◌+◌, List, [], ◌∷◌, map, length, ℤ, refl, ap, ◌∙◌, inl, inr}
use Rattle.stage.specs.Stage.{Rule}
use Rattle.cordic.specs.Outcome.{State, went, stopped, mapped, inside}
use Rattle.network.specs.Neuron.{Working, Neuron, fired}
use Rattle.network.specs.Plan.{LayerOf}
use Rattle.network.specs.Run.{output, located, layer, layers, exits, finals}
use Rattle.network.specs.declared.faults.Located.{Located}
use Rattle.network.specs.declared.faults.NetworkFault.{NetworkFault}
use Rattle.network.specs.declared.faults.NetworkFault.TheVariants.{Arithmetic}
use Rattle.network.proofs.Parts.{no, onward_went, onward_stopped, mapped_went, mapped_stopped, inside_stopped}

pub layer_length : (rule : Rule) (l : ℕ) (h : LayerOf) (xs : List ℤ) (j : ℕ) (ns : List Neuron) (s : State) (ws : List Working) (n : ℕ) (u : State) → layer rule l h xs j ns s ≡ went ws n u → length ws ≡ length ns
unfolding layer
layer_length rule l h xs j [] s ws n u e = let k : ws ≡ [] = cc in ap length k
layer_length rule l h xs j (v ∷ ns) s ws n u e =
    let q = onward_went (λ w z. mapped (λ ws. w ∷ ws) (layer rule l h xs (j + 1) ns z)) _ ws n u e in
    let r = mapped_went (λ ws. q.value ∷ ws) (layer rule l h xs (j + 1) ns q.between) ws q.after u q.rest in
    let i = layer_length rule l h xs (j + 1) ns q.between r.0 q.after u r.1 in
    ap length r.2 ∙ ap suc i

abbrev Arithmetical : NetworkFault → Type 0
Arithmetical why = (a : Located) × (why ≡ Arithmetic a)

pub layer_stops : (rule : Rule) (l : ℕ) (h : LayerOf) (xs : List ℤ) (j : ℕ) (ns : List Neuron) (s : State) (why : NetworkFault) (n : ℕ) (u : State) → layer rule l h xs j ns s ≡ stopped why n u → Arithmetical why
unfolding layer
layer_stops rule l h xs j [] s why n u e = no (cc)
layer_stops rule l h xs j (v ∷ ns) s why n u e =
    elim (onward_stopped (λ w z. mapped (λ ws. w ∷ ws) (layer rule l h xs (j + 1) ns z)) (inside (located l j) (fired rule h.activation xs v s)) why n u e) [
      | inl p ↦ let q = inside_stopped (located l j) (fired rule h.activation xs v s) why n u p in (record { layer = l; neuron = j; inner = q.0 }, q.2)
      | inr q ↦ layer_stops rule l h xs (j + 1) ns q.between why q.after u (mapped_stopped (λ ws. q.value ∷ ws) (layer rule l h xs (j + 1) ns q.between) why q.after u q.rest)
    ]

-- the only faults of the layers
pub layers_stop : (rule : Rule) (l : ℕ) (hs : List LayerOf) (xs : List ℤ) (s : State) (why : NetworkFault) (n : ℕ) (u : State) → layers rule l hs xs s ≡ stopped why n u → Arithmetical why
unfolding layers
layers_stop rule l [] xs s why n u e = no (cc)
layers_stop rule l (h ∷ hs) xs s why n u e =
    elim (onward_stopped (λ ws z. mapped (λ rest. ws ∷ rest) (layers rule (l + 1) hs (map output ws) z)) (layer rule l h xs 0 h.neurons s) why n u e) [
      | inl p ↦ layer_stops rule l h xs 0 h.neurons s why n u p
      | inr q ↦ layers_stop rule (l + 1) hs (map output q.value) q.between why q.after u (mapped_stopped (λ rest. q.value ∷ rest) (layers rule (l + 1) hs (map output q.value) q.between) why q.after u q.rest)
    ]

-- the width of each layer's working is its neurons'
pub layers_widths : (rule : Rule) (l : ℕ) (hs : List LayerOf) (xs : List ℤ) (s : State) (w : List (List Working)) (n : ℕ) (u : State) → layers rule l hs xs s ≡ went w n u → map length w ≡ map (λ h. length h.neurons) hs
unfolding layers
layers_widths rule l [] xs s w n u e = let k : w ≡ [] = cc in ap (map length) k
layers_widths rule l (h ∷ hs) xs s w n u e =
    let q = onward_went (λ ws z. mapped (λ rest. ws ∷ rest) (layers rule (l + 1) hs (map output ws) z)) (layer rule l h xs 0 h.neurons s) w n u e in
    let r = mapped_went (λ rest. q.value ∷ rest) (layers rule (l + 1) hs (map output q.value) q.between) w q.after u q.rest in
    let i = layers_widths rule (l + 1) hs (map output q.value) q.between r.0 q.after u r.1 in
    let a = layer_length rule l h xs 0 h.neurons s q.value q.before q.between q.first in
    ap (map length) r.2 ∙ ap (λ k. k ∷ map length r.0) a ∙ ap (λ x. length h.neurons ∷ x) i

pub finals_length : (hs : List LayerOf) (w : List (List Working)) → map length w ≡ map (λ h. length h.neurons) hs → length (finals w) ≡ exits hs
finals_length [] [] e = refl
finals_length [] (x ∷ w) e = no (cc)
finals_length (h ∷ []) [] e = no (cc)
finals_length (h ∷ []) (x ∷ []) e = cc
finals_length (h ∷ []) (x ∷ y ∷ w) e = no (cc)
finals_length (h ∷ g ∷ hs) [] e = no (cc)
finals_length (h ∷ g ∷ hs) (x ∷ []) e = no (cc)
finals_length (h ∷ g ∷ hs) (x ∷ y ∷ w) e = finals_length (g ∷ hs) (y ∷ w) (cc)
