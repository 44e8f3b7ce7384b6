-- The walk's own account of a network's shape is the network's.
use Rattle.std.proofs.Common.{ℕ, ◌+◌, ◌-◌, ◌≤◌, Option, Some, None, List, [], ◌∷◌, ◌++◌, length, ℤ, pos, refl, arith, w32, SFits}
use Rattle.std.specs.List.{AllByRecursion}
use Rattle.std.proofs.ByRecursion.{All-append}
use Rattle.network.specs.declared.record.Record.{Record}
use Rattle.network.specs.Neuron.{Neuron}
use Rattle.network.specs.Plan.{LayerOf}
use Rattle.network.specs.Network.{weight_records, neuron_records, layer_records, Sized, Follows, Shaped, Words}
use Rattle.network.proofs.Law.{Chain}

pub sized_all : (before : Option ℕ) (left : ℕ) (ls : List LayerOf) → Chain before left ls → AllByRecursion Sized ls
sized_all before left [] c = tt
sized_all before left (l ∷ ls) c = (c.2, sized_all (Some (length l.neurons)) (left - 1) ls c.3)

chain_few : (before : Option ℕ) (left : ℕ) (ls : List LayerOf) → Chain before left ls → length ls ≤ left
chain_few before left [] c = omega arith
chain_few before left (l ∷ ls) c = omega (arith, c.0, chain_few (Some (length l.neurons)) (left - 1) ls c.3)

chain_follows : (before left : ℕ) (ls : List LayerOf) → Chain (Some before) left ls → Follows before ls
chain_follows before left [] c = tt
chain_follows before left (l ∷ ls) c = (c.1, chain_follows (length l.neurons) (left - 1) ls c.3)

follows_chain : (before left : ℕ) (ls : List LayerOf) → length ls ≤ left → AllByRecursion Sized ls → Follows before ls → Chain (Some before) left ls
follows_chain before left [] n s f = refl
follows_chain before left (l ∷ ls) n s f = (omega arith, f.0, s.0, follows_chain (length l.neurons) (left - 1) ls (omega arith) s.1 f.1)

pub chain_shaped : (ls : List LayerOf) → Chain None 4 ls → Shaped ls
chain_shaped [] c = absurd (cc)
chain_shaped (l ∷ ls) c = record { some = omega arith; few = chain_few None 4 (l ∷ ls) c; sized = sized_all None 4 (l ∷ ls) c; chained = chain_follows (length l.neurons) 3 ls c.3 }

pub shaped_chain : (ls : List LayerOf) → Shaped ls → Chain None 4 ls
shaped_chain [] s = absurd (let n = s.some in omega arith)
shaped_chain (l ∷ ls) s = let n = s.few in (omega arith, tt, s.sized.0, follows_chain (length l.neurons) 3 ls (omega arith) s.sized.1 s.chained)

all_left : {X : Type 0} (P : X → Type 0) (xs ys : List X) → AllByRecursion P (xs ++ ys) → AllByRecursion P xs
all_left P [] ys a = tt
all_left P (x ∷ xs) ys a = (a.0, all_left P xs ys a.1)

all_right : {X : Type 0} (P : X → Type 0) (xs ys : List X) → AllByRecursion P (xs ++ ys) → AllByRecursion P ys
all_right P [] ys a = a
all_right P (x ∷ xs) ys a = all_right P xs ys a.1

abbrev Worded : Record → Type 0
Worded r = SFits w32 r.value

weights_to : (i : ℕ) (ws : List ℤ) → AllByRecursion (λ w. SFits w32 w) ws → AllByRecursion Worded (weight_records i ws)
weights_to i [] a = tt
weights_to i (w ∷ ws) a = (a.0, weights_to (i + 1) ws a.1)

weights_from : (i : ℕ) (ws : List ℤ) → AllByRecursion Worded (weight_records i ws) → AllByRecursion (λ w. SFits w32 w) ws
weights_from i [] a = tt
weights_from i (w ∷ ws) a = (a.0, weights_from (i + 1) ws a.1)

neurons_to : (j : ℕ) (ns : List Neuron) → AllByRecursion (λ n. SFits w32 n.bias × AllByRecursion (λ w. SFits w32 w) n.weights) ns → AllByRecursion Worded (neuron_records j ns)
neurons_to j [] a = tt
neurons_to j (n ∷ ns) a = (a.0.0, All-append Worded (weight_records 0 n.weights) (neuron_records (j + 1) ns) (weights_to 0 n.weights a.0.1) (neurons_to (j + 1) ns a.1))

neurons_from : (j : ℕ) (ns : List Neuron) → AllByRecursion Worded (neuron_records j ns) → AllByRecursion (λ n. SFits w32 n.bias × AllByRecursion (λ w. SFits w32 w) n.weights) ns
neurons_from j [] a = tt
neurons_from j (n ∷ ns) a = ((a.0, weights_from 0 n.weights (all_left Worded (weight_records 0 n.weights) (neuron_records (j + 1) ns) a.1)), neurons_from (j + 1) ns (all_right Worded (weight_records 0 n.weights) (neuron_records (j + 1) ns) a.1))

small : (n : ℕ) → n ≤ 64 → SFits w32 (pos n)
small n h = record { sfits = omega arith }

pub words_to : (ls : List LayerOf) → AllByRecursion Sized ls → Words ls → AllByRecursion Worded (layer_records ls)
words_to [] s a = tt
words_to (l ∷ ls) s a = (small l.inputs s.0.narrow, All-append Worded (neuron_records 0 l.neurons) (layer_records ls) (neurons_to 0 l.neurons a.0) (words_to ls s.1 a.1))

pub words_from : (ls : List LayerOf) → AllByRecursion Worded (layer_records ls) → Words ls
words_from [] a = tt
words_from (l ∷ ls) a = (neurons_from 0 l.neurons (all_left Worded (neuron_records 0 l.neurons) (layer_records ls) a.1), words_from ls (all_right Worded (neuron_records 0 l.neurons) (layer_records ls) a.1))
