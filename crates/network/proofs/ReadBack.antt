-- A plan read back: neuron by neuron, and layer by layer.
use Rattle.std.proofs.Common.{◌≡◌, ℕ, suc, ◌+◌, ◌<◌, ◌≤◌, List, [], ◌∷◌, ◌++◌, length, drop, ℤ, pos, nat_abs, Ok, sym, refl, ap, ◌∙◌, zero-add, add-one, arith}
use Rattle.std.proofs.lemmas.List.{append_cancel_right, length-append, drop_at, map-append, append_assoc, drop-drop}
use Rattle.std.specs.List.{AllByRecursion}
use Rattle.network.specs.Neuron.{Neuron}
use Rattle.network.specs.Codes.{known_activation}
use Rattle.network.specs.Plan.{LayerOf}
use Rattle.network.specs.Network.{weight_records, neuron_records, layer_records, Sized}
use Rattle.network.specs.Reading.{values, NeuronRead, Ahead}
use Rattle.network.specs.Run.{entrance}
use Rattle.network.specs.declared.record.Record.{Record}
use Rattle.network.proofs.Law.{cons_same, known_back, header}

pub neuron_none : (rs : List Record) (r : Record) (rest : List Record) → rs ≡ r ∷ rest → NeuronRead 0 rs (record { bias = r.value; weights = [] }) rest
neuron_none rs r rest e = record { words = ap values e; count = refl; after = sym (ap (drop 1) e) }

pub neuron_more : (i : ℕ) (rs : List Record) (bias : ℤ) (ws : List ℤ) (left : List Record) (r : Record) (rest : List Record) → NeuronRead i rs (record { bias = bias; weights = ws }) left → left ≡ r ∷ rest
    → NeuronRead (i + 1) rs (record { bias = bias; weights = ws ++ r.value ∷ [] }) rest
neuron_more i rs bias ws left r rest n e =
    record {
      words = n.words ∙ ap (λ vs. bias ∷ (ws ++ vs)) (ap values e) ∙ ap (λ vs. bias ∷ vs) (sym (append_assoc ws (r.value ∷ []) (values rest)));
      count = rw length-append (let c = n.count in omega arith);
      after = ap (drop 1) (sym e ∙ n.after) ∙ drop-drop 1 (i + 1) rs;
    }

pub length_weights : (i : ℕ) (ws : List ℤ) → length (weight_records i ws) ≡ length ws
length_weights i [] = refl
length_weights i (w ∷ ws) = ap suc (length_weights (i + 1) ws)

values_weights : (i : ℕ) (ws : List ℤ) → values (weight_records i ws) ≡ ws
values_weights i [] = refl
values_weights i (w ∷ ws) = ap (λ vs. w ∷ vs) (values_weights (i + 1) ws)

-- the neuron read is the first of those ahead, and the others follow it
pub record Met (rest : List Record) (from neurons inputs : ℕ) (n : Neuron) (ns : List Neuron) (ls : List LayerOf) : Type 0 where
  pub others : List Neuron
  pub are : ns ≡ n ∷ others
  pub ahead : Ahead rest (from + 1) neurons inputs others ls

pub ahead_enough : (rs : List Record) (from neurons inputs : ℕ) (ns : List Neuron) (ls : List LayerOf) → Ahead rs from neurons inputs ns ls → from < neurons → inputs < length rs
ahead_enough rs from neurons inputs [] ls a h = absurd (let e = a.count in omega arith)
ahead_enough rs from neurons inputs (n ∷ ns) ls a h =
    let p = a.parts in
    let l = length-append (weight_records 0 n.weights ++ neuron_records (from + 1) ns) (layer_records ls) in
    let m = length-append (weight_records 0 n.weights) (neuron_records (from + 1) ns) in
    omega (arith, ap length p, l, m, length_weights 0 n.weights, a.full.0)

pub ahead_more : (rs : List Record) (from neurons inputs : ℕ) (ns : List Neuron) (ls : List LayerOf) (v : Neuron) (rest : List Record)
    → Ahead rs from neurons inputs ns ls → from < neurons → NeuronRead inputs rs v rest → Met rest from neurons inputs v ns ls
ahead_more rs from neurons inputs [] ls v rest a h r = absurd (let e = a.count in omega arith)
ahead_more rs from neurons inputs (n ∷ ns) ls v rest a h r =
    let more = neuron_records (from + 1) ns ++ layer_records ls in
    let w = weight_records 0 n.weights in
    let p : rs ≡ record { kind = 2; flag = 0; index = from; value = n.bias } ∷ (w ++ more) = a.parts ∙ cons_same refl (append_assoc w (neuron_records (from + 1) ns) (layer_records ls)) in
    let k : length w ≡ inputs = length_weights 0 n.weights ∙ a.full.0 in
    let t : rest ≡ more = r.after ∙ ap (λ x. drop (inputs + 1) x) p ∙ rw add-one (drop_at w more inputs k) in
    let e : values rs ≡ n.bias ∷ (n.weights ++ values rest) = ap values p ∙ ap (λ x. n.bias ∷ x) (map-append (λ (r : Record). r.value) w more ∙ ap (λ x. x ++ values more) (values_weights 0 n.weights) ∙ ap (λ x. n.weights ++ values x) (sym t)) in
    let q : v.bias ∷ (v.weights ++ values rest) ≡ n.bias ∷ (n.weights ++ values rest) = sym r.words ∙ e in
    let b : v.bias ≡ n.bias = cc in
    let f : v.weights ++ values rest ≡ n.weights ++ values rest = cc in
    let same : record { bias = v.bias; weights = v.weights } ≡ n = rw (b, append_cancel_right v.weights n.weights (values rest) f) in
    let c = a.count in
    record {
      others = ns;
      are = ap (λ m. m ∷ ns) (sym same);
      ahead = record { parts = t; count = omega arith; full = a.full.1; some = a.some; few = a.few };
    }

pub ahead_none : (rs : List Record) (from neurons inputs : ℕ) (ns : List Neuron) (ls : List LayerOf) → Ahead rs from neurons inputs ns ls → neurons ≤ from → (ns ≡ []) × (rs ≡ layer_records ls)
ahead_none rs from neurons inputs [] ls a h = (refl, a.parts)
ahead_none rs from neurons inputs (n ∷ ns) ls a h = absurd (let e = a.count in omega arith)

-- the layer that a header opens
pub record Opened (head : Record) (tail : List Record) (ls : List LayerOf) : Type 0 where
  pub layer : LayerOf
  pub later : List LayerOf
  pub are : ls ≡ layer ∷ later
  pub activation_is : known_activation head.flag ≡ Ok layer.activation
  pub value_is : head.value ≡ pos layer.inputs
  pub sized : Sized layer
  pub all_sized : AllByRecursion Sized later
  pub ahead : Ahead tail 0 head.index (nat_abs head.value) layer.neurons later

pub layers_more : (rs : List Record) (head : Record) (tail : List Record) (ls : List LayerOf) → rs ≡ layer_records ls → AllByRecursion Sized ls → rs ≡ head ∷ tail → Opened head tail ls
layers_more rs head tail [] p s e = absurd (cc)
layers_more rs head tail (l ∷ ls) p s e =
    let h = s.0 in
    let k : head ≡ header l = cc in
    let t : tail ≡ neuron_records 0 l.neurons ++ layer_records ls = cc in
    record {
      layer = l;
      later = ls;
      are = refl;
      activation_is = ap (λ (r : Record). known_activation r.flag) k ∙ known_back l.activation;
      value_is = ap (λ (r : Record). r.value) k;
      sized = s.0;
      all_sized = s.1;
      ahead = rw k (record { parts = t; count = zero-add (length l.neurons); full = h.full; some = h.fed; few = h.narrow });
    }

pub layers_none : (rs : List Record) (ls : List LayerOf) → rs ≡ layer_records ls → rs ≡ [] → ls ≡ []
layers_none rs [] p e = refl
layers_none rs (l ∷ ls) p e = absurd (cc)

-- the first record of a plan has the samples that it takes
pub head_inputs : (rs : List Record) (head : Record) (tail : List Record) (ls : List LayerOf) → rs ≡ layer_records ls → AllByRecursion Sized ls → rs ≡ head ∷ tail → (head.value ≡ pos (entrance ls)) × (entrance ls ≤ 64)
head_inputs rs head tail ls p s e =
    let o = layers_more rs head tail ls p s e in
    (o.value_is ∙ ap (λ l. pos (entrance l)) (sym o.are), rw o.are o.sized.narrow)
