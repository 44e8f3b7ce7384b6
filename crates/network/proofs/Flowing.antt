-- The loop over the layers of a plan.
use Rattle.std.proofs.Common.{◌≡◌, ℕ, zero, suc, ◌+◌, ◌*◌, ◌≤◌, List, [], ◌∷◌, map, length, drop, ℤ, nat_abs, Ok, Err, Result, sym, refl, ap, ◌∙◌, add-zero, zero-add, arith}
use Rattle.std.proofs.lemmas.List.{length-map, length-append, length-drop, drop-drop, drop_at}
use Rattle.std.specs.List.{AllByRecursion}
use Rattle.stage.specs.Stage.{Rule}
use Rattle.stage.specs.declared.stage.Stage.{Ghosts}
use Rattle.arrayvec.specs.ArrayVec.{ArrayVec}
use Rattle.cordic.specs.Outcome.{State, Out, went, stopped, counted, onward, mapped, inside, steps_in}
use Rattle.cordic.specs.Seen.{seen, state_of}
use Rattle.cordic.specs.declared.states.Answer.{Answer}
use Rattle.cordic.specs.declared.states.Refused.{Refused}
use Rattle.cordic.proofs.Outs.{loop_on, loop_halt}
use Rattle.network.specs.Neuron.{Neuron, Working, fired}
use Rattle.network.specs.Network.{weight_records, neuron_records, layer_records, Sized, Follows, Chained}
use Rattle.network.specs.Placing.{steps_made, later}
use Rattle.network.specs.Plain.{layer_of, outs, laid, lasts, flown}
use Rattle.network.specs.Codes.{known_activation}
use Rattle.network.specs.Plan.{LayerOf, records}
use Rattle.network.specs.Reading.{Ahead}
use Rattle.network.specs.Run.{output, located, layer, layers, entrance}
use Rattle.network.specs.declared.activation.Activation.{Activation}
use Rattle.network.specs.declared.faults.NetworkFault.{NetworkFault}
use Rattle.network.specs.declared.record.Record.{Record}
use Rattle.network.proofs.Bytes.{records_cons}
use Rattle.network.proofs.Layering.{layer_length}
use Rattle.network.proofs.ReadBack.{length_weights, layers_more}
use Rattle.network.proofs.Short.{made_steps, mapped_steps, layer_short}

-- ---- the recurrence

by_each : {V W F : Type 0} (next same : V → State → Out W F) (o : Out V F) → ((v : V) (u : State) → next v u ≡ same v u) → onward next o ≡ onward same o
by_each next same (went v n u) h = ap (counted n) (h v u)
by_each next same (stopped f n u) h = refl

-- of a layer only the activation is read
layer_same : (rule : Rule) (l : ℕ) (h : LayerOf) (xs : List ℤ) (j : ℕ) (ns : List Neuron) (s : State) → layer rule l h xs j ns s ≡ layer rule l (layer_of h.activation) xs j ns s
unfolding layer
layer_same rule l h xs j [] s = refl
layer_same rule l h xs j (n ∷ ns) s =
    by_each (λ w u. mapped (λ ws. w ∷ ws) (layer rule l h xs (j + 1) ns u)) (λ w u. mapped (λ ws. w ∷ ws) (layer rule l (layer_of h.activation) xs (j + 1) ns u))
    (inside (located l j) (fired rule h.activation xs n s)) (λ w u. ap (mapped (λ ws. w ∷ ws)) (layer_same rule l h xs (j + 1) ns u))

flown_none : (rule : Rule) (l : ℕ) (xs : List ℤ) (s : State) → flown rule l [] xs s ≡ went xs 0 s
unfolding layers
flown_none rule l xs s = refl

last_of : (n : ℕ) (xs : List ℤ) (ws : List Working) (o : Out (List (List Working)) NetworkFault) → mapped (lasts xs) (counted n (mapped (λ rest. ws ∷ rest) o)) ≡ counted n (mapped (lasts (map output ws)) o)
last_of n xs ws (went rest k s) = refl
last_of n xs ws (stopped f k s) = refl

by_layer : (rule : Rule) (l : ℕ) (hs : List LayerOf) (xs : List ℤ) (o : Out (List Working) NetworkFault)
    → mapped (lasts xs) (onward (λ ws u. mapped (λ rest. ws ∷ rest) (layers rule (l + 1) hs (map output ws) u)) o) ≡ onward (flown rule (l + 1) hs) (mapped (outs []) o)
by_layer rule l hs xs (went ws n u) = last_of n xs ws (layers rule (l + 1) hs (map output ws) u)
by_layer rule l hs xs (stopped f n u) = refl

flown_more : (rule : Rule) (l : ℕ) (h : LayerOf) (hs : List LayerOf) (xs : List ℤ) (s : State)
    → flown rule l (h ∷ hs) xs s ≡ onward (flown rule (l + 1) hs) (laid rule l h.activation xs [] 0 h.neurons s)
unfolding layers
flown_more rule l h hs xs s =
    by_layer rule l hs xs (layer rule l h xs 0 h.neurons s)
    ∙ ap (λ o. onward (flown rule (l + 1) hs) (mapped (outs []) o)) (layer_same rule l h xs 0 h.neurons s)

-- a layer puts out a word for each neuron
width_by : (rule : Rule) (l : ℕ) (a : Activation) (xs : List ℤ) (ns : List Neuron) (s : State) (o : Out (List Working) NetworkFault) (ys : List ℤ) (n : ℕ) (u : State)
    → layer rule l (layer_of a) xs 0 ns s ≡ o → went ys n u ≡ mapped (outs []) o → length ys ≡ length ns
width_by rule l a xs ns s (went ws k v) ys n u e h =
    let f : ys ≡ map output ws = cc in
    ap length f ∙ length-map ws output ∙ layer_length rule l (layer_of a) xs 0 ns s ws k v e
width_by rule l a xs ns s (stopped f k v) ys n u e h = let z : ◌≡◌ {A = ℕ} 0 1 = cc in absurd (omega arith)

pub laid_width : (rule : Rule) (l : ℕ) (a : Activation) (xs : List ℤ) (ns : List Neuron) (s : State) (ys : List ℤ) (n : ℕ) (u : State)
    → went ys n u ≡ laid rule l a xs [] 0 ns s → length ys ≡ length ns
laid_width rule l a xs ns s ys n u h = width_by rule l a xs ns s (layer rule l (layer_of a) xs 0 ns s) ys n u refl h

-- ---- the code

abbrev items : ArrayVec ℤ → List ℤ
items v = v.items

seen_later : {X F : Type 0} (S : Ghosts X) (n : ℕ) (r : Result (Answer X (ArrayVec ℤ)) (Refused X F)) → mapped items (seen S (later n r)) ≡ counted n (mapped items (seen S r))
seen_later S n (Ok a) = refl
seen_later S n (Err e) = refl

pub layer_made : {X : Type 0} (S : Ghosts X) (r : Result (Answer X (ArrayVec ℤ)) (Refused X NetworkFault)) (rule : Rule) (l : ℕ) (a : Activation) (xs : List ℤ) (ns : List Neuron) (s : State)
    → length xs ≤ 64 → length ns ≤ 64 → mapped items (seen S r) ≡ laid rule l a xs [] 0 ns s → steps_made r ≤ 118400
layer_made S r rule l a xs ns s h k e =
    let m : steps_made r ≡ steps_in (laid rule l a xs [] 0 ns s) = made_steps S r ∙ sym (mapped_steps items (seen S r)) ∙ ap steps_in e in
    let b = layer_short rule l (layer_of a) xs 0 ns s h in
    let c : steps_in (laid rule l a xs [] 0 ns s) ≤ 1850 * length ns = rw (mapped_steps (outs []) (layer rule l (layer_of a) xs 0 ns s)) b in
    omega arith

pub later_made : {X V F : Type 0} (n : ℕ) (r : Result (Answer X V) (Refused X F)) (a : Answer X V) → Ok a ≡ later n r → a.steps ≡ n + steps_made r
later_made n (Ok b) a e = let s : a ≡ record { unit = b.unit; value = b.value; steps = n + b.steps } = cc in rw s
later_made n (Err f) a e = let z : ◌≡◌ {A = ℕ} 0 1 = cc in absurd (omega arith)

-- n steps made, xs the inputs of the layer h, s the state now
module _ {X : Type 0} (S : Ghosts X) (rule : Rule) (l n : ℕ) (hs ls : List LayerOf) (h : LayerOf) (xs : List ℤ) (s : State) {whole : Out (List ℤ) NetworkFault}
    (inv : counted n (flown rule l hs xs s) ≡ whole) (are : hs ≡ h ∷ ls) (r : Result (Answer X (ArrayVec ℤ)) (Refused X NetworkFault))
    (e : mapped items (seen S r) ≡ laid rule l h.activation xs [] 0 h.neurons s) where
  here : flown rule l hs xs s ≡ onward (flown rule (l + 1) ls) (laid rule l h.activation xs [] 0 h.neurons s)
  here = rw are (flown_more rule l h ls xs s)

  pub flow_on : (a : Answer X (ArrayVec ℤ)) → Ok a ≡ later n r → counted a.steps (flown rule (l + 1) ls (items a.value) (state_of S a.unit.stage)) ≡ whole
  flow_on a g = loop_on n _ inv (flown rule (l + 1) ls) _ here (ap (λ q. mapped items (seen S q)) g ∙ seen_later S n r ∙ ap (counted n) e)

  pub flow_halt : (f : Refused X NetworkFault) → Err f ≡ later n r → seen {V = List ℤ} S (Err f) ≡ whole
  flow_halt f g = loop_halt n _ inv (flown rule (l + 1) ls) _ here (ap (λ q. mapped items (seen S q)) g ∙ seen_later S n r ∙ ap (counted n) e)

  pub flow_width : (a : Answer X (ArrayVec ℤ)) → Ok a ≡ later n r → length (items a.value) ≡ length h.neurons
  flow_width a g = by r a g e
    where
      by : (r : Result (Answer X (ArrayVec ℤ)) (Refused X NetworkFault)) (a : Answer X (ArrayVec ℤ)) → Ok a ≡ later n r → mapped items (seen S r) ≡ laid rule l h.activation xs [] 0 h.neurons s → length (items a.value) ≡ length h.neurons
      by (Ok b) a g e =
          let v : a ≡ record { unit = b.unit; value = b.value; steps = n + b.steps } = cc in
          rw v (laid_width rule l h.activation xs h.neurons s (items b.value) b.steps (state_of S b.unit.stage) e)
      by (Err f) a g e = let z : ◌≡◌ {A = ℕ} 0 1 = cc in absurd (omega arith)

pub flow_done : (rule : Rule) (l n : ℕ) (hs : List LayerOf) (xs : List ℤ) (s : State) {whole : Out (List ℤ) NetworkFault} → counted n (flown rule l hs xs s) ≡ whole → hs ≡ [] → went xs n s ≡ whole
flow_done rule l n hs xs s inv e = rw (e, flown_none rule l xs s, add-zero) at inv

-- ---- the bytes

-- records are eight bytes each
pub bytes_enough : (k : ℕ) (bs : List ℕ) → k ≤ length (records bs) → 8 * k ≤ length bs
bytes_enough k bs h = let e = by bs in omega arith
  where
    by : (bs : List ℕ) → 8 * length (records bs) ≤ length bs
    by (a ∷ b ∷ c ∷ d ∷ e ∷ f ∷ g ∷ h ∷ bs) = let i = by bs in omega arith
    by (a ∷ b ∷ c ∷ d ∷ e ∷ f ∷ g ∷ []) = omega arith
    by (a ∷ b ∷ c ∷ d ∷ e ∷ f ∷ []) = omega arith
    by (a ∷ b ∷ c ∷ d ∷ e ∷ []) = omega arith
    by (a ∷ b ∷ c ∷ d ∷ []) = omega arith
    by (a ∷ b ∷ c ∷ []) = omega arith
    by (a ∷ b ∷ []) = omega arith
    by (a ∷ []) = omega arith
    by [] = omega arith

-- bytes dropped are records dropped
pub records_drop : (k : ℕ) (bs : List ℕ) → 8 * k ≤ length bs → records (drop (8 * k) bs) ≡ drop k (records bs)
records_drop zero bs h = refl
records_drop (suc k) bs h =
    let l : 8 ≤ length bs = omega arith in
    let m : 8 * k ≤ length (drop 8 bs) = rw (length-drop 8 bs) (omega arith) in
    let a : 8 + 8 * k ≡ 8 * suc k = omega arith in
    ap (λ n. records (drop n bs)) (sym a) ∙ ap records (sym (drop-drop (8 * k) 8 bs)) ∙ records_drop k (drop 8 bs) m ∙ ap (drop (suc k)) (sym (records_cons bs l))

length_neurons : (j i : ℕ) (ns : List Neuron) → AllByRecursion (λ n. length n.weights ≡ i) ns → length (neuron_records j ns) ≡ length ns * (i + 1)
length_neurons j i [] a = omega arith
length_neurons j i (n ∷ ns) a =
    let m = length-append (weight_records 0 n.weights) (neuron_records (j + 1) ns) in
    let r = length_neurons (j + 1) i ns a.1 in
    let w = length_weights 0 n.weights in
    let e : length n.weights ≡ i = a.0 in
    omega arith

ahead_length : (rs : List Record) (neurons inputs : ℕ) (ns : List Neuron) (ls : List LayerOf) → Ahead rs 0 neurons inputs ns ls → length (neuron_records 0 ns) ≡ neurons * (inputs + 1)
ahead_length rs neurons inputs ns ls a = length_neurons 0 inputs ns a.full ∙ ap (λ n. n * (inputs + 1)) (sym (zero-add (length ns)) ∙ a.count)

pub ahead_room : (rs : List Record) (neurons inputs : ℕ) (ns : List Neuron) (ls : List LayerOf) → Ahead rs 0 neurons inputs ns ls → neurons * (inputs + 1) ≤ length rs
ahead_room rs neurons inputs ns ls a =
    let e = ahead_length rs neurons inputs ns ls a in
    let l = ap length a.parts ∙ length-append (neuron_records 0 ns) (layer_records ls) in
    omega (arith, e, l)

pub ahead_past : (rs : List Record) (neurons inputs : ℕ) (ns : List Neuron) (ls : List LayerOf) → Ahead rs 0 neurons inputs ns ls → drop (neurons * (inputs + 1)) rs ≡ layer_records ls
ahead_past rs neurons inputs ns ls a =
    ap (drop (neurons * (inputs + 1))) a.parts ∙ drop_at (neuron_records 0 ns) (layer_records ls) (neurons * (inputs + 1)) (ahead_length rs neurons inputs ns ls a)

-- ---- the next layer of a plan that reads `width` words

pub record Faces (head : Record) (tail : List Record) (ls : List LayerOf) (width : ℕ) : Type 0 where
  pub within : LayerOf
  pub others : List LayerOf
  pub are : ls ≡ within ∷ others
  pub activation : known_activation head.flag ≡ Ok within.activation
  pub ahead : Ahead tail 0 head.index width within.neurons others
  pub narrow : width ≤ 64
  pub few : head.index ≤ 64
  pub some : length within.neurons ≤ 64
  pub sized : AllByRecursion Sized others
  pub follows : Follows (length within.neurons) others

pub faces : (rs : List Record) (head : Record) (tail : List Record) (ls : List LayerOf) (width : ℕ) → rs ≡ layer_records ls → AllByRecursion Sized ls → Follows width ls → rs ≡ head ∷ tail → Faces head tail ls width
faces rs head tail [] width p s f e = absurd (let z : ◌≡◌ {A = ℕ} 0 1 = cc in omega arith)
faces rs head tail (l ∷ ls) width p s f e =
    let o = layers_more rs head tail (l ∷ ls) p s e in
    let same : o.layer ≡ l = cc in
    let rest : o.later ≡ ls = cc in
    let i : nat_abs head.value ≡ width = ap nat_abs o.value_is ∙ ap (λ (h : LayerOf). h.inputs) same ∙ f.0 in
    let a : Ahead tail 0 head.index width l.neurons ls = rw (same, rest, i) at o.ahead in
    let c = a.count in
    let n = s.0.few in
    record {
      within = l;
      others = ls;
      are = refl;
      activation = o.activation_is ∙ ap (λ (h : LayerOf). Ok h.activation) same;
      ahead = a;
      narrow = a.few;
      few = omega arith;
      some = n;
      sized = s.1;
      follows = f.1;
    }

pub starts_at : (hs : List LayerOf) (m : ℕ) → m ≡ entrance hs → Chained hs → Follows m hs
starts_at [] m e c = tt
starts_at (h ∷ hs) m e c = (sym e, c)
