-- Neurons, layers and networks: what an accepted run comes to, and what stops one.
use Rattle.std.proofs.Common.{◌≡◌, ℕ, suc, ◌+◌, ◌*◌, ◌≤◌, List, [], ◌∷◌, map, length, ℤ, Some, None, Option, sym, refl, ap, ◌∙◌, subst, add-zero, zero-add, arith}
use Rattle.std.specs.List.{AllByRecursion}
use Rattle.stage.specs.Stage.{Rule}
use Rattle.stage.specs.declared.step.Overflow.{Overflow}
use Rattle.stage.specs.declared.step.System.TheVariants.{Linear, Hyperbolic}
use Rattle.cordic.specs.Faults.{reported}
use Rattle.cordic.specs.Order.{Reachable}
use Rattle.cordic.specs.Outcome.{State, went, stopped, onward, mapped, inside}
use Rattle.cordic.specs.Tables.{linear, hyperbolic}
use Rattle.cordic.specs.Unit.{unit_fault, overflowed, Escapes}
use Rattle.cordic.specs.declared.mode.Mode.TheVariants.{Rotation}
use Rattle.cordic.specs.declared.faults.Cause.TheVariants.{Unreachable}
use Rattle.cordic.specs.declared.faults.UnitFault.{UnitFault}
use Rattle.cordic.proofs.Holds.{Said, Holds, Later, holds_onward, holds_mapped, holds_inside, holds_less, holds_went, holds_stopped}
use Rattle.network.specs.Neuron.{Neuron, Net, Working, products, tanh, plain, squashed, activated, neuron_fault, fired}
use Rattle.network.specs.Plan.{LayerOf}
use Rattle.network.specs.Network.{Sized, Follows, Chained, Shaped}
use Rattle.network.specs.Run.{output, located, layer, layers, entrance, cost_of, neuron_cost, cost}
use Rattle.network.specs.Laws.{Output, Bounded, Fires, Chains}
use Rattle.network.specs.Refusals.{place, InArithmetic, weight, net, register}
use Rattle.network.specs.declared.activation.Activation.{Activation}
use Rattle.network.specs.declared.activation.Activation.TheVariants.{Identity, Tanh}
use Rattle.network.specs.declared.faults.NeuronFault.{NeuronFault}
use Rattle.network.specs.declared.faults.Located.{Located}
use Rattle.network.specs.declared.faults.NetworkFault.{NetworkFault}
use Rattle.network.specs.declared.faults.NetworkFault.TheVariants.{Arithmetic}
use Rattle.network.proofs.Sums.{Sum, Ends, Faulty, Faults, sums_holds, rounded}
use Rattle.network.proofs.Sums as sum
use Rattle.network.proofs.Tanhs.{Squashed, TooFar, tanh_holds}

-- ---- one neuron

-- why a neuron of these weights stops
pub data Why (ws : List ℤ) (input : Option ℕ) (f : UnitFault) (u : State) : Type 0 where
  by_weight : (i : ℕ) (w : ℤ) → input ≡ Some i → place ws i ≡ Some w → f ≡ unit_fault Linear Rotation Unreachable 0 → (Reachable linear w → ⊥) → Why ws input f u
  by_net : input ≡ None → f ≡ unit_fault Hyperbolic Rotation Unreachable 0 → (Reachable hyperbolic u.held.y → ⊥) → Why ws input f u
  by_register : (i n : ℕ) (g : Overflow) → input ≡ Some i → f ≡ overflowed Linear Rotation g n → Escapes Linear linear Rotation n g u.held → Why ws input f u

-- a weight for each input, and an input at least
abbrev Matched : List ℤ → Neuron → Type 0
Matched xs n = (length n.weights ≡ length xs) × (1 ≤ length xs)

abbrev Fired : Activation → List ℤ → Neuron → Said Working
Fired h xs n w k s = Matched xs n → Bounded h xs n w × (k ≡ 28 * length n.weights + cost_of h)

abbrev Pair : List ℤ → Neuron → Said (Option ℕ × UnitFault)
Pair xs n p k u = Matched xs n → Why n.weights p.0 p.1 u

abbrev Stops : List ℤ → Neuron → Said NeuronFault
Stops xs n f k u = Matched xs n → Why n.weights f.input f.unit u

bounded : (h : Activation) (xs : List ℤ) (n : Neuron) (m : Net) (k : ℕ) (s : State) (w : Working) → Sum xs n.weights n.bias m k s → 1 ≤ length xs
    → w.bias ≡ n.bias → w.terms ≡ m.terms → w.net ≡ m.value → Output h w → Bounded h xs n w
bounded h xs n m k s w r l b t v o = record {
  bias = b;
  inputs = rw t r.inputs;
  weights = rw t r.weights;
  spent = rw t r.spent;
  rounded = rw (t, v, b) (rounded xs n.weights n.bias m k s r l);
  result = o;
}

-- a refused product of the neuron
in_product_lem : (ws : List ℤ) (p : ℕ × UnitFault) (u : State) → Faulty 0 ws p u → Why ws (Some p.0) p.1 u
in_product_lem ws p u (sum.weight k w e l c r) = by_weight k w (let f : p.0 ≡ k = omega (arith, e) in ap Some f) l c r
in_product_lem ws p u (sum.register n f c x) = by_register p.0 n f refl c x

module _ (rule : Rule) (xs : List ℤ) (n : Neuron) where
  too_far : (m : Net) (k : ℕ) (s : State) → Ends xs n.weights n.bias m k s → (f : UnitFault) (j : ℕ) (v : State) → TooFar m.value s f j v → Pair xs n (None, f) j v
  too_far m k s e f j v t l =
      let y = (e (sym l.0)).holds l.1 in
      let z : v.held.y ≡ m.value = ap (λ (u : State). u.held.y) t.same ∙ y in
      by_net refl t.fault (subst (λ (r : ℤ). Reachable hyperbolic r → ⊥) (sym z) t.far)

  activates : (h : Activation) (m : Net) (k : ℕ) (s : State) → Ends xs n.weights n.bias m k s
      → Holds (Later k (Fired h xs n)) (Later k (Pair xs n)) (activated rule h n.bias m s)
  activates Identity m k s e =
      λ l.
      let r = e (sym l.0) in
      let c : k ≡ 28 * length n.weights = r.cost in
      (bounded Identity xs n m k s (plain n.bias m) r l.1 refl refl refl (refl, refl), omega arith)
  activates Tanh m k s e =
      let o = tanh rule m.value s in
      let P = Later k (Fired Tanh xs n) in
      let Q = Later k (Pair xs n) in
      holds_mapped P Q (squashed n.bias m) (inside (λ f _. (None, f)) o)
      (holds_inside (λ q. P (squashed n.bias m q)) Q (λ f _. (None, f)) o
      (holds_less Squashed (λ q. P (squashed n.bias m q)) (TooFar m.value s) (λ f j u. Q (None, f) j u) o
      (λ q j u d l.
      let r = e (sym l.0) in
      let c : k ≡ 28 * length n.weights = r.cost in
      let w : j ≡ 58 = d.1 in
      (bounded Tanh xs n m k s (squashed n.bias m q) r l.1 refl refl refl (q, refl, refl, d.0), omega arith))
      (λ f j u t. too_far m k s e f (k + j) u (record { fault = t.fault; same = t.same; far = t.far }))
      (tanh_holds rule m.value s)))

  fires : (h : Activation) (s : State) → Holds (Fired h xs n) (Stops xs n) (fired rule h xs n s)
  unfolding fired
  fires h s =
      let o = products rule 0 xs n.weights n.bias s in
      let i = inside (λ p _. (Some p.0, p.1)) o in
      let E = Ends xs n.weights n.bias in
      holds_inside (Fired h xs n) (Stops xs n) neuron_fault (onward (activated rule h n.bias) i)
      (holds_onward E (Fired h xs n) (Pair xs n) (activated rule h n.bias) i
      (holds_inside E (Pair xs n) (λ p _. (Some p.0, p.1)) o
      (holds_less E E (Faults 0 n.weights) (λ p j u. Pair xs n (Some p.0, p.1) j u) o (λ w j u f. f)
      (λ p j u q l. in_product_lem n.weights p u q)
      (sums_holds rule 0 xs n.weights n.bias s)))
      (λ m k u e. activates h m k u e))

-- ---- the neurons of a layer

abbrev AllMatched : List ℤ → List Neuron → Type 0
AllMatched xs ns = AllByRecursion (λ n. length n.weights ≡ length xs) ns × (1 ≤ length xs)

-- a fault in layer l, at a neuron of ns, of which j went before
pub record InLayer (l j : ℕ) (ns : List Neuron) (f : NetworkFault) (u : State) : Type 0 where
  pub found : Located
  pub fault : f ≡ Arithmetic found
  pub layer : found.layer ≡ l
  pub back : ℕ
  pub neuron : found.neuron ≡ j + back
  pub at : Neuron
  pub there : place ns back ≡ Some at
  pub why : Why at.weights found.inner.input found.inner.unit u

abbrev Stopped : ℕ → List ℤ → ℕ → List Neuron → Said NetworkFault
Stopped l xs j ns f k u = AllMatched xs ns → InLayer l j ns f u

abbrev FiredAll : LayerOf → List ℤ → List Neuron → Said (List Working)
FiredAll h xs ns ws k s = AllMatched xs ns → Fires h.activation xs ns ws × (length (map output ws) ≡ length ns) × (k ≡ neuron_cost h ns)

later_in : (l j : ℕ) (n : Neuron) (ns : List Neuron) (f : NetworkFault) (u : State) → InLayer l (j + 1) ns f u → InLayer l j (n ∷ ns) f u
later_in l j n ns f u i = record {
  found = i.found;
  fault = i.fault;
  layer = i.layer;
  back = suc i.back;
  neuron = (let e = i.neuron in omega arith);
  at = i.at;
  there = i.there;
  why = i.why;
}

layer_holds : (rule : Rule) (l : ℕ) (h : LayerOf) (xs : List ℤ) (j : ℕ) (ns : List Neuron) (s : State)
    → Holds (FiredAll h xs ns) (Stopped l xs j ns) (layer rule l h xs j ns s)
unfolding layer
layer_holds rule l h xs j [] s = λ a. (tt, refl, refl)
layer_holds rule l h xs j (n ∷ ns) s =
    let P = Fired h.activation xs n in
    let R = FiredAll h xs (n ∷ ns) in
    let Q = Stopped l xs j (n ∷ ns) in
    let o = fired rule h.activation xs n s in
    holds_onward P R Q (λ w u. mapped (λ ws. w ∷ ws) (layer rule l h xs (j + 1) ns u)) (inside (located l j) o)
    (holds_inside P Q (located l j) o
    (holds_less P P (Stops xs n) (λ f k u. Q (located l j f k) k u) o (λ w k u f. f)
    (λ f k u q a. record { found = record { layer = l; neuron = j; inner = f }; fault = refl; layer = refl; back = 0; neuron = sym (add-zero j); at = n; there = refl; why = q (a.0.0, a.1) })
    (fires rule xs n h.activation s)))
    (λ w k u p.
    let r = layer rule l h xs (j + 1) ns u in
    holds_mapped (Later k R) (Later k Q) (λ ws. w ∷ ws) r
    (holds_less (FiredAll h xs ns) (λ ws. Later k R (w ∷ ws)) (Stopped l xs (j + 1) ns) (Later k Q) r
    (λ ws i v q a.
    let b = p (a.0.0, a.1) in
    let c = q (a.0.1, a.1) in
    ((b.0, c.0), ap suc c.1, (let d = b.1 in let e = c.2 in omega arith)))
    (λ f i v q a. later_in l j n ns f v (q (a.0.1, a.1)))
    (layer_holds rule l h xs (j + 1) ns u)))

-- ---- the layers

abbrev Fed : LayerOf → Type 0
Fed h = (1 ≤ h.inputs) × AllByRecursion (λ n. length n.weights ≡ h.inputs) h.neurons

-- a fault in a layer of hs, of which l went before
pub record InLayers (l : ℕ) (hs : List LayerOf) (f : NetworkFault) (u : State) : Type 0 where
  pub within : LayerOf
  pub back : ℕ
  pub there : place hs back ≡ Some within
  pub inner : InLayer (l + back) 0 within.neurons f u

abbrev StoppedIn : ℕ → List LayerOf → List ℤ → Said NetworkFault
StoppedIn l hs xs f k u = AllByRecursion Fed hs → Follows (length xs) hs → InLayers l hs f u

abbrev FiredLayers : List LayerOf → List ℤ → Said (List (List Working))
FiredLayers hs xs w k s = AllByRecursion Fed hs → Follows (length xs) hs → Chains xs hs w × (k ≡ cost hs)

-- a layer that has as many inputs as there are words
full : (ns : List Neuron) (a b : ℕ) → a ≡ b → AllByRecursion (λ n. length n.weights ≡ a) ns → AllByRecursion (λ n. length n.weights ≡ b) ns
full ns a b e h = rw e at h

follows : (a b : ℕ) (hs : List LayerOf) → a ≡ b → Follows b hs → Follows a hs
follows a b [] e f = tt
follows a b (h ∷ hs) e f = (f.0 ∙ sym e, f.1)

matched : (h : LayerOf) (hs : List LayerOf) (xs : List ℤ) → AllByRecursion Fed (h ∷ hs) → Follows (length xs) (h ∷ hs) → AllMatched xs h.neurons
matched h hs xs a f = (full h.neurons h.inputs (length xs) f.0 a.0.1, subst (λ (m : ℕ). 1 ≤ m) f.0 a.0.0)

later_layers : (l : ℕ) (h : LayerOf) (hs : List LayerOf) (f : NetworkFault) (u : State) → InLayers (l + 1) hs f u → InLayers l (h ∷ hs) f u
later_layers l h hs f u i =
    let e : l + 1 + i.back ≡ l + suc i.back = omega arith in
    record { within = i.within; back = suc i.back; there = i.there; inner = subst (λ (m : ℕ). InLayer m 0 i.within.neurons f u) e i.inner }

layers_hold : (rule : Rule) (l : ℕ) (hs : List LayerOf) (xs : List ℤ) (s : State) → Holds (FiredLayers hs xs) (StoppedIn l hs xs) (layers rule l hs xs s)
unfolding layers
layers_hold rule l [] xs s = λ a f. (tt, refl)
layers_hold rule l (h ∷ hs) xs s =
    let P = FiredAll h xs h.neurons in
    let R = FiredLayers (h ∷ hs) xs in
    let Q = StoppedIn l (h ∷ hs) xs in
    let o = layer rule l h xs 0 h.neurons s in
    holds_onward P R Q (λ ws u. mapped (λ rest. ws ∷ rest) (layers rule (l + 1) hs (map output ws) u)) o
    (holds_less P P (Stopped l xs 0 h.neurons) Q o (λ w k u p. p)
    (λ f k u q a g. record { within = h; back = 0; there = refl; inner = subst (λ (m : ℕ). InLayer m 0 h.neurons f u) (sym (add-zero l)) (q (matched h hs xs a g)) })
    (layer_holds rule l h xs 0 h.neurons s))
    (λ ws k u p.
    let r = layers rule (l + 1) hs (map output ws) u in
    let wide : AllByRecursion Fed (h ∷ hs) → Follows (length xs) (h ∷ hs) → Follows (length (map output ws)) hs = λ a f.
    follows (length (map output ws)) (length h.neurons) hs (p (matched h hs xs a f)).1 f.1 in
    holds_mapped (Later k R) (Later k Q) (λ rest. ws ∷ rest) r
    (holds_less (FiredLayers hs (map output ws)) (λ rest. Later k R (ws ∷ rest)) (StoppedIn (l + 1) hs (map output ws)) (Later k Q) r
    (λ rest i v q a f.
    let b = p (matched h hs xs a f) in
    let c = q a.1 (wide a f) in
    ((b.0, c.0), (let d = b.2 in let e = c.1 in omega arith)))
    (λ f i v q a g. later_layers l h hs f v (q a.1 (wide a g)))
    (layers_hold rule (l + 1) hs (map output ws) u)))

-- ---- a whole network

all_fed : (hs : List LayerOf) → AllByRecursion Sized hs → AllByRecursion Fed hs
all_fed [] a = tt
all_fed (h ∷ hs) a = ((a.0.fed, a.0.full), all_fed hs a.1)

enters : (hs : List LayerOf) (m : ℕ) → m ≡ entrance hs → Chained hs → Follows m hs
enters [] m e c = tt
enters (h ∷ hs) m e c = (sym e, c)

by_why : (hs : List LayerOf) (u : State) (l : Located) (h : LayerOf) (n : Neuron) → place hs l.layer ≡ Some h → place h.neurons l.neuron ≡ Some n
    → Why n.weights l.inner.input l.inner.unit u → InArithmetic hs l u
by_why hs u l h n a b (by_weight i w e p c r) =
    weight i w (ap (λ f. (reported f).number) c) e c (record { layer = h; neuron = n; at_layer = a; at_neuron = b; at_input = p }) r
by_why hs u l h n a b (by_net e c r) = net (ap (λ f. (reported f).number) c) e c r
by_why hs u l h n a b (by_register i k g e c x) = register i k g (ap (λ f. (reported f).number) c) e c x

by_place : (hs : List LayerOf) (u : State) (l found : Located) (h : LayerOf) (n : Neuron) (a b : ℕ) → found ≡ l → found.layer ≡ 0 + a → place hs a ≡ Some h
    → found.neuron ≡ 0 + b → place h.neurons b ≡ Some n → Why n.weights found.inner.input found.inner.unit u → InArithmetic hs l u
by_place hs u l found h n a b same la pa nb pb w =
    subst (λ (v : Located). InArithmetic hs v u) same
    (by_why hs u found h n (rw (la, zero-add a) pa) (rw (nb, zero-add b) pb) w)

same_fault : (l k : Located) → Arithmetic l ≡ Arithmetic k → k ≡ l
same_fault l k e = cc

module _ (rule : Rule) (hs : List LayerOf) (xs : List ℤ) (s : State) (shaped : Shaped hs) (wide : length xs ≡ entrance hs) where
  pub runs : (w : List (List Working)) (n : ℕ) (u : State) → layers rule 0 hs xs s ≡ went w n u → Chains xs hs w × (n ≡ cost hs)
  runs w n u e =
      holds_went (FiredLayers hs xs) (StoppedIn 0 hs xs) (layers_hold rule 0 hs xs s) e (all_fed hs shaped.sized) (enters hs (length xs) wide shaped.chained)

  pub stops : (l : Located) (n : ℕ) (u : State) → layers rule 0 hs xs s ≡ stopped (Arithmetic l) n u → InArithmetic hs l u
  stops l n u e =
      let i = holds_stopped (FiredLayers hs xs) (StoppedIn 0 hs xs) (layers_hold rule 0 hs xs s) e (all_fed hs shaped.sized) (enters hs (length xs) wide shaped.chained) in
      let j = i.inner in
      by_place hs u l j.found i.within j.at i.back j.back (same_fault l j.found j.fault) j.layer i.there j.neuron j.there j.why
