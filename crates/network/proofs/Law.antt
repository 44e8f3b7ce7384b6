-- A plan is accepted exactly when it is the encoding of a well-formed network: first for records.
use Rattle.std.proofs.Common.{◌≡◌, ℕ, zero, suc, ◌+◌, ◌-◌, ◌<◌, ◌≤◌, Bool, true, false, cond, ◌&&◌, ltb, ◌⊎◌, List, [], ◌∷◌, ◌++◌, length, ℤ, pos, negsuc, nat_abs, is_some, IsSome, IfSome, Some, None, Ok, Err, Option, Result, sym, refl, ap, ◌∙◌, subst, inl, inr, append_assoc, zero-add, arith}
use lib.Signed.{le_z}
use Rattle.std.specs.List.{AllByRecursion}
use Rattle.std.proofs.lemmas.Bool.{cond-true, and_from, and_parts, eqb-true, eq-eqb, lt-ltb, ltb-true, ltb-false}
use Rattle.std.proofs.lemmas.Bool.Decides.{nat_tests}
use Rattle.std.proofs.lemmas.Int.{ints}
use Rattle.network.specs.declared.record.Record.{Record}
use Rattle.network.specs.declared.activation.Activation.{Activation}
use Rattle.network.specs.declared.activation.Activation.TheVariants.{Identity, Tanh}
use Rattle.network.specs.declared.next.Next.{Next}
use Rattle.network.specs.declared.next.Shape.{Shape}
use Rattle.network.specs.declared.next.Next.TheVariants.{Layer, Bias, Weight}
use Rattle.network.specs.Neuron.{Neuron}
use Rattle.network.specs.Codes.{known_activation}
use Rattle.network.specs.Plan.{accept, last_width, row, layer_row, joins, opened, filled, LayerOf, Tail, onto, carry, follow, ended, parse, activation_at}
use Rattle.network.specs.Network.{flag_of, weight_records, neuron_records, layer_records, Sized}
use Rattle.network.specs.Walk.{Sound}
use Rattle.network.proofs.Walking.{sound_more}

-- at most `left` layers after one of `before` neurons, or first of all where there is none
abbrev pub Chain : Option ℕ → ℕ → List LayerOf → Type 0
Chain before left [] = IsSome before
Chain before left (l ∷ ls) = (0 < left) × IfSome before (λ n. l.inputs ≡ n) × Sized l × Chain (Some (length l.neurons)) (left - 1) ls

-- the records of what a plan still describes
abbrev pub records_for : Next → Tail → List Record
records_for (Layer before left) t = layer_records t.layers
records_for (Bias shape neuron) t = neuron_records neuron t.neurons ++ layer_records t.layers
records_for (Weight shape neuron input) t = weight_records input t.weights ++ (neuron_records (neuron + 1) t.neurons ++ layer_records t.layers)

-- and that it fits what is left to describe
abbrev pub Fitting : Next → Tail → Type 0
Fitting (Layer before left) t = (t.weights ≡ []) × (t.neurons ≡ []) × Chain before left t.layers
Fitting (Bias shape neuron) t = (t.weights ≡ []) × (neuron + length t.neurons ≡ shape.neurons) × AllByRecursion (λ n. length n.weights ≡ shape.inputs) t.neurons × Chain (Some shape.neurons) shape.left t.layers
Fitting (Weight shape neuron input) t = (input + length t.weights ≡ shape.inputs) × (neuron + 1 + length t.neurons ≡ shape.neurons) × AllByRecursion (λ n. length n.weights ≡ shape.inputs) t.neurons × Chain (Some shape.neurons) shape.left t.layers

pub some_cond : {X : Type 0} (b : Bool) (x y : X) → cond b (Some x) None ≡ Some y → (b ≡ true) × (x ≡ y)
some_cond true x y e = (refl, cc)
some_cond false x y e = absurd (cc)

record_is : (r : Record) (k f i : ℕ) (v : ℤ) → r.kind ≡ k → r.flag ≡ f → r.index ≡ i → r.value ≡ v → r ≡ record { kind = k; flag = f; index = i; value = v }
record_is r k f i v a b c d = rw (← a, ← b, ← c, ← d)

row_is : (k i : ℕ) (r : Record) → row k i r ≡ true → r ≡ record { kind = k; flag = 0; index = i; value = r.value }
row_is k i r e = record_is r k 0 i r.value (grind (arith, nat_tests)) (grind (arith, nat_tests)) (grind (arith, nat_tests)) refl

flag_is : (f : ℕ) → f ≤ 1 → f ≡ flag_of (activation_at f)
flag_is zero h = refl
flag_is (suc zero) h = refl
flag_is (suc (suc n)) h = absurd (omega arith)

value_is : (v : ℤ) → le_z (pos 1) v ≡ true → v ≡ pos (nat_abs v)
value_is (pos n) e = refl
value_is (negsuc n) e = absurd (cc)

layer_is : (r : Record) → layer_row r ≡ true → r ≡ record { kind = 1; flag = flag_of (activation_at r.flag); index = r.index; value = pos (nat_abs r.value) }
layer_is r e = record_is r 1 _ r.index _ (grind (arith, nat_tests)) (flag_is r.flag (grind (arith, nat_tests))) refl (value_is r.value (grind (arith, nat_tests)))

row_on : (k i : ℕ) (v : ℤ) → row k i (record { kind = k; flag = 0; index = i; value = v }) ≡ true
row_on k i v = grind (arith, nat_tests)

pub cons_same : {X : Type 0} {x y : X} {xs ys : List X} → x ≡ y → xs ≡ ys → x ∷ xs ≡ y ∷ ys
cons_same p q = cc

-- what follows a record, with the record before it
abbrev pub Accounts : Next → List Record → Tail → Type 0
Accounts n rs t = (rs ≡ records_for n t) × Fitting n t

joined : (before : Option ℕ) (inputs : ℕ) → joins before inputs ≡ true → IfSome before (λ n. inputs ≡ n)
joined None inputs e = tt
joined (Some n) inputs e = eqb-true inputs n e

joins_on : (before : Option ℕ) (inputs : ℕ) → IfSome before (λ n. inputs ≡ n) → joins before inputs ≡ true
joins_on None inputs h = refl
joins_on (Some n) inputs h = eq-eqb inputs n h

describes_layer : (before : Option ℕ) (left : ℕ) (r : Record) (rs : List Record) (t : Tail) → layer_row r ≡ true → 0 < left → IfSome before (λ n. nat_abs r.value ≡ n) → Accounts (Bias (record { neurons = r.index; inputs = nat_abs r.value; left = left - 1 }) 0) rs t → Accounts (Layer before left) (r ∷ rs) (onto (Layer before left) r t)
describes_layer before left r rs t e l c (p, f) =
    let m : r.index ≡ length t.neurons = omega (arith, f.1) in (
      cons_same (layer_is r e ∙ ap (λ k. record { kind = 1; flag = flag_of (activation_at r.flag); index = k; value = pos (nat_abs r.value) }) m) p,
      (refl, refl, (l, c, record { some = grind (arith, nat_tests); few = grind (arith, nat_tests); fed = grind (arith, nat_tests, ints); narrow = grind (arith, nat_tests, ints); full = f.2 }, subst (λ k. Chain (Some k) (left - 1) t.layers) m f.3)),
    )

describes_bias : (s : Shape) (j : ℕ) (r : Record) (rs : List Record) (t : Tail) → row 2 j r ≡ true → Accounts (Weight s j 0) rs t → Accounts (Bias s j) (r ∷ rs) (onto (Bias s j) r t)
describes_bias s j r rs t e (p, f) = (
  cons_same (row_is 2 j r e) (p ∙ sym (append_assoc (weight_records 0 t.weights) (neuron_records (j + 1) t.neurons) (layer_records t.layers))),
  (refl, omega (arith, f.1), (omega (arith, f.0), f.2), f.3),
)

describes_weight : (s : Shape) (j i : ℕ) (r : Record) (rs : List Record) (t : Tail) → row 3 i r ≡ true → Accounts (Weight s j (i + 1)) rs t → Accounts (Weight s j i) (r ∷ rs) (onto (Weight s j i) r t)
describes_weight s j i r rs t e (p, f) = (cons_same (row_is 3 i r e) p, (omega (arith, f.0), f.1, f.2, f.3))

describes_last : (s : Shape) (j i : ℕ) (r : Record) (rs : List Record) (t : Tail) → row 3 i r ≡ true → i + 1 ≡ s.inputs → Accounts (Bias s (j + 1)) rs t → Accounts (Weight s j i) (r ∷ rs) (onto (Weight s j i) r t)
describes_last s j i r rs t e h (p, f) =
    (cons_same (row_is 3 i r e) (rw f.0 p), (omega (arith, ap length f.0), f.1, f.2, f.3))

describes_end : (s : Shape) (j i : ℕ) (r : Record) (rs : List Record) (t : Tail) → row 3 i r ≡ true → i + 1 ≡ s.inputs → j + 1 ≡ s.neurons → Accounts (Layer (Some s.neurons) s.left) rs t → Accounts (Weight s j i) (r ∷ rs) (onto (Weight s j i) r t)
describes_end s j i r rs t e h k (p, f) =
    (cons_same (row_is 3 i r e) (rw (f.0, f.1) p), (omega (arith, ap length f.0), omega (arith, ap length f.1), rw f.1 tt, f.2))

describes_filled : (s : Shape) (j i : ℕ) (b c : Bool) (r : Record) (rs : List Record) (t : Tail) → i < s.inputs → j < s.neurons → ltb (i + 1) s.inputs ≡ b → ltb (j + 1) s.neurons ≡ c → row 3 i r ≡ true → Accounts (cond b (Weight s j (i + 1)) (cond c (Bias s (j + 1)) (Layer (Some s.neurons) s.left))) rs t → Accounts (Weight s j i) (r ∷ rs) (onto (Weight s j i) r t)
describes_filled s j i true c r rs t h k p q e d = describes_weight s j i r rs t e d
describes_filled s j i false true r rs t h k p q e d = describes_last s j i r rs t e (omega (arith, ltb-false (i + 1) s.inputs p)) d
describes_filled s j i false false r rs t h k p q e d = describes_end s j i r rs t e (omega (arith, ltb-false (i + 1) s.inputs p)) (omega (arith, ltb-false (j + 1) s.neurons q)) d

pub describes_more : (n m : Next) (r : Record) (rs : List Record) (t : Tail) → Sound n → accept n r ≡ Some m → Accounts m rs t → Accounts n (r ∷ rs) (onto n r t)
describes_more (Layer before left) m r rs t s e d =
    let q = some_cond _ _ m e in
    let a = and_parts _ _ q.0 in
    let b = and_parts _ _ a.1 in
    describes_layer before left r rs t a.0 (ltb-true 0 left b.0) (joined before (nat_abs r.value) b.1) (subst (λ m. Accounts m rs t) (sym q.1) d)
describes_more (Bias shape neuron) m r rs t s e d =
    let q = some_cond _ _ m e in describes_bias shape neuron r rs t q.0 (subst (λ m. Accounts m rs t) (sym q.1) d)
describes_more (Weight shape neuron input) m r rs t s e d =
    let q = some_cond _ _ m e in describes_filled shape neuron input _ _ r rs t s.2 s.0 refl refl q.0 (subst (λ m. Accounts m rs t) (sym q.1) d)

pub carry_ok : (f : Tail → Tail) (x : Result Tail ℕ) (t : Tail) → carry f x ≡ Ok t → (u : Tail) × (x ≡ Ok u) × (t ≡ f u)
carry_ok f (Ok u) t e = (u, refl, cc)
carry_ok f (Err p) t e = absurd (cc)

pub follow_ok : (o : Option Next) (at : ℕ) (k : Next → Result Tail ℕ) (t : Tail) → follow o at k ≡ Ok t → (m : Next) × (o ≡ Some m) × (k m ≡ Ok t)
follow_ok (Some m) at k t e = (m, refl, e)
follow_ok None at k t e = absurd (cc)

abbrev pub nothing : Tail
nothing = record { weights = []; neurons = []; layers = [] }

pub ended_ok : (o : Option ℕ) (at : ℕ) (t : Tail) → ended o at ≡ Ok t → (width : ℕ) × (o ≡ Some width) × (t ≡ nothing)
ended_ok (Some width) at t e = (width, refl, cc)
ended_ok None at t e = absurd (cc)

describes_end_of : (n : Next) (width : ℕ) → last_width n ≡ Some width → Accounts n [] nothing
describes_end_of (Layer before left) width e = (refl, (refl, refl, ap is_some e))
describes_end_of (Bias shape neuron) width e = absurd (cc)
describes_end_of (Weight shape neuron input) width e = absurd (cc)

-- what is accepted is described
pub describes : (rs : List Record) (n : Next) (at : ℕ) (t : Tail) → Sound n → parse n at rs ≡ Ok t → Accounts n rs t
unfolding parse
describes [] n at t s e = let q = ended_ok (last_width n) at t e in subst (λ t. Accounts n [] t) (sym q.2) (describes_end_of n q.0 q.1)
describes (r ∷ rs) n at t s e =
    let q = carry_ok (onto n r) _ t e in
    let p = follow_ok (accept n r) at (λ m. parse m (at + 1) rs) q.0 q.1 in
    subst (λ t. Accounts n (r ∷ rs) t) (sym q.2) (describes_more n p.0 r rs q.0 s p.1 (describes rs p.0 (at + 1) q.0 (sound_more n p.0 r s p.1) p.2))

abbrev tail : List ℤ → List Neuron → List LayerOf → Tail
tail ws ns ls = record { weights = ws; neurons = ns; layers = ls }

-- the first record of what is described, and the rest
pub record Begun (n : Next) (t : Tail) : Type 0 where
  pub head : Record
  pub next : Next
  pub rest : Tail
  pub parts : records_for n t ≡ head ∷ records_for next rest
  pub taken : accept n head ≡ Some next
  pub fits : Fitting next rest
  pub whole : t ≡ onto n head rest

-- or that nothing is
pub record Over (n : Next) (t : Tail) : Type 0 where
  pub none : records_for n t ≡ []
  pub width : ℕ
  pub may : last_width n ≡ Some width
  pub empty : t ≡ nothing

pub flag_back : (a : Activation) → activation_at (flag_of a) ≡ a
flag_back Identity = refl
flag_back Tanh = refl

pub known_back : (a : Activation) → known_activation (flag_of a) ≡ Ok a
known_back Identity = refl
known_back Tanh = refl

flag_low : (a : Activation) → flag_of a ≤ 1
flag_low Identity = omega arith
flag_low Tanh = omega arith

abbrev pub header : LayerOf → Record
header l = record { kind = 1; flag = flag_of l.activation; index = length l.neurons; value = pos l.inputs }

opens : (before : Option ℕ) (left : ℕ) (l : LayerOf) → 0 < left → IfSome before (λ n. l.inputs ≡ n) → Sized l → opened before left (header l) ≡ Some (Bias (record { neurons = length l.neurons; inputs = l.inputs; left = left - 1 }) 0)
opens before left l h c z =
    let f = flag_low l.activation in
    let m = z.some in let n = z.few in let p = z.fed in let q = z.narrow in
    let t : layer_row (header l) ≡ true = grind (arith, nat_tests) in
    let u : (ltb 0 left && joins before l.inputs) ≡ true = and_from _ _ (lt-ltb 0 left h) (joins_on before l.inputs c) in
    cond-true _ _ _ (and_from _ _ t u)

begun_layer : (before : Option ℕ) (left : ℕ) (ws : List ℤ) (ns : List Neuron) (ls : List LayerOf) → Fitting (Layer before left) (tail ws ns ls) → Over (Layer before left) (tail ws ns ls) ⊎ Begun (Layer before left) (tail ws ns ls)
begun_layer (Some width) left ws ns [] f = inl (record { none = refl; width = width; may = refl; empty = rw (f.0, f.1) })
begun_layer None left ws ns [] f = absurd (let e = f.2 in cc)
begun_layer before left ws ns (l ∷ ls) f =
    inr (record {
      head = record { kind = 1; flag = flag_of l.activation; index = length l.neurons; value = pos l.inputs };
      next = Bias (record { neurons = length l.neurons; inputs = l.inputs; left = left - 1 }) 0;
      rest = tail [] l.neurons ls;
      parts = refl;
      taken = opens before left l f.2.0 f.2.1 f.2.2;
      fits = (refl, zero-add (length l.neurons), f.2.2.full, f.2.3);
      whole = rw (f.0, f.1, flag_back l.activation);
    })

begun_bias : (s : Shape) (j : ℕ) (ws : List ℤ) (ns : List Neuron) (ls : List LayerOf) → j < s.neurons → Fitting (Bias s j) (tail ws ns ls) → Begun (Bias s j) (tail ws ns ls)
begun_bias s j ws [] ls h f = absurd (omega (arith, f.1))
begun_bias s j ws (x ∷ ns) ls h f =
    record {
      head = record { kind = 2; flag = 0; index = j; value = x.bias };
      next = Weight s j 0;
      rest = tail x.weights ns ls;
      parts = cons_same refl (append_assoc (weight_records 0 x.weights) (neuron_records (j + 1) ns) (layer_records ls));
      taken = cond-true _ _ _ (row_on 2 j x.bias);
      fits = (omega (arith, f.2.0), omega (arith, f.1), f.2.1, f.3);
      whole = rw f.0;
    }

filled_on : (s : Shape) (j i : ℕ) (b c : Bool) (ws : List ℤ) (ns : List Neuron) (ls : List LayerOf) → ltb (i + 1) s.inputs ≡ b → ltb (j + 1) s.neurons ≡ c → i + 1 + length ws ≡ s.inputs → j + 1 + length ns ≡ s.neurons → AllByRecursion (λ n. length n.weights ≡ s.inputs) ns → Chain (Some s.neurons) s.left ls → (weight_records (i + 1) ws ++ (neuron_records (j + 1) ns ++ layer_records ls) ≡ records_for (cond b (Weight s j (i + 1)) (cond c (Bias s (j + 1)) (Layer (Some s.neurons) s.left))) (tail ws ns ls)) × Fitting (cond b (Weight s j (i + 1)) (cond c (Bias s (j + 1)) (Layer (Some s.neurons) s.left))) (tail ws ns ls)
filled_on s j i true c ws ns ls p q h k a d = (refl, (h, k, a, d))
filled_on s j i false true [] ns ls p q h k a d = (refl, (refl, k, a, d))
filled_on s j i false true (w ∷ ws) ns ls p q h k a d = absurd (omega (arith, ltb-false (i + 1) s.inputs p))
filled_on s j i false false [] [] ls p q h k a d = (refl, (refl, refl, d))
filled_on s j i false false [] (n ∷ ns) ls p q h k a d = absurd (omega (arith, ltb-false (j + 1) s.neurons q))
filled_on s j i false false (w ∷ ws) ns ls p q h k a d = absurd (omega (arith, ltb-false (i + 1) s.inputs p))

begun_weight : (s : Shape) (j i : ℕ) (ws : List ℤ) (ns : List Neuron) (ls : List LayerOf) → i < s.inputs → Fitting (Weight s j i) (tail ws ns ls) → Begun (Weight s j i) (tail ws ns ls)
begun_weight s j i [] ns ls h f = absurd (omega (arith, f.0))
begun_weight s j i (w ∷ ws) ns ls h f =
    let q = filled_on s j i _ _ ws ns ls refl refl (omega (arith, f.0)) f.1 f.2 f.3 in
    record {
      head = record { kind = 3; flag = 0; index = i; value = w };
      next = filled s j i;
      rest = tail ws ns ls;
      parts = cons_same refl q.0;
      taken = cond-true _ _ _ (row_on 3 i w);
      fits = q.1;
      whole = refl;
    }

pub begun : (n : Next) (t : Tail) → Sound n → Fitting n t → Over n t ⊎ Begun n t
begun (Layer before left) t s f = begun_layer before left t.weights t.neurons t.layers f
begun (Bias shape neuron) t s f = inr (begun_bias shape neuron t.weights t.neurons t.layers s.0 f)
begun (Weight shape neuron input) t s f = inr (begun_weight shape neuron input t.weights t.neurons t.layers s.2 f)

accepted_none : (n : Next) (at : ℕ) (t : Tail) → [] ≡ records_for n t → Over n t ⊎ Begun n t → parse n at [] ≡ Ok t
unfolding parse
accepted_none n at t p (inl o) = rw o.may (ap Ok (sym o.empty))
accepted_none n at t p (inr b) = absurd (let a = b.parts in cc)

accepted_more : (r : Record) (rs : List Record) (n : Next) (at : ℕ) (t : Tail) → Sound n → r ∷ rs ≡ records_for n t → ((m : Next) (k : ℕ) (u : Tail) → Sound m → rs ≡ records_for m u → Fitting m u → parse m k rs ≡ Ok u) → Over n t ⊎ Begun n t → parse n at (r ∷ rs) ≡ Ok t
unfolding parse
accepted_more r rs n at t s p go (inl o) = absurd (let a = o.none in cc)
accepted_more r rs n at t s p go (inr b) =
    let a = b.parts in
    let k : r ≡ b.head = cc in
    let e : accept n r ≡ Some b.next = rw k b.taken in
    let i = go b.next (at + 1) b.rest (sound_more n b.next r s e) (cc) b.fits in
    rw (e, i) (ap Ok (rw k (sym b.whole)))

-- what is described is accepted
pub accepted : (rs : List Record) (n : Next) (at : ℕ) (t : Tail) → Sound n → rs ≡ records_for n t → Fitting n t → parse n at rs ≡ Ok t
accepted [] n at t s p f = accepted_none n at t p (begun n t s f)
accepted (r ∷ rs) n at t s p f = accepted_more r rs n at t s p (accepted rs) (begun n t s f)
