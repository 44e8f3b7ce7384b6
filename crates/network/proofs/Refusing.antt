-- A plan that is refused at a record: that record is the first that breaks it, or that is missing.
use Rattle.std.proofs.Common.{◌≡◌, ℕ, zero, suc, ◌+◌, ◌-◌, ◌<◌, ◌≤◌, Bool, true, false, cond, ◌⊎◌, List, [], ◌∷◌, length, take, replicate, pos, Some, None, Ok, Err, Option, Result, sym, refl, ap, ◌∙◌, subst, inl, inr, add-one, arith}
use Rattle.std.specs.List.{AllByRecursion}
use Rattle.std.proofs.lemmas.List.{length-replicate}
use Rattle.std.proofs.lemmas.Bool.Decides.{nat_tests}
use Rattle.network.specs.declared.record.Record.{Record}
use Rattle.network.specs.declared.next.Next.{Next}
use Rattle.network.specs.declared.next.Next.TheVariants.{Layer, Bias, Weight}
use Rattle.network.specs.declared.activation.Activation.TheVariants.{Identity}
use Rattle.network.specs.declared.faults.NetworkFault.{NetworkFault}
use Rattle.network.specs.declared.faults.NetworkFault.TheVariants.{PlanLength, PlanRecord}
use Rattle.network.specs.Neuron.{Neuron}
use Rattle.network.specs.Plan.{records, accept, last_width, LayerOf, Tail, onto, carry, follow, ended, parse, described, has_bad_length, plan_of}
use Rattle.network.specs.Network.{BreaksAt}
use Rattle.network.specs.Walk.{Sound}
use Rattle.network.proofs.Walking.{sound_more}
use Rattle.network.proofs.Shapes.{chain_shaped, shaped_chain}
use Rattle.network.proofs.Law.{records_for, Fitting, Over, Begun, begun, describes_more}

-- a layer may still come, or the plan may end
abbrev Live : Next → Type 0
Live (Layer (Some width) left) = Unit {0}
Live (Layer None left) = 0 < left
Live (Bias shape neuron) = Unit {0}
Live (Weight shape neuron input) = Unit {0}

live_more : (n m : Next) (r : Record) → Sound n → accept n r ≡ Some m → Live m
live_more (Layer before left) m r s e = grind (arith, nat_tests)
live_more (Bias shape neuron) m r s e = grind (arith, nat_tests)
live_more (Weight shape neuron input) m r s e = grind (arith, nat_tests)

abbrev blank : ℕ → Neuron
blank inputs = record { bias = pos 0; weights = replicate inputs (pos 0) }

all_blank : (inputs k : ℕ) → AllByRecursion (λ n. length n.weights ≡ inputs) (replicate k (blank inputs))
all_blank inputs zero = tt
all_blank inputs (suc k) = (length-replicate inputs (pos 0), all_blank inputs k)

-- some network goes on from here
filling : (n : Next) → Sound n → Live n → (t : Tail) × Fitting n t
filling (Layer (Some width) left) s h = (record { weights = []; neurons = []; layers = [] }, (refl, refl, refl))
filling (Layer None left) s h = (
  record { weights = []; neurons = []; layers = (record { activation = Identity; inputs = 1; neurons = blank 1 ∷ [] }) ∷ [] },
  (refl, refl, (h, tt, record { some = omega arith; few = omega arith; fed = omega arith; narrow = omega arith; full = (refl, tt) }, refl)),
)
filling (Bias shape neuron) s h = (
  record { weights = []; neurons = replicate (shape.neurons - neuron) (blank shape.inputs); layers = [] },
  (refl, omega (arith, length-replicate (shape.neurons - neuron) (blank shape.inputs), s.0), all_blank shape.inputs _, refl),
)
filling (Weight shape neuron input) s h = (
  record { weights = replicate (shape.inputs - input) (pos 0); neurons = replicate (shape.neurons - (neuron + 1)) (blank shape.inputs); layers = [] },
  (omega (arith, length-replicate (shape.inputs - input) (pos 0), s.2), omega (arith, length-replicate (shape.neurons - (neuron + 1)) (blank shape.inputs), s.0), all_blank shape.inputs _, refl),
)

-- the walk from n breaks after k records
record Breaks (k : ℕ) (n : Next) (rs : List Record) : Type 0 where
  within : k ≤ length rs
  tail : Tail
  fits : Fitting n tail
  before : take k (records_for n tail) ≡ take k rs
  broken : (t : Tail) → Fitting n t → take (suc k) (records_for n t) ≡ take (suc k) rs → ⊥

-- no record is left
stuck_none : (n : Next) (t : Tail) → last_width n ≡ None → take 1 (records_for n t) ≡ [] → Over n t ⊎ Begun n t → ⊥
stuck_none n t e p (inl o) = let a = o.may in absurd (cc)
stuck_none n t e p (inr b) = let a = ap (take 1) b.parts in absurd (cc)

-- the record is not one that n takes
stuck_at : (n : Next) (t : Tail) (r : Record) (rs : List Record) → accept n r ≡ None → take 1 (records_for n t) ≡ r ∷ [] → Over n t ⊎ Begun n t → ⊥
stuck_at n t r rs e p (inl o) = let a = ap (take 1) o.none in absurd (cc)
stuck_at n t r rs e p (inr b) =
    let a = ap (take 1) b.parts in
    let k : r ≡ b.head = cc in
    let c = b.taken in
    absurd (cc)

-- the break comes later
stuck_later : (k : ℕ) (n m : Next) (t : Tail) (r : Record) (rs : List Record) → accept n r ≡ Some m → Breaks k m rs → take (suc (suc k)) (records_for n t) ≡ r ∷ take (suc k) rs → Over n t ⊎ Begun n t → ⊥
stuck_later k n m t r rs e i p (inl o) = let a = ap (take (suc (suc k))) o.none in absurd (cc)
stuck_later k n m t r rs e i p (inr b) =
    let a = ap (take (suc (suc k))) b.parts in
    let h : r ≡ b.head = cc in
    let c = b.taken in
    let g : b.next ≡ m = cc in
    let q : take (suc k) (records_for b.next b.rest) ≡ take (suc k) rs = cc in
    i.broken b.rest (subst (λ x. Fitting x b.rest) g b.fits) (subst (λ x. take (suc k) (records_for x b.rest) ≡ take (suc k) rs) g q)

ended_err : (o : Option ℕ) (at p : ℕ) → ended o at ≡ Err p → (o ≡ None) × (p ≡ at)
ended_err (Some width) at p e = absurd (cc)
ended_err None at p e = (refl, cc)

carry_err : (f : Tail → Tail) (x : Result Tail ℕ) (p : ℕ) → carry f x ≡ Err p → x ≡ Err p
carry_err f (Ok t) p e = absurd (cc)
carry_err f (Err q) p e = cc

breaks_by : (o : Option Next) (r : Record) (rs : List Record) (n : Next) (at p : ℕ) → Sound n → Live n → accept n r ≡ o → follow o at (λ m. parse m (at + 1) rs) ≡ Err p → ((m : Next) → Sound m → Live m → parse m (at + 1) rs ≡ Err p → (k : ℕ) × (p ≡ at + 1 + k) × Breaks k m rs) → (k : ℕ) × (p ≡ at + k) × Breaks k n (r ∷ rs)
breaks_by None r rs n at p s l a e go =
    let f = filling n s l in
    let q : p ≡ at = cc in
    (0, omega arith, record { within = omega arith; tail = f.0; fits = f.1; before = refl; broken = λ t g h. stuck_at n t r rs a h (begun n t s g) })
breaks_by (Some m) r rs n at p s l a e go =
    let i = go m (sound_more n m r s a) (live_more n m r s a) e in
    let b = i.2 in
    let d = describes_more n m r (records_for m b.tail) b.tail s a (refl, b.fits) in
    let w = b.within in (
      suc i.0,
      omega (arith, i.1),
      record {
        within = omega arith;
        tail = onto n r b.tail;
        fits = d.1;
        before = ap (take (suc i.0)) (sym d.0) ∙ ap (λ x. r ∷ x) b.before;
        broken = λ t g h. stuck_later i.0 n m t r rs a b h (begun n t s g);
      },
    )

-- each walk that is refused breaks there
breaks : (rs : List Record) (n : Next) (at p : ℕ) → Sound n → Live n → parse n at rs ≡ Err p → (k : ℕ) × (p ≡ at + k) × Breaks k n rs
unfolding parse
breaks [] n at p s l e =
    let q = ended_err (last_width n) at p e in
    let f = filling n s l in
    (0, omega (arith, q.1), record { within = omega arith; tail = f.0; fits = f.1; before = refl; broken = λ t g h. stuck_none n t q.0 h (begun n t s g) })
breaks (r ∷ rs) n at p s l e =
    breaks_by (accept n r) r rs n at p s l refl (carry_err (onto n r) _ p e) (λ m. breaks rs m (at + 1) p)

described_err : (x : Result Tail ℕ) (p : ℕ) → described x ≡ Err (PlanRecord p) → x ≡ Err p
described_err (Ok t) p e = absurd (cc)
described_err (Err q) p e = cc

plan_err : (b : Bool) (x : Result (List LayerOf) NetworkFault) (p : ℕ) → cond b (Err PlanLength) x ≡ Err (PlanRecord p) → x ≡ Err (PlanRecord p)
plan_err true x p e = absurd (cc)
plan_err false x p e = e

pub plan_breaks : (bs : List ℕ) (p : ℕ) → plan_of bs ≡ Err (PlanRecord p) → BreaksAt p (records bs)
unfolding plan_of
plan_breaks bs p e =
    let x = described_err (parse (Layer None 4) 0 (records bs)) p (plan_err (has_bad_length (length bs)) (described (parse (Layer None 4) 0 (records bs))) p e) in
    let i = breaks (records bs) (Layer None 4) 0 p tt (omega arith) x in
    let b = i.2 in
    let k : i.0 ≡ p = omega (arith, i.1) in
    record {
      within = omega (arith, b.within);
      before = (b.tail.layers, (chain_shaped b.tail.layers b.fits.2, rw k at b.before));
      broken = λ ls g. b.broken (record { weights = []; neurons = []; layers = ls }) (refl, refl, shaped_chain ls g.0) (rw (k, ← add-one) g.1);
    }
