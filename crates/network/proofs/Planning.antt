-- The faults of a plan, and that each is given where it is due.
use Rattle.std.proofs.Common.{◌≡◌, ℕ, zero, suc, ◌+◌, ◌<◌, ◌≤◌, Bool, true, false, cond, ◌⊎◌, List, [], ◌∷◌, length, take, None, Ok, Err, Result, sym, refl, ap, ◌∙◌, subst, inl, inr, arith}
use Rattle.std.proofs.lemmas.Bool.{cases_order}
use Rattle.network.specs.declared.record.Record.{Record}
use Rattle.network.specs.declared.next.Next.TheVariants.{Layer}
use Rattle.network.specs.declared.faults.NetworkFault.{NetworkFault}
use Rattle.network.specs.declared.faults.NetworkFault.TheVariants.{PlanLength, PlanRecord}
use Rattle.network.specs.Plan.{LayerOf, Tail, records, parse, described, has_bad_length, plan_of}
use Rattle.network.specs.Network.{layer_records, Shaped, BreaksAt}
use Rattle.network.proofs.Parts.{no}
use Rattle.network.proofs.Law.{Chain, describes}
use Rattle.network.proofs.Shapes.{chain_shaped}
use Rattle.network.proofs.Encoding.{described_inv, plan_inv}
use Rattle.network.proofs.Refusing.{plan_breaks}

-- what an accepted plan's records are
pub plan_shaped : (bs : List ℕ) (hs : List LayerOf) → plan_of bs ≡ Ok hs → Shaped hs × (records bs ≡ layer_records hs)
unfolding plan_of
plan_shaped bs hs e =
    let p = plan_inv (has_bad_length (length bs)) (described (parse (Layer None 4) 0 (records bs))) hs e in
    let q = described_inv (parse (Layer None 4) 0 (records bs)) hs p.1 in
    let d = describes (records bs) (Layer None 4) 0 q.0 tt q.1 in
    (chain_shaped hs (subst (λ l. Chain None 4 l) q.2 d.1.2), d.0 ∙ ap layer_records q.2)

fault_by : (b : Bool) (x : Result Tail ℕ) (why : NetworkFault) → cond b (Err PlanLength) (described x) ≡ Err why → ((b ≡ true) × (why ≡ PlanLength)) ⊎ ((p : ℕ) × (b ≡ false) × (why ≡ PlanRecord p))
fault_by true x why e = inl (refl, cc)
fault_by false (Ok t) why e = no (cc)
fault_by false (Err p) why e = inr (p, refl, cc)

pub plan_fault : (bs : List ℕ) (why : NetworkFault) → plan_of bs ≡ Err why → ((has_bad_length (length bs) ≡ true) × (why ≡ PlanLength)) ⊎ ((p : ℕ) × (has_bad_length (length bs) ≡ false) × (why ≡ PlanRecord p))
unfolding plan_of
plan_fault bs why e = fault_by (has_bad_length (length bs)) (parse (Layer None 4) 0 (records bs)) why e

fault_only : (b : Bool) (why : NetworkFault) → ((b ≡ true) × (why ≡ PlanLength)) ⊎ ((p : ℕ) × (b ≡ false) × (why ≡ PlanRecord p)) → (why ≡ PlanLength) ⊎ ((p : ℕ) × (why ≡ PlanRecord p))
fault_only b why (inl h) = inl h.1
fault_only b why (inr h) = inr (h.0, h.2)

pub plan_only : (bs : List ℕ) (why : NetworkFault) → plan_of bs ≡ Err why → (why ≡ PlanLength) ⊎ ((p : ℕ) × (why ≡ PlanRecord p))
plan_only bs why e = fault_only (has_bad_length (length bs)) why (plan_fault bs why e)

long_by : (b : Bool) → ((b ≡ true) × (◌≡◌ {A = NetworkFault} PlanLength PlanLength)) ⊎ ((p : ℕ) × (b ≡ false) × (PlanLength ≡ PlanRecord p)) → b ≡ true
long_by b (inl h) = h.0
long_by b (inr h) = let k = h.2 in no (cc)

pub plan_long : (bs : List ℕ) → plan_of bs ≡ Err PlanLength → has_bad_length (length bs) ≡ true
plan_long bs e = long_by (has_bad_length (length bs)) (plan_fault bs PlanLength e)

pub long_plan : (bs : List ℕ) → has_bad_length (length bs) ≡ true → plan_of bs ≡ Err PlanLength
unfolding plan_of
long_plan bs b = rw b

-- a record breaks a plan at one place only
take_less : {X : Type 0} (m k : ℕ) (xs ys : List X) → m ≤ k → take k xs ≡ take k ys → take m xs ≡ take m ys
take_less zero k xs ys h e = refl
take_less (suc m) zero xs ys h e = absurd (omega arith)
take_less (suc m) (suc k) [] [] h e = refl
take_less (suc m) (suc k) [] (y ∷ ys) h e = no (cc)
take_less (suc m) (suc k) (x ∷ xs) [] h e = no (cc)
take_less (suc m) (suc k) (x ∷ xs) (y ∷ ys) h e =
    let a : x ≡ y = cc in
    let b = take_less m k xs ys (omega arith) (cc) in
    cc

not_before : (p q : ℕ) (rs : List Record) → BreaksAt p rs → BreaksAt q rs → p < q → ⊥
not_before p q rs a b h =
    let ls = b.before.0 in let g = b.before.1 in
    a.broken ls (g.0, take_less (p + 1) q (layer_records ls) rs (omega arith) g.1)

one_place : (p q : ℕ) (rs : List Record) → BreaksAt p rs → BreaksAt q rs → (p ≡ q) ⊎ ((p < q) ⊎ (q < p)) → p ≡ q
one_place p q rs a b (inl h) = h
one_place p q rs a b (inr (inl h)) = absurd (not_before p q rs a b h)
one_place p q rs a b (inr (inr h)) = absurd (not_before q p rs b a h)

not_whole : (p : ℕ) (rs : List Record) (hs : List LayerOf) → BreaksAt p rs → Shaped hs → rs ≡ layer_records hs → ⊥
not_whole p rs hs a s e = a.broken hs (s, ap (take (p + 1)) (sym e))

same_place : (bs : List ℕ) (p : ℕ) (why : NetworkFault) → has_bad_length (length bs) ≡ false → BreaksAt p (records bs) → plan_of bs ≡ Err why → ((has_bad_length (length bs) ≡ true) × (why ≡ PlanLength)) ⊎ ((q : ℕ) × (has_bad_length (length bs) ≡ false) × (why ≡ PlanRecord q)) → why ≡ PlanRecord p
same_place bs p why b a e (inl h) = let k = h.0 in no (cc)
same_place bs p why b a e (inr h) =
    let k = one_place h.0 p (records bs) (plan_breaks bs h.0 (e ∙ ap Err h.2)) a (cases_order h.0 p) in
    h.2 ∙ ap PlanRecord k

record_by : (bs : List ℕ) (p : ℕ) (x : Result (List LayerOf) NetworkFault) → has_bad_length (length bs) ≡ false → BreaksAt p (records bs) → plan_of bs ≡ x → x ≡ Err (PlanRecord p)
record_by bs p (Ok hs) b a e = let q = plan_shaped bs hs e in absurd (not_whole p (records bs) hs a q.0 q.1)
record_by bs p (Err why) b a e = ap Err (same_place bs p why b a e (plan_fault bs why e))

pub breaks_plan : (bs : List ℕ) (p : ℕ) → has_bad_length (length bs) ≡ false → BreaksAt p (records bs) → plan_of bs ≡ Err (PlanRecord p)
breaks_plan bs p b a = record_by bs p (plan_of bs) b a refl
