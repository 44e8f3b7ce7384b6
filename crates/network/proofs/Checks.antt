-- The checks of a run, one after another.
use Rattle.std.proofs.Common.{◌≡◌, ℕ, ◌+◌, ◌≤◌, Bool, true, false, cond, eqb, ltb, ◌⊎◌, List, length, ℤ, Ok, Err, Result, sym, refl, ap, ◌∙◌, subst, inl, inr, zero-add, arith}
use Rattle.std.proofs.lemmas.Bool.{eqb-true, eqb-false, eq-eqb, ne_eqb, lt-ltb, ltb-true, ltb-false, le-ltb}
use Rattle.cordic.specs.Outcome.{State, went, stopped}
use Rattle.network.specs.Neuron.{Working}
use Rattle.network.specs.Plan.{LayerOf, plan_of, has_bad_length}
use Rattle.network.specs.Run.{Feed, layers, words, entrance, exits, sampled, checked, recurrence}
use Rattle.network.specs.Refusals.{Explained, Barred as Ranked}
use Rattle.network.specs.declared.faults.Located.{Located}
use Rattle.network.specs.declared.faults.NetworkFault.{NetworkFault}
use Rattle.network.specs.declared.faults.NetworkFault.TheVariants.{NoSample, SampleCount, PlanLength, PlanRecord, Arithmetic, Places}
use Rattle.network.proofs.Parts.{no}
use Rattle.network.proofs.Refusing.{plan_breaks}
use Rattle.network.proofs.Planning.{plan_fault, long_plan, breaks_plan}
use Rattle.network.proofs.Sampling.{Missing, words_missing, missing_words}
use Rattle.network.proofs.Layering.{layers_stop}

abbrev pub Checking : NetworkFault → Type 0
Checking why = (l : Located) → why ≡ Arithmetic l → ⊥

-- all checks passed, with the network hs and the words xs, so that the run is that of the layers
pub record Entered (f : Feed) (hs : List LayerOf) (xs : List ℤ) : Type 0 where
  pub plan : plan_of f.plan ≡ Ok hs
  pub samples : words 0 f.samples ≡ Ok xs
  pub count : length f.samples ≡ entrance hs
  pub room : exits hs ≤ length f.places
  pub goes : recurrence f ≡ layers f.rule 0 hs xs f.state

-- a run is refused by a check, or goes into the layers
pub data Outcome (f : Feed) : Type 0 where
  barred : (why : NetworkFault) → Ranked f why → recurrence f ≡ stopped why 0 f.state → Outcome f
  enters : (hs : List LayerOf) (xs : List ℤ) → Entered f hs xs → Outcome f

by_samples : (f : Feed) (hs : List LayerOf) (x : Result (List ℤ) ℕ) → plan_of f.plan ≡ Ok hs → exits hs ≤ length f.places → length f.samples ≡ entrance hs → words 0 f.samples ≡ x → recurrence f ≡ sampled f hs x → Outcome f
by_samples f hs (Ok xs) p r c w e = enters hs xs (record { plan = p; samples = w; count = c; room = r; goes = e })
by_samples f hs (Err q) p r c w e =
    let k = words_missing 0 f.samples q w in
    let z : k.0 ≡ q = omega (arith, k.1) in
    let m = subst (λ i. Missing i f.samples) z k.2 in
    barred (NoSample q) (hs, p, r, c, m.within, m.none, m.first) e

by_count : (f : Feed) (hs : List LayerOf) (b : Bool) → plan_of f.plan ≡ Ok hs → exits hs ≤ length f.places → eqb (length f.samples) (entrance hs) ≡ b → recurrence f ≡ cond b (sampled f hs (words 0 f.samples)) (stopped SampleCount 0 f.state) → Outcome f
by_count f hs true p r b e = by_samples f hs (words 0 f.samples) p r (eqb-true (length f.samples) (entrance hs) b) refl e
by_count f hs false p r b e = barred SampleCount (hs, p, r, eqb-false (length f.samples) (entrance hs) b) e

by_places : (f : Feed) (hs : List LayerOf) (b : Bool) → plan_of f.plan ≡ Ok hs → ltb (length f.places) (exits hs) ≡ b → recurrence f ≡ cond b (stopped Places 0 f.state) (cond (eqb (length f.samples) (entrance hs)) (sampled f hs (words 0 f.samples)) (stopped SampleCount 0 f.state)) → Outcome f
by_places f hs true p b e = barred Places (hs, p, ltb-true (length f.places) (exits hs) b) e
by_places f hs false p b e = by_count f hs (eqb (length f.samples) (entrance hs)) p (ltb-false (length f.places) (exits hs) b) refl e

by_fault : (f : Feed) (why : NetworkFault) → plan_of f.plan ≡ Err why → recurrence f ≡ stopped why 0 f.state → ((has_bad_length (length f.plan) ≡ true) × (why ≡ PlanLength)) ⊎ ((p : ℕ) × (has_bad_length (length f.plan) ≡ false) × (why ≡ PlanRecord p)) → Outcome f
by_fault f why p e (inl h) = barred PlanLength h.0 (e ∙ ap (λ y. stopped y 0 f.state) h.1)
by_fault f why p e (inr h) = barred (PlanRecord h.0) (h.1, plan_breaks f.plan h.0 (p ∙ ap Err h.2)) (e ∙ ap (λ y. stopped y 0 f.state) h.2)

by_plan : (f : Feed) (x : Result (List LayerOf) NetworkFault) → plan_of f.plan ≡ x → recurrence f ≡ checked f x → Outcome f
by_plan f (Ok hs) p e = by_places f hs (ltb (length f.places) (exits hs)) p refl e
by_plan f (Err why) p e = by_fault f why p e (plan_fault f.plan why p)

pub outcome : (f : Feed) → Outcome f
unfolding recurrence
outcome f = by_plan f (plan_of f.plan) refl refl

pub explained_by : (f : Feed) (why : NetworkFault) (s : State) → Ranked f why → Explained f why s
explained_by f PlanLength s r = (refl, r)
explained_by f (PlanRecord p) s r = (refl, r)
explained_by f Places s r = (refl, r)
explained_by f SampleCount s r = (refl, r)
explained_by f (NoSample p) s r = (refl, r)
explained_by f (Arithmetic l) s r = absurd r

-- what a refusal by a check says
pub record Barred (f : Feed) (why : NetworkFault) (n : ℕ) (s : State) : Type 0 where
  pub rank : Ranked f why
  pub none : n ≡ 0
  pub still : s ≡ f.state

barred_by : (f : Feed) (why : NetworkFault) (n : ℕ) (s : State) → recurrence f ≡ stopped why n s → Checking why → Outcome f → Barred f why n s
barred_by f why n s e h (barred y r d) =
    let k : y ≡ why = cc in
    record { rank = subst (λ z. Ranked f z) k r; none = cc; still = cc }
barred_by f why n s e h (enters hs xs t) =
    let a = layers_stop f.rule 0 hs xs f.state why n s (sym t.goes ∙ e) in
    absurd (h a.0 a.1)

pub barring : (f : Feed) (why : NetworkFault) (n : ℕ) (s : State) → recurrence f ≡ stopped why n s → Checking why → Barred f why n s
barring f why n s e h = barred_by f why n s e h (outcome f)

not_ranked : (f : Feed) (why : NetworkFault) (l : Located) → why ≡ Arithmetic l → Ranked f why → ⊥
not_ranked f why l e r = subst (λ z. Ranked f z) e r

inner_by : (f : Feed) (l : Located) (n : ℕ) (s : State) → recurrence f ≡ stopped (Arithmetic l) n s → Outcome f → (hs : List LayerOf) × (xs : List ℤ) × Entered f hs xs × (layers f.rule 0 hs xs f.state ≡ stopped (Arithmetic l) n s)
inner_by f l n s e (barred y r d) = absurd (not_ranked f y l (cc) r)
inner_by f l n s e (enters hs xs t) = (hs, xs, t, sym t.goes ∙ e)

pub inner : (f : Feed) (l : Located) (n : ℕ) (s : State) → recurrence f ≡ stopped (Arithmetic l) n s → (hs : List LayerOf) × (xs : List ℤ) × Entered f hs xs × (layers f.rule 0 hs xs f.state ≡ stopped (Arithmetic l) n s)
inner f l n s e = inner_by f l n s e (outcome f)

went_by : (f : Feed) (w : List (List Working)) (n : ℕ) (s : State) → recurrence f ≡ went w n s → Outcome f → (hs : List LayerOf) × (xs : List ℤ) × Entered f hs xs
went_by f w n s e (barred y r d) = no (cc)
went_by f w n s e (enters hs xs t) = (hs, xs, t)

pub entering : (f : Feed) (w : List (List Working)) (n : ℕ) (s : State) → recurrence f ≡ went w n s → (hs : List LayerOf) × (xs : List ℤ) × Entered f hs xs
entering f w n s e = went_by f w n s e (outcome f)

-- and each check refuses where it is due
pub ranked_stops : (f : Feed) (why : NetworkFault) → Ranked f why → recurrence f ≡ stopped why 0 f.state
unfolding recurrence
ranked_stops f PlanLength r = ap (checked f) (long_plan f.plan r)
ranked_stops f (PlanRecord p) r = ap (checked f) (breaks_plan f.plan p r.0 r.1)
ranked_stops f Places r =
    let b = lt-ltb (length f.places) (exits r.0) r.2 in
    ap (checked f) r.1 ∙ rw b
ranked_stops f SampleCount r =
    let a = le-ltb (length f.places) (exits r.0) r.2 in
    let b = ne_eqb (length f.samples) (entrance r.0) r.3 in
    ap (checked f) r.1 ∙ rw (a, b)
ranked_stops f (NoSample p) r =
    let a = le-ltb (length f.places) (exits r.0) r.2 in
    let b = eq-eqb (length f.samples) (entrance r.0) r.3 in
    let m = missing_words 0 p f.samples (record { within = r.4; none = r.5; first = r.6 }) in
    let z : 0 + p ≡ p = zero-add p in
    ap (checked f) r.1 ∙ rw (a, b, m, z)
ranked_stops f (Arithmetic l) r = absurd r
