-- The walk over a plan's records: where it is refused, and where it ends.
use Rattle.std.proofs.Common.{◌≡◌, ℕ, ◌+◌, ◌/◌, ◌<◌, ◌≤◌, Bool, true, false, cond, ltb, List, [], ◌∷◌, length, Some, None, Ok, Err, Option, Result, MatchResult, ok_or, sym, refl, ap, ◌∙◌, subst, arith}
use Rattle.std.proofs.lemmas.Bool.Decides.{nat_tests}
use Rattle.network.specs.Plan.{Tail, LayerOf, records, accept, last_width, onto, carry, follow, parse, described, has_bad_length, plan_of}
use Rattle.network.specs.Network.{Describes, layer_records}
use Rattle.network.specs.Run.{exits}
use Rattle.network.specs.Walk.{given, layers_of, Sound}
use Rattle.network.specs.declared.record.Record.{Record}
use Rattle.network.specs.declared.next.Shape.{Shape}
use Rattle.network.specs.declared.next.Next.{Next}
use Rattle.network.specs.declared.next.Next.TheVariants.{Layer, Bias, Weight}
use Rattle.network.specs.declared.faults.NetworkFault.{NetworkFault}
use Rattle.network.specs.declared.faults.NetworkFault.TheVariants.{PlanRecord}
use Rattle.network.proofs.Bytes.{records_none}
use Rattle.network.proofs.Encoding.{describes_records}
use Rattle.network.proofs.Law.{Fitting, describes, some_cond, carry_ok, follow_ok, ended_ok, nothing}
use Rattle.network.proofs.Walking.{sound_more}

-- where a plan is refused, if it is
abbrev pub refusal : Result Tail ℕ → Option ℕ
refusal (Ok t) = None
refusal (Err p) = Some p

refusal_carry : (f : Tail → Tail) (x : Result Tail ℕ) → refusal (carry f x) ≡ refusal x
refusal_carry f (Ok t) = refl
refusal_carry f (Err p) = refl

pub walk_more : (n m : Next) (at : ℕ) (r : Record) (rs : List Record) → accept n r ≡ Some m → refusal (parse n at (r ∷ rs)) ≡ refusal (parse m (at + 1) rs)
unfolding parse
walk_more n m at r rs e = refusal_carry (onto n r) (follow (accept n r) at (λ m. parse m (at + 1) rs)) ∙ ap (λ o. refusal (follow o at (λ m. parse m (at + 1) rs))) e

pub walk_stop : (n : Next) (at : ℕ) (r : Record) (rs : List Record) → accept n r ≡ None → refusal (parse n at (r ∷ rs)) ≡ Some at
unfolding parse
walk_stop n at r rs e = refusal_carry (onto n r) (follow (accept n r) at (λ m. parse m (at + 1) rs)) ∙ ap (λ o. refusal (follow o at (λ m. parse m (at + 1) rs))) e

judged_err : (x : Result Tail ℕ) (p : ℕ) → refusal x ≡ Some p → described x ≡ Err (PlanRecord p)
judged_err (Ok t) p e = cc
judged_err (Err q) p e = cc

judged_ok : (x : Result Tail ℕ) → refusal x ≡ None → described x ≡ Ok (given (described x))
judged_ok (Ok t) e = refl
judged_ok (Err q) e = cc

pub plan_refused : (bs : List ℕ) (p : ℕ) → has_bad_length (length bs) ≡ false → refusal (parse (Layer None 4) 0 (records bs)) ≡ Some p → plan_of bs ≡ Err (PlanRecord p)
unfolding plan_of
plan_refused bs p b e = rw b (judged_err (parse (Layer None 4) 0 (records bs)) p e)

pub plan_accepted : (bs : List ℕ) → has_bad_length (length bs) ≡ false → refusal (parse (Layer None 4) 0 (records bs)) ≡ None → plan_of bs ≡ Ok (layers_of bs)
unfolding plan_of
plan_accepted bs b e = rw b (judged_ok (parse (Layer None 4) 0 (records bs)) e)

-- ---- where the walk over an accepted plan ends: after a layer as wide as the last

abbrev end_after : Option Next → Next → (Next → Next) → Next
end_after (Some m) n go = go m
end_after None n go = n

abbrev pub end_of : Next → List Record → Next
end_of n [] = n
end_of n (r ∷ rs) = end_after (accept n r) n (λ m. end_of m rs)

pub end_more : (n m : Next) (r : Record) (rs : List Record) → accept n r ≡ Some m → end_of n (r ∷ rs) ≡ end_of m rs
end_more n m r rs e = ap (λ o. end_after o n (λ m. end_of m rs)) e

-- the neurons of the last layer, or `before` where there is none
abbrev last_of : Option ℕ → List LayerOf → Option ℕ
last_of before [] = before
last_of before (l ∷ ls) = last_of (Some (length l.neurons)) ls

last_exits : (l : LayerOf) (ls : List LayerOf) → last_of (Some (length l.neurons)) ls ≡ Some (exits (l ∷ ls))
last_exits l [] = refl
last_exits l (k ∷ ks) = last_exits k ks

exits_are : (ls : List LayerOf) (width : ℕ) → last_of None ls ≡ Some width → width ≡ exits ls
exits_are [] width e = absurd (cc)
exits_are (l ∷ ls) width e = let k = last_exits l ls in cc

abbrev width_from : Next → Tail → Option ℕ
width_from (Layer prior left) t = last_of prior t.layers
width_from (Bias shape neuron) t = last_of (Some shape.neurons) t.layers
width_from (Weight shape neuron input) t = last_of (Some shape.neurons) t.layers

width_filled : (s : Shape) (j i : ℕ) (b c : Bool) (t : Tail) → width_from (cond b (Weight s j (i + 1)) (cond c (Bias s (j + 1)) (Layer (Some s.neurons) s.left))) t ≡ last_of (Some s.neurons) t.layers
width_filled s j i true c t = refl
width_filled s j i false true t = refl
width_filled s j i false false t = refl

width_more : (n m : Next) (r : Record) (t : Tail) → accept n r ≡ Some m → Fitting m t → width_from m t ≡ width_from n (onto n r t)
width_more (Layer prior left) m r t e f =
    let q = some_cond _ _ m e in
    let g = subst (λ m. Fitting m t) (sym q.1) f in
    ap (λ m. width_from m t) (sym q.1) ∙ ap (λ k. last_of (Some k) t.layers) (omega (arith, g.1))
width_more (Bias shape neuron) m r t e f = let q = some_cond _ _ m e in ap (λ m. width_from m t) (sym q.1)
width_more (Weight shape neuron input) m r t e f =
    let q = some_cond _ _ m e in
    ap (λ m. width_from m t) (sym q.1) ∙ width_filled shape neuron input (ltb (input + 1) shape.inputs) (ltb (neuron + 1) shape.neurons) t

end_here : (n : Next) (width : ℕ) → last_width n ≡ Some width → last_width n ≡ width_from n nothing
end_here (Layer prior left) width e = refl
end_here (Bias shape neuron) width e = absurd (cc)
end_here (Weight shape neuron input) width e = absurd (cc)

end_width : (rs : List Record) (n : Next) (at : ℕ) (t : Tail) → Sound n → parse n at rs ≡ Ok t → last_width (end_of n rs) ≡ width_from n t
unfolding parse
end_width [] n at t s e = let q = ended_ok (last_width n) at t e in end_here n q.0 q.1 ∙ ap (width_from n) (sym q.2)
end_width (r ∷ rs) n at t s e =
    let q = carry_ok (onto n r) _ t e in
    let p = follow_ok (accept n r) at (λ m. parse m (at + 1) rs) q.0 q.1 in
    let k = sound_more n p.0 r s p.1 in
    let d = describes rs p.0 (at + 1) q.0 k p.2 in
    ap last_width (end_more n p.0 r rs p.1) ∙ end_width rs p.0 (at + 1) q.0 k p.2 ∙ width_more n p.0 r q.0 p.1 d.1 ∙ ap (width_from n) (sym q.2)

not_refused : (x : Result Tail ℕ) → refusal x ≡ None → (t : Tail) × (x ≡ Ok t)
not_refused (Ok t) e = (t, refl)
not_refused (Err p) e = absurd (cc)

outputs_at : (bs : List ℕ) (t : Tail) → has_bad_length (length bs) ≡ false → parse (Layer None 4) 0 (records bs) ≡ Ok t → last_of None t.layers ≡ last_of None (layers_of bs)
unfolding plan_of
outputs_at bs t b e = rw (b, e)

pub plan_width : (bs : List ℕ) (n : Next) (width : ℕ) → has_bad_length (length bs) ≡ false → refusal (parse (Layer None 4) 0 (records bs)) ≡ None
    → n ≡ end_of (Layer None 4) (records bs) → last_width n ≡ Some width → width ≡ exits (layers_of bs)
plan_width bs n width b e w k =
    let q = not_refused (parse (Layer None 4) 0 (records bs)) e in
    exits_are (layers_of bs) width (sym (outputs_at bs q.0 b q.1) ∙ sym (end_width (records bs) (Layer None 4) 0 q.0 tt q.1) ∙ ap last_width (sym w) ∙ k)

-- ---- the walk itself

-- over bytes of a plan's length it has come to n, at place `at`, with `left` still to come
pub record Walked (bs : List ℕ) (n : Next) (at : ℕ) (left : List Record) : Type 0 where
  pub long : has_bad_length (length bs) ≡ false
  pub sound : Sound n
  pub count : at + length left ≡ length bs / 8
  pub refused : refusal (parse n at left) ≡ refusal (parse (Layer None 4) 0 (records bs))
  pub ended : end_of n left ≡ end_of (Layer None 4) (records bs)

pub walk_goes : (bs : List ℕ) (left : List Record) (n m : Next) (at : ℕ) (r : Record) → Walked bs n at (r ∷ left) → accept n r ≡ Some m → Walked bs m (at + 1) left
walk_goes bs left n m at r w e =
    let k = w.count in
    record { long = w.long; sound = sound_more n m r w.sound e; count = omega arith; refused = sym (walk_more n m at r left e) ∙ w.refused; ended = sym (end_more n m r left e) ∙ w.ended }

pub walk_breaks : (bs : List ℕ) (left : List Record) (n : Next) (at position : ℕ) (r : Record) (o : Option Next) (why : NetworkFault) → Walked bs n at (r ∷ left)
    → o ≡ accept n r → o ≡ None → ◌≡◌ {A = Result Next NetworkFault} (Err why) (ok_or o (PlanRecord position)) → position ≡ at → plan_of bs ≡ Err why
walk_breaks bs left n at position r o why w a e f p =
    let k : why ≡ PlanRecord at = cc in
    plan_refused bs at w.long (sym w.refused ∙ walk_stop n at r left (sym a ∙ e)) ∙ ap Err (sym k)

pub walk_ends : (bs : List ℕ) (n : Next) (at : ℕ) (o : Option ℕ) → Walked bs n at [] → o ≡ last_width n
    → MatchResult (ok_or o (PlanRecord (length bs / 8))) (λ w. (plan_of bs ≡ Ok (layers_of bs)) × (w ≡ exits (layers_of bs))) (λ f. plan_of bs ≡ Err f)
unfolding parse
walk_ends bs n at (Some width) w k =
    let a : refusal (parse (Layer None 4) 0 (records bs)) ≡ None = sym w.refused ∙ rw (← k) refl in
    (plan_accepted bs w.long a, plan_width bs n width w.long a w.ended (sym k))
walk_ends bs n at None w k =
    let p : at ≡ length bs / 8 = omega (arith, w.count) in
    plan_refused bs (length bs / 8) w.long (sym w.refused ∙ rw (← k) (ap Some p))

-- ---- the length

pub not_long : (n : ℕ) → has_bad_length n ≡ false → n ≤ 65528
not_long n e = grind (arith, nat_tests)

-- a plan has a record
pub some_record : (bs : List ℕ) (hs : List LayerOf) → Describes hs bs → length bs < 8 → ⊥
some_record bs hs d h = none hs d.formed.0.some (sym (describes_records bs hs d) ∙ records_none bs h)
  where
    none : (hs : List LayerOf) → 1 ≤ length hs → layer_records hs ≡ [] → ⊥
    none [] l e = omega arith
    none (h ∷ hs) l e = cc
