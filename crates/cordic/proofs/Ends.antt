-- Where an accepted pass ends: both modes spend their register to within a slack.
use Rattle.std.proofs.Common.{◌≡◌, ℕ, suc, ◌+◌, ◌-◌, ◌*◌, ◌/◌, ◌^◌, ◌≤◌, Bool, true, false, cond, ◌||◌, List, [], ◌∷◌, length, ℤ, pos, negsuc, ◌+ℤ◌, ◌-ℤ◌, nat_abs, ◌≤ℤ◌, Some, None, refl, ap, ◌∙◌, add-zero, add-one, arith}
use lib.Signed.{lt_z}
use Rattle.std.proofs.lemmas.Nat.{shr-shr}
use Rattle.std.proofs.lemmas.Int.{ints}
use Rattle.std.proofs.lemmas.Bool.{ltb-false}
use Rattle.stage.specs.Word.{shifted}
use Rattle.stage.specs.Step.{signed, turned}
use Rattle.stage.specs.Stage.{Rule}
use Rattle.stage.specs.declared.registers.Triple.{Triple}
use Rattle.stage.specs.declared.step.System.{System}
use Rattle.stage.specs.declared.step.System.TheVariants.{Linear}
use Rattle.stage.specs.declared.step.Direction.TheVariants.{Plus}
use Rattle.cordic.specs.Mode.{sign, opposed}
use Rattle.cordic.specs.Order.{total, Covered}
use Rattle.cordic.specs.Outcome.{State, AtEnd}
use Rattle.cordic.specs.Tables.{linear}
use Rattle.cordic.specs.Unit.{beyond, limit, steep, refusal, told, passed}
use Rattle.cordic.specs.declared.mode.Mode.TheVariants.{Rotation, Vectoring}
use Rattle.cordic.specs.declared.order.Iteration.{Iteration}
use Rattle.cordic.specs.declared.faults.Cause.{Cause}
use Rattle.cordic.specs.declared.faults.Cause.TheVariants.{Unreachable, BadStart}
use Rattle.cordic.proofs.Holds.{holds_end}
use Rattle.cordic.proofs.Moved.{moved, entries, parts_of, RisingFrom, total_is, span_is}
use Rattle.cordic.proofs.Passes.{Passes, Fails, passes}
use Rattle.cordic.proofs.Spent.{sum, Slack, greedy, spent}

-- rotation spends z
pub rotation_is : (m : System) (ks : List Iteration) (t : Triple) → (moved m Rotation ks t).z ≡ greedy (entries ks) t.z
rotation_is m [] t = refl
rotation_is m (k ∷ ks) t = rotation_is m ks (turned (told m Rotation k t) t)

-- linear vectoring spends y, where x is not negative
against : (y v : ℤ) → y +ℤ signed (opposed Plus (sign y)) v ≡ y -ℤ signed (sign y) v
against (pos n) v = refl
against (negsuc n) v = omega (arith, ints)

pub next_y : (x y : ℤ) (a s : ℕ) → x ≡ pos a
    → y +ℤ signed (opposed (sign x) (sign y)) (shifted x s) ≡ y -ℤ signed (sign y) (pos (a / 2 ^ s))
next_y x y a s e = rw e (against y (pos (a / 2 ^ s)))

pub minus_zero : (x : ℤ) → x -ℤ pos 0 ≡ x
minus_zero x = omega (arith, ints)

pub vectoring_is : (a : ℕ) (ks : List Iteration) (t : Triple) → t.x ≡ pos a
    → (moved Linear Vectoring ks t).y ≡ greedy (parts_of a ks) t.y
vectoring_is a [] t e = refl
vectoring_is a (k ∷ ks) t e =
    vectoring_is a ks (turned (told Linear Vectoring k t) t) (minus_zero t.x ∙ e)
    ∙ ap (greedy (parts_of a ks)) (next_y t.x t.y a k.shift.amount e)

half : (x s : ℕ) → x / 2 ^ s ≤ 2 * (x / 2 ^ suc s) + 1
half x s = let e = shr-shr x s 1 in let f = rw add-one at e in omega arith

-- a(s) is at most the sum of the later parts, the last part once more, and one for each later part
pub falls : (x s : ℕ) (ps : List Iteration) → RisingFrom (suc s) ps → x / 2 ^ s ≤ sum (parts_of x ps) + x / 2 ^ (s + length ps) + length ps
falls x s [] r = rw (add-zero s) (omega arith)
falls x s (p ∷ ps) r =
    let h = half x s in
    let k = falls x (suc s) ps r.1 in
    let e : suc s + length ps ≡ s + suc (length ps) = omega arith in
    rw (r.0, ← e) (omega arith)

-- so the parts of x are covered, with a slack
pub parts_covered : (x k s n : ℕ) (ps : List Iteration) → RisingFrom s ps → s + length ps ≡ n → x / 2 ^ (n - 1) + (length ps - 1) ≤ k → Slack k (parts_of x ps)
parts_covered x k s n [] r e l = tt
parts_covered x k s n (p ∷ ps) r e l =
    let f : x / 2 ^ s ≤ sum (parts_of x ps) + x / 2 ^ (s + length ps) + length ps = falls x s ps r.1 in
    let g : n - 1 ≡ s + length ps = omega arith in
    let l' = rw g at l in
    (rw r.0 (omega arith), parts_covered x k (suc s) n ps r.1 (omega arith) (omega arith))

covered_slack : (ks : List Iteration) → Covered ks → Slack 1 (entries ks)
covered_slack [] c = tt
covered_slack (k ∷ ks) c = (rw (total_is ks) at c.0, covered_slack ks c.1)

pub rotation_spends : (m : System) (ks : List Iteration) → Covered ks → (t : Triple) → nat_abs t.z ≤ total ks + 1 → nat_abs (moved m Rotation ks t).z ≤ 1
rotation_spends m ks c t h = rw rotation_is (spent 1 (entries ks) t.z (covered_slack ks c) (rw (total_is ks) at h))

-- the shifts of the linear order rise by one from 1 to 28
pub linear_rising : RisingFrom 1 linear
unfolding linear
linear_rising = omega arith

pub linear_length : length linear ≡ 28
unfolding linear
linear_length = refl

parts_of_lem : (a : ℕ) → Slack (a / 2 ^ 28 + 27) (parts_of a linear)
parts_of_lem a = parts_covered a (a / 2 ^ 28 + 27) 1 29 linear linear_rising (omega (arith, linear_length)) (rw linear_length (omega arith))

pub vectoring_spends : (a : ℕ) (t : Triple) → t.x ≡ pos a → nat_abs t.y ≤ sum (parts_of a linear) + (a / 2 ^ 28 + 27)
    → nat_abs (moved Linear Vectoring linear t).y ≤ a / 2 ^ 28 + 27
vectoring_spends a t e h = rw (vectoring_is a linear t e) (spent (a / 2 ^ 28 + 27) (parts_of a linear) t.y (parts_of_lem a) h)

cond_none : (b : Bool) (why : Cause) → cond b (Some why) None ≡ None → b ≡ false
cond_none true why e = let z : ◌≡◌ {A = ℕ} 0 1 = cc in absurd (omega arith)
cond_none false why e = refl

or_false : (a b : Bool) → a || b ≡ false → (a ≡ false) × (b ≡ false)
or_false true b e = let z : ◌≡◌ {A = ℕ} 0 1 = cc in absurd (omega arith)
or_false false b e = (refl, e)

pub rotation_ends : (rule : Rule) (m : System) (ks : List Iteration) (t : Triple) (s : State) → Covered ks
    → AtEnd (λ u. nat_abs u.z ≤ 1) (passed rule m ks Rotation t s)
rotation_ends rule m ks t s c =
    holds_end (λ u. nat_abs u.z ≤ 1) (Passes m ks Rotation t) (Fails m ks Rotation t s) (passed rule m ks Rotation t s)
    (λ v n u p. rw p.ends (rotation_spends m ks c t (ltb-false (total ks + 1) (nat_abs t.z) (cond_none (beyond ks t.z) Unreachable p.through))))
    (passes rule m ks Rotation t s)

not_negative : (x : ℤ) → lt_z x (pos 0x100_0000) ≡ false → (a : ℕ) × (x ≡ pos a)
not_negative (pos a) e = (a, refl)
not_negative (negsuc a) e = let z : ◌≡◌ {A = ℕ} 0 1 = cc in absurd (omega arith)

within_limit : (t : Triple) (a : ℕ) → t.x ≡ pos a → lt_z (limit linear t) (pos (nat_abs t.y)) ≡ false → nat_abs t.y ≤ sum (parts_of a linear) + (a / 2 ^ 28 + 27)
within_limit t a e h =
    let l : limit linear t ≡ pos (sum (parts_of a linear) + (a / 2 ^ 28 + 27)) = rw (e, span_is a linear) in
    ltb-false (sum (parts_of a linear) + (a / 2 ^ 28 + 27)) (nat_abs t.y) (rw l at h)

vectored_from : (t : Triple) (a : ℕ) → t.x ≡ pos a → lt_z (limit linear t) (pos (nat_abs t.y)) ≡ false
    → pos (nat_abs (moved Linear Vectoring linear t).y) ≤ℤ (shifted t.x 28 +ℤ pos 27)
vectored_from t a e h =
    let b = vectoring_spends a t e (within_limit t a e h) in
    let g : shifted t.x 28 ≡ pos (a / 2 ^ 28) = rw e in
    omega (arith, ints, b, g)

vectored : (t : Triple) → refusal Linear linear Vectoring t ≡ None → pos (nat_abs (moved Linear Vectoring linear t).y) ≤ℤ (shifted t.x 28 +ℤ pos 27)
vectored t e =
    let f = or_false (lt_z t.x (pos 0x100_0000)) (steep Linear linear t) (cond_none (lt_z t.x (pos 0x100_0000) || steep Linear linear t) BadStart e) in
    let x = not_negative t.x f.0 in
    vectored_from t x.0 x.1 f.1

pub vectoring_ends : (rule : Rule) (t : Triple) (s : State)
    → AtEnd (λ u. pos (nat_abs u.y) ≤ℤ (shifted t.x 28 +ℤ pos 27)) (passed rule Linear linear Vectoring t s)
vectoring_ends rule t s =
    holds_end (λ u. pos (nat_abs u.y) ≤ℤ (shifted t.x 28 +ℤ pos 27)) (Passes Linear linear Vectoring t) (Fails Linear linear Vectoring t s) (passed rule Linear linear Vectoring t s)
    (λ v n u p. rw p.ends (vectored t p.through))
    (passes rule Linear linear Vectoring t s)
