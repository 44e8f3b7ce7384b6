-- In the linear system n·y + x·z stays, but for less than n in each step.
use Rattle.std.proofs.Common.{◌≡◌, ℕ, zero, suc, ◌+◌, ◌*◌, ◌/◌, ◌%◌, ◌^◌, ◌<◌, ◌≤◌, List, [], ◌∷◌, length, ℤ, pos, negsuc, ◌+ℤ◌, ◌-ℤ◌, ◌*ℤ◌, nat_abs, sym, refl, ap, ◌∙◌, subst, mul-le-mul_right, mul-zero, arith}
use lib.IntN.{neg_ℤ-neg_ℤ}
use Rattle.std.proofs.lemmas.Int.{ints}
use Rattle.std.proofs.lemmas.Nat.{pow_pos, div-add-mod', mod_below}
use Rattle.stage.specs.Word.{shifted}
use Rattle.stage.specs.Step.{signed, turned}
use Rattle.cordic.specs.declared.order.Iteration.{Iteration}
use Rattle.cordic.specs.Mode.{directed}
use Rattle.cordic.specs.Unit.{told}
use Rattle.stage.specs.declared.registers.Triple.{Triple}
use Rattle.stage.specs.declared.step.System.TheVariants.{Linear}
use Rattle.cordic.specs.declared.mode.Mode.{Mode}
use Rattle.stage.specs.declared.step.Direction.{Direction}
use Rattle.stage.specs.declared.step.Direction.TheVariants.{Plus, Minus}
use Rattle.network.proofs.Ring.{ring}
use Rattle.cordic.proofs.Ends.{minus_zero}
use Rattle.cordic.proofs.Moved.{moved}
use Rattle.network.proofs.Systems.{Exact}

-- a = q·p + r with r < p, times e
parts : (p q r e a n : ℕ) → q * p + r ≡ a → r < p → p * e ≡ n → 0 < n → (n * q ≤ a * e) × (suc a * e ≤ n * q + n) × (0 < e)
parts p q r e a n d l h k =
    let ae : (q * p + r) * e ≡ a * e = ap (λ (m : ℕ). m * e) d in
    let nq : (p * e) * q ≡ n * q = ap (λ (m : ℕ). m * q) h in
    let re : suc r * e ≤ p * e = mul-le-mul_right e l in
    let e0 : 0 < e = positive e p n h k in
    omega arith
  where
    positive : (e p n : ℕ) → p * e ≡ n → 0 < n → 0 < e
    positive zero p n h k = omega (arith, mul-zero p)
    positive (suc e) p n h k = omega arith

-- |n·floor(x/2^s) − x·e| < n, where 2^s·e = n
pub scaled : (s e n : ℕ) (x : ℤ) → 2 ^ s * e ≡ n → 0 < n → nat_abs (pos n *ℤ shifted x s -ℤ x *ℤ pos e) < n
scaled s e n (pos a) h k =
    let f = parts (2 ^ s) (a / 2 ^ s) (a % 2 ^ s) e a n (div-add-mod' a (2 ^ s)) (mod_below a (2 ^ s) (pow_pos s)) h k in
    omega (arith, ints)
scaled s e n (negsuc a) h k =
    let f = parts (2 ^ s) (a / 2 ^ s) (a % 2 ^ s) e a n (div-add-mod' a (2 ^ s)) (mod_below a (2 ^ s) (pow_pos s)) h k in
    omega (arith, ints)

abbrev pub kept : ℕ → ℤ → ℤ → ℤ → ℤ
kept n x y z = pos n *ℤ y +ℤ x *ℤ z

turn : (d : Direction) (n x y z q e : ℤ)
    → (n *ℤ (y +ℤ signed d q) +ℤ x *ℤ (z -ℤ signed d e)) -ℤ (n *ℤ y +ℤ x *ℤ z) ≡ signed d (n *ℤ q -ℤ x *ℤ e)
turn Plus n x y z q e = simp ring (omega (arith, ints))
turn Minus n x y z q e = simp (ring, neg_ℤ-neg_ℤ) (omega (arith, ints))

abs_signed : (d : Direction) (v : ℤ) → nat_abs (signed d v) ≡ nat_abs v
abs_signed Plus v = refl
abs_signed Minus v = omega (arith, ints)

chain : (a b c : ℤ) (n l : ℕ) → nat_abs (a -ℤ b) + l ≤ l * n → nat_abs (b -ℤ c) < n → nat_abs (a -ℤ c) + suc l ≤ suc l * n
chain a b c n l h k = omega (arith, ints)

drift_at : (o : Mode) (ks : List Iteration) (n : ℕ) → 0 < n → Exact n ks → (x : ℤ) (t : Triple) → t.x ≡ x
    → nat_abs (kept n x (moved Linear o ks t).y (moved Linear o ks t).z -ℤ kept n x t.y t.z) + length ks ≤ length ks * n
drift_at o [] n l h x t e = omega (arith, ints)
drift_at o (k ∷ ks) n l h x t e =
    let d : Direction = directed o t in
    let u : Triple = turned (told Linear o k t) t in
    let r = drift_at o ks n l h.1 x u (minus_zero t.x ∙ e) in
    let m = turn d (pos n) x t.y t.z (shifted t.x k.shift.amount) (pos k.entry) in
    let a = abs_signed d (pos n *ℤ shifted t.x k.shift.amount -ℤ x *ℤ pos k.entry) in
    let b = subst (λ (v : ℤ). nat_abs (pos n *ℤ shifted t.x k.shift.amount -ℤ v *ℤ pos k.entry) < n) e (scaled k.shift.amount k.entry n t.x h.0 l) in
    chain (kept n x (moved Linear o ks u).y (moved Linear o ks u).z) (kept n x u.y u.z) (kept n x t.y t.z) n (length ks) r
    (subst (λ (v : ℕ). v < n) (sym (ap nat_abs m ∙ a)) b)

pub drift : (o : Mode) (ks : List Iteration) (n : ℕ) → 0 < n → Exact n ks → (t : Triple)
    → nat_abs (kept n t.x (moved Linear o ks t).y (moved Linear o ks t).z -ℤ kept n t.x t.y t.z) + length ks ≤ length ks * n
drift o ks n l h t = drift_at o ks n l h t.x t refl
