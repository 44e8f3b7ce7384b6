-- When a whole number is nearest to 2^28 times an arc tangent, said in whole fractions.
--   Fraction     numerator over denominator
--   atan_sum     the first n terms of t − t³/3 + t⁵/5 − .., t being 1 / q
--   atanh_sum    the first n terms of t + t³/3 + t⁵/5 + ..
--   Nearest      2e − 1 < 2^29 × A < 2e + 1
--   NearAtan     e is nearest to 2^28 × atan (2^−s): both ends of an enclosure of the arc tangent say so
--   NearAtanh    the same of 2^28 × atanh (2^−s)
--   PowerEntry   e = 2^(28 − s)
use Rattle.std.specs.Prelude.{◌≡◌, ℕ, zero, suc, ◌+◌, ◌-◌, ◌*◌, ◌^◌, ℤ, pos, ◌+ℤ◌, ◌-ℤ◌, ◌*ℤ◌, neg_ℤ, ◌<ℤ◌}
use Rattle.cordic.specs.declared.order.Iteration.{Iteration}

pub record Fraction : Type 0 where
  pub num : ℤ
  pub den : ℕ

abbrev pub plus : Fraction → Fraction → Fraction
plus a b = record { num = (a.num *ℤ pos b.den) +ℤ (b.num *ℤ pos a.den); den = a.den * b.den }

abbrev pub minus : Fraction → Fraction
minus a = record { num = neg_ℤ a.num; den = a.den }

-- c times t^(2k + 1) / (2k + 1), t being 1 / q
abbrev pub term : ℕ → ℕ → ℕ → Fraction
term c q k = record { num = pos c; den = (2 * k + 1) * q ^ (2 * k + 1) }

-- the terms of even k are added, those of odd k taken away
abbrev pub alternate : ℕ → Fraction → Fraction
alternate zero a = a
alternate (suc zero) a = minus a
alternate (suc (suc k)) a = alternate k a

abbrev pub atan_sum : ℕ → ℕ → Fraction
atan_sum q zero = record { num = pos 0; den = 1 }
atan_sum q (suc k) = plus (atan_sum q k) (alternate k (term 1 q k))

abbrev pub atanh_sum : ℕ → ℕ → Fraction
atanh_sum q zero = record { num = pos 0; den = 1 }
atanh_sum q (suc k) = plus (atanh_sum q k) (term 1 q k)

pub record Nearest (e : ℕ) (a : Fraction) : Type 0 where
  pub above : (((pos 2 *ℤ pos e) -ℤ pos 1) *ℤ pos a.den) <ℤ (pos (2 ^ 29) *ℤ a.num)
  pub below : (pos (2 ^ 29) *ℤ a.num) <ℤ (((pos 2 *ℤ pos e) +ℤ pos 1) *ℤ pos a.den)

-- the ends are the sums of the first 20 and of the first 21 terms; atan 1 is atan (1/2) + atan (1/3)
abbrev pub NearAtan : ℕ → ℕ → Type 0
NearAtan zero e = Nearest e (plus (atan_sum 2 20) (atan_sum 3 20)) × Nearest e (plus (atan_sum 2 21) (atan_sum 3 21))
NearAtan (suc s) e = Nearest e (atan_sum (2 ^ suc s) 20) × Nearest e (atan_sum (2 ^ suc s) 21)

-- the ends are the sum of the first 20 terms, and that sum plus twice the 21st
abbrev pub NearAtanh : ℕ → ℕ → Type 0
NearAtanh s e = Nearest e (atanh_sum (2 ^ s) 20) × Nearest e (plus (atanh_sum (2 ^ s) 20) (term 2 (2 ^ s) 20))

abbrev pub PowerEntry : ℕ → ℕ → Type 0
PowerEntry s e = e ≡ 2 ^ (28 - s)

-- of the shift and the entry of an iteration
abbrev pub OfEntry : (ℕ → ℕ → Type 0) → Iteration → Type 0
OfEntry P k = P k.shift.amount k.entry
