-- What a serial adder is told and reads.
--   Digits         whether n digits of k bits are a word
--   complemented   a number, or the number with each of its bits turned
--   wide           the bits of a word and of its sign, 64 in all
--   digit_of       k bits from a place on, or their complement
--   digit_sum      what a digit comes to, of two digits of k bits and a carry
use Rattle.std.specs.Prelude.{◌≡◌, ℕ, ◌+◌, ◌-◌, ◌*◌, ◌/◌, ◌%◌, ◌^◌, ◌<◌, ◌≤◌, Bool, true, false, ℤ, pos, negsuc}
use Rattle.std.proofs.Common.{to_z, of_z}
use Rattle.std.specs.Int.{w32, w64}
use Rattle.stage.specs.declared.adder.Added.{Added}

-- short: the sum of two digits and a carry must fit 32 bits
pub record Digits (k n : ℕ) : Type 0 where
  pub some : 1 ≤ k
  pub short : k < 31
  pub whole : n * k ≡ 32

-- the complement of v is −1 − v
abbrev pub complemented : Bool → ℤ → ℤ
complemented false v = v
complemented true (pos n) = negsuc n
complemented true (negsuc n) = pos n

-- the 32 places above the word hold its sign bit
abbrev pub wide : ℕ → ℕ
wide n = of_z w64 (to_z w32 n)

abbrev pub digit_of : Bool → ℕ → ℕ → ℕ → ℕ
digit_of false n p k = n / 2 ^ p % 2 ^ k
digit_of true n p k = 2 ^ k - 1 - n / 2 ^ p % 2 ^ k

-- the carry into the top place is the carry out of the k − 1 places below it
abbrev pub digit_sum : ℕ → ℕ → ℕ → ℕ → Added
digit_sum k p q carry = record {
  digit = (p + q + carry) % 2 ^ k;
  carry = (p + q + carry) / 2 ^ k;
  into = (p % 2 ^ (k - 1) + q % 2 ^ (k - 1) + carry) / 2 ^ (k - 1);
}
