-- Words: signed numbers of 32 bits, 28 of them fraction bits, so that raw r means r / 2^28.
--   shifted   floor division by a power of two
--   is_word   whether a number lies in the word
--   in_word   the number, if it lies in the word
use Rattle.std.specs.Prelude.{ℕ, ◌/◌, ◌^◌, Bool, cond, ◌&&◌, ℤ, pos, negsuc, Some, None, Option, int_le}

-- floor (v / 2^s), below zero too: negsuc n is −1 − n, and −1 shifted by 5 is −1
abbrev pub shifted : ℤ → ℕ → ℤ
shifted (pos n) s = pos (n / 2 ^ s)
shifted (negsuc n) s = negsuc (n / 2 ^ s)

-- −2^31 ≤ v ≤ 2^31 − 1
abbrev pub is_word : ℤ → Bool
is_word v = int_le (negsuc 0x7fff_ffff) v && int_le v (pos 0x7fff_ffff)

abbrev pub in_word : ℤ → Option ℤ
in_word v = cond (is_word v) (Some v) None
