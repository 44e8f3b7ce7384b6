-- A raw value as a decimal fraction.
--   billionths_of   the size of raw / 2^28 in billionths, rounded to nearest, halves up
use Rattle.std.specs.Prelude.{ℕ, ◌+◌, ◌*◌, ◌/◌, ◌^◌, ℤ, unsigned_abs}

abbrev pub billionths_of : ℤ → ℕ
billionths_of raw = (unsigned_abs raw * 10 ^ 9 + 2 ^ 27) / 2 ^ 28
