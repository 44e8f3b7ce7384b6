-- Hex digits.
--   digits_in   whether each character is one
use Rattle.std.specs.Prelude.{ℕ, Bool, true, ◌&&◌, List}
use Rattle.std.specs.Char.{is_ascii_hexdigit}
use Rattle.std.specs.List.{fold}

abbrev pub digits_in : List ℕ → Bool
digits_in text = fold (λ digits c. digits && is_ascii_hexdigit c) true text
