-- A text that decodes is of hex digits alone.
use Rattle.std.proofs.Common.{◌≡◌, ℕ, Bool, true, false, ◌&&◌, List, [], ◌∷◌, Ok, Err, None, Result, sym, refl, ap, ◌∙◌, arith}
use Rattle.std.proofs.lemmas.List.Sums.{list_all-from_AllPass}
use Rattle.std.specs.Char.{is_ascii_hexdigit}
use Rattle.std.specs.List.{fold, list_all, slice_index_or, AllPass}
use Rattle.std.specs.Result.{result_ok}
use Rattle.hex.specs.Hex.{decode_of, is_hex_digit}
use Rattle.hex.specs.declared.error.FromHexError.{FromHexError}
use Rattle.hex.proofs.HexLemmas.{decode_of-ok}
use Rattle.cases.specs.Digits.{digits_in}

folded : (xs : List ℕ) (b : Bool) → fold (λ digits c. digits && is_ascii_hexdigit c) b xs ≡ (b && list_all is_ascii_hexdigit xs)
folded [] true = refl
folded [] false = refl
folded (x ∷ xs) true = folded xs (is_ascii_hexdigit x)
folded (x ∷ xs) false = folded xs false

-- both libraries mean the same digits
digit_is : (c : ℕ) → is_hex_digit c ≡ true → is_ascii_hexdigit c ≡ true
digit_is c h = grind (arith)

digits_are : (s : List ℕ) → AllPass is_hex_digit s → digits_in s ≡ true
digits_are s h = folded s true ∙ list_all-from_AllPass is_ascii_hexdigit s (λ k d within. digit_is (slice_index_or s k d) (h k d within))

decoded_by : (s : List ℕ) (r : Result (List ℕ) FromHexError) → decode_of s ≡ r → digits_in s ≡ false → None ≡ result_ok r
decoded_by s (Ok bytes) e f = cc (digits_are s (decode_of-ok s bytes e).1)
decoded_by s (Err why) e f = refl

pub undecoded : (s t : List ℕ) → s ≡ t → false ≡ digits_in s → None ≡ result_ok (decode_of t)
undecoded s t e f = decoded_by t (decode_of t) refl (ap digits_in (sym e) ∙ sym f)
