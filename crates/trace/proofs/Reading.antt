-- A decimal that `parse` reads is the one that `number_in` finds, and a word that does not fit ends the reading.
use Rattle.std.proofs.Common.{◌≡◌, ℕ, ◌+◌, ◌<◌, ◌≤◌, Bool, true, false, cond, List, [], ◌∷◌, length, get_or, drop, ℤ, pos, negsuc, Some, None, Ok, Err, codes, string_bytes, Decides, Option, is_some, Result, String, sym, refl, ap, ◌∙◌, w32, SFits, rules}
use Rattle.std.specs.Str.Parse.{IsNumeral, digits_value, without_leading_sign, signed_digits_value}
use Rattle.std.specs.declared.alloc.Global.{Global}
use Rattle.std.specs.Str.{all_ascii_digits}
use Rattle.std.proofs.lemmas.List.{at_drop_more, at_drop_all}
use Rattle.std.specs.Result.{MatchResult, IsErrAnd}
use Rattle.std.specs.Str.Pattern.{FindsTextPrefix}
use Rattle.std.proofs.lemmas.Slice.Eq.{bytes_eq-Decides}
use Rattle.std.proofs.lemmas.Str.Pattern.{starts_text}
use Rattle.std.proofs.lemmas.Str.Parse.{IsNumeralModel, numerals_by_value, tells_all_ascii_digits}
use Rattle.stage.specs.Word.{is_word}
use Rattle.trace.specs.Reader.{numeral, number_in, put_in, blank, advanced, taken_by, taken_in, finished, Reads, misfit_at, next, drafted}
use Rattle.trace.specs.declared.request.Misfit.{Misfit}
use Rattle.trace.specs.declared.request.Request.{Request}
use Rattle.trace.specs.declared.request.Wanted.{Wanted}
use Rattle.trace.specs.declared.request.RequestFault.{RequestFault}
use Rattle.trace.specs.declared.request.RequestFault.TheVariants.{Missing}
use Rattle.trace.specs.declared.reader.Draft.{Draft}
use Rattle.stage.specs.declared.kind.Kind.{Kind}

own : IsNumeralModel (λ ds. all_ascii_digits ds ≡ true) (digits_value 10)
own = numerals_by_value _ tells_all_ascii_digits

numeral_decides : (ds : List ℕ) → Decides (numeral ds) (IsNumeral 10 ds)
numeral_decides [] = (λ e. search rules, λ h. search rules)
numeral_decides (c ∷ cs) = (λ e. (search rules, own.to (c ∷ cs) e), λ h. own.from (c ∷ cs) h.1)

word_decides : (v : ℤ) → Decides (is_word v) (SFits w32 v)
word_decides (pos n) = (λ e. record { sfits = search rules }, λ h. search rules)
word_decides (negsuc n) = (λ e. record { sfits = search rules }, λ h. search rules)

-- what `parse` asks of the word
abbrev pub Writes : List ℕ → Type 0
Writes bs = IsNumeral 10 (without_leading_sign bs) × SFits w32 (signed_digits_value 10 bs)

found_part : (a b : Bool) (P Q : Type 0) (v : ℤ) → Decides a P → Decides b Q → P × Q → cond a (cond b (Some v) None) None ≡ Some v
found_part a b P Q v p q h = rw (p.1 h.0, q.1 h.1) refl

unfound_part : (a b : Bool) (P Q : Type 0) (v : ℤ) → Decides a P → Decides b Q → (P × Q → ⊥) → cond a (cond b (Some v) None) None ≡ None
unfound_part true true P Q v p q h = absurd (h (p.0 refl, q.0 refl))
unfound_part true false P Q v p q h = refl
unfound_part false b P Q v p q h = refl

pub number_found : (bs : List ℕ) (n : ℤ) → Writes bs × (n ≡ signed_digits_value 10 bs) → number_in bs ≡ Some n
number_found bs n h =
    found_part _ _ _ _ _ (numeral_decides (without_leading_sign bs)) (word_decides (signed_digits_value 10 bs)) h.0 ∙ ap (λ v. Some v) (sym h.1)

pub number_unfound : (bs : List ℕ) → (Writes bs → ⊥) → number_in bs ≡ None
number_unfound bs h = unfound_part _ _ _ _ _ (numeral_decides (without_leading_sign bs)) (word_decides (signed_digits_value 10 bs)) h

pub misfit_stays : (m : Misfit × List ℕ) (words : List (String Global)) → drafted (Err m) words ≡ Err m
misfit_stays m [] = refl
misfit_stays m (word ∷ words) = misfit_stays m words

-- A loop over the words, at its index: one word that fits, one that does not, and the end.
module _ (ws : List (String Global)) (i : ℕ) where
  next_is : (w : String Global) (bs : List ℕ) (d : Draft) (r : Result Draft Misfit) → w ≡ get_or ws i w → bs ≡ string_bytes w → r ≡ taken_in d bs
      → next (Ok d) (get_or ws i w) ≡ misfit_at bs r
  next_is w bs d r at e h =
      ap (λ u. misfit_at (string_bytes u) (taken_in d (string_bytes u))) (sym at) ∙ ap (λ b. misfit_at b (taken_in d b)) (sym e) ∙ ap (misfit_at bs) (sym h)

  pub word_fits : (w : String Global) (bs : List ℕ) (d new : Draft) → i < length ws → w ≡ get_or ws i w → bs ≡ string_bytes w → Ok new ≡ taken_in d bs
      → drafted (Ok blank) ws ≡ drafted (Ok d) (drop i ws) → drafted (Ok blank) ws ≡ drafted (Ok new) (drop (i + 1) ws)
  word_fits w bs d new l at e h inv =
      inv ∙ at_drop_more (drafted (Ok d)) ws i w l ∙ ap (λ r. drafted r (drop (i + 1) ws)) (next_is w bs d (Ok new) at e h)

  pub word_misfits : (w : String Global) (bs : List ℕ) (d : Draft) (m : Misfit) → i < length ws → w ≡ get_or ws i w → bs ≡ string_bytes w → Err m ≡ taken_in d bs
      → drafted (Ok blank) ws ≡ drafted (Ok d) (drop i ws) → drafted (Ok blank) ws ≡ Err (m, bs)
  word_misfits w bs d m l at e h inv =
      inv ∙ at_drop_more (drafted (Ok d)) ws i w l ∙ ap (λ r. drafted r (drop (i + 1) ws)) (next_is w bs d (Err m) at e h)
      ∙ misfit_stays (m, bs) (drop (i + 1) ws)

  pub words_end : (d : Draft) → length ws ≤ i → drafted (Ok blank) ws ≡ drafted (Ok d) (drop i ws) → drafted (Ok blank) ws ≡ Ok d
  words_end d l inv = inv ∙ at_drop_all (drafted (Ok d)) ws i l

  pub words_read : (d : Draft) (f : Result Request Wanted) (r : Result Request RequestFault) (G : Wanted → RequestFault → Type 0) → length ws ≤ i
      → drafted (Ok blank) ws ≡ drafted (Ok d) (drop i ws) → f ≡ finished d → MatchResult f (λ q. r ≡ Ok q) (λ w. IsErrAnd r (G w)) → ((w : Wanted) (e : RequestFault) → G w e → e ≡ Missing w)
      → Reads ws r
  words_read d (Ok q) r G l inv e h gives = rw h (d, words_end d l inv, sym e)
  words_read d (Err w) (Ok q) G l inv e h gives = absurd h
  words_read d (Err w) (Err m) G l inv e h gives = rw (gives w m h) (d, words_end d l inv, sym e)

refuted : {P : Type 0} (r : Bool) → Decides r P → (P → ⊥) → r ≡ false
refuted true d un = absurd (un (d.0 refl))
refuted false d un = refl

-- a word that is no option is one of the five
plain_by : (d : Draft) (bs : List ℕ) (o : Option Kind) → is_some o ≡ true → (bs ≡ codes "--probe" → ⊥) → (bs ≡ codes "--stage" → ⊥) → FindsTextPrefix (codes "--") bs None
    → taken_by d bs o ≡ advanced d (put_in d.progress bs)
plain_by d bs None some probe stage dashes = search rules
plain_by d bs (Some k) some probe stage dashes =
    rw (refuted _ (bytes_eq-Decides bs (codes "--probe")) probe, refuted _ (bytes_eq-Decides bs (codes "--stage")) stage, sym (starts_text false (codes "--") bs dashes)) refl

pub plain_taken : (d : Draft) (bs : List ℕ) → is_some d.kind ≡ true → (bs ≡ codes "--probe" → ⊥) → (bs ≡ codes "--stage" → ⊥) → FindsTextPrefix (codes "--") bs None
    → taken_in d bs ≡ advanced d (put_in d.progress bs)
plain_taken d bs = plain_by d bs d.kind
