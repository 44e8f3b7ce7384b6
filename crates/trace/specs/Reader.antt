-- Reading a request, word by word.
--   number_in   the word that a decimal writes, if it writes one
--   ReadBy      a word read as a value of some type
--   put_in      one of the five words more
--   taken_in    one word more, an option or one of the five
--   finished    the request, or the first word that is missing
--   drafted     all words, up to the first that does not fit
--   Reads       what the reader answers to the words
use Rattle.std.specs.Prelude.{◌≡◌, ℕ, Bool, true, false, cond, ◌||◌, List, [], ◌∷◌, ℤ, Some, None, Ok, Err, string_bytes, codes, Option, Result, String, nat_eq}
use Rattle.std.specs.Str.Parse.{without_leading_sign, signed_digits_value}
use Rattle.std.specs.declared.alloc.Global.{Global}
use Rattle.std.specs.List.{list_any, starts_with}
use Rattle.std.specs.Str.{all_ascii_digits, bytes_eq}
use Rattle.stage.specs.Word.{in_word}
use Rattle.stage.specs.Names.{named, system_names, kind_names}
use Rattle.stage.specs.declared.kind.Kind.{Kind}
use Rattle.stage.specs.declared.kind.Kind.TheVariants.{Parallel}
use Rattle.cordic.specs.Names.{mode_names}
use Rattle.trace.specs.declared.request.Request.{Request}
use Rattle.trace.specs.declared.request.Wanted.{Wanted}
use Rattle.trace.specs.declared.request.Wanted.TheVariants.{System as ASystem, Mode as AMode, X as AnX, Y as AY, Z as AZ, Kind as AKind, Setting}
use Rattle.trace.specs.declared.request.Misfit.{Misfit}
use Rattle.trace.specs.declared.request.Misfit.TheVariants.{Not, Extra}
use Rattle.trace.specs.declared.request.RequestFault.{RequestFault}
use Rattle.trace.specs.declared.request.RequestFault.TheVariants.{Word, Missing, Memory}
use Rattle.trace.specs.declared.reader.Progress.{Progress}
use Rattle.trace.specs.declared.reader.Progress.TheVariants.{Empty, ToSystem, ToMode, ToX, ToY, Full}
use Rattle.trace.specs.declared.reader.Draft.{Draft}

-- one digit or more, and nothing else
abbrev pub numeral : List ℕ → Bool
numeral [] = false
numeral (c ∷ cs) = all_ascii_digits (c ∷ cs)

-- a sign may stand first
abbrev pub number_in : List ℕ → Option ℤ
number_in word = cond (numeral (without_leading_sign word)) (in_word (signed_digits_value 10 word)) None

abbrev pub or_not : {K P : Type 0} → Wanted → (K → P) → Option K → Result P Misfit
or_not wanted f None = Err (Not wanted)
or_not wanted f (Some k) = Ok (f k)

-- what `parse` gives, and in place of its error what is wanted
abbrev pub ReadBy : {K E : Type 0} → (List ℕ → Result K E → Type 0) → List ℕ → Wanted → Result K Misfit → Type 0
ReadBy gives word wanted (Ok k) = gives word (Ok k)
ReadBy {E = E} gives word wanted (Err m) = (e : E) × gives word (Err e) × (m ≡ Not wanted)

abbrev pub put_in : Progress → List ℕ → Result Progress Misfit
put_in Empty word = or_not ASystem (λ s. ToSystem s) (named system_names word)
put_in (ToSystem s) word = or_not AMode (λ m. ToMode s m) (named mode_names word)
put_in (ToMode s m) word = or_not AnX (λ x. ToX s m x) (number_in word)
put_in (ToX s m x) word = or_not AY (λ y. ToY s m x y) (number_in word)
put_in (ToY s m x y) word = or_not AZ (λ z. Full s m (record { x = x; y = y; z = z })) (number_in word)
put_in (Full s m t) word = Err Extra

-- two dashes stand first
abbrev pub dashed : List ℕ → Bool
dashed word = starts_with nat_eq word (codes "--")

abbrev pub blank : Draft
blank = record { progress = Empty; kind = Some Parallel; probe = false }

-- the word after --stage
abbrev pub chosen_in : Draft → List ℕ → Result Draft Misfit
chosen_in d word = or_not AKind (λ k. record { progress = d.progress; kind = Some k; probe = d.probe }) (named kind_names word)

abbrev pub advanced : Draft → Result Progress Misfit → Result Draft Misfit
advanced d (Ok p) = Ok (record { progress = p; kind = d.kind; probe = d.probe })
advanced d (Err m) = Err m

abbrev pub taken_by : Draft → List ℕ → Option Kind → Result Draft Misfit
taken_by d word None = chosen_in d word
taken_by d word (Some k) =
    cond (bytes_eq word (codes "--probe")) (Ok (record { progress = d.progress; kind = Some k; probe = true }))
    (cond (bytes_eq word (codes "--stage")) (Ok (record { progress = d.progress; kind = None; probe = d.probe }))
    (cond (dashed word) (Err (Not Setting)) (advanced d (put_in d.progress word))))

abbrev pub taken_in : Draft → List ℕ → Result Draft Misfit
taken_in d word = taken_by d word d.kind

abbrev pub finished_by : Bool → Option Kind → Progress → Result Request Wanted
finished_by probe None p = Err AKind
finished_by probe (Some k) Empty = Err ASystem
finished_by probe (Some k) (ToSystem s) = Err AMode
finished_by probe (Some k) (ToMode s m) = Err AnX
finished_by probe (Some k) (ToX s m x) = Err AY
finished_by probe (Some k) (ToY s m x y) = Err AZ
finished_by probe (Some k) (Full s m t) = Ok (record { system = s; mode = m; start = t; kind = k; probe = probe })

abbrev pub finished : Draft → Result Request Wanted
finished d = finished_by d.probe d.kind d.progress

abbrev pub asks_for_help : List ℕ → Bool
asks_for_help word = bytes_eq word (codes "--help") || bytes_eq word (codes "-h")

abbrev pub help_in : List (String Global) → Bool
help_in words = list_any (λ word. asks_for_help (string_bytes word)) words

-- a misfit, and the word that does not fit
abbrev pub misfit_at : List ℕ → Result Draft Misfit → Result Draft (Misfit × List ℕ)
misfit_at word (Ok d) = Ok d
misfit_at word (Err m) = Err (m, word)

abbrev pub next : Result Draft (Misfit × List ℕ) → String Global → Result Draft (Misfit × List ℕ)
next (Ok d) word = misfit_at (string_bytes word) (taken_in d (string_bytes word))
next (Err m) word = Err m

abbrev pub drafted : Result Draft (Misfit × List ℕ) → List (String Global) → Result Draft (Misfit × List ℕ)
drafted r [] = r
drafted r (word ∷ words) = drafted (next r word) words

abbrev pub Fits : Result Draft (Misfit × List ℕ) → Result Request RequestFault → Type 0
Fits d (Ok q) = (e : Draft) × (d ≡ Ok e) × (finished e ≡ Ok q)
Fits d (Err (Word word misfit)) = d ≡ Err (misfit, string_bytes word)
Fits d (Err (Missing wanted)) = (e : Draft) × (d ≡ Ok e) × (finished e ≡ Err wanted)
Fits d (Err Memory) = Unit {0}

-- where memory fails nothing is said
abbrev pub Reads : List (String Global) → Result Request RequestFault → Type 0
Reads words r = Fits (drafted (Ok blank) words) r
