-- What a recorder noted can be read back, so its rule makes of the notes what the recorder does.
use Rattle.std.proofs.Common.{◌≡◌, ◌<◌, ◌≤◌, List, [], ◌∷◌, ◌++◌, length, ℤ, Some, None, Ok, Option, refl, ap}
use Rattle.std.proofs.lemmas.Bool.{lt-ltb, le-ltb}
use Rattle.stage.specs.Step.{turned, escaped, judged, stepped}
use Rattle.stage.specs.Stage.{loads, Rule, answered, held_after, noted_after}
use Rattle.stage.specs.Recorder.{appended, numbers_of, recorder_notes, triples_in, past_triples, recorder_rule}
use Rattle.stage.specs.declared.registers.Triple.{Triple}
use Rattle.stage.specs.declared.registers.Register.{Register}
use Rattle.stage.specs.declared.step.Step.{Step}

triples_back : (ts : List Triple) (below : List ℤ) → triples_in (length ts) (numbers_of ts ++ below) ≡ ts
triples_back [] below = refl
triples_back (t ∷ ts) below = ap (λ rest. t ∷ rest) (triples_back ts below)

pub below_back : (ts : List Triple) (below : List ℤ) → past_triples (length ts) (numbers_of ts ++ below) ≡ below
below_back [] below = refl
below_back (t ∷ ts) below = below_back ts below

-- an accepted step comes to the turned triple
by_escape : (old new : Triple) (e : Option Register) → Ok tt ≡ answered (judged old new e) → judged old new e ≡ Ok new
by_escape old new None h = refl
by_escape old new (Some r) h = cc

pub accepted : (s : Step) (t : Triple) → Ok tt ≡ answered (stepped s t) → stepped s t ≡ Ok (turned s t)
unfolding stepped
accepted s t h = by_escape t (turned s t) (escaped (turned s t)) h

pub records_step : (rule : Rule) (s : Step) (t u : Triple) (ts kept : List Triple) (below after : List ℤ) → Ok tt ≡ answered (stepped s t)
    → u ≡ held_after t (stepped s t) → after ≡ noted_after rule s t below (stepped s t) → kept ≡ appended ts u
    → recorder_notes kept after ≡ noted_after (recorder_rule rule) s t (recorder_notes ts below) (stepped s t)
records_step rule s t u ts kept below after h e f g =
    let a = accepted s t h in
    let e' = rw a at e in
    let f' = rw a at f in
    rw (a, g, e', f', triples_back ts below, below_back ts below)

pub records_load : (rule : Rule) (new t : Triple) (ts kept : List Triple) (below after : List ℤ) → after ≡ rule (loads new) t below → kept ≡ []
    → recorder_notes kept after ≡ recorder_rule rule (loads new) t (recorder_notes ts below)
records_load rule new t ts kept below after e f = rw (e, f, below_back ts below)

-- a log with room takes one triple more, a full one none
pub appends : (ts : List Triple) (t : Triple) → length ts < 64 → ts ++ t ∷ [] ≡ appended ts t
appends ts t h = rw (lt-ltb _ _ h)

pub stays_full : (ts : List Triple) (t : Triple) → 64 ≤ length ts → ts ≡ appended ts t
stays_full ts t h = rw (le-ltb _ _ h)
