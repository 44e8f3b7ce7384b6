-- What a recorder keeps and notes: the triple after each accepted step since the load, and the notes of the stage below it.
--   appended         one triple more, up to 64
--   recorder_notes   how many triples are kept, these triples, and then the notes below
--   recorded_in      the triples, read back from such notes
--   below_record     the notes below, read back from such notes
--   recorder_rule    what a call makes of such notes
use Rattle.std.specs.Prelude.{ℕ, zero, suc, cond, List, [], ◌∷◌, ◌++◌, length, ℤ, pos, nat_lt, unsigned_abs}
use Rattle.stage.specs.Step.{turned}
use Rattle.stage.specs.Stage.{loads, steps, Rule}
use Rattle.stage.specs.declared.registers.Triple.{Triple}

abbrev pub appended : List Triple → Triple → List Triple
appended ts t = cond (nat_lt (length ts) 64) (ts ++ (t ∷ [])) ts

abbrev pub numbers_of : List Triple → List ℤ
numbers_of [] = []
numbers_of (t ∷ ts) = t.x ∷ t.y ∷ t.z ∷ numbers_of ts

abbrev pub recorder_notes : List Triple → List ℤ → List ℤ
recorder_notes ts below = pos (length ts) ∷ (numbers_of ts ++ below)

-- the first n triples of a list of numbers
abbrev pub triples_in : ℕ → List ℤ → List Triple
triples_in zero ns = []
triples_in (suc n) (x ∷ y ∷ z ∷ ns) = record { x = x; y = y; z = z } ∷ triples_in n ns
triples_in (suc n) (x ∷ y ∷ []) = []
triples_in (suc n) (x ∷ []) = []
triples_in (suc n) [] = []

-- and what follows them
abbrev pub past_triples : ℕ → List ℤ → List ℤ
past_triples zero ns = ns
past_triples (suc n) (x ∷ y ∷ z ∷ ns) = past_triples n ns
past_triples (suc n) (x ∷ y ∷ []) = []
past_triples (suc n) (x ∷ []) = []
past_triples (suc n) [] = []

abbrev pub recorded_in : List ℤ → List Triple
recorded_in [] = []
recorded_in (n ∷ ns) = triples_in (unsigned_abs n) ns

abbrev pub below_record : List ℤ → List ℤ
below_record [] = []
below_record (n ∷ ns) = past_triples (unsigned_abs n) ns

-- a load forgets the triples, an accepted step adds the triple after it; the rule below is told the same call
abbrev pub recorder_rule : Rule → Rule
recorder_rule rule (loads new) t ns = recorder_notes [] (rule (loads new) t (below_record ns))
recorder_rule rule (steps s) t ns = recorder_notes (appended (recorded_in ns) (turned s t)) (rule (steps s) t (below_record ns))
