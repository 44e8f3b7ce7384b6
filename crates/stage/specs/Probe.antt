-- What a probe keeps and notes: how many steps were accepted since the load, the triple before the latest of them, and the notes of the stage below it.
--   probe_notes   the number of steps, 1 or 0 for whether there was one, the triple or three zeros, and then the notes below
--   accepted_in   the number, read back from such notes
--   below_probe   the notes below, read back from such notes
--   one_more      one step more, up to 2^32 − 1
--   probe_rule    what a call makes of such notes
use Rattle.std.specs.Prelude.{ℕ, ◌+◌, min, List, [], ◌∷◌, ℤ, pos, Some, None, Option, unsigned_abs}
use Rattle.stage.specs.Stage.{loads, steps, Rule}
use Rattle.stage.specs.declared.registers.Triple.{Triple}

abbrev pub probe_notes : ℕ → Option Triple → List ℤ → List ℤ
probe_notes n None below = pos n ∷ pos 0 ∷ pos 0 ∷ pos 0 ∷ pos 0 ∷ below
probe_notes n (Some t) below = pos n ∷ pos 1 ∷ t.x ∷ t.y ∷ t.z ∷ below

abbrev pub accepted_in : List ℤ → ℕ
accepted_in [] = 0
accepted_in (n ∷ ns) = unsigned_abs n

-- what follows the first five numbers
abbrev pub below_probe : List ℤ → List ℤ
below_probe (n ∷ some ∷ x ∷ y ∷ z ∷ below) = below
below_probe (n ∷ some ∷ x ∷ y ∷ []) = []
below_probe (n ∷ some ∷ x ∷ []) = []
below_probe (n ∷ some ∷ []) = []
below_probe (n ∷ []) = []
below_probe [] = []

abbrev pub one_more : ℕ → ℕ
one_more n = min (n + 1) 0xffff_ffff

-- a load clears the number and the triple, an accepted step counts and keeps the triple before it; the rule below is told the same call
abbrev pub probe_rule : Rule → Rule
probe_rule rule (loads new) t ns = probe_notes 0 None (rule (loads new) t (below_probe ns))
probe_rule rule (steps s) t ns = probe_notes (one_more (accepted_in ns)) (Some t) (rule (steps s) t (below_probe ns))
