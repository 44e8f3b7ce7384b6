-- The words for modes and causes, as they are read and printed.
--   name_of_mode   the name of each mode
--   mode_names     the table of these names
--   sentence_of    what is said of each cause
use Rattle.std.specs.Prelude.{ℕ, List, [], ◌∷◌, codes}
use Rattle.cordic.specs.declared.mode.Mode.{Mode}
use Rattle.cordic.specs.declared.mode.Mode.TheVariants.{Rotation, Vectoring}
use Rattle.cordic.specs.declared.faults.Cause.{Cause}
use Rattle.cordic.specs.declared.faults.Cause.TheVariants.{Unreachable, BadStart, Overflowed}

abbrev pub name_of_mode : Mode → List ℕ
name_of_mode Rotation = codes "rotation"
name_of_mode Vectoring = codes "vectoring"

abbrev pub mode_names : List (List ℕ × Mode)
mode_names = (codes "rotation", Rotation) ∷ (codes "vectoring", Vectoring) ∷ []

abbrev pub sentence_of : Cause → List ℕ
sentence_of Unreachable = codes "no choice of directions brings z within one unit of zero"
sentence_of BadStart = codes "vectoring cannot start from this x and y"
sentence_of (Overflowed step overflow) = codes "a register would leave the word"
