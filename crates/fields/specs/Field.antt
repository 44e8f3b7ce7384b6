-- A field of a printed line: what its value prints, or a dash where there is none.
use Rattle.std.specs.Prelude.{ℕ, List, Some, None, codes, Option}

module _ {T : Type 0} where
  -- of values that print this text
  abbrev pub field : (T → List ℕ) → Option T → List ℕ
  field text (Some x) = text x
  field text None = codes "-"

  -- as a Display has it: nothing is claimed of a value that claims nothing
  abbrev pub field_output : (T → Option (List ℕ)) → Option T → Option (List ℕ)
  field_output output (Some x) = output x
  field_output output None = Some (codes "-")
