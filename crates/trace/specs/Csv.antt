-- The lines of comma-separated values.
--   factor_text   the direction as a factor, 1 or -1
--   fields_text   the fields x, y and z, empty where there is no triple
--   line_text     a whole line: row, shift, entry, direction and the registers
use Rattle.std.specs.Prelude.{ℕ, List, ◌++◌, Some, None, codes, decimal, Option}
use Rattle.std.specs.Fmt.{signed_decimal}
use Rattle.stage.specs.declared.registers.Triple.{Triple}
use Rattle.stage.specs.declared.step.Direction.{Direction}
use Rattle.stage.specs.declared.step.Direction.TheVariants.{Plus, Minus}
use Rattle.cordic.specs.Faults.{reported}
use Rattle.trace.specs.declared.csv.Line.{Line}
use Rattle.trace.specs.declared.csv.Line.TheVariants.{Start, Step, End, Refused}

abbrev pub factor_text : Direction → List ℕ
factor_text Plus = codes "1"
factor_text Minus = codes "-1"

abbrev pub fields_text : Option Triple → List ℕ
fields_text (Some t) = signed_decimal t.x ++ (codes "," ++ (signed_decimal t.y ++ (codes "," ++ signed_decimal t.z)))
fields_text None = codes ",,"

abbrev pub line_text : Line → List ℕ
line_text (Start t) = codes "start,,,," ++ fields_text (Some t)
line_text (Step s t) =
    decimal s.number ++ (codes "," ++ (decimal s.shift ++ (codes "," ++ (decimal s.entry ++ (codes "," ++ (factor_text s.direction ++ (codes "," ++ fields_text (Some t))))))))
line_text (End t) = codes "result,,,," ++ fields_text (Some t)
line_text (Refused fault) = codes "refused " ++ (decimal (reported fault).number ++ (codes ",,,," ++ fields_text (reported fault).kept))
