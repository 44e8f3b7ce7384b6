-- The fixed texts of the printout.
--   mark_label   what stands left of a triple that no step made
--   sign_code    the character of a direction
use Rattle.std.specs.Prelude.{ℕ, List, [], codes}
use Rattle.stage.specs.declared.step.Direction.{Direction}
use Rattle.stage.specs.declared.step.Direction.TheVariants.{Plus, Minus}
use Rattle.trace.specs.declared.report.Mark.{Mark}
use Rattle.trace.specs.declared.report.Mark.TheVariants.{Blank, Start, Step, End, Kept, Before}

abbrev pub mark_label : Mark → List ℕ
mark_label Blank = []
mark_label Start = codes "start"
mark_label (Step step) = []
mark_label End = codes "result"
mark_label Kept = codes "kept"
mark_label Before = codes "before"

abbrev pub sign_code : Direction → ℕ
sign_code Plus = 43
sign_code Minus = 45
