-- Directions.
--   opposed       −d
--   is_negative   whether d is −1
use Rattle.std.specs.Prelude.{Bool, true, false}
use Rattle.stage.specs.declared.step.Direction.{Direction}
use Rattle.stage.specs.declared.step.Direction.TheVariants.{Plus, Minus}

abbrev pub opposed : Direction → Direction
opposed Plus = Minus
opposed Minus = Plus

abbrev pub is_negative : Direction → Bool
is_negative Plus = false
is_negative Minus = true
