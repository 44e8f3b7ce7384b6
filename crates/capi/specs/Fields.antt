-- The fields of a report, as numbers: −1 for none, and zeros for a triple that is not there.
use Rattle.std.specs.Prelude.{ℕ, ℤ, pos, negsuc, Some, None, Option}
use Rattle.stage.specs.Stage.{zeros}
use Rattle.stage.specs.declared.registers.Register.{Register}
use Rattle.stage.specs.declared.registers.Register.TheVariants.{X, Y, Z}
use Rattle.stage.specs.declared.registers.Triple.{Triple}
use Rattle.stage.specs.declared.step.System.{System}
use Rattle.stage.specs.declared.step.System.TheVariants.{Linear, Circular, Hyperbolic}
use Rattle.cordic.specs.declared.mode.Mode.{Mode}
use Rattle.cordic.specs.declared.mode.Mode.TheVariants.{Rotation, Vectoring}

-- −1
abbrev pub none : ℤ
none = negsuc 0

abbrev pub field_of : Option ℕ → ℤ
field_of (Some n) = pos n
field_of None = none

abbrev pub number_of_system : System → ℤ
number_of_system Linear = pos 0
number_of_system Circular = pos 1
number_of_system Hyperbolic = pos 2

abbrev pub number_of_mode : Mode → ℤ
number_of_mode Rotation = pos 0
number_of_mode Vectoring = pos 1

abbrev pub number_of_register : Option Register → ℤ
number_of_register (Some X) = pos 0
number_of_register (Some Y) = pos 1
number_of_register (Some Z) = pos 2
number_of_register None = none

abbrev pub kept_of : Option Triple → Triple
kept_of (Some t) = t
kept_of None = zeros
