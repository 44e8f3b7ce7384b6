-- The direction of an iteration, by the mode.
use Rattle.std.specs.Prelude.{ℤ, pos, negsuc}
use Rattle.stage.specs.declared.registers.Triple.{Triple}
use Rattle.stage.specs.declared.step.Direction.{Direction}
use Rattle.stage.specs.declared.step.Direction.TheVariants.{Plus, Minus}
use Rattle.cordic.specs.declared.mode.Mode.{Mode}
use Rattle.cordic.specs.declared.mode.Mode.TheVariants.{Rotation, Vectoring}

-- the sign of 0 is +1
abbrev pub sign : ℤ → Direction
sign (pos n) = Plus
sign (negsuc n) = Minus

-- minus the product of two signs
abbrev pub opposed : Direction → Direction → Direction
opposed Plus Plus = Minus
opposed Plus Minus = Plus
opposed Minus Plus = Plus
opposed Minus Minus = Minus

-- rotation takes the sign of z, vectoring minus the sign of x times the sign of y
abbrev pub directed : Mode → Triple → Direction
directed Rotation t = sign t.z
directed Vectoring t = opposed (sign t.x) (sign t.y)
