-- One step of the recurrence, on whole numbers, and where it leaves the word.
--   signed    d × v
--   scaled    m × v
--   turned    the three new registers
--   escaped   the first register outside the word
--   stepped   what a step comes to
--   settled   the same, from the three new registers where each is a word
use Rattle.std.specs.Prelude.{cond, ℤ, pos, ◌+ℤ◌, ◌-ℤ◌, neg_ℤ, Some, None, Ok, Err, Option, Result}
use Rattle.stage.specs.Word.{shifted, is_word}
use Rattle.stage.specs.declared.registers.Triple.{Triple}
use Rattle.stage.specs.declared.registers.Register.{Register}
use Rattle.stage.specs.declared.registers.Register.TheVariants.{X, Y, Z}
use Rattle.stage.specs.declared.step.System.{System}
use Rattle.stage.specs.declared.step.System.TheVariants.{Linear, Circular, Hyperbolic}
use Rattle.stage.specs.declared.step.Direction.{Direction}
use Rattle.stage.specs.declared.step.Direction.TheVariants.{Plus, Minus}
use Rattle.stage.specs.declared.step.Step.{Step}
use Rattle.stage.specs.declared.step.Overflow.{Overflow}

-- d is +1 or −1
abbrev pub signed : Direction → ℤ → ℤ
signed Plus v = v
signed Minus v = neg_ℤ v

-- m is 0 in the linear system, +1 in the circular and −1 in the hyperbolic one
abbrev pub scaled : System → ℤ → ℤ
scaled Linear v = pos 0
scaled Circular v = v
scaled Hyperbolic v = neg_ℤ v

-- x − m·d·shift(y), y + d·shift(x) and z − d·e, all from the old values
abbrev pub turned : Step → Triple → Triple
turned s t = record {
  x = t.x -ℤ scaled s.system (signed s.direction (shifted t.y s.shift.amount));
  y = t.y +ℤ signed s.direction (shifted t.x s.shift.amount);
  z = t.z -ℤ signed s.direction s.entry;
}

-- in the order x, y, z
abbrev pub escaped : Triple → Option Register
escaped t = cond (is_word t.x) (cond (is_word t.y) (cond (is_word t.z) None (Some Z)) (Some Y)) (Some X)

abbrev pub judged : Triple → Triple → Option Register → Result Triple Overflow
judged old new None = Ok new
judged old new (Some r) = Err (record { register = r; kept = old })

-- the new triple, or the refusal, which names the register and keeps the old triple
unfoldable pub stepped : Step → Triple → Result Triple Overflow
stepped s t = judged t (turned s t) (escaped (turned s t))

-- how a stage finds that out: each new register, if it is a word
abbrev pub settled : Triple → Option ℤ → Option ℤ → Option ℤ → Result Triple Overflow
settled old None y z = Err (record { register = X; kept = old })
settled old (Some x) None z = Err (record { register = Y; kept = old })
settled old (Some x) (Some y) None = Err (record { register = Z; kept = old })
settled old (Some x) (Some y) (Some z) = Ok (record { x = x; y = y; z = z })
