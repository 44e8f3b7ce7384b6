-- Worked rows of the definitions, as one list: each case and what it shows.
--   Case    a pass of a triple, or an entry of a table
--   Shown   the y and z at the end; the number of a refusal, and for 7 the register and the step; an entry
use Rattle.std.specs.Prelude.{◌≡◌, ℕ, cond, List, [], ◌∷◌, map, ℤ, pos, negsuc, Some, None, Option, ◌==◌}
use Rattle.stage.specs.Stage.{silent, zeros}
use Rattle.stage.specs.declared.registers.Triple.{Triple}
use Rattle.stage.specs.declared.registers.Register.{Register}
use Rattle.stage.specs.declared.registers.Register.TheVariants.{Y}
use Rattle.stage.specs.declared.step.System.{System}
use Rattle.stage.specs.declared.step.System.TheVariants.{Linear, Circular, Hyperbolic}
use Rattle.cordic.specs.Faults.{reported}
use Rattle.cordic.specs.Outcome.{Out, went, stopped}
use Rattle.cordic.specs.Tables.{order}
use Rattle.cordic.specs.Unit.{passed}
use Rattle.cordic.specs.declared.mode.Mode.{Mode}
use Rattle.cordic.specs.declared.mode.Mode.TheVariants.{Rotation, Vectoring}
use Rattle.cordic.specs.declared.order.Iteration.{Iteration}
use Rattle.cordic.specs.declared.faults.UnitFault.{UnitFault}

pub data Case : Type 0 where
  pass : System → Mode → ℤ → ℤ → ℤ → Case
  entry : System → ℕ → Case

pub data Shown : Type 0 where
  ends : ℤ → ℤ → Shown
  refuses : ℕ → Option Register → Option ℕ → Shown
  entered : ℕ → Shown
  absent : Shown

abbrev by_end : Out Triple UnitFault → Shown
by_end (went t n s) = ends t.y t.z
by_end (stopped f n s) = refuses (reported f).number (reported f).register (reported f).step

-- the entry of the first iteration with this shift
abbrev entry_at : ℕ → List Iteration → Shown
entry_at s [] = absent
entry_at s (k ∷ ks) = cond (k.shift.amount == s) (entered k.entry) (entry_at s ks)

abbrev pub shown : Case → Shown
shown (pass m o x y z) = by_end (passed silent m (order m) o (record { x = x; y = y; z = z }) (record { held = zeros; notes = [] }))
shown (entry m s) = entry_at s (order m)

pub record Row : Type 0 where
  pub given : Case
  pub shows : Shown

abbrev row : Case → Shown → Row
row c s = record { given = c; shows = s }

unfoldable pub rows : List Row
rows =
    row (pass Linear Rotation (pos 0x1000_0000) (pos 0) (pos 0x800_0000)) (ends (pos 134217729) (negsuc 0))
    ∷ row (pass Linear Rotation (negsuc 0) (pos 0) (pos 0x1000_0000)) (ends (negsuc 27) (pos 1))
    ∷ row (pass Linear Rotation (pos 1) (pos 0) (pos 0x1000_0000)) (ends (pos 0) (pos 1))
    ∷ row (pass Linear Rotation (negsuc 0) (pos 0) (pos 0)) (ends (pos 26) (negsuc 0))
    ∷ row (pass Linear Rotation (pos 0) (pos 0) (pos 0x1000_0001)) (refuses 5 None None)
    ∷ row (pass Linear Rotation (pos 0x1000_0000) (pos 0x7fff_ffff) (pos 0x1000_0000)) (refuses 7 (Some Y) (Some 1))
    ∷ row (pass Linear Vectoring (pos 0x1000_0000) (pos 0x800_0000) (pos 0)) (ends (negsuc 0) (pos 134217729))
    ∷ row (pass Linear Vectoring (pos 0xff_ffff) (pos 0) (pos 0)) (refuses 6 None None)
    ∷ row (pass Circular Vectoring (pos 0xff_ffff) (pos 0) (pos 0)) (refuses 6 None None)
    ∷ row (pass Hyperbolic Vectoring (pos 0xff_ffff) (pos 0) (pos 0)) (refuses 6 None None)
    ∷ row (entry Circular 0) (entered 210828714)
    ∷ row (entry Circular 9) (entered 524287)
    ∷ row (entry Circular 10) (entered 262144)
    ∷ row (entry Hyperbolic 9) (entered 524289)
    ∷ row (entry Hyperbolic 10) (entered 262144)
    ∷ row (entry Hyperbolic 28) (entered 1)
    ∷ []

-- every row shows what it says
abbrev pub RowsStand : Type 0
RowsStand = map (λ r. shown r.given) rows ≡ map (λ r. r.shows) rows
