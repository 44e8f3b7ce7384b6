-- Orders of iterations: the tables of the coordinate systems, and the three laws that each keeps.
--   iteration   a shift and its entry
--   nth         the iteration at a place, if there is one
--   total       the sum of all entries
--   Lawful      every entry above zero, the last one 1, each at most the sum of the later ones plus 1
--   residue     what a choice of directions leaves of an angle
--   Reachable   some choice of directions, one for each iteration, leaves at most one unit
use Rattle.std.specs.Prelude.{◌≡◌, ℕ, zero, suc, ◌+◌, ◌<◌, ◌≤◌, min, List, [], ◌∷◌, length, ℤ, pos, ◌-ℤ◌, Some, None, Option, unsigned_abs}
use Rattle.std.proofs.Math.Nat.{min-le_right}
use Rattle.std.specs.List.{AllByRecursion}
use Rattle.stage.specs.Step.{signed}
use Rattle.stage.specs.declared.shift.Shift.{Shift}
use Rattle.stage.specs.declared.step.Direction.{Direction}
use Rattle.cordic.specs.declared.order.Iteration.{Iteration}
use Rattle.cordic.specs.declared.order.Row.{Row}

-- a shift of 0 to 31
abbrev pub shift_of : ℕ → Shift
shift_of s = record { amount = min s 31; within = min-le_right s 31 }

-- a row of a table
abbrev pub iteration : Row → Iteration
iteration row = record { shift = shift_of row.shift; entry = row.entry }

abbrev pub nth : List Iteration → ℕ → Option Iteration
nth [] i = None
nth (k ∷ ks) zero = Some k
nth (k ∷ ks) (suc i) = nth ks i

abbrev pub total : List Iteration → ℕ
total [] = 0
total (k ∷ ks) = k.entry + total ks

abbrev pub last_entry : ℕ → List Iteration → ℕ
last_entry e [] = e
last_entry e (k ∷ ks) = last_entry k.entry ks

abbrev pub Covered : List Iteration → Type 0
Covered [] = Unit {0}
Covered (k ∷ ks) = (k.entry ≤ total ks + 1) × Covered ks

pub record Lawful (ks : List Iteration) : Type 0 where
  pub positive : AllByRecursion (λ k. 0 < k.entry) ks
  pub last : last_entry 0 ks ≡ 1
  pub covered : Covered ks

-- z less the sum of d × e
abbrev pub residue : List Direction → List Iteration → ℤ → ℤ
residue [] ks z = z
residue (d ∷ ds) [] z = z
residue (d ∷ ds) (k ∷ ks) z = residue ds ks (z -ℤ signed d (pos k.entry))

abbrev pub Reachable : List Iteration → ℤ → Type 0
Reachable ks z = (ds : List Direction) × (length ds ≡ length ks) × (unsigned_abs (residue ds ks z) ≤ 1)
