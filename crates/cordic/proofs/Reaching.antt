-- Some choice of directions leaves at most one unit of an angle exactly where the angle is at most the sum of the entries plus 1.
use Rattle.std.proofs.Common.{◌≡◌, suc, ◌+◌, ◌≤◌, true, false, List, [], ◌∷◌, ℤ, pos, ◌-ℤ◌, neg_ℤ, nat_abs, refl, ap, arith}
use Rattle.std.proofs.lemmas.Int.{ints}
use Rattle.std.proofs.lemmas.Bool.{ltb-true, ltb-false}
use Rattle.stage.specs.Step.{signed}
use Rattle.stage.specs.declared.step.Direction.{Direction}
use Rattle.stage.specs.declared.step.Direction.TheVariants.{Plus, Minus}
use Rattle.cordic.specs.Mode.{sign}
use Rattle.cordic.specs.Order.{total, Covered, residue, Reachable}
use Rattle.cordic.specs.Unit.{beyond}
use Rattle.cordic.specs.declared.order.Iteration.{Iteration}
use Rattle.cordic.proofs.Spent.{toward}

near : (ds : List Direction) (ks : List Iteration) (z : ℤ) → nat_abs (residue ds ks z) ≤ 1 → nat_abs z ≤ total ks + 1
near [] ks z h = omega arith
near (d ∷ ds) [] z h = omega arith
near (Plus ∷ ds) (k ∷ ks) z h = let r = near ds ks (z -ℤ pos k.entry) h in omega (arith, ints)
near (Minus ∷ ds) (k ∷ ks) z h = let r = near ds ks (z -ℤ neg_ℤ (pos k.entry)) h in omega (arith, ints)

chosen : (ks : List Iteration) (z : ℤ) → Covered ks → nat_abs z ≤ total ks + 1 → Reachable ks z
chosen [] z c h = ([], refl, omega arith)
chosen (k ∷ ks) z c h =
    let r = chosen ks (z -ℤ signed (sign z) (pos k.entry)) c.1 (toward z k.entry (total ks) 1 c.0 h) in
    (sign z ∷ r.0, ap suc r.1, r.2)

pub beyond_reach : (ks : List Iteration) (z : ℤ) → beyond ks z ≡ true → Reachable ks z → ⊥
beyond_reach ks z e r = let a = near r.0 ks z r.2 in let b = ltb-true (total ks + 1) (nat_abs z) e in omega arith

pub in_reach : (ks : List Iteration) (z : ℤ) → Covered ks → beyond ks z ≡ false → Reachable ks z
in_reach ks z c e = chosen ks z c (ltb-false (total ks + 1) (nat_abs z) e)
