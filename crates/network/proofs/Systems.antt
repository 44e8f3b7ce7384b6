-- What the tables of the two systems that a neuron uses come to.
use Rattle.std.proofs.Common.{◌≡◌, ℕ, ◌+◌, ◌-◌, ◌*◌, ◌^◌, ◌≤◌, List, [], ◌∷◌, length, refl, arith}
use Rattle.std.specs.List.{AllByRecursion}
use Rattle.cordic.specs.Order.{total, Covered}
use Rattle.cordic.specs.Tables.{linear, hyperbolic}
use Rattle.cordic.specs.declared.order.Iteration.{Iteration}

-- each entry is exactly n / 2^s
abbrev pub Exact : ℕ → List Iteration → Type 0
Exact n [] = Unit {0}
Exact n (k ∷ ks) = (2 ^ k.shift.amount * k.entry ≡ n) × Exact n ks

pub linear_exact : Exact (2 ^ 28) linear
unfolding linear
linear_exact = omega arith

pub linear_covered : Covered linear
unfolding linear
linear_covered = omega arith

pub linear_total : total linear ≡ 2 ^ 28 - 1
unfolding linear
linear_total = refl

pub hyperbolic_low : AllByRecursion (λ k. k.entry ≤ 2 ^ 30) hyperbolic
unfolding hyperbolic
hyperbolic_low = omega arith

pub hyperbolic_length : length hyperbolic ≡ 30
unfolding hyperbolic
hyperbolic_length = refl

pub hyperbolic_total : total hyperbolic + 1 ≤ 2 ^ 30
unfolding hyperbolic
hyperbolic_total = omega arith
