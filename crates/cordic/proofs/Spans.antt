-- How large the sums over an order are, and the loop that forms one.
use Rattle.std.proofs.Common.{◌≡◌, ℕ, ◌+◌, ◌*◌, ◌^◌, ◌<◌, ◌≤◌, List, [], ◌∷◌, length, drop, ℤ, pos, negsuc, ◌+ℤ◌, nat_abs, Some, None, ap, arith, w32, SFits}
use lib.Pow.{shr_le}
use Rattle.std.proofs.lemmas.Int.{ints}
use Rattle.std.specs.List.{AllByRecursion}
use Rattle.stage.specs.Word.{shifted}
use Rattle.cordic.specs.Order.{total, nth}
use Rattle.cordic.specs.Unit.{span}
use Rattle.cordic.specs.declared.order.Iteration.{Iteration}
use Rattle.cordic.proofs.Places.{drop_some, drop_none}

total_of : (ks : List Iteration) → AllByRecursion (λ k. k.entry < 2 ^ 31) ks → total ks ≤ 2 ^ 31 * length ks
total_of [] a = omega arith
total_of (k ∷ ks) a = let h = total_of ks a.1 in let e = a.0 in omega arith

pub total_small : (ks : List Iteration) → AllByRecursion (λ k. k.entry < 2 ^ 31) ks → length ks ≤ 64 → total ks ≤ 2 ^ 37
total_small ks a h = let k = total_of ks a in omega arith

pub shifted_small : (x : ℤ) (s : ℕ) → SFits w32 x → nat_abs (shifted x s) ≤ 2 ^ 31
shifted_small (pos n) s f = let h = shr_le n s in let g = f.sfits in omega (arith, ints)
shifted_small (negsuc n) s f = let h = shr_le n s in let g = f.sfits in omega (arith, ints)

span_of : (x : ℤ) (ks : List Iteration) → SFits w32 x → nat_abs (span x ks) ≤ 2 ^ 31 * length ks
span_of x [] f = omega (arith, ints)
span_of x (k ∷ ks) f = let h = span_of x ks f in let e = shifted_small x k.shift.amount f in omega (arith, ints)

pub span_small : (x : ℤ) (ks : List Iteration) → SFits w32 x → length ks ≤ 64 → nat_abs (span x ks) ≤ 2 ^ 37
span_small x ks f h = let k = span_of x ks f in omega arith

-- one iteration more
pub span_more : (x sum : ℤ) (ks : List Iteration) (i : ℕ) (k : Iteration) → Some k ≡ nth ks i → sum +ℤ span x (drop i ks) ≡ span x ks
    → (sum +ℤ shifted x k.shift.amount) +ℤ span x (drop (i + 1) ks) ≡ span x ks
span_more x sum ks i k e inv =
    let d = drop_some ks i k e in
    let f = ap (span x) d in
    omega (arith, ints, inv, f)

pub span_done : (x sum : ℤ) (ks : List Iteration) (i : ℕ) → None ≡ nth ks i → sum +ℤ span x (drop i ks) ≡ span x ks → sum ≡ span x ks
span_done x sum ks i e inv = let f = ap (span x) (drop_none ks i e) in omega (arith, ints, inv, f)
