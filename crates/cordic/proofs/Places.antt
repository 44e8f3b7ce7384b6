-- The iteration at a place of an order.
use Rattle.std.proofs.Common.{◌≡◌, ℕ, zero, suc, ◌+◌, ◌<◌, ◌≤◌, min, List, [], ◌∷◌, map, length, slice_index_or, drop, Some, None, sym, refl, ap, ◌∙◌, subst, le_of_suc-le-suc, not-suc-le-zero, suc-add, arith}
use native.Mathlib.Bridge.{le_prop}
use Rattle.std.specs.List.{AllByRecursion}
use Rattle.std.proofs.lemmas.List.{length-map}
use Rattle.stage.specs.declared.shift.Shift.{Shift}
use Rattle.cordic.specs.Order.{shift_of, iteration, nth}
use Rattle.cordic.specs.declared.order.Iteration.{Iteration}
use Rattle.cordic.specs.declared.order.Row.{Row}

shift_same : (m n : ℕ) (p : m ≤ 31) (q : n ≤ 31) → m ≡ n → ◌≡◌ {A = Shift} (record { amount = m; within = p }) (record { amount = n; within = q })
shift_same m n p q e =
    let P : ℕ → Type 0 = λ k. (r : k ≤ 31) → ◌≡◌ {A = Shift} (record { amount = m; within = p }) (record { amount = k; within = r }) in
    subst P e (λ r. ap (λ w. record { amount = m; within = w }) (le_prop p r)) q

-- a shift is its amount
pub shift_is : (s : Shift) (n : ℕ) → s.amount ≡ min n 31 → s ≡ shift_of n
shift_is s n e = shift_same _ _ _ _ e

-- the order that a table holds
row_at : (rows : List Row) (ks : List Iteration) (i : ℕ) → map iteration rows ≡ ks → i < length rows
    → Some (iteration (slice_index_or rows i (record { shift = 0; entry = 0 }))) ≡ nth ks i
row_at [] ks i e h = absurd (not-suc-le-zero h)
row_at (r ∷ rows) [] i e h = cc
row_at (r ∷ rows) (k ∷ ks) zero e h = cc
row_at (r ∷ rows) (k ∷ ks) (suc i) e h = let f : map iteration rows ≡ ks = cc in row_at rows ks i f (le_of_suc-le-suc h)

-- the iteration that the row at a place is
pub row_is : (rows : List Row) (ks : List Iteration) (i : ℕ) (k : Iteration) → map iteration rows ≡ ks → i < length rows
    → k ≡ iteration (slice_index_or rows i (record { shift = 0; entry = 0 })) → Some k ≡ nth ks i
row_is rows ks i k e h f = ap Some f ∙ row_at rows ks i e h

pub as_long : (rows : List Row) (ks : List Iteration) → map iteration rows ≡ ks → length rows ≡ length ks
as_long rows ks e = sym (length-map rows iteration) ∙ ap length e

pub no_row : (ks : List Iteration) (i : ℕ) → length ks ≤ i → None ≡ nth ks i
no_row [] i h = refl
no_row (k ∷ ks) zero h = absurd (not-suc-le-zero h)
no_row (k ∷ ks) (suc i) h = no_row ks i (le_of_suc-le-suc h)

-- what is left of an order, from a place on
pub drop_some : (ks : List Iteration) (i : ℕ) (k : Iteration) → Some k ≡ nth ks i → drop i ks ≡ k ∷ drop (i + 1) ks
drop_some [] i k e = let z : ◌≡◌ {A = ℕ} 0 1 = cc in absurd (omega arith)
drop_some (j ∷ ks) zero k e = let f : k ≡ j = cc in rw f
drop_some (j ∷ ks) (suc i) k e = rw suc-add (drop_some ks i k e)

pub drop_none : (ks : List Iteration) (i : ℕ) → None ≡ nth ks i → drop i ks ≡ []
drop_none [] zero e = refl
drop_none [] (suc i) e = refl
drop_none (j ∷ ks) zero e = let z : ◌≡◌ {A = ℕ} 0 1 = cc in absurd (omega arith)
drop_none (j ∷ ks) (suc i) e = drop_none ks i e

pub within : (ks : List Iteration) (i : ℕ) (k : Iteration) → Some k ≡ nth ks i → i < length ks
within [] i k e = let z : ◌≡◌ {A = ℕ} 0 1 = cc in absurd (omega arith)
within (j ∷ ks) zero k e = omega arith
within (j ∷ ks) (suc i) k e = let h = within ks i k e in omega arith

pub at_place : (P : Iteration → Type 0) (ks : List Iteration) (i : ℕ) (k : Iteration) → AllByRecursion P ks → Some k ≡ nth ks i → P k
at_place P [] i k a e = let z : ◌≡◌ {A = ℕ} 0 1 = cc in absurd (omega arith)
at_place P (j ∷ ks) zero k a e = let f : j ≡ k = cc in subst P f a.0
at_place P (j ∷ ks) (suc i) k a e = at_place P ks i k a.1 e
