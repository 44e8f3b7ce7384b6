-- A table's rule at each of its entries, from one test over the table that antt computes.
use Rattle.std.proofs.Common.{ℕ, zero, suc, ◌-◌, ◌^◌, Bool, true, false, ◌&&◌, T, eqb, List, [], ◌∷◌, pos, ◌+ℤ◌, ◌-ℤ◌, ◌*ℤ◌, eqb→eq}
use lib.Signed.{lt_z, lt_z_yes}
use Rattle.std.specs.List.{AllByRecursion}
use Rattle.cordic.specs.Series.{Fraction, plus, term, atan_sum, atanh_sum, Nearest, NearAtan, NearAtanh, PowerEntry, OfEntry}
use Rattle.cordic.specs.Tables.{linear, circular, hyperbolic}
use Rattle.cordic.specs.declared.order.Iteration.{Iteration}

both_left : (a b : Bool) → T (a && b) → T a
both_left true b t = tt
both_left false b t = t

both_right : (a b : Bool) → T (a && b) → T b
both_right true b t = t
both_right false b t = absurd t

-- a test that implies a rule, at each iteration of an order
module _ (test : ℕ → ℕ → Bool) (Rule : ℕ → ℕ → Type 0) (sound : (s e : ℕ) → T (test s e) → Rule s e) where
  abbrev every : List Iteration → Bool
  every [] = true
  every (k ∷ ks) = test k.shift.amount k.entry && every ks

  of_each : (ks : List Iteration) → T (every ks) → AllByRecursion (OfEntry Rule) ks
  of_each [] t = tt
  of_each (k ∷ ks) t =
      (sound k.shift.amount k.entry (both_left (test k.shift.amount k.entry) (every ks) t), of_each ks (both_right (test k.shift.amount k.entry) (every ks) t))

abbrev low : ℕ → Fraction → Bool
low e a = lt_z (((pos 2 *ℤ pos e) -ℤ pos 1) *ℤ pos a.den) (pos (2 ^ 29) *ℤ a.num)

abbrev high : ℕ → Fraction → Bool
high e a = lt_z (pos (2 ^ 29) *ℤ a.num) (((pos 2 *ℤ pos e) +ℤ pos 1) *ℤ pos a.den)

abbrev near : ℕ → Fraction → Bool
near e a = low e a && high e a

nearest : (e : ℕ) (a : Fraction) → T (near e a) → Nearest e a
nearest e a t = record { above = lt_z_yes (both_left (low e a) (high e a) t); below = lt_z_yes (both_right (low e a) (high e a) t) }

-- two ends of an enclosure
between : (e : ℕ) (a b : Fraction) → T (near e a && near e b) → Nearest e a × Nearest e b
between e a b t = (nearest e a (both_left (near e a) (near e b) t), nearest e b (both_right (near e a) (near e b) t))

abbrev near_atan : ℕ → ℕ → Bool
near_atan zero e = near e (plus (atan_sum 2 20) (atan_sum 3 20)) && near e (plus (atan_sum 2 21) (atan_sum 3 21))
near_atan (suc s) e = near e (atan_sum (2 ^ suc s) 20) && near e (atan_sum (2 ^ suc s) 21)

near_atan_lem : (s e : ℕ) → T (near_atan s e) → NearAtan s e
near_atan_lem zero e t = between e (plus (atan_sum 2 20) (atan_sum 3 20)) (plus (atan_sum 2 21) (atan_sum 3 21)) t
near_atan_lem (suc s) e t = between e (atan_sum (2 ^ suc s) 20) (atan_sum (2 ^ suc s) 21) t

abbrev near_atanh : ℕ → ℕ → Bool
near_atanh s e = near e (atanh_sum (2 ^ s) 20) && near e (plus (atanh_sum (2 ^ s) 20) (term 2 (2 ^ s) 20))

near_atanh_lem : (s e : ℕ) → T (near_atanh s e) → NearAtanh s e
near_atanh_lem s e t = between e (atanh_sum (2 ^ s) 20) (plus (atanh_sum (2 ^ s) 20) (term 2 (2 ^ s) 20)) t

pub circular_rule : AllByRecursion (OfEntry NearAtan) circular
unfolding circular
circular_rule = of_each near_atan NearAtan near_atan_lem circular tt

pub hyperbolic_rule : AllByRecursion (OfEntry NearAtanh) hyperbolic
unfolding hyperbolic
hyperbolic_rule = of_each near_atanh NearAtanh near_atanh_lem hyperbolic tt

pub linear_rule : AllByRecursion (OfEntry PowerEntry) linear
unfolding linear
linear_rule = of_each (λ s e. eqb e (2 ^ (28 - s))) PowerEntry (λ s e t. eqb→eq e (2 ^ (28 - s)) t) linear tt
