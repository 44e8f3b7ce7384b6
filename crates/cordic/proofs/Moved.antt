-- The recurrence over whole numbers with no bound, and what an order's entries and shifts come to.
use Rattle.std.proofs.Common.{◌≡◌, ℕ, suc, ◌+◌, ◌/◌, ◌^◌, List, [], ◌∷◌, ℤ, pos, ◌+ℤ◌, refl, ap}
use Rattle.stage.specs.Step.{turned}
use Rattle.cordic.specs.declared.order.Iteration.{Iteration}
use Rattle.cordic.specs.Order.{total}
use Rattle.cordic.specs.Unit.{told, span}
use Rattle.stage.specs.declared.registers.Triple.{Triple}
use Rattle.stage.specs.declared.step.System.{System}
use Rattle.cordic.specs.declared.mode.Mode.{Mode}
use Rattle.cordic.proofs.Spent.{sum}

abbrev pub moved : System → Mode → List Iteration → Triple → Triple
moved m o [] t = t
moved m o (k ∷ ks) t = moved m o ks (turned (told m o k t) t)

-- what holds of each triple on the way
abbrev pub Always : (Triple → Type 0) → System → Mode → List Iteration → Triple → Type 0
Always P m o [] t = P t
Always P m o (k ∷ ks) t = P t × Always P m o ks (turned (told m o k t) t)

pub always_now : (P : Triple → Type 0) (m : System) (o : Mode) (ks : List Iteration) (t : Triple) → Always P m o ks t → P t
always_now P m o [] t a = a
always_now P m o (k ∷ ks) t a = a.0

pub always_both : (P Q : Triple → Type 0) (m : System) (o : Mode) (ks : List Iteration) (t : Triple)
    → Always P m o ks t → Always Q m o ks t → Always (λ u. P u × Q u) m o ks t
always_both P Q m o [] t a b = (a, b)
always_both P Q m o (k ∷ ks) t a b = ((a.0, b.0), always_both P Q m o ks (turned (told m o k t) t) a.1 b.1)

abbrev pub entries : List Iteration → List ℕ
entries [] = []
entries (k ∷ ks) = k.entry ∷ entries ks

-- the parts a(s) of x, for the shifts of an order
abbrev pub parts_of : ℕ → List Iteration → List ℕ
parts_of x [] = []
parts_of x (k ∷ ks) = x / 2 ^ k.shift.amount ∷ parts_of x ks

-- the shifts rise by one from s
abbrev pub RisingFrom : ℕ → List Iteration → Type 0
RisingFrom s [] = Unit {0}
RisingFrom s (k ∷ ks) = (k.shift.amount ≡ s) × RisingFrom (suc s) ks

pub total_is : (ks : List Iteration) → total ks ≡ sum (entries ks)
total_is [] = refl
total_is (k ∷ ks) = ap (λ (n : ℕ). k.entry + n) (total_is ks)

pub span_is : (a : ℕ) (ks : List Iteration) → span (pos a) ks ≡ pos (sum (parts_of a ks))
span_is a [] = refl
span_is a (k ∷ ks) = ap (λ (v : ℤ). pos (a / 2 ^ k.shift.amount) +ℤ v) (span_is a ks)
