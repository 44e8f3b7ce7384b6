-- tanh: only its angle can be refused, and its quotient keeps its bound.
use Rattle.std.proofs.Common.{◌≡◌, ℕ, ◌+◌, ◌*◌, ◌/◌, ◌^◌, ◌<◌, ◌≤◌, Bool, true, false, cond, not, T, ltb, List, [], ◌∷◌, ℤ, pos, negsuc, ◌-ℤ◌, ◌*ℤ◌, nat_abs, ◌≤ℤ◌, Some, None, sym, refl, ◌∙◌, subst, div-le_self, arith, lt→ltb, nltb→le}
use lib.Arith.{le→nltb}
use lib.Signed.{lt_z_yes}
use Rattle.std.proofs.lemmas.Int.{ints}
use Rattle.std.specs.List.{AllByRecursion}
use Rattle.stage.specs.Step.{signed, turned}
use Rattle.stage.specs.Stage.{Rule}
use Rattle.cordic.specs.Outcome.{State, stopped, mapped}
use Rattle.cordic.specs.declared.order.Iteration.{Iteration}
use Rattle.cordic.specs.Order.{total, Reachable}
use Rattle.cordic.specs.Tables.{linear, hyperbolic}
use Rattle.cordic.specs.Unit.{beyond, refusal, told, passed, unit_fault}
use Rattle.cordic.specs.Mode.{sign, directed}
use Rattle.network.specs.Neuron.{Quotient, start, tanh}
use Rattle.network.specs.Laws.{Divided}
use Rattle.stage.specs.declared.registers.Triple.{Triple}
use Rattle.stage.specs.declared.step.System.{System}
use Rattle.stage.specs.declared.step.System.TheVariants.{Linear, Hyperbolic}
use Rattle.cordic.specs.declared.mode.Mode.{Mode}
use Rattle.cordic.specs.declared.mode.Mode.TheVariants.{Rotation, Vectoring}
use Rattle.stage.specs.declared.step.Direction.{Direction}
use Rattle.stage.specs.declared.step.Direction.TheVariants.{Plus, Minus}
use Rattle.cordic.specs.declared.faults.Cause.{Cause}
use Rattle.cordic.specs.declared.faults.Cause.TheVariants.{Unreachable}
use Rattle.cordic.specs.declared.faults.UnitFault.{UnitFault}
use Rattle.cordic.proofs.Moved.{moved, Always, always_both, parts_of, span_is}
use Rattle.cordic.proofs.Spent.{sum}
use Rattle.cordic.proofs.Ends.{next_y, minus_zero, linear_length}
use Rattle.cordic.proofs.Reaching.{beyond_reach}
use Rattle.network.proofs.Systems.{linear_total, hyperbolic_low, hyperbolic_length, hyperbolic_total}
use Rattle.network.proofs.Bounds.{quotient, starts}
use Rattle.network.proofs.Hypers.{InWords, unturned, tanh_tame}
use Rattle.cordic.proofs.Holds.{Holds, Later, Never, holds_onward, holds_mapped, holds_less}
use Rattle.cordic.proofs.Passes.{Fit, Passes, passes_safe}

is_false : (b : Bool) → T (not b) → b ≡ false
is_false true t = absurd t
is_false false t = refl

not_less : (a b : ℕ) → b ≤ a → ltb a b ≡ false
not_less a b h = is_false (ltb a b) (le→nltb a b h)

pub always_less : (P Q : Triple → Type 0) (m : System) (o : Mode) (ks : List Iteration) (t : Triple)
    → ((u : Triple) → P u → Q u) → Always P m o ks t → Always Q m o ks t
always_less P Q m o [] t f a = f t a
always_less P Q m o (k ∷ ks) t f a = (f t a.0, always_less P Q m o ks (turned (told m o k t) t) f a.1)

pub always_end : (P : Triple → Type 0) (m : System) (o : Mode) (ks : List Iteration) (t : Triple) → Always P m o ks t → P (moved m o ks t)
always_end P m o [] t a = a
always_end P m o (k ∷ ks) t a = always_end P m o ks (turned (told m o k t) t) a.1

-- turned against its sign by e, which is at most b, a number within b stays there
inward : (z : ℤ) (e b : ℕ) → e ≤ b → nat_abs z ≤ b → nat_abs (z -ℤ signed (sign z) (pos e)) ≤ b
inward (pos n) e b h l = omega (arith, ints)
inward (negsuc n) e b h l = omega (arith, ints)

-- an angle stays as small as it and all entries were
angle_stays : (m : System) (b : ℕ) (ks : List Iteration) (t : Triple) → AllByRecursion (λ k. k.entry ≤ b) ks → nat_abs t.z ≤ b
    → Always (λ u. nat_abs u.z ≤ b) m Rotation ks t
angle_stays m b [] t a h = h
angle_stays m b (k ∷ ks) t a h = (h, angle_stays m b ks (turned (told m Rotation k t) t) a.1 (inward t.z k.entry b a.0 h))

-- linear vectoring from x ≥ 0 stays in words
add_entry : (d : Direction) (z : ℤ) (e r : ℕ) → nat_abs z + (e + r) < 2 ^ 31 → nat_abs (z -ℤ signed d (pos e)) + r < 2 ^ 31
add_entry Plus z e r h = omega (arith, ints)
add_entry Minus z e r h = omega (arith, ints)

below : (x z : ℤ) (a r : ℕ) → x ≡ pos a → a < 2 ^ 31 → nat_abs z + r < 2 ^ 31 → (nat_abs x < 2 ^ 31) × (nat_abs z < 2 ^ 31)
below x z a r e h l = (rw e h, omega arith)

vectoring_fits : (a : ℕ) (ks : List Iteration) (t : Triple) → t.x ≡ pos a → a < 2 ^ 31 → nat_abs t.y ≤ a → nat_abs t.z + total ks < 2 ^ 31
    → Always Fit Linear Vectoring ks t
vectoring_fits a [] t e l h k = let b = below t.x t.z a 0 e l k in (b.0, omega arith, b.1)
vectoring_fits a (i ∷ ks) t e l h k =
    let b = below t.x t.z a (i.entry + total ks) e l k in (
      (b.0, omega arith, b.1),
      vectoring_fits a ks (turned (told Linear Vectoring i t) t) (minus_zero t.x ∙ e) l
          (rw (next_y t.x t.y a i.shift.amount e) (inward t.y (a / 2 ^ i.shift.amount) a (div-le_self a (2 ^ i.shift.amount)) h))
          (add_entry (directed Vectoring t) t.z i.entry (total ks) k),
    )

-- the load of the quotient is let through
let_through : (a : ℕ) (y : ℤ) → pos (2 ^ 24) ≤ℤ pos a → nat_abs y ≤ sum (parts_of a linear) + a / 2 ^ 28 + 27
    → refusal Linear linear Vectoring (start (pos a) y (pos 0)) ≡ None
let_through a y h k =
    let e = not_less a 0x100_0000 (omega (arith, ints)) in
    let f = not_less (sum (parts_of a linear) + (a / 2 ^ 28 + 27)) (nat_abs y) (omega arith) in
    rw (e, span_is, f)

linear_small : total linear < 2 ^ 31
linear_small = let e = linear_total in omega arith

-- a quotient of x and y, after so many steps
abbrev Divides : ℤ → ℤ → Triple → ℕ → State → Type 0
Divides x y q n s = Divided (record { x = x; y = y; t = q.z }) × (n ≡ 28)

divides : (rule : Rule) (x y : ℤ) (s : State) → pos (2 ^ 24) ≤ℤ x → pos (nat_abs y + 2 ^ 24) ≤ℤ x → nat_abs x < 2 ^ 31
    → Holds (Divides x y) Never (passed rule Linear linear Vectoring (start x y (pos 0)) s)
divides rule (negsuc a) y s h k l = absurd (omega (arith, ints))
divides rule (pos a) y s h k l =
    let t : Triple = start (pos a) y (pos 0) in
    let b = starts a y k in
    holds_less (Passes Linear linear Vectoring t) (Divides (pos a) y) Never Never (passed rule Linear linear Vectoring t s)
    (λ q n u p. (
      lt_z_yes (lt→ltb (nat_abs (pos (2 ^ 28) *ℤ y -ℤ q.z *ℤ pos a)) ((55 + a / 2 ^ 28) * 2 ^ 28)
          (subst (λ (r : Triple). nat_abs (pos (2 ^ 28) *ℤ y -ℤ r.z *ℤ pos a) < (55 + a / 2 ^ 28) * 2 ^ 28) (sym p.ends) (quotient a y b))),
      p.steps ∙ linear_length,
    ))
    (λ f n u q. q)
    (passes_safe rule Linear linear Vectoring t s (let_through a y h b)
    (vectoring_fits a linear t refl l (omega (arith, ints)) (let m = linear_small in omega arith)))

-- tanh's angle, let through, is small
small_angle : (u : ℤ) → beyond hyperbolic u ≡ false → nat_abs u ≤ 2 ^ 30
small_angle u e =
    let h = nltb→le (total hyperbolic + 1) (nat_abs u) (subst (λ (b : Bool). T (not b)) (sym e) tt) in
    let s = hyperbolic_total in
    omega arith

abbrev pub Squashed : Quotient → ℕ → State → Type 0
Squashed q n s = Divided q × (n ≡ 58)

hyperbolic_fits : (u : ℤ) → nat_abs u ≤ 2 ^ 30 → Always Fit Hyperbolic Rotation hyperbolic (unturned u)
hyperbolic_fits u h =
    always_less (λ t. InWords t × (nat_abs t.z ≤ 2 ^ 30)) Fit Hyperbolic Rotation hyperbolic (unturned u)
    (λ t f. (f.0.0, f.0.1, (let k = f.1 in omega arith)))
    (always_both InWords (λ t. nat_abs t.z ≤ 2 ^ 30) Hyperbolic Rotation hyperbolic (unturned u) (tanh_tame u).0
    (angle_stays Hyperbolic (2 ^ 30) hyperbolic (unturned u) hyperbolic_low h))

not_refused : (b : Bool) → b ≡ false → cond b (Some Unreachable) None ≡ None
not_refused b e = rw e

pub squashes_holds : (rule : Rule) (u : ℤ) (s : State) → beyond hyperbolic u ≡ false → Holds Squashed Never (tanh rule u s)
unfolding tanh
squashes_holds rule u s e =
    let t : Triple = unturned u in
    let tame = tanh_tame u in
    let end = always_end InWords Hyperbolic Rotation hyperbolic t tame.0 in
    holds_onward (Passes Hyperbolic hyperbolic Rotation t) Squashed Never
    (λ r v. mapped (λ q. record { x = r.x; y = r.y; t = q.z }) (passed rule Linear linear Vectoring (start r.x r.y (pos 0)) v))
    (passed rule Hyperbolic hyperbolic Rotation t s)
    (passes_safe rule Hyperbolic hyperbolic Rotation t s (not_refused (beyond hyperbolic u) e) (hyperbolic_fits u (small_angle u e)))
    (λ r k v p.
    let back = sym p.ends in
    let w = passed rule Linear linear Vectoring (start r.x r.y (pos 0)) v in
    holds_mapped (Later k Squashed) Never (λ q. record { x = r.x; y = r.y; t = q.z }) w
    (holds_less (Divides r.x r.y) (λ q n v'. Squashed (record { x = r.x; y = r.y; t = q.z }) (k + n) v') Never Never w
    (λ q n v' d. (d.0, (let a = p.steps ∙ hyperbolic_length in let b = d.1 in omega arith))) (λ f n u q. q)
    (divides rule r.x r.y v
    (subst (λ (t' : Triple). pos (2 ^ 24) ≤ℤ t'.x) back tame.1)
    (subst (λ (t' : Triple). pos (nat_abs t'.y + 2 ^ 24) ≤ℤ t'.x) back tame.2)
    (subst (λ (t' : Triple). nat_abs t'.x < 2 ^ 31) back end.0))))

refused : (rule : Rule) (m : System) (ks : List Iteration) (o : Mode) (t : Triple) (s : State) (why : Cause) → refusal m ks o t ≡ Some why
    → passed rule m ks o t s ≡ stopped (unit_fault m o why 0) 0 s
unfolding passed
refused rule m ks o t s why e = rw e

is_refused : (b : Bool) → b ≡ true → cond b (Some Unreachable) None ≡ Some Unreachable
is_refused b e = rw e

refuses : (rule : Rule) (u : ℤ) (s : State) → beyond hyperbolic u ≡ true → tanh rule u s ≡ stopped (unit_fault Hyperbolic Rotation Unreachable 0) 0 s
unfolding tanh
refuses rule u s e =
    let h = refused rule Hyperbolic hyperbolic Rotation (unturned u) s Unreachable (is_refused (beyond hyperbolic u) e) in
    rw h

-- refused for its angle alone, and then at once
pub record TooFar (u : ℤ) (s : State) (f : UnitFault) (n : ℕ) (v : State) : Type 0 where
  pub fault : f ≡ unit_fault Hyperbolic Rotation Unreachable 0
  pub same : v ≡ s
  pub far : Reachable hyperbolic u → ⊥

pub tanh_holds : (rule : Rule) (u : ℤ) (s : State) → Holds Squashed (TooFar u s) (tanh rule u s)
tanh_holds rule u s = by (beyond hyperbolic u) refl
  where
    by : (b : Bool) → beyond hyperbolic u ≡ b → Holds Squashed (TooFar u s) (tanh rule u s)
    by true e = rw (refuses rule u s e) (record { fault = refl; same = refl; far = beyond_reach hyperbolic u e })
    by false e = holds_less Squashed Squashed Never (TooFar u s) (tanh rule u s) (λ v n w h. h) (λ f n w q. absurd q) (squashes_holds rule u s e)
