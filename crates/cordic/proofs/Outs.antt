-- Laws of outcomes, for any loop.
use Rattle.std.proofs.Common.{◌≡◌, ℕ, ◌+◌, ◌≤◌, sym, refl, ap, ◌∙◌, add_assoc, zero-add, arith}
use Rattle.cordic.specs.Outcome.{State, Out, went, stopped, counted, onward, steps_in}

pub counted_zero : {V F : Type 0} (o : Out V F) → counted 0 o ≡ o
counted_zero (went v n s) = rw zero-add
counted_zero (stopped f n s) = rw zero-add

pub counted_more : {V F : Type 0} (k n : ℕ) (o : Out V F) → counted k (counted n o) ≡ counted (k + n) o
counted_more k n (went v m s) = rw add_assoc
counted_more k n (stopped f m s) = rw add_assoc

counted_onward : {V W F : Type 0} (n : ℕ) (next : V → State → Out W F) (p : Out V F) → counted n (onward next p) ≡ onward next (counted n p)
counted_onward n next (went v m s) = counted_more n m (next v s)
counted_onward n next (stopped f m s) = refl

-- a turn of a loop: n steps made, o what is left, p its first part
module _ {V W F : Type 0} (n : ℕ) (o : Out W F) {whole : Out W F} (inv : counted n o ≡ whole) (next : V → State → Out W F) (p : Out V F) (e : o ≡ onward next p) where
  turned : onward next (counted n p) ≡ whole
  turned = sym (counted_onward n next p) ∙ sym (ap (counted n) e) ∙ inv

  pub loop_on : {v : V} {m : ℕ} {s : State} → went v m s ≡ counted n p → counted m (next v s) ≡ whole
  loop_on h = ap (onward next) h ∙ turned

  pub loop_halt : {f : F} {m : ℕ} {s : State} → stopped f m s ≡ counted n p → stopped f m s ≡ whole
  loop_halt h = ap (onward next) h ∙ turned

pub counted_steps : {V F : Type 0} (k : ℕ) (o : Out V F) → steps_in (counted k o) ≡ k + steps_in o
counted_steps k (went v n s) = refl
counted_steps k (stopped f n s) = refl

-- the steps of two parts, one after another
pub onward_short : {V W F : Type 0} (a b : ℕ) (next : V → State → Out W F) (p : Out V F)
    → steps_in p ≤ a → ((v : V) (s : State) → steps_in (next v s) ≤ b) → steps_in (onward next p) ≤ a + b
onward_short a b next (went v n s) h k = simp counted_steps (let q = k v s in omega arith)
onward_short a b next (stopped f n s) h k = omega arith
