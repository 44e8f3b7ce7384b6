-- What a pass comes to: the recurrence with no bound, where it is accepted.
use Rattle.std.proofs.Common.{◌≡◌, ℕ, ◌+◌, ◌^◌, ◌<◌, Bool, true, false, T, leb, List, [], ◌∷◌, length, ℤ, pos, negsuc, nat_abs, Some, None, Option, sym, refl, subst, zero-add, one-add, arith, le→leb}
use Rattle.stage.specs.Word.{is_word}
use Rattle.stage.specs.Step.{turned, escaped, judged, stepped}
use Rattle.stage.specs.Stage.{steps, loads, Rule}
use Rattle.cordic.specs.Outcome.{State, onward}
use Rattle.cordic.specs.declared.order.Iteration.{Iteration}
use Rattle.cordic.specs.Unit.{told, took_by, ran, overflowed, unit_fault, loaded_by, refusal, unit_ran, read_out, passed, Escapes}
use Rattle.stage.specs.declared.registers.Triple.{Triple}
use Rattle.stage.specs.declared.registers.Register.{Register}
use Rattle.stage.specs.declared.step.System.{System}
use Rattle.cordic.specs.declared.mode.Mode.{Mode}
use Rattle.stage.specs.declared.step.Step.{Step}
use Rattle.stage.specs.declared.step.Overflow.{Overflow}
use Rattle.cordic.specs.declared.faults.Cause.{Cause}
use Rattle.cordic.specs.declared.faults.UnitFault.{UnitFault}
use Rattle.cordic.proofs.Holds.{Said, Holds, Later, Never, holds_counted, holds_inside, holds_read, holds_less}
use Rattle.cordic.proofs.Moved.{moved, Always, always_now}

-- after n steps of a run from t on
abbrev pub Moves : System → Mode → List Iteration → Triple → Said (Unit {0})
Moves m o ks t v n u = (u.held ≡ moved m o ks t) × (n ≡ length ks)

-- a step that is refused after n others
abbrev pub Stuck : System → Mode → List Iteration → Said Overflow
Stuck m o ks f n u = Escapes m ks o n f u.held

module _ (rule : Rule) (m : System) (o : Mode) where
  -- one iteration and those after it, by whether it is refused
  one_more : (Q : Said Overflow) (k : Iteration) (ks : List Iteration) (s : State) (e : Option Register)
      → ((u : State) → u.held ≡ turned (told m o k s.held) s.held → Holds (Moves m o ks u.held) (Later 1 Q) (ran rule m o ks u))
      → ((r : Register) → e ≡ Some r → Q (record { register = r; kept = s.held }) 0 s)
      → Holds (Moves m o (k ∷ ks) s.held) Q
      (onward (λ _. ran rule m o ks) (took_by rule (told m o k s.held) s (judged s.held (turned (told m o k s.held) s.held) e)))
  one_more Q k ks s None rest bad =
      let c : Step = told m o k s.held in
      let u : State = record { held = turned c s.held; notes = rule (steps c) s.held s.notes } in
      holds_counted (Moves m o (k ∷ ks) s.held) Q 1 (ran rule m o ks u)
      (holds_less (Moves m o ks u.held) (Later 1 (Moves m o (k ∷ ks) s.held)) (Later 1 Q) (Later 1 Q) (ran rule m o ks u)
      (λ v n w h. (h.0, let e : n ≡ length ks = h.1 in omega arith)) (λ f n w q. q) (rest u refl))
  one_more Q k ks s (Some r) rest bad = bad r refl

  later_stuck : (k : Iteration) (ks : List Iteration) (f : Overflow) (n : ℕ) (u : State) → Stuck m o ks f n u → Stuck m o (k ∷ ks) f (1 + n) u
  later_stuck k ks f n u x = record { next = x.next; follows = rw one-add x.follows; refused = x.refused; kept = x.kept }

-- a run that is accepted moves as far as the recurrence with no bound; one that is refused was stuck
pub ran_moves : (rule : Rule) (m : System) (o : Mode) (ks : List Iteration) (s : State) → Holds (Moves m o ks s.held) (Stuck m o ks) (ran rule m o ks s)
unfolding ran stepped
ran_moves rule m o [] s = (refl, refl)
ran_moves rule m o (k ∷ ks) s =
    let new : Triple = turned (told m o k s.held) s.held in
    one_more rule m o (Stuck m o (k ∷ ks)) k ks s (escaped new)
    (λ u _. holds_less (Moves m o ks u.held) (Moves m o ks u.held) (Stuck m o ks) (Later 1 (Stuck m o (k ∷ ks))) (ran rule m o ks u)
    (λ v n w h. h) (later_stuck rule m o k ks) (ran_moves rule m o ks u))
    (λ r e. record { next = k; follows = refl; refused = rw e; kept = refl })

-- words, by their size
abbrev pub Fit : Triple → Type 0
Fit t = (nat_abs t.x < 2 ^ 31) × (nat_abs t.y < 2 ^ 31) × (nat_abs t.z < 2 ^ 31)

is_true : (b : Bool) → T b → b ≡ true
is_true true t = refl
is_true false t = absurd t

word_yes : (v : ℤ) → nat_abs v < 2 ^ 31 → is_word v ≡ true
word_yes (pos n) h = is_true (leb n 0x7fff_ffff) (le→leb n 0x7fff_ffff (omega arith))
word_yes (negsuc n) h = let e = is_true (leb n 0x7fff_ffff) (le→leb n 0x7fff_ffff (omega arith)) in rw e

pub fit_stays : (t : Triple) → Fit t → escaped t ≡ None
fit_stays t f = let a = word_yes t.x f.0 in let b = word_yes t.y f.1 in let c = word_yes t.z f.2 in rw (a, b, c)

some_none : (r : Register) (e : Option Register) → e ≡ None → e ≡ Some r → ⊥
some_none r e p q = let z : ◌≡◌ {A = ℕ} 0 1 = cc in omega arith

-- and one whose triples all fit is accepted
pub ran_safe : (rule : Rule) (m : System) (o : Mode) (ks : List Iteration) (s : State) → Always Fit m o ks s.held
    → Holds (Moves m o ks s.held) Never (ran rule m o ks s)
unfolding ran stepped
ran_safe rule m o [] s a = (refl, refl)
ran_safe rule m o (k ∷ ks) s a =
    let t : Triple = turned (told m o k s.held) s.held in
    one_more rule m o Never k ks s (escaped t)
    (λ u e. ran_safe rule m o ks u (subst (Always Fit m o ks) (sym e) a.1))
    (λ r e. some_none r (escaped t) (fit_stays t (always_now Fit m o ks t a.1)) e)

-- a pass: its load was let through, and it read out where the recurrence ends
pub record Passes (m : System) (ks : List Iteration) (o : Mode) (t r : Triple) (n : ℕ) (u : State) : Type 0 where
  pub through : refusal m ks o t ≡ None
  pub ends : r ≡ moved m o ks t
  pub steps : n ≡ length ks
  pub held : u.held ≡ r

-- or why not: the load was refused and nothing changed, or a step was
pub data Fails (m : System) (ks : List Iteration) (o : Mode) (t : Triple) (s : State) (f : UnitFault) (n : ℕ) (u : State) : Type 0 where
  at_load : (why : Cause) → refusal m ks o t ≡ Some why → f ≡ unit_fault m o why 0 → n ≡ 0 → u ≡ s → Fails m ks o t s f n u
  at_step : (g : Overflow) → f ≡ overflowed m o g n → Stuck m o ks g n u → Fails m ks o t s f n u

module _ (rule : Rule) (m : System) (ks : List Iteration) (o : Mode) (t : Triple) (s : State) where
  by_refusal : (Q : Said UnitFault) (e : Option Cause) → refusal m ks o t ≡ e
      → ((why : Cause) → e ≡ Some why → Q (unit_fault m o why 0) 0 s)
      → ((u : State) → u.held ≡ t → e ≡ None → Holds (Moves m o ks u.held) (λ g n w. Q (overflowed m o g n) n w) (ran rule m o ks u))
      → Holds (Passes m ks o t) Q (read_out (onward (λ _. unit_ran rule m ks o) (loaded_by rule m o t s e)))
  by_refusal Q None e bad run =
      let u : State = record { held = t; notes = rule (loads t) s.held s.notes } in
      let P = Passes m ks o t in
      let go = unit_ran rule m ks o u in
      let plain = holds_inside (Moves m o ks t) Q (overflowed m o) (ran rule m o ks u) (run u refl refl) in
      holds_read P Q (onward (λ _. unit_ran rule m ks o) (loaded_by rule m o t s None))
      (holds_counted (λ v n w. P w.held n w) Q 0 go
      (holds_less (Moves m o ks t) (λ v n w. P w.held (0 + n) w) Q (Later 0 Q) go
      (λ v n w h. record { through = e; ends = h.0; steps = (let l : n ≡ length ks = h.1 in omega arith); held = refl })
      (λ f n w q. rw zero-add q) plain))
  by_refusal Q (Some why) e bad run = bad why refl

  pub passes : Holds (Passes m ks o t) (Fails m ks o t s) (passed rule m ks o t s)
  unfolding passed
  passes = by_refusal (Fails m ks o t s) (refusal m ks o t) refl (λ why e. at_load why e refl refl refl)
      (λ u _ _. holds_less (Moves m o ks u.held) (Moves m o ks u.held) (Stuck m o ks) (λ g n w. Fails m ks o t s (overflowed m o g n) n w) (ran rule m o ks u)
      (λ v n w h. h) (λ g n w x. at_step g refl x) (ran_moves rule m o ks u))

  pub passes_safe : refusal m ks o t ≡ None → Always Fit m o ks t → Holds (Passes m ks o t) Never (passed rule m ks o t s)
  unfolding passed
  passes_safe h a = by_refusal Never (refusal m ks o t) refl (λ why e. none_some why (refusal m ks o t) h e)
      (λ u e _. ran_safe rule m o ks u (subst (Always Fit m o ks) (sym e) a))
    where
      none_some : (why : Cause) (e : Option Cause) → e ≡ None → e ≡ Some why → ⊥
      none_some why e p q = let z : ◌≡◌ {A = ℕ} 0 1 = cc in omega arith
