-- The loop over the iterations of an order.
use Rattle.std.proofs.Common.{◌≡◌, ℕ, ◌+◌, List, [], ◌∷◌, drop, Some, None, Err, Option, sym, refl, ap, ◌∙◌, add-zero, arith}
use Rattle.stage.specs.Step.{turned, escaped, judged, stepped}
use Rattle.stage.specs.Stage.{Rule}
use Rattle.stage.specs.declared.registers.Triple.{Triple}
use Rattle.stage.specs.declared.registers.Register.{Register}
use Rattle.stage.specs.declared.step.Step.{Step}
use Rattle.stage.specs.declared.step.System.{System}
use Rattle.stage.specs.declared.step.Overflow.{Overflow}
use Rattle.cordic.specs.Order.{nth}
use Rattle.cordic.specs.Outcome.{State, Out, went, stopped, counted, onward}
use Rattle.cordic.specs.Unit.{told, took, took_by, ran, Escapes}
use Rattle.cordic.specs.declared.mode.Mode.{Mode}
use Rattle.cordic.specs.declared.order.Iteration.{Iteration}
use Rattle.cordic.proofs.Outs.{loop_on, loop_halt}
use Rattle.cordic.proofs.Places.{drop_some, drop_none}

ran_none : (rule : Rule) (m : System) (o : Mode) (s : State) → ran rule m o [] s ≡ went tt 0 s
unfolding ran
ran_none rule m o s = refl

ran_more : (rule : Rule) (m : System) (o : Mode) (k : Iteration) (ks : List Iteration) (s : State)
    → ran rule m o (k ∷ ks) s ≡ onward (λ _. ran rule m o ks) (took rule (told m o k s.held) s)
unfolding ran
ran_more rule m o k ks s = refl

-- n steps made, s the state now, whole the run from its start
module _ (rule : Rule) (m : System) (o : Mode) (ks : List Iteration) (n : ℕ) (s : State) {whole : Out (Unit {0}) Overflow}
    (inv : counted n (ran rule m o (drop n ks) s) ≡ whole) where
  here : (k : Iteration) → Some k ≡ nth ks n → ran rule m o (drop n ks) s ≡ onward (λ _. ran rule m o (drop (n + 1) ks)) (took rule (told m o k s.held) s)
  here k e = ap (λ js. ran rule m o js s) (drop_some ks n k e) ∙ ran_more rule m o k (drop (n + 1) ks) s

  pub run_on : (k : Iteration) {s' : State} → Some k ≡ nth ks n → went tt 1 s' ≡ took rule (told m o k s.held) s
      → counted (n + 1) (ran rule m o (drop (n + 1) ks) s') ≡ whole
  run_on k e t = loop_on n _ inv _ _ (here k e) (ap (counted n) t)

  pub run_halt : (k : Iteration) {s' : State} {f : Overflow} → Some k ≡ nth ks n → stopped f 0 s' ≡ took rule (told m o k s.held) s
      → stopped f n s' ≡ whole
  run_halt k e t = rw add-zero at (loop_halt n _ inv _ _ (here k e) (ap (counted n) t))

  pub run_done : None ≡ nth ks n → went tt n s ≡ whole
  run_done e = let d = drop_none ks n e in rw (d, ran_none rule m o s, add-zero) at inv

-- a refused step: what it comes to, and that nothing changed
pub record Refuses (c : Step) (s s' : State) (f : Overflow) : Type 0 where
  pub refused : stepped c s.held ≡ Err f
  pub kept : f.kept ≡ s.held
  pub same : s' ≡ s

by_escape : (rule : Rule) (c : Step) (s s' : State) (f : Overflow) (n : ℕ) (new : Triple) (e : Option Register)
    → stopped f n s' ≡ took_by rule c s (judged s.held new e) → (judged s.held new e ≡ Err f) × (f.kept ≡ s.held) × (s' ≡ s)
by_escape rule c s s' f n new None h = let z : ◌≡◌ {A = ℕ} 0 1 = cc in absurd (omega arith)
by_escape rule c s s' f n new (Some r) h =
    let a : f ≡ record { register = r; kept = s.held } = cc in
    let b : s' ≡ s = cc in
    (ap Err (sym a), rw a, b)

pub took_refuses : (rule : Rule) (c : Step) (s s' : State) (f : Overflow) (n : ℕ) → stopped f n s' ≡ took rule c s → Refuses c s s' f
unfolding stepped
took_refuses rule c s s' f n h =
    let e = by_escape rule c s s' f n (turned c s.held) (escaped (turned c s.held)) h in
    record { refused = e.0; kept = e.1; same = e.2 }

pub halt_escapes : (rule : Rule) (m : System) (o : Mode) (ks : List Iteration) (k : Iteration) (s s' : State) (f : Overflow) (n i : ℕ)
    → Some k ≡ nth ks i → stopped f n s' ≡ took rule (told m o k s.held) s → Escapes m ks o i f s'.held
halt_escapes rule m o ks k s s' f n i e h =
    let r = took_refuses rule (told m o k s.held) s s' f n h in
    record { next = k; follows = sym e; refused = rw r.same r.refused; kept = rw r.same r.kept }
