-- A pass, by where it ends.
use Rattle.std.proofs.Common.{◌≡◌, ℕ, List, zero-add}
use Rattle.stage.specs.Stage.{Rule}
use Rattle.stage.specs.declared.registers.Triple.{Triple}
use Rattle.stage.specs.declared.step.System.{System}
use Rattle.cordic.specs.Outcome.{State, went, stopped}
use Rattle.cordic.specs.Unit.{loaded, unit_ran, passed}
use Rattle.cordic.specs.declared.mode.Mode.{Mode}
use Rattle.cordic.specs.declared.order.Iteration.{Iteration}
use Rattle.cordic.specs.declared.faults.UnitFault.{UnitFault}

module _ (rule : Rule) (m : System) (ks : List Iteration) (o : Mode) (t : Triple) (s : State) where
  pub pass_refused : {f : UnitFault} {n : ℕ} {s' : State} → stopped f n s' ≡ loaded rule m ks o t s → stopped f n s' ≡ passed rule m ks o t s
  unfolding passed
  pass_refused e = rw (← e)

  pub pass_halted : (s₁ : State) {f : UnitFault} {n : ℕ} {s' : State} → went tt 0 s₁ ≡ loaded rule m ks o t s → stopped f n s' ≡ unit_ran rule m ks o s₁
      → stopped f n s' ≡ passed rule m ks o t s
  unfolding passed
  pass_halted s₁ e h = rw (← e, ← h, zero-add)

  pub pass_done : (s₁ : State) {n : ℕ} {s' : State} → went tt 0 s₁ ≡ loaded rule m ks o t s → went tt n s' ≡ unit_ran rule m ks o s₁
      → went s'.held n s' ≡ passed rule m ks o t s
  unfolding passed
  pass_done s₁ e h = rw (← e, ← h, zero-add)
