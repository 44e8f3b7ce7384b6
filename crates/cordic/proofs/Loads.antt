-- A load, by whether it is refused.
use Rattle.std.proofs.Common.{◌≡◌, ℕ, Bool, true, false, cond, List, Some, None, refl, arith}
use Rattle.stage.specs.Stage.{loads, Rule}
use Rattle.stage.specs.declared.registers.Triple.{Triple}
use Rattle.stage.specs.declared.step.System.{System}
use Rattle.cordic.specs.Faults.{reported}
use Rattle.cordic.specs.Order.{Covered, Reachable}
use Rattle.cordic.specs.Outcome.{State, went, stopped}
use Rattle.cordic.specs.Unit.{beyond, refusal, unit_fault, loaded}
use Rattle.cordic.specs.declared.mode.Mode.{Mode}
use Rattle.cordic.specs.declared.mode.Mode.TheVariants.{Rotation}
use Rattle.cordic.specs.declared.order.Iteration.{Iteration}
use Rattle.cordic.specs.declared.faults.Cause.{Cause}
use Rattle.cordic.specs.declared.faults.Cause.TheVariants.{Unreachable}
use Rattle.cordic.proofs.Reaching.{beyond_reach, in_reach}

module _ (rule : Rule) (m : System) (ks : List Iteration) (o : Mode) (t : Triple) (s : State) where
  pub load_refused : (why : Cause) → Some why ≡ refusal m ks o t → stopped (unit_fault m o why 0) 0 s ≡ loaded rule m ks o t s
  load_refused why e = rw (← e)

  pub load_accepted : (new : State) → None ≡ refusal m ks o t → new.held ≡ t → new.notes ≡ rule (loads t) s.held s.notes
      → went tt 0 new ≡ loaded rule m ks o t s
  load_accepted new e h n = rw (← e, ← n, ← h)

refused_by_lem : (why : Cause) (b : Bool) → Some why ≡ cond b (Some Unreachable) None → (b ≡ true) × (why ≡ Unreachable)
refused_by_lem why true e = (refl, cc)
refused_by_lem why false e = let z : ◌≡◌ {A = ℕ} 0 1 = cc in absurd (omega arith)

accepted_by : (b : Bool) → None ≡ cond b (Some Unreachable) None → b ≡ false
accepted_by true e = let z : ◌≡◌ {A = ℕ} 0 1 = cc in absurd (omega arith)
accepted_by false e = refl

module _ (m : System) (ks : List Iteration) (o : Mode) (t : Triple) (r : o ≡ Rotation) where
  pub refused_reach : (m' : System) (why : Cause) → Some why ≡ refusal m ks o t
      → ((reported (unit_fault m' o why 0)).number ≡ 5 → Reachable ks t.z → ⊥) × ((Reachable ks t.z → ⊥) → (reported (unit_fault m' o why 0)).number ≡ 5)
  refused_reach m' why e =
      let b = refused_by_lem why (beyond ks t.z) (rw r at e) in
      ((λ _. beyond_reach ks t.z b.0), (λ _. rw b.1))

  pub accepted_reach : Covered ks → None ≡ refusal m ks o t → (Reachable ks t.z → ⊥) → ⊥
  accepted_reach c e h = h (in_reach ks t.z c (accepted_by (beyond ks t.z) (rw r at e)))
