-- The whole claim of a run whose code agrees with the recurrence.
use Rattle.std.proofs.Common.{◌≡◌, ℕ, ◌*◌, ◌<◌, Bool, true, false, cond, List, ℤ, Some, None, refl, ap, ◌∙◌, arith}
use Rattle.std.specs.List.{AllByRecursion}
use Rattle.stage.specs.Stage.{Rule}
use Rattle.stage.specs.declared.registers.Triple.{Triple}
use Rattle.stage.specs.declared.step.System.{System}
use Rattle.stage.specs.declared.step.System.TheVariants.{Linear, Circular, Hyperbolic}
use Rattle.cordic.specs.Order.{Lawful, Covered, Reachable}
use Rattle.cordic.specs.Outcome.{State, Out, stopped, mapped, steps_in}
use Rattle.cordic.specs.Tables.{linear, circular, hyperbolic, order}
use Rattle.cordic.specs.Unit.{beyond, unit_fault, loaded_by}
use Rattle.cordic.specs.declared.order.Iteration.{Iteration}
use Rattle.cordic.specs.declared.mode.Mode.TheVariants.{Rotation}
use Rattle.cordic.specs.declared.faults.Cause.TheVariants.{Unreachable}
use Rattle.cordic.specs.declared.faults.UnitFault.{UnitFault}
use Rattle.cordic.proofs.Reaching.{beyond_reach, in_reach}
use Rattle.network.specs.Claim.{Whole}
use Rattle.network.specs.Laws.{Reach}
use Rattle.network.specs.Run.{Feed, recurrence, outputs, written}
use Rattle.network.specs.declared.faults.NetworkFault.{NetworkFault}
use Rattle.network.proofs.Checks.{ranked_stops}
use Rattle.network.proofs.Meaning.{meaning}
use Rattle.network.proofs.Quiet.{alike}
use Rattle.network.proofs.Short.{mapped_steps}

module _ (ks : List Iteration) (rule : Rule) (m : System) (t : Triple) (s : State) where
  abbrev loaded_if : Bool → Out (Unit {0}) UnitFault
  loaded_if b = loaded_by rule m Rotation t s (cond b (Some Unreachable) None)

  refuses : (b : Bool) → beyond ks t.z ≡ b → loaded_if b ≡ stopped (unit_fault m Rotation Unreachable 0) 0 s → Reachable ks t.z → ⊥
  refuses true e h r = beyond_reach ks t.z e r
  refuses false e h r = let z : ◌≡◌ {A = ℕ} 0 1 = cc in omega arith

  accepts : (b : Bool) → beyond ks t.z ≡ b → Covered ks → (Reachable ks t.z → ⊥) → loaded_if b ≡ stopped (unit_fault m Rotation Unreachable 0) 0 s
  accepts true e c h = refl
  accepts false e c h = absurd (h (in_reach ks t.z c e))

lawful : (m : System) → Lawful (order m)
unfolding linear circular hyperbolic
lawful Linear = record { positive = omega arith; last = refl; covered = omega arith }
lawful Circular = record { positive = omega arith; last = refl; covered = omega arith }
lawful Hyperbolic = record { positive = omega arith; last = refl; covered = omega arith }

reach : Reach
reach = record {
  sound = λ ks l rule m t s h r. refuses ks rule m t s (beyond ks t.z) refl h r;
  complete = λ ks l rule m t s h. accepts ks rule m t s (beyond ks t.z) refl l.covered h;
  lawful = lawful;
}

pub whole : (f : Feed) (per : ℕ) (seen : Out (List ℤ) NetworkFault) (ticks : ℕ) (places : List ℤ) → AllByRecursion (λ b. b < 256) f.plan
    → seen ≡ mapped outputs (recurrence f) → ticks ≡ steps_in seen * per → places ≡ written (recurrence f) f.places → Whole f per seen ticks places
whole f per seen ticks places bytes same ticked lent = record {
  same = same;
  ticked = ticked ∙ ap (λ n. n * per) (ap steps_in same ∙ mapped_steps outputs (recurrence f));
  lent = lent;
  meant = meaning f bytes;
  only = ranked_stops f;
  alike = alike f;
  reach = reach;
}
