-- The refusal of a run, from the step that the stage refused.
use Rattle.std.proofs.Common.{◌≡◌, ℕ, ◌+◌, List, Err, refl, ap}
use Rattle.stage.specs.Stage.{Rule}
use Rattle.stage.specs.declared.stage.Stage.{Ghosts}
use Rattle.stage.specs.declared.step.System.{System}
use Rattle.cordic.specs.Halted.{refused_by}
use Rattle.cordic.specs.Outcome.{State, stopped, inside}
use Rattle.cordic.specs.Seen.{state_of, run_seen, Halts}
use Rattle.cordic.specs.Unit.{overflowed, ran, unit_ran, Escapes}
use Rattle.cordic.specs.declared.mode.Mode.{Mode}
use Rattle.cordic.specs.declared.order.Iteration.{Iteration}
use Rattle.cordic.specs.declared.halted.Halted.{Halted}
use Rattle.cordic.specs.declared.halted.Place.{Place}

abbrev pub place_at : System → Mode → ℕ → Place
place_at m o n = record { system = m; mode = o; steps = n; step = n + 1 }

module _ {X : Type 0} (S : Ghosts X) (h : Halted X) (m : System) (o : Mode) (n : ℕ) (e : h.place ≡ place_at m o n) where
  pub halted_run : (rule : Rule) (ks : List Iteration) (s : State) → stopped h.overflow n (state_of S h.stage) ≡ ran rule m o ks s
      → run_seen S (Err (refused_by h)) ≡ unit_ran rule m ks o s
  halted_run rule ks s r = rw e (ap (inside (overflowed m o)) r)

  pub halted_says : (ks : List Iteration) → Escapes m ks o n h.overflow (S.triple h.stage) → Halts S m ks o (refused_by h)
  halted_says ks x = record { overflow = h.overflow; fault = rw e; number = refl; escapes = rw e x }
