-- Each part of a pass, with the notes left out, is that part on a stage that notes nothing.
use Rattle.std.proofs.Common.{◌≡◌, ℕ, List, [], ◌∷◌, Some, None, Ok, Err, Option, Result, sym, refl, ap, ◌∙◌}
use Rattle.stage.specs.Step.{stepped}
use Rattle.stage.specs.Stage.{Rule, silent}
use Rattle.stage.specs.declared.registers.Triple.{Triple}
use Rattle.stage.specs.declared.step.Step.{Step}
use Rattle.stage.specs.declared.step.System.{System}
use Rattle.stage.specs.declared.step.Overflow.{Overflow}
use Rattle.cordic.specs.Outcome.{State, Out, went, stopped, counted, onward, mapped, inside, bare}
use Rattle.cordic.specs.Unit.{refusal, told, took_by, took, ran, overflowed, unit_ran, loaded_by, loaded, read_out, passed}
use Rattle.cordic.specs.declared.mode.Mode.{Mode}
use Rattle.cordic.specs.declared.order.Iteration.{Iteration}
use Rattle.cordic.specs.declared.faults.Cause.{Cause}

abbrev pub blank : State → State
blank s = record { held = s.held; notes = [] }

pub bare_counted : {V F : Type 0} (n : ℕ) (o : Out V F) → bare (counted n o) ≡ counted n (bare o)
bare_counted n (went v k s) = refl
bare_counted n (stopped f k s) = refl

pub bare_mapped : {V W F : Type 0} (g : V → W) (o : Out V F) → bare (mapped g o) ≡ mapped g (bare o)
bare_mapped g (went v k s) = refl
bare_mapped g (stopped f k s) = refl

pub bare_inside : {V F G : Type 0} (g : F → ℕ → G) (o : Out V F) → bare (inside g o) ≡ inside g (bare o)
bare_inside g (went v k s) = refl
bare_inside g (stopped f k s) = refl

bare_read_out : {V F : Type 0} (o : Out V F) → bare (read_out o) ≡ read_out (bare o)
bare_read_out (went v k s) = refl
bare_read_out (stopped f k s) = refl

-- one part after another: what is true of each is true of both
pub bare_onward : {V W F : Type 0} (next quiet : V → State → Out W F) (p q : Out V F)
    → bare p ≡ q → ((v : V) (s : State) → bare (next v s) ≡ quiet v (blank s)) → bare (onward next p) ≡ onward quiet q
bare_onward next quiet (went v n s) q e h = bare_counted n (next v s) ∙ ap (counted n) (h v s) ∙ ap (onward quiet) e
bare_onward next quiet (stopped f n s) q e h = ap (onward quiet) e

module _ (rule : Rule) where
  bare_took : (c : Step) (s : State) (r : Result Triple Overflow) → bare (took_by rule c s r) ≡ took_by silent c (blank s) r
  bare_took c s (Ok t) = refl
  bare_took c s (Err f) = refl

  bare_ran : (m : System) (o : Mode) (ks : List Iteration) (s : State) → bare (ran rule m o ks s) ≡ ran silent m o ks (blank s)
  unfolding ran
  bare_ran m o [] s = refl
  bare_ran m o (k ∷ ks) s =
      bare_onward (λ _. ran rule m o ks) (λ _. ran silent m o ks) (took rule (told m o k s.held) s) (took silent (told m o k s.held) (blank s))
      (bare_took (told m o k s.held) s (stepped (told m o k s.held) s.held)) (λ _ u. bare_ran m o ks u)

  bare_loaded : (m : System) (o : Mode) (t : Triple) (s : State) (why : Option Cause) → bare (loaded_by rule m o t s why) ≡ loaded_by silent m o t (blank s) why
  bare_loaded m o t s None = refl
  bare_loaded m o t s (Some why) = refl

  pub bare_passed : (m : System) (ks : List Iteration) (o : Mode) (t : Triple) (s : State) → bare (passed rule m ks o t s) ≡ passed silent m ks o t (blank s)
  unfolding passed
  bare_passed m ks o t s =
      bare_read_out _
      ∙ ap read_out (
      bare_onward (λ _. unit_ran rule m ks o) (λ _. unit_ran silent m ks o) (loaded rule m ks o t s) (loaded silent m ks o t (blank s))
      (bare_loaded m o t s (refusal m ks o t)) (λ _ u. bare_inside (overflowed m o) (ran rule m o ks u) ∙ ap (inside (overflowed m o)) (bare_ran m o ks u)))

-- two stages that hold the same triple
pub passed_alike : (rule quiet : Rule) (m : System) (ks : List Iteration) (o : Mode) (t : Triple) (s u : State) → u.held ≡ s.held
    → bare (passed quiet m ks o t u) ≡ bare (passed rule m ks o t s)
passed_alike rule quiet m ks o t s u e =
    bare_passed quiet m ks o t u ∙ ap (λ h. passed silent m ks o t (record { held = h; notes = [] })) e ∙ sym (bare_passed rule m ks o t s)
