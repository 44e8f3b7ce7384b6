-- tanh in code: two passes, one after the other.
use Rattle.std.proofs.Common.{◌≡◌, ℕ, ℤ, pos, Ok, Err, Result, sym, refl, ap, ◌∙◌}
use Rattle.stage.specs.Stage.{Rule}
use Rattle.stage.specs.declared.registers.Triple.{Triple}
use Rattle.stage.specs.declared.stage.Stage.{Ghosts}
use Rattle.stage.specs.declared.step.System.TheVariants.{Linear, Hyperbolic}
use Rattle.cordic.specs.Outcome.{State, Out, went, stopped, counted, onward, mapped}
use Rattle.cordic.specs.Seen.{seen}
use Rattle.cordic.specs.Tables.{linear, hyperbolic}
use Rattle.cordic.specs.Unit.{passed}
use Rattle.cordic.specs.declared.mode.Mode.TheVariants.{Rotation, Vectoring}
use Rattle.cordic.specs.declared.faults.UnitFault.{UnitFault}
use Rattle.cordic.specs.declared.states.Answer.{Answer}
use Rattle.cordic.specs.declared.states.Refused.{Refused}
use Rattle.network.specs.Neuron.{Quotient, start, tanh}
use Rattle.network.specs.Placing.{later}

pub later_seen : {X V F : Type 0} (S : Ghosts X) (n : ℕ) (r : Result (Answer X V) (Refused X F)) → seen S (later n r) ≡ counted n (seen S r)
later_seen S n (Ok a) = refl
later_seen S n (Err e) = refl

divided : (n : ℕ) (r : Triple) (o : Out Triple UnitFault) → mapped (λ (q : Quotient). q.t) (counted n (mapped (λ q. record { x = r.x; y = r.y; t = q.z }) o)) ≡ counted n (mapped (λ (q : Triple). q.z) o)
divided n r (went q k s) = refl
divided n r (stopped f k s) = refl

module _ (rule : Rule) (u : ℤ) (s : State) where
  pub tanh_refused : {f : UnitFault} {n : ℕ} {s' : State} → stopped f n s' ≡ passed rule Hyperbolic hyperbolic Rotation (start (pos 0x1000_0000) (pos 0) u) s
      → stopped f n s' ≡ mapped (λ (q : Quotient). q.t) (tanh rule u s)
  unfolding tanh
  tanh_refused e = rw (← e)

  pub tanh_seen : {X : Type 0} (S : Ghosts X) (t : Triple) (n : ℕ) (s' : State) (r q : Result (Answer X ℤ) (Refused X UnitFault))
      → went t n s' ≡ passed rule Hyperbolic hyperbolic Rotation (start (pos 0x1000_0000) (pos 0) u) s
      → seen S r ≡ mapped (λ (v : Triple). v.z) (passed rule Linear linear Vectoring (start t.x t.y (pos 0)) s')
      → q ≡ later n r → seen S q ≡ mapped (λ (v : Quotient). v.t) (tanh rule u s)
  unfolding tanh
  tanh_seen S t n s' r q e h k =
      ap (seen S) k ∙ later_seen S n r ∙ ap (counted n) h ∙ sym (divided n t (passed rule Linear linear Vectoring (start t.x t.y (pos 0)) s'))
      ∙ ap (λ o. mapped (λ (v : Quotient). v.t) (onward (λ r v. mapped (λ q. record { x = r.x; y = r.y; t = q.z }) (passed rule Linear linear Vectoring (start r.x r.y (pos 0)) v)) o)) e
