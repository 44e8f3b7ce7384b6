-- What the code of a run hands on is what the report says of the recurrence.
use Rattle.std.proofs.Common.{◌≡◌, ℕ, ◌*◌, ◌≤◌, List, length, take, ℤ, IfOk, Ok, Err, Result, sym, refl, ap, ◌∙◌, arith}
use Rattle.std.proofs.lemmas.List.{length-take-le}
use Rattle.stage.specs.declared.stage.Stage.{Ghosts}
use Rattle.cordic.specs.Outcome.{State, Out, went, stopped, mapped, steps_in}
use Rattle.cordic.specs.Seen.{state_of}
use Rattle.network.specs.Claim.{Whole}
use Rattle.network.specs.Neuron.{Working}
use Rattle.network.specs.Run.{Feed, recurrence, outputs}
use Rattle.network.specs.Seen.{outcome, seen_by}
use Rattle.network.specs.declared.faults.NetworkFault.{NetworkFault}
use Rattle.network.specs.declared.ran.Ran.{Ran}
use Rattle.network.proofs.Checks.{entering}
use Rattle.network.proofs.Placing.{outputs_wide}
use Rattle.capi.specs.Reports.{told_run, report_of_run}
use Rattle.capi.proofs.Counts.{exits_few}

-- the outputs are the first places, so that they are as many
counts : (places ys : List ℤ) (k : ℕ) → k ≤ length places → take k places ≡ ys → k ≡ length ys
counts places ys k h e = sym (length-take-le k places h) ∙ ap length e

module _ (f : Feed) (per : ℕ) (places : List ℤ) (n ticks : ℕ) (s : State) where
  pub told_by : (o : Out (List (List Working)) NetworkFault) (r : Result ℕ NetworkFault) → outcome places n s r ≡ mapped outputs o → ticks ≡ steps_in o * per → IfOk r (λ k. k ≤ length places) → told_run r n ticks ≡ report_of_run per o
  told_by (went w m u) (Ok k) e t h =
      let a : n ≡ m = cc in
      rw (counts places (outputs w) k h cc, a, t) refl
  told_by (went w m u) (Err why) e t h = cc e
  told_by (stopped why m u) (Ok k) e t h = cc e
  told_by (stopped why m u) (Err got) e t h =
      let a : n ≡ m = cc in
      let b : got ≡ why = cc in
      rw (b, a, t) refl

module _ (f : Feed) (places : List ℤ) (n : ℕ) (s : State) where
  pub few_by : (o : Out (List (List Working)) NetworkFault) (r : Result ℕ NetworkFault) → recurrence f ≡ o → outcome places n s r ≡ mapped outputs o → IfOk r (λ k. k ≤ length places) → IfOk r (λ k. k ≤ 64)
  few_by (went w m u) (Ok k) g e h =
      let q = entering f w m u g in
      let c = counts places (outputs w) k h cc in
      let o = outputs_wide f w m u q.0 q.1 g q.2 in
      let x = exits_few f.plan q.2.plan in
      omega (arith, c, o, x)
  few_by o (Err why) g e h = tt
  few_by (stopped why m u) (Ok k) g e h = cc e

module _ {X : Type 0} {f : Feed} {per : ℕ} {places : List ℤ} (S : Ghosts X) (r : Ran X) (whole : Whole f per (seen_by S places r) r.ticks places) (within : IfOk r.outcome (λ k. k ≤ length places)) where
  pub few : IfOk r.outcome (λ k. k ≤ 64)
  few = few_by f places r.steps (state_of S r.unit.stage) (recurrence f) r.outcome refl whole.same within

  pub told : told_run r.outcome r.steps r.ticks ≡ report_of_run per (recurrence f)
  told = told_by f per places r.steps r.ticks (state_of S r.unit.stage) (recurrence f) r.outcome whole.same whole.ticked within
