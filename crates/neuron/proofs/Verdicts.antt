-- The decision of the program, by what was read.
use Rattle.std.proofs.Common.{◌≡◌, ℕ, List, [], map, take, replicate, ℤ, pos, Ok, Err, Result, sym, refl, ap, ◌∙◌}
use Rattle.cordic.specs.Outcome.{State, Out, mapped}
use Rattle.network.specs.Plan.{LayerOf, plan_of}
use Rattle.stage.specs.Stage.{zeros, silent}
use Rattle.stage.specs.declared.registers.Triple.{Triple}
use Rattle.network.specs.Sample.{recorded}
use Rattle.network.specs.Seen.{outcome}
use Rattle.network.specs.Run.{recurrence, outputs}
use Rattle.network.specs.declared.faults.NetworkFault.{NetworkFault}
use Rattle.network.specs.declared.sample.SampleRecord.{SampleRecord}
use Rattle.neuron.specs.Input.{samples_of}
use Rattle.neuron.specs.Verdict.{Verdict, puts, refuses, ended, on_samples, on_plan, verdict}
use Rattle.neuron.specs.declared.refusal.Refusal.TheVariants.{Run, Input}

module _ (plan input : List ℕ) where
  pub bad_plan : {why : NetworkFault} → plan_of plan ≡ Err why → refuses (Run why) ≡ verdict plan input
  unfolding verdict
  bad_plan e = ap (on_plan plan input) (sym e)

  module _ (hs : List LayerOf) (e : plan_of plan ≡ Ok hs) where
    pub bad_input : {p : ℕ} → Err p ≡ samples_of (take 520 input) → refuses (Input (record { position = p })) ≡ verdict plan input
    unfolding verdict
    bad_input r = ap (on_samples plan) r ∙ ap (on_plan plan input) (sym e)

    -- the run is given the samples that were read, and a stage that holds zeros
    pub after_run : (ss : List SampleRecord) → Ok ss ≡ samples_of (take 520 input) → (given : List SampleRecord) → given ≡ ss → (held : Triple) → held ≡ zeros
        → (o : Out (List ℤ) NetworkFault)
        → o ≡ mapped outputs (recurrence (record { plan = plan; samples = map (λ s. recorded s.status s.value) given; places = replicate 64 (pos 0); state = record { held = held; notes = [] }; rule = silent }))
        → ended o ≡ verdict plan input
    unfolding verdict
    after_run ss r given same held zero o h =
        ap ended h
        ∙ ap (λ x. ended (mapped outputs (recurrence x))) (rw (same, zero) refl)
        ∙ ap (on_samples plan) r ∙ ap (on_plan plan input) (sym e)

-- how it ended
module _ (places : List ℤ) (n : ℕ) (s : State) (r : Result ℕ NetworkFault) {v : Verdict} (h : ended (outcome places n s r) ≡ v) where
  pub ended_well : (k : ℕ) → r ≡ Ok k → puts (take k places) n ≡ v
  ended_well k e = ap (λ q. ended (outcome places n s q)) (sym e) ∙ h

  pub ended_badly : (f : NetworkFault) → r ≡ Err f → refuses (Run f) ≡ v
  ended_badly f e = ap (λ q. ended (outcome places n s q)) (sym e) ∙ h
