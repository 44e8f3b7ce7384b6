-- What the program decides: the plan is judged first, then standard input, then the run.
use Rattle.std.specs.Prelude.{ℕ, List, [], map, take, replicate, ℤ, pos, Ok, Err, Result}
use Rattle.stage.specs.Stage.{zeros, silent}
use Rattle.cordic.specs.Outcome.{Out, went, stopped, mapped}
use Rattle.network.specs.Plan.{LayerOf, plan_of}
use Rattle.network.specs.Run.{Feed, recurrence, outputs}
use Rattle.network.specs.Sample.{recorded}
use Rattle.network.specs.declared.faults.NetworkFault.{NetworkFault}
use Rattle.network.specs.declared.sample.SampleRecord.{SampleRecord}
use Rattle.neuron.specs.Input.{samples_of}
use Rattle.neuron.specs.declared.refusal.Refusal.{Refusal}
use Rattle.neuron.specs.declared.refusal.Refusal.TheVariants.{Run, Input}

-- outputs and steps, or a refusal
pub data Verdict : Type 0 where
  puts : List ℤ → ℕ → Verdict
  refuses : Refusal → Verdict

-- the run has the 64 places of a widest layer, and a parallel stage that holds zeros
abbrev pub feed : List ℕ → List SampleRecord → Feed
feed plan ss = record {
  plan = plan;
  samples = map (λ s. recorded s.status s.value) ss;
  places = replicate 64 (pos 0);
  state = record { held = zeros; notes = [] };
  rule = silent;
}

abbrev pub ended : Out (List ℤ) NetworkFault → Verdict
ended (went ys n s) = puts ys n
ended (stopped why n s) = refuses (Run why)

abbrev pub on_samples : List ℕ → Result (List SampleRecord) ℕ → Verdict
on_samples plan (Ok ss) = ended (mapped outputs (recurrence (feed plan ss)))
on_samples plan (Err p) = refuses (Input (record { position = p }))

abbrev pub on_plan : List ℕ → List ℕ → Result (List LayerOf) NetworkFault → Verdict
on_plan plan input (Ok hs) = on_samples plan (samples_of (take 520 input))
on_plan plan input (Err why) = refuses (Run why)

unfoldable pub verdict : List ℕ → List ℕ → Verdict
verdict plan input = on_plan plan input (plan_of plan)
