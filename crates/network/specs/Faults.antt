-- The number of every fault of a run, and what it carries.
--   reported   1, a sample yields nothing: its position as input; 2, the sample count; 3, the plan's length; 4, a record of the plan: its
--              position; 5 and 7, in the arithmetic: layer, neuron, the input if it arose in a product, and the neuron's fault with all
--              that it carries; 8, too few places
use Rattle.std.specs.Prelude.{ℕ, Some, None}
use Rattle.cordic.specs.Faults.{reported as unit_reported}
use Rattle.network.specs.declared.faults.NetworkFault.{NetworkFault}
use Rattle.network.specs.declared.faults.NetworkFault.TheVariants.{NoSample, SampleCount, PlanLength, PlanRecord, Arithmetic, Places}
use Rattle.network.specs.declared.faults.Report.{Report}

-- a fault that names no place
abbrev plain : ℕ → Report
plain n = record { number = n; layer = None; neuron = None; input = None; «record» = None; inner = None }

abbrev pub reported : NetworkFault → Report
reported (NoSample position) = record { number = 1; layer = None; neuron = None; input = Some position; «record» = None; inner = None }
reported SampleCount = plain 2
reported PlanLength = plain 3
reported (PlanRecord position) = record { number = 4; layer = None; neuron = None; input = None; «record» = Some position; inner = None }
reported (Arithmetic found) = record {
  number = (unit_reported found.inner.unit).number;
  layer = Some found.layer;
  neuron = Some found.neuron;
  input = found.inner.input;
  «record» = None;
  inner = Some found.inner;
}
reported Places = plain 8
