-- What each report says of an outcome.
--   unit_of          a fault of the unit
--   report_of_run    a run, on a stage of so many ticks in one step
--   plan_report      a plan that was judged
--   pass_report      a pass
--   no_such_system   no pass, since there is no such system: 100
use Rattle.std.specs.Prelude.{ℕ, ◌*◌, List, length, pos, Some, None, Ok, Err, Option, Result}
use Rattle.stage.specs.declared.registers.Triple.{Triple}
use Rattle.cordic.specs.Faults.{reported as unit_reported}
use Rattle.cordic.specs.Outcome.{Out, went, stopped}
use Rattle.cordic.specs.declared.faults.UnitFault.{UnitFault}
use Rattle.network.specs.Faults.{reported}
use Rattle.network.specs.Neuron.{Working}
use Rattle.network.specs.Plan.{LayerOf}
use Rattle.network.specs.Run.{outputs, entrance, exits}
use Rattle.network.specs.declared.faults.NetworkFault.{NetworkFault}
use Rattle.network.specs.declared.faults.NeuronFault.{NeuronFault}
use Rattle.capi.specs.Fields.{none, field_of, number_of_system, number_of_mode, number_of_register, kept_of}
use Rattle.capi.specs.declared.reports.UnitReport.{UnitReport}
use Rattle.capi.specs.declared.reports.RunReport.{RunReport}
use Rattle.capi.specs.declared.reports.PassReport.{PassReport}
use Rattle.capi.specs.declared.reports.PlanReport.{PlanReport}

abbrev pub none_of_unit : UnitReport
none_of_unit = record { steps = 0; system = none; mode = none; reg = none; step = none; kept_x = pos 0; kept_y = pos 0; kept_z = pos 0 }

abbrev pub unit_of : UnitFault → UnitReport
unit_of f = record {
  steps = (unit_reported f).steps;
  system = number_of_system (unit_reported f).system;
  mode = number_of_mode (unit_reported f).mode;
  reg = number_of_register (unit_reported f).register;
  step = field_of (unit_reported f).step;
  kept_x = (kept_of (unit_reported f).kept).x;
  kept_y = (kept_of (unit_reported f).kept).y;
  kept_z = (kept_of (unit_reported f).kept).z;
}

-- the neuron's steps, and what its unit says
abbrev pub inner_of : Option NeuronFault → ℕ × UnitReport
inner_of (Some inner) = (inner.steps, unit_of inner.unit)
inner_of None = (0, none_of_unit)

-- the number of outputs, the steps, the ticks
abbrev pub accepted_run : ℕ → ℕ → ℕ → RunReport
accepted_run k n ticks = record { number = 0; outputs = k; steps = n; neuron_steps = 0; ticks = ticks; layer = none; neuron = none; input = none; «record» = none; unit = none_of_unit }

abbrev pub refused_run : NetworkFault → ℕ → ℕ → RunReport
refused_run f n ticks = record {
  number = (reported f).number;
  outputs = 0;
  steps = n;
  neuron_steps = (inner_of (reported f).inner).0;
  ticks = ticks;
  layer = field_of (reported f).layer;
  neuron = field_of (reported f).neuron;
  input = field_of (reported f).input;
  «record» = field_of (reported f).«record»;
  unit = (inner_of (reported f).inner).1;
}

-- what the code hands on
abbrev pub told_run : Result ℕ NetworkFault → ℕ → ℕ → RunReport
told_run (Ok k) n ticks = accepted_run k n ticks
told_run (Err f) n ticks = refused_run f n ticks

abbrev pub report_of_run : ℕ → Out (List (List Working)) NetworkFault → RunReport
report_of_run per (went ws n s) = accepted_run (length (outputs ws)) n (n * per)
report_of_run per (stopped f n s) = refused_run f n (n * per)

abbrev pub plan_report : Result (List LayerOf) NetworkFault → PlanReport
plan_report (Ok hs) = record { number = 0; inputs = entrance hs; outputs = exits hs; «record» = none }
plan_report (Err f) = record { number = (reported f).number; inputs = 0; outputs = 0; «record» = field_of (reported f).«record» }

abbrev pub ended_pass : Triple → ℕ → PassReport
ended_pass t n = record { number = 0; steps = n; x = t.x; y = t.y; z = t.z; unit = none_of_unit }

abbrev pub refused_pass : UnitFault → ℕ → PassReport
refused_pass f n = record { number = (unit_reported f).number; steps = n; x = pos 0; y = pos 0; z = pos 0; unit = unit_of f }

abbrev pub pass_report : Out Triple UnitFault → PassReport
pass_report (went t n s) = ended_pass t n
pass_report (stopped f n s) = refused_pass f n

abbrev pub no_such_system : PassReport
no_such_system = record { number = 100; steps = 0; x = pos 0; y = pos 0; z = pos 0; unit = none_of_unit }
