-- The refusal of a run that met a refused step.
use Rattle.cordic.specs.declared.faults.Cause.TheVariants.{Overflowed}
use Rattle.cordic.specs.declared.faults.UnitFault.{UnitFault}
use Rattle.cordic.specs.declared.states.Refused.{Refused}
use Rattle.cordic.specs.declared.halted.Halted.{Halted}

abbrev pub refused_by : {X : Type 0} → Halted X → Refused X UnitFault
refused_by h = record {
  unit = record { stage = h.stage };
  fault = record {
    system = h.place.system;
    mode = h.place.mode;
    cause = Overflowed h.place.step h.overflow;
    steps = h.place.steps;
  };
  steps = h.place.steps;
}
