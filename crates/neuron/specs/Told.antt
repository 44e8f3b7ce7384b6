-- What the code of the program decides, as a verdict.
use Rattle.std.specs.Prelude.{Ok, Err, Result}
use Rattle.neuron.specs.Verdict.{Verdict, puts, refuses}
use Rattle.neuron.specs.declared.outputs.Outputs.{Outputs}
use Rattle.neuron.specs.declared.refusal.Refusal.{Refusal}

abbrev pub told : Result Outputs Refusal → Verdict
told (Ok o) = puts o.values.items o.steps
told (Err r) = refuses r
