-- What the program prints: a line for each output, or one for a refusal.
use Rattle.std.specs.Prelude.{ℕ, List, ◌++◌, codes}
use Rattle.neuron.specs.Outputs.{outputs_text}
use Rattle.neuron.specs.Refusals.{refusal_text}
use Rattle.neuron.specs.Verdict.{Verdict, puts, refuses}
use Rattle.neuron.specs.declared.refusal.Refusal.{Refusal}

abbrev pub line_of_refusal : Refusal → List ℕ
line_of_refusal r = refusal_text r ++ codes "\n"

abbrev pub printed : Verdict → List ℕ
printed (puts ys steps) = outputs_text ys steps
printed (refuses r) = line_of_refusal r
