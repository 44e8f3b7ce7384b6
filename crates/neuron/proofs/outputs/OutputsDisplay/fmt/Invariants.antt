use Rattle.std.proofs.Common.{◌≡◌, ℕ, List, ◌++◌, drop}
use Rattle.std.specs.Fmt.{HasWritten, IsPlainFormatter}
use Rattle.neuron.specs.Outputs.{lines_of_outputs}
use Rattle.neuron.proofs.outputs.OutputsDisplay.fmt.Given as goal

-- the lines written so far, and those left, come to the whole
abbrev pub invariant-loop-number : goal.invariant-loop-number
invariant-loop-number g l =
    IsPlainFormatter l.initial.f
    → (text : List ℕ) × (text ++ lines_of_outputs l.steps l.number-counter (drop l.number-counter l.raw-items) ≡ lines_of_outputs l.steps 0 l.raw-items) × HasWritten g.W.Write.write_str_gives l.initial.f text l.f
