-- The text of the outputs: a heading, and a line for each.
use Rattle.std.specs.Prelude.{ℕ, ◌+◌, List, [], ◌∷◌, ◌++◌, ℤ, codes, decimal}
use Rattle.std.specs.Fmt.{signed_decimal}

-- neuron, raw value and the steps of the whole run
abbrev pub line_of_output : ℕ → ℤ → ℕ → List ℕ
line_of_output i raw steps = decimal i ++ (codes " " ++ (signed_decimal raw ++ (codes " " ++ (decimal steps ++ codes "\n"))))

abbrev pub lines_of_outputs : ℕ → ℕ → List ℤ → List ℕ
lines_of_outputs steps i [] = []
lines_of_outputs steps i (y ∷ ys) = line_of_output i y steps ++ lines_of_outputs steps (i + 1) ys

abbrev pub outputs_text : List ℤ → ℕ → List ℕ
outputs_text ys steps = codes "out raw steps\n" ++ lines_of_outputs steps 0 ys
