-- The loop that writes a line for each output.
use Rattle.std.proofs.Common.{◌≡◌, ℕ, ◌+◌, ◌<◌, ◌≤◌, List, ◌++◌, length, get_or, drop, ℤ, pos, sym, ap, ◌∙◌}
use Rattle.std.proofs.lemmas.List.{append_assoc, append-nil, drop_more, drop_all}
use Rattle.neuron.specs.Outputs.{line_of_output, lines_of_outputs}

-- the text so far, with the lines left of the outputs ys
module _ (steps i : ℕ) (ys : List ℤ) (text : List ℕ) {whole : List ℕ} (inv : text ++ lines_of_outputs steps i (drop i ys) ≡ whole) where
  pub lines_more : i < length ys → (text ++ line_of_output i (get_or ys i (pos 0)) steps) ++ lines_of_outputs steps (i + 1) (drop (i + 1) ys) ≡ whole
  lines_more h =
      append_assoc text (line_of_output i (get_or ys i (pos 0)) steps) (lines_of_outputs steps (i + 1) (drop (i + 1) ys))
      ∙ ap (λ (l : List ℤ). text ++ lines_of_outputs steps i l) (sym (drop_more ys i (pos 0) h))
      ∙ inv

  pub lines_done : length ys ≤ i → text ≡ whole
  lines_done h = sym (append-nil text) ∙ ap (λ (l : List ℤ). text ++ lines_of_outputs steps i l) (sym (drop_all i ys h)) ∙ inv
