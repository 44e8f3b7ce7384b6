use Rattle.std.proofs.Common.{◌++◌, get_or, codes, pos, ap, ◌∙◌, rules}
use Rattle.std.specs.Result.{IsOk}
use Rattle.std.proofs.Output.{has_written_append, has_written_of_eq}
use Rattle.neuron.specs.Outputs.{line_of_output, lines_of_outputs}
use Rattle.neuron.proofs.Lines.{lines_more, lines_done}
use Rattle.neuron.proofs.outputs.OutputsDisplay.fmt.Goals as goal

pub loop-number-preserved : goal.loop-number-preserved
loop-number-preserved g c = λ p.
    let i = c.loop-number.invariant p in
    let steps = c.args.self.now.steps in
    let n = c.loop-number.number-counter in
    let ys = c.deref-raw-items.result.now in
    let line = line_of_output n (get_or ys n (pos 0)) steps in
    let ok : IsOk c.writeln-in-loop-number.result = search rules in
    let written = has_written_append _ _ i.0 _ line _ i.2 (c.writeln-in-loop-number.ensures.writes i.2.plain ok) in
    (i.0 ++ line, lines_more steps n ys i.0 i.1 c.loop-number-test.true, written)

pub returns-clause-writes : goal.returns-clause-writes
returns-clause-writes g c = λ p done.
    let ok : IsOk c.writeln.result = search rules in
    let h = c.writeln.ensures.writes p ok in
    let i = c.loop-number.invariant h.plain in
    let lines = lines_done c.args.self.now.steps c.loop-number.number-counter c.deref-raw-items.result.now i.0 i.1 c.loop-number-test.false in
    let e = lines ∙ ap (lines_of_outputs c.args.self.now.steps 0) c.deref-raw-items.ensures.0 in
    has_written_of_eq _ _ _ _ _ (ap (λ (text : _). codes "out raw steps\n" ++ text) e) (has_written_append _ _ _ _ _ _ h i.2)
