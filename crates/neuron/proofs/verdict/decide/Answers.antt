use Rattle.std.proofs.Common.{◌≡◌, take, Err, ap, sym, ◌∙◌, rules}
use Rattle.neuron.specs.Told.{told}
use Rattle.neuron.specs.Verdict.{puts}
use Rattle.neuron.specs.declared.refusal.Refusal.TheVariants.{Run, Input}
use Rattle.neuron.proofs.Verdicts.{bad_plan, bad_input, after_run, ended_well, ended_badly}
use Rattle.neuron.proofs.verdict.decide.Goals as goal

pub returns-in_err-decode : goal.returns-in_err-decode
returns-in_err-decode c =
    let e : c.from_residual.result ≡ Err (Run c.in_err-decode.field-0.0) = search rules in
    record { answer = ap told e ∙ bad_plan _ _ c.in_err-decode.ensures.answer }

pub returns-in_err-samples : goal.returns-in_err-samples
returns-in_err-samples c =
    let e : c.from_residual-in_err-samples.result ≡ Err (Input c.in_err-samples.field-0.0) = search rules in
    record { answer = ap told e ∙ bad_input _ _ _ c.in_ok-decode.ensures.answer.1 c.in_err-samples.ensures.answer }

pub returns-in_err-count : goal.returns-in_err-count
returns-in_err-count c =
    let e : c.from_residual-in_err-count.result ≡ Err (Run c.in_err-count.field-0.0) = search rules in
    let zero = rw (sym c.new-2.ensures.same) at c.new.ensures.held in
    let o = after_run _ _ _ c.in_ok-decode.ensures.answer.1 _ c.in_ok-samples.ensures.answer _ c.as_slice.ensures.value _ zero _ c.run-outcome.ensures.whole.same in
    record { answer = ap told e ∙ ended_badly _ _ _ _ o _ c.in_err-count.was }

pub returns : goal.returns
returns c =
    let kept : c.truncate.new.self.items ≡ take c.in_ok-count.count c.run-outcome.new.out = search rules in
    let zero = rw (sym c.new-2.ensures.same) at c.new.ensures.held in
    let o = after_run _ _ _ c.in_ok-decode.ensures.answer.1 _ c.in_ok-samples.ensures.answer _ c.as_slice.ensures.value _ zero _ c.run-outcome.ensures.whole.same in
    record { answer = ap (λ ys. puts ys c.run-outcome.result.steps) kept ∙ ended_well _ _ _ _ o _ c.in_ok-count.was }
