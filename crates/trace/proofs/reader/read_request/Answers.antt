use Rattle.std.proofs.Common.{◌<◌, length, Err, sym, ap, ◌∙◌, arith, rules}
use Rattle.trace.proofs.Reading.{word_fits, word_misfits, words_read}
use Rattle.trace.proofs.reader.read_request.Goals as goal

pub returns-in-Err : goal.returns-in-Err
returns-in-Err c =
    let l : c.loop-word.word-index < length c.args.words.now = omega arith in
    let bytes = c.in_ok-word-in-Err.ensures.ok ∙ c.as_str-in-Err.ensures.value in
    record {
      answer = word_misfits _ _ _ _ _ _ l c.word-item.is c.as_str.ensures.value c.in-Err.ensures.answer c.loop-word.invariant
          ∙ ap (λ bs. Err (c.in-Err.misfit, bs)) (c.as_str.ensures.value ∙ sym bytes);
    }

pub loop-word-preserved : goal.loop-word-preserved
loop-word-preserved c =
    let l : c.loop-word.word-index < length c.args.words.now = omega arith in
    word_fits _ _ _ _ _ _ l c.word-item.is c.as_str.ensures.value c.in-Ok.ensures.answer c.loop-word.invariant

pub returns : goal.returns
returns c =
    record {
      answer = words_read _ _ _ _ _ _ c.loop-word-test.false c.loop-word.invariant c.finish.ensures.answer c.map_err.ensures.cases (λ w e h. search rules);
    }
