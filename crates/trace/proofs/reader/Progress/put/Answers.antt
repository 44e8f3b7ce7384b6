use Rattle.std.proofs.Common.{rules}
use Rattle.trace.proofs.Reading.{number_found}
use Rattle.trace.proofs.reader.Progress.put.Goals as goal

pub returns-in_ok-read-in-ToMode : goal.returns-in_ok-read-in-ToMode
returns-in_ok-read-in-ToMode c = rw (c.in-ToMode.is, number_found c.args.word.now _ c.in_ok-read-in-ToMode.ensures.answer.0) (search rules)

pub returns-in_ok-y-in-ToX : goal.returns-in_ok-y-in-ToX
returns-in_ok-y-in-ToX c = rw (c.in-ToX.is, number_found c.args.word.now _ c.in_ok-y-in-ToX.ensures.answer.0) (search rules)

pub returns-in_ok-z-in-ToY : goal.returns-in_ok-z-in-ToY
returns-in_ok-z-in-ToY c = rw (c.in-ToY.is, number_found c.args.word.now _ c.in_ok-z-in-ToY.ensures.answer.0) (search rules)
