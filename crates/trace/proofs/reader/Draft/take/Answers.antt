use Rattle.std.proofs.Common.{sym, ◌∙◌}
use Rattle.trace.proofs.Reading.{plain_taken}
use Rattle.trace.proofs.reader.Draft.take.Goals as goal

pub returns-in_default-2 : goal.returns-in_default-2
returns-in_default-2 c =
    record {
      answer = c.put.ensures.answer ∙ sym (plain_taken _ _ c.if-is_none.ensures c.in_default.not-text c.in_default.not-text-2 c.if-starts_with.ensures.cases);
    }
