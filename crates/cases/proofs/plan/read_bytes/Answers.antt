use Rattle.cases.proofs.Digits.{undecoded}
use Rattle.cases.proofs.plan.read_bytes.Goals as goal

pub returns-then-not-are_digits : goal.returns-then-not-are_digits
returns-then-not-are_digits c = record { answer = undecoded _ _ c.as_bytes.ensures.value c.if-not-are_digits.ensures.answer }
