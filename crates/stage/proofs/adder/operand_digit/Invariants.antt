use Rattle.std.proofs.Common.{◌≡◌, ◌/◌, ◌%◌, ◌^◌}
use Rattle.stage.specs.Adder.{wide}
use Rattle.stage.proofs.adder.operand_digit.Given as goal

abbrev pub invariant-loop-j : goal.invariant-loop-j
invariant-loop-j g l = l.q ≡ wide l.b.bits / 2 ^ l.place % 2 ^ l.j
