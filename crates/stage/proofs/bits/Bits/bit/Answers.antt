use Rattle.std.proofs.Common.{◌^◌, ◌<◌, ◌∙◌, arith, rules}
use Rattle.std.proofs.lemmas.Nat.{and_mask}
use Rattle.stage.proofs.Signs.{bit_low, bit_high}
use Rattle.stage.proofs.bits.Bits.bit.Goals as goal

pub returns-then-place-le31 : goal.returns-then-place-le31
returns-then-place-le31 c =
    let h : c.args.self.bits < 2 ^ 32 = search rules in
    record { answer = and_mask _ 1 ∙ bit_low c.args.self.bits c.args.place h c.if-place-le31.true }

pub returns-else-place-le31 : goal.returns-else-place-le31
returns-else-place-le31 c =
    let h : c.args.self.bits < 2 ^ 32 = search rules in
    record { answer = c.args.self.saved ∙ bit_high c.args.self.bits c.args.place h (omega arith) c.requires }
