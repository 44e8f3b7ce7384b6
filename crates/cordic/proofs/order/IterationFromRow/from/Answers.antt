use Rattle.std.proofs.Common.{ap}
use Rattle.cordic.proofs.Places.{shift_is}
use Rattle.cordic.proofs.order.IterationFromRow.from.Goals as goal

pub returns : goal.returns
returns c = ap (λ s. record { shift = s; entry = c.args.row.entry }) (shift_is c.capped.result c.args.row.shift c.capped.ensures.answer)
