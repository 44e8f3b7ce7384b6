use Rattle.std.proofs.Common.{rules}
use Rattle.cordic.proofs.Spans.{total_small}
use Rattle.cordic.proofs.refusal.Start.beyond.Goals as goal

pub overflow_add-result : goal.overflow_add-result
overflow_add-result g c =
    let h = total_small g.C.Coordinate.order g.met.C.Coordinate.words g.met.C.Coordinate.few in
    search rules
