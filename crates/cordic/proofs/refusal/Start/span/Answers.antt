use Rattle.std.proofs.Common.{◌≤◌, length, arith}
use Rattle.std.proofs.lemmas.Int.{ints}
use Rattle.cordic.proofs.Places.{row_is, as_long}
use Rattle.cordic.proofs.Spans.{span_more}
use Rattle.cordic.proofs.refusal.Start.span.Goals as goal

pub loop-row-preserved : goal.loop-row-preserved
loop-row-preserved g c =
    let i = c.loop-row.row-index in
    let rows = c.rows-row-items.ensures.answer in
    let e = row_is _ g.C.Coordinate.order i _ rows c.loop-row-test.true c.from.ensures in
    let s = span_more c.args.self.now.triple.x _ g.C.Coordinate.order i _ e c.loop-row.invariant.0 in
    let m = as_long _ _ rows in
    let few : length g.C.Coordinate.order ≤ 64 = g.met.C.Coordinate.few in
    let p = c.part-sum.ensures.answer in
    let b = c.part-sum.ensures.small in
    let l = c.loop-row.invariant.1 in
    (omega (arith, ints, s), omega (arith, ints))
