use Rattle.std.proofs.Common.{◌≡◌, ◌*◌, ◌^◌, ◌≤◌, drop, ◌+ℤ◌, nat_abs}
use Rattle.cordic.specs.Unit.{span}
use Rattle.cordic.proofs.refusal.Start.span.Given as goal

-- the sum so far and the span of what is left are the whole
abbrev pub invariant-loop-row : goal.invariant-loop-row
invariant-loop-row g l =
    (l.sum +ℤ span l.self.triple.x (drop l.row-index g.C.Coordinate.order) ≡ span l.self.triple.x g.C.Coordinate.order)
    × (nat_abs l.sum ≤ 2 ^ 31 * l.row-index)
