use Rattle.std.proofs.Common.{◌≡◌, drop}
use Rattle.cordic.specs.Outcome.{counted}
use Rattle.cordic.specs.Seen.{state_of}
use Rattle.cordic.specs.Unit.{ran}
use Rattle.cordic.proofs.states.Loaded.run.Given as goal

-- what is left to do, from here, comes to the whole
abbrev pub invariant-loop-i : goal.invariant-loop-i
invariant-loop-i g l =
    counted l.i (ran g.S.Stage.rule g.C.Coordinate.kind l.mode (drop l.i g.C.Coordinate.order) (state_of g.S.Stage l.stage))
    ≡ ran g.S.Stage.rule g.C.Coordinate.kind l.mode g.C.Coordinate.order (state_of g.S.Stage l.initial.stage)
