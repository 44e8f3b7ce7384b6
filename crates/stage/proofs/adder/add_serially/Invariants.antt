use Rattle.std.proofs.Common.{◌*◌, ◌/◌, ◌^◌, cond}
use Rattle.stage.specs.Adder.{wide}
use Rattle.stage.proofs.Carry.{State}
use Rattle.stage.proofs.adder.add_serially.Given as goal

abbrev pub invariant-loop-i : goal.invariant-loop-i
invariant-loop-i g l = State l.a l.complement (wide l.b.bits / 2 ^ l.s.amount) (cond l.complement 1 0) (l.i * g.row.K) l.word l.carry l.into
