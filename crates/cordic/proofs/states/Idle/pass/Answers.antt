use Rattle.cordic.proofs.Bare.{passed_alike}
use Rattle.cordic.proofs.Ends.{rotation_ends, vectoring_ends}
use Rattle.cordic.proofs.states.Idle.pass.Goals as goal

pub returns : goal.returns
returns g c =
    let e = c.traverse.ensures.answer in
    record {
      answer = e;
      rotation_ends = λ o. rw (e, o) (rotation_ends g.S.Stage.rule g.C.Coordinate.kind g.C.Coordinate.order c.args.t _ g.met.C.Coordinate.lawful.covered);
      vectoring_ends = λ o m ks. rw (e, o, m, ks) (vectoring_ends g.S.Stage.rule c.args.t _);
      alike = λ rule s h. rw e (passed_alike g.S.Stage.rule rule g.C.Coordinate.kind g.C.Coordinate.order c.args.mode c.args.t _ s h);
    }
