use Rattle.std.proofs.Common.{refl}
use Rattle.cordic.specs.Seen.{state_of}
use Rattle.cordic.proofs.Loads.{load_refused, load_accepted, refused_reach, accepted_reach}
use Rattle.cordic.proofs.states.Idle.load.Goals as goal

pub returns-in-Some : goal.returns-in-Some
returns-in-Some g c =
    let e = c.in-Some.ensures.answer in
    record {
      answer = rw c.system.ensures.answer (load_refused g.S.Stage.rule _ g.C.Coordinate.order _ _ _ _ e);
      same = tt;
      reach = λ r. refused_reach g.C.Coordinate.kind g.C.Coordinate.order c.args.mode c.args.t r c.system.result _ e;
    }

pub returns : goal.returns
returns g c =
    let e = c.in_default.ensures.answer in
    record {
      answer = load_accepted g.S.Stage.rule _ _ _ _ (state_of g.S.Stage c.args.self.stage) (state_of g.S.Stage c.load.new.self) e c.load.ensures.held c.load.ensures.noted;
      same = refl;
      reach = λ r. ((λ z. absurd z), (accepted_reach g.C.Coordinate.kind g.C.Coordinate.order c.args.mode c.args.t r g.met.C.Coordinate.lawful.covered e));
    }
