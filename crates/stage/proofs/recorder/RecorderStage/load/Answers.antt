use Rattle.stage.proofs.Recording.{records_load}
use Rattle.stage.proofs.recorder.RecorderStage.load.Goals as goal

pub returns : goal.returns
returns g c = record {
  held = c.load.ensures.held;
  noted = records_load g.S.Stage.rule _ _ c.args.self.now.log.items _ _ _ c.load.ensures.noted c.clear.ensures;
}
