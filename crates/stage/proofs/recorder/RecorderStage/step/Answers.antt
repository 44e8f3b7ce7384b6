use Rattle.std.proofs.Common.{◌<◌, ◌≤◌, length, sym, ◌∙◌, rules}
use Rattle.stage.proofs.Recording.{records_step, appends, stays_full}
use Rattle.stage.proofs.recorder.RecorderStage.step.Goals as goal

pub returns-then-not-is_full-clause-noted : goal.returns-then-not-is_full-clause-noted
returns-then-not-is_full-clause-noted g c =
    let h = sym c.in_ok-step.was ∙ c.step.ensures.answer in
    let room : length c.args.self.now.log.items < 64 = search rules in
    records_step g.S.Stage.rule _ _ _ c.args.self.now.log.items _ _ _ h (c.read.ensures.answer ∙ c.step.ensures.held) c.step.ensures.noted
    (c.push.ensures.items ∙ appends _ _ room)

pub returns-else-not-is_full-clause-noted : goal.returns-else-not-is_full-clause-noted
returns-else-not-is_full-clause-noted g c =
    let h = sym c.in_ok-step.was ∙ c.step.ensures.answer in
    let full : 64 ≤ length c.args.self.now.log.items = search rules in
    records_step g.S.Stage.rule _ _ _ c.args.self.now.log.items _ _ _ h c.step.ensures.held c.step.ensures.noted (stays_full _ _ full)
