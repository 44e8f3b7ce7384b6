use Rattle.std.proofs.Common.{◌∙◌}
use Rattle.capi.proofs.Ending.{few, told}
use Rattle.capi.proofs.runs.run_on.Goals as goal

pub run_report-requires : goal.run_report-requires
run_report-requires g c = few g.S.Stage c.run-unit.result c.run-unit.ensures.whole c.run-unit.ensures.within

pub returns : goal.returns
returns g c =
    let ran = c.run-unit.ensures in
    let report = c.run_report.ensures.answer ∙ told g.S.Stage c.run-unit.result ran.whole ran.within in
    rw (← c.new.ensures.same) record { answer = report; lent = ran.whole.lent; means = ran.whole.meant }
