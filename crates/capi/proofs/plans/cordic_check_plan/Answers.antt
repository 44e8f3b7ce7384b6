use Rattle.std.proofs.Common.{arith}
use Rattle.capi.proofs.Counts.{entrance_few, exits_few}
use Rattle.capi.proofs.plans.cordic_check_plan.Goals as goal

pub overflow_cast-report : goal.overflow_cast-report
overflow_cast-report c =
    let found = c.in-Ok.ensures.answer in
    omega (arith, entrance_few c.args.plan.now found.1, found.2, c.inputs.ensures.answer)

pub overflow_cast-report-in-Ok : goal.overflow_cast-report-in-Ok
overflow_cast-report-in-Ok c =
    let found = c.in-Ok.ensures.answer in
    omega (arith, exits_few c.args.plan.now found.1, found.3, c.outputs.ensures.answer)
