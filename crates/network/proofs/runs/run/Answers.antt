use Rattle.network.proofs.Claiming.{whole}
use Rattle.network.proofs.Encoding.{all_bytes}
use Rattle.network.proofs.runs.run.Goals as goal
use Rattle.network.proofs.runs.run.Goals.{in-Ok, in-Err}

pub returns-clause-whole : goal.returns-clause-whole
returns-clause-whole g c =
    let bytes = all_bytes c.args.plan.now c.type_inv.plan in
    elim c.match-attempt.branch [
      | in-Ok w ↦ rw w.unit-is (whole _ _ _ _ _ bytes w.in-Ok.ensures.same (rw w.unit-is at c.ticks_in.ensures.answer) w.in-Ok.ensures.lent)
      | in-Err w ↦ rw w.unit-is (whole _ _ _ _ _ bytes w.in-Err.ensures.same (rw w.unit-is at c.ticks_in.ensures.answer) w.in-Err.ensures.lent)
    ]
