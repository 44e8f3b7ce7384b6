use Rattle.std.proofs.lemmas.Result.{err_from_is_err_and}
use Rattle.cordic.proofs.Turning.{pass_refused, pass_halted, pass_done}
use Rattle.cordic.proofs.states.Idle.traverse.Goals as goal

pub returns-in_err-loaded : goal.returns-in_err-loaded
returns-in_err-loaded g c =
    let p = err_from_is_err_and c.from_residual.result c.from_residual.ensures.1 in
    rw (p.1, p.2) (record { answer = pass_refused _ _ _ _ _ _ c.in_err-loaded.ensures.answer })

pub returns-in_err-finished : goal.returns-in_err-finished
returns-in_err-finished g c =
    let p = err_from_is_err_and c.from_residual-in_err-finished.result c.from_residual-in_err-finished.ensures.1 in
    let l = c.in_ok-loaded.ensures in
    let h = rw l.same at c.in_err-finished.ensures.answer in
    rw (p.1, p.2) (record { answer = pass_halted _ _ _ _ _ _ _ l.answer h })

pub returns : goal.returns
returns g c =
    let l = c.in_ok-loaded.ensures in
    let h = rw l.same at c.in_ok-finished.ensures.answer in
    let e = pass_done _ _ _ _ _ _ _ l.answer h in
    record { answer = cc }
