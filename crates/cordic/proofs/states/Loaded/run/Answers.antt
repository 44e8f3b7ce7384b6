use Rattle.std.proofs.Common.{◌≡◌, length, ap, ◌∙◌, arith}
use Rattle.std.proofs.lemmas.Result.{err_from_is_err_and}
use Rattle.cordic.specs.Outcome.{inside}
use Rattle.cordic.specs.Unit.{overflowed}
use Rattle.cordic.proofs.Halting.{place_at, halted_run, halted_says}
use Rattle.cordic.proofs.Places.{row_is, no_row, as_long, at_place}
use Rattle.cordic.proofs.Runs.{run_on, run_halt, run_done, halt_escapes}
use Rattle.cordic.proofs.states.Loaded.run.Goals as goal

pub advance-requires : goal.advance-requires
advance-requires g c =
    let e = row_is _ _ _ _ c.rows-rows.ensures.answer c.loop-i-test.true c.from.ensures in
    at_place _ g.C.Coordinate.order c.loop-i.i c.from.result g.met.C.Coordinate.words e

pub returns-in_err-stage : goal.returns-in_err-stage
returns-in_err-stage g c =
    let i = c.loop-i.i in
    let ks = g.C.Coordinate.order in
    let e = row_is _ ks i _ c.rows-rows.ensures.answer c.loop-i-test.true c.from.ensures in
    let p = err_from_is_err_and c.from_residual.result c.from_residual.ensures.1 in
    let t = rw c.system.ensures.answer at c.in_err-stage.ensures.answer in
    let r = run_halt g.S.Stage.rule g.C.Coordinate.kind c.args.self.mode ks i _ c.loop-i.invariant _ e t in
    let h = c.in_err-stage.field-0.0 in
    let q : h.place ≡ place_at g.C.Coordinate.kind c.args.self.mode i = c.in_err-stage.ensures.same ∙ rw c.system.ensures.answer in
    let k = halt_escapes g.S.Stage.rule g.C.Coordinate.kind c.args.self.mode ks c.from.result _ _ _ _ i e t in
    rw (p.1, p.2) (record {
      answer = halted_run g.S.Stage h g.C.Coordinate.kind c.args.self.mode i q g.S.Stage.rule ks _ r;
      refused = halted_says g.S.Stage h g.C.Coordinate.kind c.args.self.mode i q ks k;
    })

pub loop-i-preserved : goal.loop-i-preserved
loop-i-preserved g c =
    let e = row_is _ _ _ _ c.rows-rows.ensures.answer c.loop-i-test.true c.from.ensures in
    let t = rw c.system.ensures.answer at c.in_ok-stage.ensures.answer in
    run_on g.S.Stage.rule g.C.Coordinate.kind c.args.self.mode g.C.Coordinate.order c.loop-i.i _ c.loop-i.invariant _ e t

pub returns-clause-answer : goal.returns-clause-answer
returns-clause-answer g c =
    let m = as_long _ _ c.rows-rows.ensures.answer in
    let n : c.loop-i.i ≡ length c.rows-rows.result.now = omega arith in
    let e = no_row g.C.Coordinate.order c.loop-i.i (omega arith) in
    let d = run_done g.S.Stage.rule g.C.Coordinate.kind c.args.self.mode g.C.Coordinate.order c.loop-i.i _ c.loop-i.invariant e in
    rw (← n) (ap (inside (overflowed g.C.Coordinate.kind c.args.self.mode)) d)
