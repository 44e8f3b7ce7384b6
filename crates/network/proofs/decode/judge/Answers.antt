use Rattle.std.proofs.Common.{◌≡◌, ◌≤◌, ◌∷◌, true, length, sym, ◌∙◌, subst, arith, rules}
use Rattle.std.specs.Iterator.Adapters.{enumerate_source, enumerate_count}
use Rattle.std.proofs.lemmas.Result.{err_from_is_err_and}
use Rattle.network.specs.Plan.{has_bad_length}
use Rattle.network.specs.Reading.{records_left}
use Rattle.network.proofs.Planning.{long_plan}
use Rattle.network.proofs.Walks.{not_long, Walked, walk_goes, walk_breaks, walk_ends}
use Rattle.network.proofs.decode.judge.Goals as goal
use Rattle.network.proofs.decode.judge.Goals.{In-Some}

pub returns-then-bad_length : goal.returns-then-bad_length
returns-then-bad_length c =
    let b : has_bad_length (length c.args.bytes.now) ≡ true = cc in
    record { answer = long_plan c.args.bytes.now b }

-- the walk before a record
here : (c : In-Some) → Walked c.args.bytes.now c.loop-position.next (enumerate_count c.loop-position.position-iterator) (c.in-Some.given ∷ records_left (enumerate_source c.next.new.self))
here c = subst (Walked c.args.bytes.now c.loop-position.next (enumerate_count c.loop-position.position-iterator)) c.in-Some.ensures.steps.0 c.loop-position.invariant

pub overflow_cast-position : goal.overflow_cast-position
overflow_cast-position c =
    let w = here (goal.at.overflow_cast-position c).In-Some in
    let p : c.in-Some.position ≤ 65528 = omega (arith, not_long (length c.args.bytes.now) w.long, w.count, c.in-Some.ensures.steps.1) in
    search rules

pub returns-in_err-next : goal.returns-in_err-next
returns-in_err-next c =
    let q = c.in_err-next.ensures in
    let w = here (goal.at.returns-in_err-next c).In-Some in
    let p = err_from_is_err_and c.from_residual.result c.from_residual.ensures.1 in
    rw (p.1, p.2) (record { answer = walk_breaks c.args.bytes.now _ _ _ c.in-Some.position _ _ _ w c.accept.ensures.answer q.ok_part q.value c.in-Some.ensures.steps.1 })

pub loop-position-preserved : goal.loop-position-preserved
loop-position-preserved c =
    let e = sym c.accept.ensures.answer ∙ c.in_ok-next.ensures.ok_part in
    rw c.in-Some.ensures.steps.2 (walk_goes _ _ _ _ _ _ (here (goal.at.loop-position-preserved c).In-Some) e)

pub returns : goal.returns
returns c =
    let i = c.loop-position.invariant in
    let w = subst (Walked c.args.bytes.now c.loop-position.next (enumerate_count c.loop-position.position-iterator)) c.in-None.ensures.steps.0.0 i in
    rw c.ok_or-2.ensures.value (record { answer = walk_ends c.args.bytes.now c.loop-position.next _ _ w c.last_width.ensures.answer })
