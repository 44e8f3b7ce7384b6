use Rattle.std.proofs.Common.{◌+◌, ◌*◌, ◌^◌, ◌<◌, false, Some, ap, ◌∙◌, arith, w32, SFits, to_z, rules}
use Rattle.std.proofs.lemmas.Int.{to_z-of_z}
use Rattle.stage.specs.Adder.{wide}
use Rattle.stage.proofs.Carry.{room, full, carry_one, first_fits, digit_below, ticks_on}
use Rattle.stage.proofs.Signs.{sums_in, sums_out}
use Rattle.stage.proofs.adder.add_serially.Goals as goal

pub add_digit-added-requires : goal.add_digit-added-requires
add_digit-added-requires g c =
    let f = c.is_minus-complement.result in
    let i = c.loop-i.i * g.row.K in
    let p : c.digit-p.result < 2 ^ g.row.K = omega (arith, c.digit-p.ensures.answer, digit_below false c.args.a i g.row.K) in
    let q : c.operand_digit-q.result < 2 ^ g.row.K =
    omega (arith, c.operand_digit-q.ensures.answer, digit_below f (wide c.args.b.bits) (i + c.args.s.amount) g.row.K) in
    (c.requires.some, (c.requires.short, (p, (q, carry_one _ _ _ _ _ _ _ (first_fits f) c.loop-i.invariant.sum))))

pub overflow_shl-word : goal.overflow_shl-word
overflow_shl-word g c = omega (arith, room g.row.K g.row.N c.loop-i.i c.requires c.loop-i-test.true)

pub loop-i-preserved : goal.loop-i-preserved
loop-i-preserved g c =
    ticks_on c.args.a c.is_minus-complement.result (wide c.args.b.bits) c.args.s.amount _ g.row.K g.row.N c.loop-i.i _ _ _ _ _ c.add_digit-added.result
    c.requires c.loop-i-test.true c.loop-i.invariant c.digit-p.ensures.answer c.operand_digit-q.ensures.answer c.add_digit-added.ensures.answer

pub returns-then-into-carry : goal.returns-then-into-carry
returns-then-into-carry g c =
    let v = to_z w32 c.args.b.bits in
    let f : SFits w32 v = search rules in
    let whole = full g.row.K g.row.N c.loop-i.i c.requires c.loop-i.auto.i-end c.loop-i-test.false in
    let s = rw c.is_minus-complement.ensures.answer at c.loop-i.invariant in
    record { answer = sums_out c.args.d c.args.a v c.args.s.amount _ _ _ _ c.ranges.a.fits f c.args.s.within whole s c.if-into-carry.true }

pub returns : goal.returns
returns g c =
    let v = to_z w32 c.args.b.bits in
    let f : SFits w32 v = search rules in
    let k : SFits w32 c.cast_signed.result = search rules in
    let whole = full g.row.K g.row.N c.loop-i.i c.requires c.loop-i.auto.i-end c.loop-i-test.false in
    let s = rw c.is_minus-complement.ensures.answer at c.loop-i.invariant in
    record {
      answer = ap Some (to_z-of_z w32 _ k ∙ c.cast_signed.ensures)
          ∙ sums_in c.args.d c.args.a v c.args.s.amount _ _ _ _ c.ranges.a.fits f c.args.s.within whole s c.if-into-carry.false;
    }
