use Rattle.std.proofs.Common.{◌≤◌, length, refl, ◌∙◌, w32, rules}
use Rattle.std.proofs.lemmas.List.{take_rest}
use Rattle.std.proofs.lemmas.Int.{to_z-of_z}
use Rattle.network.proofs.Bytes.{records_cons}
use Rattle.network.proofs.record.Record.read.Goals as goal

pub returns : goal.returns
returns c =
    let h : 8 ≤ length c.args.bytes.now = search rules in
    let e = records_cons c.args.bytes.now h in
    let v = to_z-of_z w32 c.cast_signed.result (search rules) ∙ c.cast_signed.ensures in
    record { answer = simp (take_rest c.args.bytes.now 8, v) (record { enough = h; parts = e; after = refl }) }
