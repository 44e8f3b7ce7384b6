use Rattle.std.proofs.Common.{◌≡◌, None, ap, ◌∙◌, sym, rules}
use Rattle.std.specs.Option.{option_map}
use Rattle.std.specs.Result.{result_ok}
use Rattle.stage.specs.declared.registers.Triple.{Triple}
use Rattle.stage.proofs.Settling.{refuses_x, refuses_y, refuses_z, accepts}
use Rattle.stage.proofs.hardware.Hardware.next.Goals as goal

pub returns-in_err-ok_or : goal.returns-in_err-ok_or
returns-in_err-ok_or g c =
    let t : Triple = record { x = g.C.Cell.kept c.args.self.now.x; y = g.C.Cell.kept c.args.self.now.y; z = g.C.Cell.kept c.args.self.now.z } in
    let n : c.next_x.result ≡ None = c.ok_or.ensures.ok_part ∙ ap result_ok c.in_err-ok_or.was in
    let h = refuses_x c.args.s t (sym (ap (option_map g.C.Cell.kept) n) ∙ c.next_x.ensures.answer) in
    search rules

pub returns-in_err-ok_or-2 : goal.returns-in_err-ok_or-2
returns-in_err-ok_or-2 g c =
    let t : Triple = record { x = g.C.Cell.kept c.args.self.now.x; y = g.C.Cell.kept c.args.self.now.y; z = g.C.Cell.kept c.args.self.now.z } in
    let m = option_map g.C.Cell.kept in
    let x = ap m (c.ok_or.ensures.ok_part ∙ ap result_ok c.in_ok-ok_or.was) in
    let y : c.next_y.result ≡ None = c.ok_or-2.ensures.ok_part ∙ ap result_ok c.in_err-ok_or-2.was in
    let h = refuses_y c.args.s t (sym x ∙ c.next_x.ensures.answer) (sym (ap m y) ∙ c.next_y.ensures.answer) in
    search rules

pub returns-in_err-ok_or-3 : goal.returns-in_err-ok_or-3
returns-in_err-ok_or-3 g c =
    let t : Triple = record { x = g.C.Cell.kept c.args.self.now.x; y = g.C.Cell.kept c.args.self.now.y; z = g.C.Cell.kept c.args.self.now.z } in
    let m = option_map g.C.Cell.kept in
    let x = ap m (c.ok_or.ensures.ok_part ∙ ap result_ok c.in_ok-ok_or.was) in
    let y = ap m (c.ok_or-2.ensures.ok_part ∙ ap result_ok c.in_ok-ok_or-2.was) in
    let z : c.next_z.result ≡ None = c.ok_or-3.ensures.ok_part ∙ ap result_ok c.in_err-ok_or-3.was in
    let h = refuses_z c.args.s t (sym x ∙ c.next_x.ensures.answer) (sym y ∙ c.next_y.ensures.answer) (sym (ap m z) ∙ c.next_z.ensures.answer) in
    search rules

pub returns : goal.returns
returns g c =
    let m = option_map g.C.Cell.kept in
    let x = ap m (c.ok_or.ensures.ok_part ∙ ap result_ok c.in_ok-ok_or.was) in
    let y = ap m (c.ok_or-2.ensures.ok_part ∙ ap result_ok c.in_ok-ok_or-2.was) in
    let z = ap m (c.ok_or-3.ensures.ok_part ∙ ap result_ok c.in_ok-ok_or-3.was) in
    record { answer = sym (accepts c.args.s _ (sym x ∙ c.next_x.ensures.answer) (sym y ∙ c.next_y.ensures.answer) (sym z ∙ c.next_z.ensures.answer)) }
