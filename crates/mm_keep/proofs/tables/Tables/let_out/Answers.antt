use Rattle.std.proofs.{Common.{◌≡◌, true}, lemmas.Result.on_ok_weaker}
use Rattle.mm_kernel.specs.Segments.{is_door}
use Rattle.mm_keep.proofs.Letting.{lets_door}
use Rattle.mm_keep.proofs.tables.Tables.let_out.Goals as goal

pub returns-then-is_door : goal.returns-then-is_door
returns-then-is_door c =
    let k = c.args.kernel.now in
    let door : is_door k.kept c.in-Pointer.p ≡ true = cc in
    on_ok_weaker c.add_door.result
    (λ h. lets_door k.image k.kept c.args.self.now c.add_door.new.self c.args.form.now c.in-Pointer.p c.in-Pointer.is door (h k.image k.kept)) c.add_door.ensures
