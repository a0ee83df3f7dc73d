use Rattle.std.proofs.{Common.{◌≡◌, true}, lemmas.Result.on_ok_weaker}
use Rattle.mm_kernel.specs.Threads.{is_kernel, serves_some}
use Rattle.mm_keep.proofs.Letting.{loosens}
use Rattle.mm_keep.proofs.tables.Tables.loosen.Goals as goal

pub returns-then-serves_some : goal.returns-then-serves_some
returns-then-serves_some c =
    let k = c.args.kernel.now in
    let n = c.in-Slot.slot in
    let kernel : is_kernel k.image k.kept n ≡ true = cc in
    let serves : serves_some k.image n ≡ true = cc in
    on_ok_weaker c.add_leak.result
    (λ h. loosens k.image k.kept c.args.self.now c.add_leak.new.self c.args.origin.now n c.in-Slot.is kernel serves (h k.image k.kept)) c.add_leak.ensures
