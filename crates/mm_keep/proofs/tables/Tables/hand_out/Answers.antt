use Rattle.std.proofs.{Common.{◌≡◌, true, false}, lemmas.Result.on_ok_weaker}
use Rattle.mm_kernel.specs.Forms.{is_open_form}
use Rattle.mm_keep.proofs.Letting.{hands_open, hands_leak}
use Rattle.mm_keep.proofs.tables.Tables.hand_out.Goals as goal

pub returns-then-is_open_form : goal.returns-then-is_open_form
returns-then-is_open_form c =
    let k = c.args.kernel.now in
    let open_form : is_open_form k.kept c.args.form.now ≡ true = cc in
    on_ok_weaker c.let_out.result (hands_open k.image k.kept c.args.self.now c.let_out.new.self c.args.form.now c.args.leak.now open_form) c.let_out.ensures

pub returns-else-is_open_form : goal.returns-else-is_open_form
returns-else-is_open_form c =
    let k = c.args.kernel.now in
    let closed : is_open_form k.kept c.args.form.now ≡ false = cc in
    on_ok_weaker c.add_leak.result
    (λ h. hands_leak k.image k.kept c.args.self.now c.add_leak.new.self c.args.form.now c.args.leak.now closed (h k.image k.kept)) c.add_leak.ensures
