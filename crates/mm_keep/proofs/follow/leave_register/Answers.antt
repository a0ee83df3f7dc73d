use Rattle.std.proofs.Common.{subst}
use Rattle.std.proofs.lemmas.Result.{on_ok_weaker}
use Rattle.mm_kernel.specs.{Facts.hand_out, declared.form.Form.Form, declared.fact.Leak.TheVariants.Jump}
use Rattle.mm_keep.specs.Claims.{AddsFacts}
use Rattle.mm_keep.proofs.follow.leave_register.Goals as goal

pub returns : goal.returns
returns c =
    on_ok_weaker c.hand_out.result (λ h. subst (λ (f : Form). AddsFacts c.args.kernel.now.image c.args.kernel.now.kept (hand_out c.args.kernel.now.kept f (Jump c.args.t.now.ip.addr c.args.reg f)) c.args.tables.now c.hand_out.new.self)
    c.form_at-form.ensures (subst (λ a. AddsFacts c.args.kernel.now.image c.args.kernel.now.kept (hand_out c.args.kernel.now.kept c.form_at-form.result (Jump a c.args.reg c.form_at-form.result)) c.args.tables.now c.hand_out.new.self) c.addr.ensures.addr h)) c.hand_out.ensures
