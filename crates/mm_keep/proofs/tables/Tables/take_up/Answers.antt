use Rattle.std.proofs.{Common.{◌≡◌, true, false}, lemmas.Result.on_ok_weaker}
use Rattle.mm_kernel.specs.Threads.{is_free}
use Rattle.mm_keep.proofs.Letting.{takes_free, takes_thread}
use Rattle.mm_keep.proofs.tables.Tables.take_up.Goals as goal

pub returns-then-not-is_free : goal.returns-then-not-is_free
returns-then-not-is_free c =
    let k = c.args.kernel.now in
    let bound : is_free k.kept c.args.t.now ≡ false = cc in
    on_ok_weaker c.add_thread.result (λ h. takes_thread k.image k.kept c.args.self.now c.add_thread.new.self c.args.t.now bound (h k.image k.kept)) c.add_thread.ensures

pub returns : goal.returns
returns c =
    let k = c.args.kernel.now in
    let free : is_free k.kept c.args.t.now ≡ true = cc in
    on_ok_weaker c.loosen.result
    (takes_free k.image k.kept c.args.self.now c.loosen.new.self c.args.t.now c.let_all_out.new.self free c.in_ok-let_all_out.ensures) c.loosen.ensures
