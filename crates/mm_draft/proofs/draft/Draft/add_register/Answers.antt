use Rattle.std.proofs.Common.{◌≡◌, refl, Some}
use Rattle.mm_draft.{specs.Drafts.{last, with_register}, proofs.{Lasts.{last_read, set_last}, Steps.threads_step}}
use Rattle.mm_draft.proofs.draft.Draft.add_register.Goals as goal

pub returns : goal.returns
returns c =
    let xs = c.self.inside.threads in
    let e : last xs.items ≡ Some c.in-Some.thread.now = last_read xs.items xs.len c.in-Some.thread.now xs.ok.0 (c.in-Some.ensures.variant.0 refl) c.in-Some.ensures.value in
    threads_step _ c.args.self.now (with_register c.args.register) _ c.self.view_is (set_last (with_register c.args.register) xs.items xs.len c.in-Some.thread.now _ xs.ok.0 e c.in_ok-push.ensures)
