use Rattle.std.proofs.Common.{◌∙◌, ap, sym}
use Rattle.mm_draft.{specs.{Drafts.{Draft, last}, Faults.has_register}, proofs.Lasts.last_is}
use Rattle.mm_draft.proofs.draft.Draft.has_register.Goals as goal

pub returns-in-Some : goal.returns-in-Some
returns-in-Some c =
    let at = rw c.deref.ensures.value at c.in-Some.ensures.value in
    let e = last_is c.self.inside.threads.items c.in-Some.thread.now (sym at) in
    c.has_register.ensures ∙ ap (λ o. has_register o c.args.number) (sym e) ∙ ap (λ (d : Draft). has_register (last d.threads) c.args.number) c.self.view_is
