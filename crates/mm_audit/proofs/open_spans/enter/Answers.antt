use Rattle.std.proofs.Common.{rules, ◌+◌, subst}
use Rattle.mm_audit.{specs.{Spans.base_at, Opening.{AreOpen, IsLast}}, proofs.Opens.{open_users, still_open}}
use Rattle.mm_audit.proofs.open_spans.enter.Goals as goal

pub returns-clause-open : goal.returns-clause-open
returns-clause-open c =
    subst (AreOpen c.args.spans.now (c.args.k + 1) (base_at c.args.spans.now c.args.k)) (search rules)
    (still_open c.args.spans.now c.requires.order c.args.k c.requires.place c.args.stack.now.items c.requires.open c.close.new.stack.items c.close.ensures c.innermost-over.result
    (subst (λ v. IsLast v c.innermost-over.result) c.deref.ensures.value c.innermost-over.ensures) c.end.result c.end.ensures)

pub returns-clause-users : goal.returns-clause-users
returns-clause-users c =
    open_users c.args.spans.now c.requires.order c.args.k c.requires.place c.args.stack.now.items c.requires.open c.close.new.stack.items c.close.ensures c.innermost-over.result
    (subst (λ v. IsLast v c.innermost-over.result) c.deref.ensures.value c.innermost-over.ensures) c.end.result
