use Rattle.std.proofs.Common.{◌++◌, true, false, sym, ◌∙◌, subst}
use Rattle.mm_explore.{specs.Words.AreKept, proofs.WordKeys.{passed_all, passed_if, none_kept}}
use Rattle.mm_explore.proofs.reached.Words.note.Goals as goal

pub returns-in_ok-add-2-clause-touched : goal.returns-in_ok-add-2-clause-touched
returns-in_ok-add-2-clause-touched c = λ kept h.
    subst (λ l. AreKept (kept ++ l) c.add.new.self) (sym (passed_all c.args.group c.in-Some.access c.args.access c.in-Some.is)) (c.in_ok-add.ensures kept h)

pub returns-in_ok-add-2-clause-wrote : goal.returns-in_ok-add-2-clause-wrote
returns-in_ok-add-2-clause-wrote c = λ kept h.
    subst (λ l. AreKept (kept ++ l) c.add-then-is_write.new.self)
    (sym (passed_if c.args.group c.in-Some.access c.args.access true c.in-Some.is (sym c.is_write.ensures ∙ c.if-is_write.true))) (c.in_ok-add-2.ensures kept h)

pub returns-else-is_write-clause-touched : goal.returns-else-is_write-clause-touched
returns-else-is_write-clause-touched c = λ kept h.
    subst (λ l. AreKept (kept ++ l) c.add.new.self) (sym (passed_all c.args.group c.in-Some.access c.args.access c.in-Some.is)) (c.in_ok-add.ensures kept h)

pub returns-else-is_write-clause-wrote : goal.returns-else-is_write-clause-wrote
returns-else-is_write-clause-wrote c = λ kept h.
    subst (λ l. AreKept (kept ++ l) c.args.self.now.wrote)
    (sym (passed_if c.args.group c.in-Some.access c.args.access false c.in-Some.is (sym c.is_write.ensures ∙ c.if-is_write.false))) (none_kept kept c.args.self.now.wrote h)
