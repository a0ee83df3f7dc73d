use Rattle.std.proofs.{Common.{None, sym, ◌∙◌}, lemmas.List.get_or_default}
use Rattle.mm_why.proofs.work.Workspace.was_searched.Goals as goal

pub returns-in-Some-clause-known : goal.returns-in-Some-clause-known
returns-in-Some-clause-known c = λ t.
    (c.in-Some.field-0, sym (get_or_default c.args.self.now.searches.items c.args.group c.index.result.now None c.requires) ∙ sym c.index.ensures ∙ c.in-Some.is)
