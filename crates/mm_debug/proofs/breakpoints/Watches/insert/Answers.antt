use Rattle.std.proofs.Common.{◌∙◌}
use Rattle.mm_debug.proofs.Kept.{word_searched, there_fits, there_stays, new_fits, new_placed, new_kept}
use Rattle.mm_debug.proofs.breakpoints.Watches.insert.Goals as goal

pub invariant_of-self : goal.invariant_of-self
invariant_of-self c =
    let found = c.in-Err.ensures in
    let added = c.try_insert.ensures in
    new_kept c.in-Err.at c.self.inside.kept c.try_insert.new.self
    (word_searched c.args.word _ _ _ c.deref.ensures.0 c.self.invariant found.bound found.position) c.try_insert.result added.variant added.ok
    added.len added.err

pub returns-in-Ok-clause-fits : goal.returns-in-Ok-clause-fits
returns-in-Ok-clause-fits c =
    let found = c.in-Ok.ensures in
    rw (← c.self.view_is) (there_fits c.in-Ok.field-0 (word_searched c.args.word _ _ _ c.deref.ensures.0 c.self.invariant found.bound found.position))

pub returns-in-Ok-clause-after : goal.returns-in-Ok-clause-after
returns-in-Ok-clause-after c =
    let found = c.in-Ok.ensures in
    rw (← c.self.view_is) (there_stays c.in-Ok.field-0 (word_searched c.args.word _ _ _ c.deref.ensures.0 c.self.invariant found.bound found.position))

pub returns-in-Err-clause-fits : goal.returns-in-Err-clause-fits
returns-in-Err-clause-fits c =
    let found = c.in-Err.ensures in
    rw (← c.self.view_is)
    (c.is_ok.ensures.value ∙ new_fits c.in-Err.at c.self.inside.kept
    (word_searched c.args.word _ _ _ c.deref.ensures.0 c.self.invariant found.bound found.position) c.try_insert.result
    c.try_insert.ensures.variant)

pub returns-in-Err-clause-after : goal.returns-in-Err-clause-after
returns-in-Err-clause-after c =
    let found = c.in-Err.ensures in
    let added = c.try_insert.ensures in
    rw (← c.self.view_is)
    (new_placed c.in-Err.at c.self.inside.kept c.try_insert.new.self
    (word_searched c.args.word _ _ _ c.deref.ensures.0 c.self.invariant found.bound found.position) c.try_insert.result added.variant added.ok
    added.err)
