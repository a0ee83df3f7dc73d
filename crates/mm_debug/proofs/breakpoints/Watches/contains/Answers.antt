use Rattle.std.proofs.Common.{◌∙◌}
use Rattle.mm_debug.proofs.Kept.{answered, word_searched}
use Rattle.mm_debug.proofs.breakpoints.Watches.contains.Goals as goal

pub returns : goal.returns
returns c =
    let found = c.binary_search.ensures in
    rw (← c.self.view_is) (c.is_ok.ensures.value ∙ answered c.binary_search.result (word_searched c.args.word _ _ _ c.deref.ensures.0 c.self.invariant found.bound found.position))
