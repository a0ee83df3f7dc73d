use Rattle.std.proofs.Common.{◌≡◌}
use Rattle.mm_kernel.specs.Segments.{live_pointers}
use Rattle.mm_keep.proofs.Rounds.{begins_search}
use Rattle.mm_keep.proofs.search.Search.begin.Goals as goal

pub returns-clause-searching : goal.returns-clause-searching
returns-clause-searching c =
    let i = c.args.kernel.now.image in
    let s = c.args.self.now in
    let pointers : c.deref.result.now ≡ live_pointers i = cc (c.in_ok-pointers.ensures) in
    let pages : c.pages.result.now ≡ i.memory.pages = cc in
    let slots : c.slots.result.now ≡ i.slots = cc in
    begins_search c.args.kernel.now.image c.args.kernel.now.kept _ s.tables c.begin_pointers.new.tables c.begin_pages.new.tables c.deref.result.now c.pages.result.now
    c.slots.result.now s.first.items s.handlers.items c.requires.tables pointers pages slots c.requires.first c.requires.handlers
    c.in_ok-begin_pointers.ensures c.in_ok-begin_pages.ensures.facts c.in_ok-begin_slots.ensures.facts c.in_ok-begin_pages.ensures.first
    c.in_ok-begin_slots.ensures.handlers c.requires.looked c.requires.readers
