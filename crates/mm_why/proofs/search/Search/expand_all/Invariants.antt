use Rattle.std.proofs.Common.{◌+◌, ◌-◌, length}
use Rattle.mm_why.specs.Searches.{stage_of, room, Expanding}
use Rattle.mm_why.proofs.search.Search.expand_all.Given as goal

abbrev pub invariant-loop-at : goal.invariant-loop-at
invariant-loop-at l =
    Expanding l.subject.image.now l.subject.graph.now.keys.items l.subject.group l.subject.graph.now.nodes.items
    l.subject.graph.now.targets.items (stage_of l.initial.self) l.at
    (stage_of l.self)

abbrev pub decreases-loop-at : goal.decreases-loop-at
decreases-loop-at l = room l.self.places.items + length l.self.queue.items - l.at
