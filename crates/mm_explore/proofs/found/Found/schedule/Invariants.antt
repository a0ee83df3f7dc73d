use Rattle.std.proofs.Common.{◌≡◌, ◌<◌, length}
use Rattle.mm_explore.{specs.FoundLists.schedule_with, proofs.Spelled.before_items}
use Rattle.mm_explore.proofs.found.Found.schedule.Given as goal

abbrev pub invariant-loop-at : goal.invariant-loop-at
invariant-loop-at l = record {
  spells : before_items l.self l.at l.items.items ≡ schedule_with l.fn.self l.fn.at l.fn.item;
  low : l.at < length l.fn.self;
  same : l.self ≡ l.fn.self;
}

abbrev pub decreases-loop-at : goal.decreases-loop-at
decreases-loop-at l = l.at
