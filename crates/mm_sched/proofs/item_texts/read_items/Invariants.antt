use Rattle.std.proofs.Common.{◌≤◌, length, ◌-◌, ◌<◌, ◌≡◌, true, slice_index_or}
use Rattle.mm_sched.{specs.Places.is_word_byte, proofs.Reading.IsRead}
use Rattle.mm_sched.proofs.item_texts.read_items.Given as goal

abbrev pub invariant-loop-at : goal.invariant-loop-at
invariant-loop-at g l = record {
  read : IsRead g.T.TextItem.says g.T.TextItem.keeps l.bytes l.at l.items.items;
  begins : l.at < length l.bytes → is_word_byte (slice_index_or l.bytes l.at 0) ≡ true;
  inside : l.at ≤ length l.bytes;
}

abbrev pub decreases-loop-at : goal.decreases-loop-at
decreases-loop-at g l = length l.bytes - l.at
