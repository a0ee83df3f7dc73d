use Rattle.std.proofs.Common.{◌≡◌, length, take}
use Rattle.mm_config.specs.Reads.{slots_read}
use Rattle.mm_config.proofs.changes.take_slots.Given as goal

abbrev pub invariant-loop-at : goal.invariant-loop-at
invariant-loop-at l = record {
  slots : l.slots ≡ slots_read l.lists l.base (take l.at-index l.changes) l.fn.slots;
  many : length l.slots ≡ length l.base;
}
