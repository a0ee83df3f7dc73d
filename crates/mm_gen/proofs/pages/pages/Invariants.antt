use Rattle.std.{proofs.Common.{◌≡◌, ◌*◌}, specs.List.{flat_map, range_with_len}}
use Rattle.mm_gen.specs.Generated.{nth_number, slot_pages}
use Rattle.mm_gen.proofs.pages.pages.Given as goal

abbrev pub invariant-loop-slot : goal.invariant-loop-slot
invariant-loop-slot l = record {
  last : l.last ≡ nth_number l.number (512 * l.slot);
  pages : l.pages.items ≡ flat_map (slot_pages l.number) (range_with_len 0 l.slot);
}
