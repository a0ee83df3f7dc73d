use Rattle.std.proofs.Common.{◌≡◌, length, take}
use Rattle.mm_image.specs.Reading.{HoldsNumbers}
use Rattle.mm_image.proofs.slots.numbers.Given as goal

abbrev pub invariant-loop-slot : goal.invariant-loop-slot
invariant-loop-slot l = record {
  holds : HoldsNumbers l.present (take l.slot-index l.slots);
  long : length l.present ≡ 256;
}
