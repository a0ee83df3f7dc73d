use Rattle.std.proofs.Common.{◌≡◌, length}
use Rattle.mm_model.specs.{Image.Image, Slot.Slot}
use Rattle.mm_why.specs.Searches.{stage_of, Searching, IsSlotOf, HasWords, RegistersPlaced}
use Rattle.mm_why.proofs.search.Search.reach_registers.Given as goal

abbrev pub invariant-loop-k : goal.invariant-loop-k
invariant-loop-k l = (length l.self.places.items ≡ length l.keys)
    × ((i : Image) (s : Slot) → IsSlotOf i s → HasWords s l.group l.slot l.words → Searching i l.keys l.group (stage_of l.initial.self)
    → RegistersPlaced i l.keys l.group l.words l.k (stage_of l.initial.self) (stage_of l.self))
