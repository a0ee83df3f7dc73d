use Rattle.std.proofs.Common.{refl, subst}
use Rattle.mm_model.specs.{Slot.Slot, Image.Image}
use Rattle.mm_why.specs.Searches.{stage_of, IsSlotOf, Searching, Advances, SlotPlaced}
use Rattle.mm_why.proofs.Searching.{slot_done, ip_held}
use Rattle.mm_why.proofs.search.Search.reach_slot.Goals as goal

pub returns-clause-placed : goal.returns-clause-placed
returns-clause-placed c =
    subst (λ (s : Slot). (i : Image) → IsSlotOf i s → Searching i c.args.keys.now s.group (stage_of c.args.self.now)
    → Advances i c.args.keys.now s.group (stage_of c.args.self.now) (stage_of c.reach_registers.new.self)
    × SlotPlaced c.args.keys.now s c.reach_registers.new.self.places.items) c.slot.view_is
    (λ i h now.
    let a = c.in_ok-reach_word.ensures.placed i now (ip_held i _ h) in
    slot_done i c.args.keys.now _ (stage_of c.args.self.now) (stage_of c.reach_word.new.self)
    (stage_of c.reach_registers.new.self) a
    (c.in_ok-reach_registers.ensures.placed i _ h (record { group = refl; number = refl; regs = refl }) a.0.now))
