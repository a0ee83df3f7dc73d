use Rattle.std.proofs.Common.{◌≡◌, ℕ, false, List, [], ◌∷◌, replicate, None, refl, ap, ◌∙◌}
use Rattle.mm_word.specs.{declared.{perm.Perm.TheVariants.{Rw, Xu}, word.Word.TheVariants.{Int, Ptr}}, Pointer.Pointer}
use Rattle.mm_model.specs.{declared.slot.{SlotState.TheVariants.Running, Pending.Pending}, Flags.flags, Slot.Slot}
use Rattle.mm_gen.specs.Generated.{code_page, data_page, page_pointer, slot_at}
use Rattle.mm_gen.proofs.slots.slot.Goals as goal

abbrev of_parts : (number : ℕ) (words ip : Pointer) (pending : List Pending) → Slot
of_parts number words ip pending = record {
  number = number;
  group = number;
  handler = None;
  regs = Int 0 ∷ Ptr words ∷ replicate 14 (Int 0);
  ip = ip;
  past = false;
  turns = 0;
  state = Running;
  empty = flags 16 0;
  pending = pending;
}

from_parts : (number : ℕ) (words ip : Pointer) (pending : List Pending) → words ≡ page_pointer Rw (data_page number) → ip ≡ page_pointer Xu (code_page number)
    → pending ≡ [] → of_parts number words ip pending ≡ slot_at number
unfolding slot_at
from_parts number words ip pending ew ei ep = rw (ew, ei, ep) refl

pub returns : goal.returns
returns c =
    from_parts c.args.number c.page_pointer.result c.page_pointer-2.result c.new.result.items (c.page_pointer.ensures ∙ ap (page_pointer Rw) c.data_page.ensures)
    (c.page_pointer-2.ensures ∙ ap (page_pointer Xu) c.code_page.ensures) c.new.ensures
