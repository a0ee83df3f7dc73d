use Rattle.std.proofs.Common.{map}
use Rattle.mm_word.specs.Word.{is_pointer}
use Rattle.mm_config.{specs.Forms.changed_flags, proofs.Masks.IsMaskFrom}
use Rattle.mm_config.proofs.slot_form.masks_of.Given as goal

abbrev pub invariant-loop-r : goal.invariant-loop-r
invariant-loop-r l = record {
  changed : IsMaskFrom (changed_flags l.base l.words) l.changed l.r;
  pointers : IsMaskFrom (map is_pointer l.words) l.pointers l.r;
}
