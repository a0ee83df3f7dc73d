use Rattle.std.proofs.Common.{◌≡◌, ◌∙◌, ◌+◌, ◌*◌, ◌-◌, ◌<◌, Bool, false, List, length, map, sym, arith}
use mir.Val.{bool_byte}
use Rattle.mm_word.specs.{declared.word.Word.Word, Word.is_pointer}
use Rattle.mm_config.{specs.Forms.changed_flags, proofs.WordForms.length-changed, proofs.SlotForms.length-pointers}
use Rattle.mm_config.proofs.Masks.{begins, mask_more, mask_fits, mask_is, mask_below, changed_at, pointer_at}
use Rattle.mm_config.proofs.slot_form.masks_of.Goals as goal
use Rattle.mm_config.proofs.slot_form.masks_of.Goals.{In-loop-r}

-- each register has a flag in either mask
changed_long : (base words : List Word) → length base ≡ 16 → length words ≡ 16 → length (changed_flags base words) ≡ 16
changed_long base words b w = length-changed base words (b ∙ sym w) ∙ w

pointers_long : (words : List Word) → length words ≡ 16 → length (map is_pointer words) ≡ 16
pointers_long words w = length-pointers words ∙ w

pub loop-r-init : goal.loop-r-init
loop-r-init c =
    let base = c.args.base.now in
    let words = c.args.words.now in
    record {
      changed = begins (changed_flags base words) (changed_long base words c.type_inv.base c.type_inv.words);
      pointers = begins (map is_pointer words) (pointers_long words c.type_inv.words);
    }

changed_fits : (c : In-loop-r) → (f : Bool) → 2 * c.loop-r.changed + bool_byte f < 65536
changed_fits c =
    let l = c.loop-r in
    let base = c.args.base.now in
    let words = c.args.words.now in
    mask_fits (changed_flags base words) (changed_long base words c.type_inv.base c.type_inv.words) l.changed l.r c.loop-r-test.true l.auto.r l.invariant.changed

pointers_fit : (c : In-loop-r) → (f : Bool) → 2 * c.loop-r.pointers + bool_byte f < 65536
pointers_fit c =
    let l = c.loop-r in
    let words = c.args.words.now in
    mask_fits (map is_pointer words) (pointers_long words c.type_inv.words) l.pointers l.r c.loop-r-test.true l.auto.r l.invariant.pointers

pub overflow_mul-changed : goal.overflow_mul-changed
overflow_mul-changed c = let small = changed_fits (goal.at.overflow_mul-changed c).In-loop-r false in omega (arith, small)

pub overflow_add-changed : goal.overflow_add-changed
overflow_add-changed c = let small = changed_fits (goal.at.overflow_add-changed c).In-loop-r c.differs.result in omega (arith, small)

pub overflow_mul-pointers : goal.overflow_mul-pointers
overflow_mul-pointers c = let small = pointers_fit (goal.at.overflow_mul-pointers c).In-loop-r false in omega (arith, small)

pub overflow_add-pointers : goal.overflow_add-pointers
overflow_add-pointers c = let small = pointers_fit (goal.at.overflow_add-pointers c).In-loop-r c.is_pointer.result in omega (arith, small)

pub loop-r-preserved : goal.loop-r-preserved
loop-r-preserved c =
    let l = c.loop-r in
    let some = c.loop-r-test.true in
    let few = l.auto.r in
    let long_base = c.type_inv.base in
    let long = c.type_inv.words in
    let base = c.args.base.now in
    let words = c.args.words.now in
    let differs = changed_at base words (l.r - 1) c.index-base-r.result c.index-words-r.result (long_base ∙ sym long) (omega (arith, some, few, long_base)) ∙ sym c.differs.ensures in
    let points = pointer_at words (l.r - 1) c.index-words-r-in-loop-r.result (omega (arith, some, few, long)) ∙ sym c.is_pointer.ensures in
    record {
      changed = mask_more (changed_flags base words) (changed_long base words long_base long) l.changed l.r some few l.invariant.changed c.differs.result differs;
      pointers = mask_more (map is_pointer words) (pointers_long words long) l.pointers l.r some few l.invariant.pointers c.is_pointer.result points;
    }

pub returns-clause-changed : goal.returns-clause-changed
returns-clause-changed c =
    let l = c.loop-r in
    let base = c.args.base.now in
    let words = c.args.words.now in
    mask_is (changed_flags base words) (changed_long base words c.type_inv.base c.type_inv.words) l.changed l.r c.loop-r-test.false l.invariant.changed

pub returns-clause-pointers : goal.returns-clause-pointers
returns-clause-pointers c =
    let l = c.loop-r in
    let words = c.args.words.now in
    mask_is (map is_pointer words) (pointers_long words c.type_inv.words) l.pointers l.r c.loop-r-test.false l.invariant.pointers

pub returns-clause-below : goal.returns-clause-below
returns-clause-below c =
    let l = c.loop-r in
    let base = c.args.base.now in
    let words = c.args.words.now in
    let none = c.loop-r-test.false in
    let long = c.type_inv.words in (
      mask_below (changed_flags base words) (changed_long base words c.type_inv.base long) l.changed l.r none l.invariant.changed,
      mask_below (map is_pointer words) (pointers_long words long) l.pointers l.r none l.invariant.pointers,
    )
