use Rattle.std.proofs.Common.{◌≡◌, ◌∙◌, ◌<◌, List, length, get_or, slice_set, sym, ap, subst, arith}
use Rattle.mm_word.specs.declared.word.Word.{Word}
use Rattle.mm_model.specs.Slot.{Slot}
use Rattle.mm_sweep.{specs.Swept.swept_word, proofs.SweptWords.{swept_upto, one_more, all_swept}}
use Rattle.mm_sweep.proofs.words.swept_slot.Goals as goal

pub loop-number-preserved : goal.loop-number-preserved
loop-number-preserved c =
    let range = c.args.range.now in
    let old : Slot = c.args.slot.now in
    let n = c.loop-number.number in
    let word : Word = c.word-item.result in
    let regs : c.slot.inside.regs ≡ old.regs = ap (λ (s : Slot). s.regs) c.slot.view_is in
    let long : length old.regs ≡ 16 = subst (λ (l : List Word). length l ≡ 16) regs c.slot.invariant.registers in
    let lt : n < length old.regs = omega arith in
    let is : word ≡ get_or old.regs n word = subst (λ (l : List Word). word ≡ get_or l n word) regs c.word-item.is in
    c.set_register.ensures
    ∙ ap (λ (s : Slot). record s { regs = slice_set s.regs n c.swept_word.result }) c.loop-number.invariant
    ∙ ap (λ (l : List Word). record old { regs = l })
    (ap (λ (v : Word). slice_set (swept_upto range n old.regs) n v) (c.swept_word.ensures ∙ ap (swept_word range) (sym c.word-item.is)) ∙ one_more range old.regs n word lt is)

pub returns : goal.returns
returns c =
    let old : Slot = c.args.slot.now in
    let regs : c.slot.inside.regs ≡ old.regs = ap (λ (s : Slot). s.regs) c.slot.view_is in
    let long : length old.regs ≡ 16 = subst (λ (l : List Word). length l ≡ 16) regs c.slot.invariant.registers in
    c.loop-number.invariant ∙ ap (λ (l : List Word). record old { regs = l }) (all_swept c.args.range.now old.regs c.loop-number.number (omega arith))
