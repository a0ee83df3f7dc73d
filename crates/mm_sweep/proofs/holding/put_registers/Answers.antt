use Rattle.std.proofs.Common.{◌≡◌, ◌∙◌, ℕ, ◌<◌, List, length, get_or, sym, ap, subst, arith}
use Rattle.mm_word.specs.declared.word.Word.{Word}
use Rattle.mm_model.specs.Slot.{Slot}
use Rattle.mm_text.proofs.Appending.{appends_then, appends_same}
use Rattle.mm_sweep.{specs.Holders.{holder_line, register_place}, proofs.HolderLines.registers_more}
use Rattle.mm_sweep.proofs.holding.put_registers.Goals as goal

pub loop-number-preserved : goal.loop-number-preserved
loop-number-preserved g c =
    let range = c.args.range.now in
    let slot : Slot = c.args.slot.now in
    let n = c.loop-number.number in
    let word : Word = c.word-item.result in
    let regs : c.slot.inside.regs ≡ slot.regs = ap (λ (s : Slot). s.regs) c.slot.view_is in
    let long : length slot.regs ≡ 16 = subst (λ (l : List Word). length l ≡ 16) regs c.slot.invariant.registers in
    let lt : n < length slot.regs = omega arith in
    let is : word ≡ get_or slot.regs n word = subst (λ (l : List Word). word ≡ get_or l n word) regs c.word-item.is in
    let line : ℕ → Word → List ℕ = λ number x. holder_line range (register_place number n) x in
    appends_same (appends_then c.loop-number.invariant (appends_same c.put_holder.ensures (ap (line c.slot.inside.number) (sym c.word-item.is) ∙ ap (λ (s : Slot). line s.number word) c.slot.view_is)))
    (registers_more range slot.number n slot.regs word lt is)
