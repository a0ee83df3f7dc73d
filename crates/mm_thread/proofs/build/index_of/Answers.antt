use Rattle.std.proofs.Common.{◌≡◌, ℕ, ◌+◌, set, sym, ap, ◌∙◌, arith, subst}
use Rattle.mm_thread.specs.Tables.{slot_of_row}
use Rattle.mm_thread.proofs.{RowIndex.{IsIndexBelow, index_none, index_more, index_all}, RunningSlots.slot_there}
use Rattle.mm_thread.proofs.build.index_of.Goals as goal

pub loop-i-init : goal.loop-i-init
loop-i-init c = index_none c.args.rows.now

pub bounds-index-number : goal.bounds-index-number
bounds-index-number c =
    let rows = c.args.rows.now in
    let i = c.loop-i.i in
    let number = c.number-number.ensures ∙ ap (λ (s : Rattle.mm_model.specs.Slot.Slot). s.number) (slot_there rows i (omega arith) _ _ c.index-rows-i.is) in
    omega (arith, number, c.requires.apart.small i (omega arith))

pub loop-i-preserved : goal.loop-i-preserved
loop-i-preserved c =
    let rows = c.args.rows.now in
    let i = c.loop-i.i in
    let number : c.number-number.result ≡ (slot_of_row rows i).number = c.number-number.ensures
    ∙ ap (λ (s : Rattle.mm_model.specs.Slot.Slot). s.number) (slot_there rows i (omega arith) _ _ c.index-rows-i.is)
    in
    let P : ℕ → Type 0 = λ n. IsIndexBelow rows (set c.loop-i.index n i) (i + 1) in
    subst P (sym number) (index_more rows c.loop-i.index i c.requires.apart (omega arith) c.loop-i.invariant)

pub returns : goal.returns
returns c = index_all c.args.rows.now c.loop-i.index c.loop-i.i c.requires.few (omega arith) c.loop-i.invariant
