use Rattle.std.proofs.{Common.{◌++◌, List, ℕ, sym, ap, ◌∙◌}, lemmas.List.take_all}
use Rattle.std.specs.{List.flat_map, Int.{w64, to_be_bytes}}
use Rattle.mm_format.proofs.Lists.{each_own}
use Rattle.mm_object.specs.{declared.item.Item.Item, Format.item_row}
use Rattle.mm_object.proofs.writing.put_words.Goals as goal

pub returns : goal.returns
unfolding item_row
returns c =
    let items = c.args.items.now in
    let old = c.args.out.now.items in
    c.loop-item.invariant
    ∙ ap (λ (is : List Item). old ++ flat_map (λ (i : Item). to_be_bytes w64 i.bits) is)
    (take_all c.loop-item.item-index items c.loop-item-test.false)
    ∙ ap (λ (t : List ℕ). old ++ t) (sym (each_own item_row (λ (i : Item). i.full) items))
