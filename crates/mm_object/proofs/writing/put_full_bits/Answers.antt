use Rattle.std.proofs.Common.{ℕ, ◌*◌, ◌-◌, ◌∷◌, ◌++◌, [], Bool, List, map, sym, ap, ◌∙◌, arith}
use Rattle.mm_object.{specs.declared.item.Item.Item, proofs.Written.{both_written, bitmap_more, flags_of_part}}
use Rattle.mm_model.specs.{Flags.number_of_flags, Spelling.bitmap}
use Rattle.mm_object.proofs.writing.put_full_bits.Goals as goal

pub loop-k-preserved : goal.loop-k-preserved
loop-k-preserved c =
    let old = c.args.out.now.items in
    let k = c.loop-k.k in
    let items = c.args.items.now in
    let end = c.min-end.result in
    let test : Item → Bool = λ i. i.full in
    let byte = c.full_bits.ensures.value ∙ ap number_of_flags (flags_of_part test items (8 * k) (end - 8 * k) (omega (arith, c.min-end.ensures)) (λ less. omega (arith, less, c.min-end.ensures))) in
    let written = c.in_ok-push.ensures.items ∙ ap (λ (n : ℕ). c.loop-k.out.items ++ n ∷ []) byte in
    both_written old c.loop-k.out.items c.push.new.self.items (bitmap k (map test items)) _ c.loop-k.invariant written ∙ ap (λ (t : List ℕ). old ++ t) (sym (bitmap_more k (map test items)))
