use Rattle.std.proofs.Common.{◌≡◌, ◌++◌, ◌∷◌, [], ◌+◌, ◌/◌, ℕ, List, length, map, ap, ◌∙◌, append_assoc, append-nil}
use Rattle.std.specs.Int.{w32, to_be_bytes}
use Rattle.mm_model.specs.Spelling.{bitmap}
use Rattle.mm_format.specs.Formats.{each}
use Rattle.mm_object.specs.{declared.item.Item.Item, Objects.Segment}
use Rattle.mm_object.specs.Format.{segment_row, log_row, count_row, bits_row, item_row, name_record}
use Rattle.mm_object.proofs.Written.{both_written}
use Rattle.mm_object.proofs.writing.put_segment.Goals as goal

-- a record's parts, with what the format puts after each that is a format itself
glued : (old n l c f w : List ℕ) → old ++ (n ++ l ++ c ++ f ++ w) ≡ old ++ (n ++ (l ++ (c ++ ((f ++ []) ++ (w ++ [])))))
glued old n l c f w = simp (append_assoc, append-nil)

pub returns : goal.returns
unfolding segment_row log_row count_row bits_row
returns c =
    let old = c.args.out.now.items in
    let s = c.args.segment.now in
    let n1 = c.put_name.new.out.items in
    let n2 = c.push.new.self.items in
    let n3 = c.put_count.new.out.items in
    let n4 = c.put_full_bits.new.out.items in
    let n5 = c.put_words.new.out.items in
    let count = to_be_bytes w32 (length s.items) in
    let full : List Item → List ℕ = λ items. bitmap ((length items + 7) / 8) (map (λ (i : Item). i.full) items) in
    let words : List Item → List ℕ = λ items. (each item_row (map (λ (i : Item). i.full) items)).spell items in
    let items = ap (λ (x : Segment). x.items) c.segment.view_is in
    let e1 = c.in_ok-put_name.ensures ∙ ap (λ (x : Segment). old ++ name_record x.name) c.segment.view_is in
    let e2 = both_written old n1 n2 (name_record s.name) (s.log ∷ []) e1 (c.in_ok-push.ensures.items ∙ ap (λ (x : Segment). n1 ++ x.log ∷ []) c.segment.view_is) in
    let e3 = both_written old n2 n3 (name_record s.name ++ (s.log ∷ [])) count e2 (c.in_ok-put_count.ensures
    ∙ ap (λ (xs : List Item). n2 ++ to_be_bytes w32 (length xs)) (c.deref.ensures.value ∙ items)) in
    let e4 = both_written old n3 n4 (name_record s.name ++ (s.log ∷ []) ++ count) (full s.items) e3
    (c.in_ok-put_full_bits.ensures ∙ ap (λ (xs : List Item). n3 ++ full xs) (c.deref-2.ensures.value ∙ items)) in
    both_written old n4 n5 (name_record s.name ++ (s.log ∷ []) ++ count ++ full s.items) (words s.items) e4
    (c.in_ok-put_words.ensures ∙ ap (λ (xs : List Item). n4 ++ words xs) (c.deref-3.ensures.value ∙ items))
    ∙ glued old (name_record s.name) (s.log ∷ []) count (full s.items) (words s.items)
