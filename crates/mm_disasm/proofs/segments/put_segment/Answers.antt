use Rattle.std.proofs.Common.{◌≡◌, ℕ, List, length, ap, ◌∙◌, arith}
use Rattle.mm_object.specs.{declared.item.Item.Item, Objects.Segment}
use Rattle.mm_text.proofs.Appending.{appends_then, appends_same}
use Rattle.mm_disasm.{specs.Canonical.{words_text, segment_text}, proofs.Targets.few_items}
use Rattle.mm_disasm.proofs.segments.put_segment.Goals as goal

pub put_words-requires-clause-few : goal.put_words-requires-clause-few
put_words-requires-clause-few g c =
    let items : c.deref.result.now ≡ c.args.segment.now.items = c.deref.ensures.value ∙ ap (λ (s : Segment). s.items) c.segment.view_is in
    omega (arith, ap length items, few_items c.args.segment.now c.requires.segment)

pub returns : goal.returns
unfolding segment_text
returns g c =
    let items : c.deref.result.now ≡ c.args.segment.now.items = c.deref.ensures.value ∙ ap (λ (s : Segment). s.items) c.segment.view_is in
    let words : List Item → List ℕ = words_text c.args.o.now c.args.number 0 in
    appends_then c.put_segment_line.ensures (appends_same {first = words c.deref.result.now} c.put_words.ensures (ap words items))
