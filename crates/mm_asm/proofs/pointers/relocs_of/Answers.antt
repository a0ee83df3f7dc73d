use Rattle.std.proofs.{Common.{◌≡◌, ◌++◌, List, ap, ◌∙◌, sym}, lemmas.List.take_all}
use Rattle.mm_draft.specs.{declared.segment.Word.Word, Drafts.Segment}
use Rattle.mm_asm.specs.Meaning.{words_relocs}
use Rattle.mm_asm.proofs.{Built.{numbered, numbered_appended}, BuiltNumbered.{relocs_in, segments_are}}
use Rattle.mm_asm.proofs.pointers.relocs_of.Goals as goal

pub loop-number-preserved : goal.loop-number-preserved
loop-number-preserved c =
    let l = c.loop-number in
    let d = c.args.draft.now in
    let words : c.deref.result.now ≡ c.segment-item.result.words = c.deref.ensures.value ∙ ap (λ (s : Segment). s.words) c.segment.view_is in
    numbered_appended (relocs_in d) l.relocs.items c.push_words.new.relocs.items c.segments-segment-items.result.now
    l.number c.segment-item.result c.loop-number-test.true c.segment-item.is l.invariant
    (c.in_ok-push_words.ensures.relocs ∙ ap (λ (ws : List Word). l.relocs.items ++ words_relocs d l.number 0 ws) words)

pub returns-clause-relocs : goal.returns-clause-relocs
returns-clause-relocs c =
    let l = c.loop-number in
    let d = c.args.draft.now in
    l.invariant ∙ ap (numbered (relocs_in d) 0) (take_all l.number c.segments-segment-items.result.now c.loop-number-test.false ∙ c.segments-segment-items.ensures) ∙ sym (segments_are d 0 d.segments)
