use Rattle.std.proofs.Common.{◌≡◌, refl, [], ◌∷◌, Some, arith}
use Rattle.mm_draft.specs.Drafts.{last, with_words}
use Rattle.mm_draft.proofs.{Lasts.{last_read, set_last}, Steps.{counts_more, segments_step}}
use Rattle.mm_draft.proofs.draft.Draft.add_word.Goals as goal

pub invariant_of-self-2 : goal.invariant_of-self-2
invariant_of-self-2 c =
    let xs = c.self.inside.segments in
    let e : last xs.items ≡ Some c.in-Some.segment.now = last_read xs.items xs.len c.in-Some.segment.now xs.ok.0 (c.in-Some.ensures.variant.0 refl) c.in-Some.ensures.value in
    rw c.one_if_pointer-pointers.ensures (counts_more _ c.args.self.now c.in-Some.segment.now (c.args.word ∷ []) _ _ _ _ _ c.self.view_is c.self.invariant c.requires e (omega arith) (omega arith)
    (set_last (with_words (c.args.word ∷ [])) xs.items xs.len c.in-Some.segment.now _ xs.ok.0 e c.in_ok-push.ensures.done))

pub returns : goal.returns
returns c =
    let xs = c.self.inside.segments in
    let e : last xs.items ≡ Some c.in-Some.segment.now = last_read xs.items xs.len c.in-Some.segment.now xs.ok.0 (c.in-Some.ensures.variant.0 refl) c.in-Some.ensures.value in
    segments_step _ c.args.self.now (with_words (c.args.word ∷ [])) _ c.self.view_is
    (set_last (with_words (c.args.word ∷ [])) xs.items xs.len c.in-Some.segment.now _ xs.ok.0 e
    c.in_ok-push.ensures.done)
