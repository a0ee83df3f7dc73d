use Rattle.std.proofs.Common.{◌∙◌, ap, sym, length}
use Rattle.mm_draft.{specs.Drafts.{Segment, Draft, last, words_so_far}, proofs.Lasts.last_is}
use Rattle.mm_draft.proofs.draft.Draft.words_so_far.Goals as goal

pub returns-in-Some : goal.returns-in-Some
returns-in-Some c =
    let at = rw c.deref.ensures.value at c.in-Some.ensures.value in
    let e = last_is c.self.inside.segments.items c.in-Some.segment.now (sym at) in
    c.len.ensures ∙ c.segment.inside.words.ok.0 ∙ ap (λ (s : Segment). length s.words) c.segment.view_is ∙ ap words_so_far (sym e) ∙ ap (λ (d : Draft). words_so_far (last d.segments)) c.self.view_is
