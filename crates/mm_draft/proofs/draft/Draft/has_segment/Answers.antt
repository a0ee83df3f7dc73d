use Rattle.std.{proofs.Common.{◌∙◌, ap, sym, not, is_some}, specs.Prelude.◌==◌}
use Rattle.mm_draft.{specs.Drafts.{Draft, last}, proofs.Lasts.has_last}
use Rattle.mm_draft.proofs.draft.Draft.has_segment.Goals as goal

pub returns : goal.returns
returns c =
    let items = c.self.inside.segments in
    ap not c.is_empty.ensures ∙ ap (λ n. not (n == 0)) items.ok.0 ∙ sym (has_last items.items) ∙ ap (λ (d : Draft). is_some (last d.segments)) c.self.view_is
