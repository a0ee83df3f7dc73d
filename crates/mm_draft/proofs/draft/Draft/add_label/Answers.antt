use Rattle.std.proofs.Common.{◌≡◌, ◌-◌, ◌∙◌, ap, None, length, arith}
use Rattle.mm_draft.specs.{Drafts.{Draft, place_in, place_of}, Counts.entries_of}
use Rattle.mm_draft.proofs.{Names.inserted, Steps.label_step}
use Rattle.mm_draft.proofs.draft.Draft.add_label.Goals as goal

pub returns : goal.returns
returns c =
    let es = c.self.inside.names.entries in
    let segments = c.self.inside.segments in
    let new : place_in (entries_of es) c.bytes.result.now ≡ None = ap (λ n. place_in (entries_of es) n) c.bytes.ensures ∙ ap (λ (d : Draft). place_of d c.args.mark.name) c.self.view_is ∙ c.requires in
    let n : c.saturating_sub.result ≡ length segments.items - 1 = let k = segments.ok.0 in omega arith in
    label_step _ c.args.self.now c.args.mark _ c.bytes.result.now _ _ c.self.view_is c.bytes.ensures n c.words_so_far.ensures
    (ap entries_of c.in_ok-insert.ensures.entries ∙ inserted es c.bytes.result _ new)
