use Rattle.std.proofs.Common.{◌≡◌, ◌∙◌, ap, None}
use Rattle.mm_draft.specs.{Drafts.{Draft, place_in, place_of}, Counts.entries_of}
use Rattle.mm_draft.proofs.{Names.inserted, Steps.{segment_step, counts_begin}}
use Rattle.mm_draft.proofs.draft.Draft.add_segment.Goals as goal

pub invariant_of-self-2 : goal.invariant_of-self-2
invariant_of-self-2 c = counts_begin c.self.inside.segments.items _ _ _ _ c.self.invariant c.new-words.ensures.items c.in_ok-push.ensures.items

pub returns : goal.returns
returns c =
    let es = c.self.inside.names.entries in
    let segments = c.self.inside.segments in
    let new : place_in (entries_of es) c.bytes.result.now ≡ None = ap (λ n. place_in (entries_of es) n) c.bytes.ensures
    ∙ ap (λ (d : Draft). place_of d c.args.mark.name) c.self.view_is ∙ c.requires.new in
    segment_step _ c.args.self.now c.args.mark c.args.log _ _ c.bytes.result.now c.new-words.result.items _ c.self.view_is c.bytes.ensures (c.len.ensures ∙ segments.ok.0) c.new-words.ensures.items
    (ap entries_of c.in_ok-insert.ensures.entries ∙ inserted es c.bytes.result _ new) c.in_ok-push.ensures.items
