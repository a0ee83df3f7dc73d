use Rattle.std.{proofs.Common.{◌≡◌, ◌+◌, ◌∙◌, ap, sym, length}, specs.Prelude.{nat_lt, ◌||◌}}
use Rattle.mm_line.specs.declared.fault.Fault.TheVariants.{Full, Limit}
use Rattle.mm_draft.specs.Drafts.{Segment, Draft, last, words_of, pointers_of}
use Rattle.mm_draft.specs.{Faults.{first_of, fault_if, words_faults, room_of}, Seen.first_of_both}
use Rattle.mm_draft.proofs.{Lasts.last_is, Firsts.first_of_append}
use Rattle.mm_model.specs.Limits.{word_limit, reloc_limit}
use Rattle.mm_draft.proofs.draft.Draft.words_fault.Goals as goal

pub returns-in-Some : goal.returns-in-Some
returns-in-Some c =
    let s = c.in-Some.segment.now in
    let left = c.args.left in
    let at = rw c.deref.ensures.value at c.in-Some.ensures.value in
    let e = last_is c.self.inside.segments.items s (sym at) in
    let e2 = ap (λ (d : Draft). last d.segments) (sym c.self.view_is) ∙ e in
    let past = nat_lt word_limit (words_of c.args.self.now.segments + c.args.words) || nat_lt reloc_limit (pointers_of c.args.self.now.segments + c.args.pointers) in
    let len : c.len.result ≡ length s.words = c.len.ensures ∙ c.segment.inside.words.ok.0 ∙ ap (λ (x : Segment). length x.words) c.segment.view_is in
    let full = c.fault_if-in-Some.ensures ∙ (λ i. first_of (fault_if (nat_lt (c.room.ensures i) (len i + c.args.words)) Full left)) in
    let limit = c.fault_if-in-Some-2.ensures ∙ ap (λ b. first_of (fault_if b Limit left)) c.is_past_limit.ensures in
    c.first.ensures ∙ (λ i. first_of_both (full i) (limit i))
    ∙ sym (first_of_append (fault_if (nat_lt (room_of s) (length s.words + c.args.words)) Full left)
    (fault_if past Limit left)) ∙ ap
    (λ o. first_of (words_faults c.args.self.now c.args.words c.args.pointers left o)) (sym e2)
