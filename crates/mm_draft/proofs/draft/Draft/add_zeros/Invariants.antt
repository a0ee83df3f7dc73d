use Rattle.std.proofs.Common.{◌≡◌, replicate}
use Rattle.mm_draft.specs.Drafts.{add_words, zero_word}
use Rattle.mm_draft.proofs.draft.Draft.add_zeros.Given as goal

abbrev pub invariant-loop : goal.invariant-loop
invariant-loop l = l.self ≡ add_words (replicate l.counter (zero_word l.source)) l.initial.self
