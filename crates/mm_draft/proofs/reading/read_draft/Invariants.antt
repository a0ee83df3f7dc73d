use Rattle.std.proofs.Common.{◌≡◌, length, drop}
use Rattle.mm_draft.specs.Faults.{lines_from, lines_of, draft_of}
use Rattle.mm_draft.proofs.reading.read_draft.Given as goal

abbrev pub invariant-loop-number : goal.invariant-loop-number
invariant-loop-number l = lines_from (length l.yielded) l.draft (drop (length l.yielded) (lines_of l.text)) ≡ draft_of l.text
