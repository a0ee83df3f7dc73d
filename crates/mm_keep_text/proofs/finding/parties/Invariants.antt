use Rattle.std.{proofs.Common.take, specs.List.AllZip}
use Rattle.mm_keep_text.specs.Answers.{IsParty}
use Rattle.mm_keep_text.proofs.finding.parties.Given as goal

abbrev pub invariant-loop-origin : goal.invariant-loop-origin
invariant-loop-origin l = AllZip (IsParty l.kernel.image l.kernel.kept) (take l.origin-index l.origins) l.parties.items
