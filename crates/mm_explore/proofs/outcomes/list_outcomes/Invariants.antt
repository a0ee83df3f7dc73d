use Rattle.std.{proofs.Common.{List, []}, specs.List.AllZip}
use Rattle.mm_explore.specs.{Finds.outcome_found, FoundLists.HasKept, Noting.IsKeptEnd, Outcomes.{End, count_of}}
use Rattle.mm_explore.proofs.LeftOver.{LeftOver}
use Rattle.mm_explore.proofs.outcomes.list_outcomes.Given as goal

-- the outcomes so far and those of the ends that are left are the outcomes of all ends
abbrev pub invariant-loop-tally : goal.invariant-loop-tally
invariant-loop-tally l = record {
  kept : HasKept l.img l.found l.configs;
  left : (all some : List End) → AllZip (λ e entry. IsKeptEnd l.img l.found all e entry.0.items entry.1) some l.ends.entries
      → LeftOver (λ e entry. IsKeptEnd l.img l.found all e entry.0.items entry.1) (λ e. outcome_found l.img (count_of all e.outcome) e.outcome e.schedule)
      some [] l.outcomes.items l.tally-iterator;
}
