use Rattle.std.proofs.Common.{◌≡◌}
use Rattle.mm_explore.specs.{Findings.explored_turns, FoundLists.HasKept, Noting.Noted}
use Rattle.mm_explore.proofs.NotingSets.{SetsLeft}
use Rattle.mm_explore.proofs.search.Search.note_sets.Given as goal

-- the ends so far were noted, and nothing else of the search is new
abbrev pub invariant-loop-at : goal.invariant-loop-at
invariant-loop-at l = record {
  rest : l.self ≡ record l.fn.self { configs = l.self.configs; findings = l.self.findings };
  kept : HasKept l.img l.fn.self.found l.self.configs;
  noted : Noted l.img l.fn.self.found (explored_turns l.img l.fn.self.found) l.self.findings;
  left : SetsLeft l.img l.fn.self.found l.self.findings l.at-iterator;
}
