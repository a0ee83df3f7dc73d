use Rattle.std.proofs.Common.{◌⊎◌, ◌↔◌}
use Rattle.std.specs.List.{filter}
use Rattle.mm_confine.specs.declared.party.Party.{Party}
use Rattle.mm_hold.specs.Parties.{In}
use Rattle.mm_hold.proofs.Passes.{SomeRuns, of_word}
use Rattle.mm_hold.proofs.passing.users.Given as goal

abbrev pub invariant-loop-used : goal.invariant-loop-used
invariant-loop-used l =
    (x : Party) → (In x l.parties ⊎ SomeRuns l.kernel.image l.kernel.kept l.keys l.marks l.used-iterator x)
    ↔ SomeRuns l.kernel.image l.kernel.kept l.keys l.marks (filter (of_word l.kernel.image l.kernel.kept l.keys l.marks l.fn.word) l.uses.keys) x
