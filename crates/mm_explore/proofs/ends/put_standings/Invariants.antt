use Rattle.std.proofs.Common.{◌≡◌, ◌++◌, map, take, length}
use Rattle.mm_model.specs.{Fits.slots_of, Flags.flags}
use Rattle.mm_explore.specs.{Noting.standings_of, Outcomes.standing_number}
use Rattle.mm_explore.proofs.ends.put_standings.Given as goal

abbrev pub invariant-loop-at : goal.invariant-loop-at
invariant-loop-at l =
    l.key.items ≡ l.fn.key.items ++ take l.at (map standing_number (standings_of (flags (length (slots_of l.core)) l.busy) (slots_of l.core)))
