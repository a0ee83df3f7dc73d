use Rattle.std.proofs.Common.{◌≡◌, ◌++◌, map, zip, take, length}
use Rattle.mm_model.specs.{Fits.slots_of, Flags.flags}
use Rattle.mm_explore.specs.Noting.{standings_of}
use Rattle.mm_explore.proofs.outcomes.put_slots.Given as goal

abbrev pub invariant-loop-at : goal.invariant-loop-at
invariant-loop-at l =
    l.out.items ≡ l.fn.out.items
    ++ take l.at (zip (map (λ s. s.number) (slots_of l.core)) (standings_of (flags (length (slots_of l.core)) l.busy) (slots_of l.core)))
