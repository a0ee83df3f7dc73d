use Rattle.std.proofs.Common.{◌≡◌, take}
use Rattle.mm_config.specs.Reads.{mask_of}
use Rattle.mm_config.proofs.changes.mask_of.Given as goal

abbrev pub invariant-loop-at : goal.invariant-loop-at
invariant-loop-at l = l.mask ≡ mask_of (take l.at-index l.changes)
