use Rattle.std.proofs.Common.{◌≡◌, ◌+◌, drop, nat_eq}
use Rattle.std.specs.List.{common_prefix_len}
use Rattle.mm_config.specs.Noting.{mapped_pages}
use Rattle.mm_config.proofs.memory.first_other.Given as goal

abbrev pub invariant-loop-at : goal.invariant-loop-at
invariant-loop-at l =
    common_prefix_len nat_eq l.mapped (mapped_pages l.mem.memory) ≡ l.at + common_prefix_len nat_eq (drop l.at l.mapped) (drop l.at (mapped_pages l.mem.memory))
