use Rattle.std.{proofs.Common.take, specs.Prelude.Contains}
use Rattle.mm_kernel.specs.Derived.{HasFirst}
use Rattle.mm_keep_text.{specs.Keys.{cell_key, cell_from}, proofs.Listing.Lists}
use Rattle.mm_keep_text.proofs.lists.cells.Given as goal

abbrev pub invariant-loop-k : goal.invariant-loop-k
invariant-loop-k l =
    Lists cell_key cell_from (λ c. Contains (take l.k l.tables.stored) c × (HasFirst l.kernel.image l.kernel.kept c.0 c.1 → ⊥)) l.listed.entries
