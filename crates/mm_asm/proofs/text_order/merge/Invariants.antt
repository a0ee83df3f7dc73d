use Rattle.std.proofs.Common.{◌≡◌, ◌≤◌, ◌+◌, ◌-◌, ◌++◌, length, drop}
use Rattle.mm_asm.specs.Names.{merge}
use Rattle.mm_asm.proofs.text_order.merge.Given as goal

abbrev pub invariant-loop-i : goal.invariant-loop-i
invariant-loop-i l = record {
  uses : l.merged.items ++ merge (drop l.i l.xs) (drop l.j l.ys) ≡ merge l.xs l.ys;
  first : l.i ≤ length l.xs;
  second : l.j ≤ length l.ys;
}

abbrev pub decreases-loop-i : goal.decreases-loop-i
decreases-loop-i l = length l.xs - l.i + (length l.ys - l.j)
