use Rattle.std.proofs.Common.{◌≡◌, ◌+◌, ◌*◌, ◌≤◌, drop}
use Rattle.mm_link.specs.Faults.{spares_of}
use Rattle.mm_link.proofs.frames.spares_of.Given as goal

abbrev pub invariant-loop-object : goal.invariant-loop-object
invariant-loop-object l = record {
  spares : l.spares + spares_of (drop l.object-index l.objects) ≡ spares_of l.objects;
  few : l.spares ≤ 256 * l.object-index;
}
