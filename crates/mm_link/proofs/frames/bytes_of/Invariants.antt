use Rattle.std.proofs.Common.{◌≡◌, ◌+◌, ◌*◌, ◌^◌, ◌≤◌, drop}
use Rattle.mm_link.specs.Placing.{bytes_of}
use Rattle.mm_link.proofs.frames.bytes_of.Given as goal

abbrev pub invariant-loop-part : goal.invariant-loop-part
invariant-loop-part l = record {
  bytes : l.bytes + bytes_of (drop l.part-index l.parts) ≡ bytes_of l.parts;
  few : l.bytes ≤ 2 ^ 20 * l.part-index;
}
