use Rattle.std.{proofs.Common.{◌≡◌, ◌≤◌, length, ◌+◌, ◌-◌}, specs.Io.KnownBytes.prepend_known}
use Rattle.mm_io.proofs.read.read_input_pieces.Given as goal

abbrev pub invariant-loop-bytes : goal.invariant-loop-bytes
invariant-loop-bytes g l = record {
  inside : length l.bytes.items ≤ l.limit;
  room : length l.buffer ≡ length l.initial.buffer;
  left : g.I.Source.left l.initial.input ≡ prepend_known l.bytes.items (g.I.Source.left l.input);
  later : g.I.Source.faults l.initial.input ≤ g.I.Source.faults l.input;
}

abbrev pub decreases-loop-bytes : goal.decreases-loop-bytes
decreases-loop-bytes g l = l.limit + 1 - length l.bytes.items
