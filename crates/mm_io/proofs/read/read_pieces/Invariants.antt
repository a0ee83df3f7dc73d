use Rattle.std.proofs.Common.{◌≡◌, ◌≤◌, length, ◌+◌, ◌-◌}
use Rattle.mm_io.{specs.Files.NoneFell, proofs.{Asking.AsksFront, Reading.Begins}}
use Rattle.mm_io.proofs.read.read_pieces.Given as goal

abbrev pub invariant-loop-bytes : goal.invariant-loop-bytes
invariant-loop-bytes g l = record {
  inside : length l.bytes.items ≤ l.limit;
  begins : Begins (g.F.Files.held l.initial.files l.name) l.bytes.items;
  room : length l.buffer ≡ length l.initial.buffer;
  kept : g.F.Files.held l.files ≡ g.F.Files.held l.initial.files;
  later : NoneFell (g.F.Files.faults l.initial.files) (g.F.Files.faults l.files);
  asks : AsksFront g.F.Files.asked l.initial.files l.files l.name (length l.initial.buffer) (length l.bytes.items);
}

abbrev pub decreases-loop-bytes : goal.decreases-loop-bytes
decreases-loop-bytes g l = l.limit + 1 - length l.bytes.items
