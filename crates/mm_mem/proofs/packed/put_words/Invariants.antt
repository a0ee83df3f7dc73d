use Rattle.std.proofs.Common.{◌≡◌, take}
use Rattle.mm_mem.{specs.Unpacked.words_of, proofs.PackedCells.HoldWords}
use Rattle.mm_mem.proofs.packed.put_words.Given as goal

abbrev pub invariant-loop-i : goal.invariant-loop-i
invariant-loop-i l = record {
  written : take l.i l.bits ≡ words_of (take l.i l.cells);
  words : HoldWords (take l.i l.cells);
}
