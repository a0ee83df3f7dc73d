use Rattle.std.proofs.Common.{◌≡◌, ◌+◌, List, length, map, take, Ok}
use Rattle.mm_io.specs.Files.{NoneFell}
use Rattle.mm_load.specs.{Kinds.Value, Files.{FilesRead, reading, files_named}}
use Rattle.mm_load.proofs.each.load_each.Given as goal

-- the first so many were read, and their values stand in the list
abbrev pub invariant-loop-at : goal.invariant-loop-at
invariant-loop-at g l = record {
  count : length l.loaded.items ≡ l.at;
  kept : g.F.Files.held l.files ≡ g.F.Files.held l.initial.files;
  later : NoneFell (g.F.Files.faults l.initial.files) (g.F.Files.faults l.files);
  read : (before : List Value) → l.first ≡ length before + 1
      → FilesRead {T = Unit {0}} (reading g.F.Files.held g.F.Files.faults g.F.Files.asked l.initial.files l.files)
      before (files_named g.T.FromFile.of_kind (take l.at l.names)) (λ t. map g.T.FromFile.meaning l.loaded.items)
      (Ok tt);
}
