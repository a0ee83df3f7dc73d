use Rattle.std.proofs.Common.{◌≡◌, drop, map}
use Rattle.mm_io.specs.Memory.{file_in, named}
use Rattle.mm_io.proofs.named.find.Given as goal

abbrev pub invariant-loop-file : goal.invariant-loop-file
invariant-loop-file l = file_in (map named l.files) l.name ≡ file_in (map named (drop l.file-index l.files)) l.name
