use Rattle.std.{proofs.Common.{◌≡◌, ◌++◌, take}, specs.List.flat_map}
use Rattle.mm_object.specs.Format.{reloc_record}
use Rattle.mm_object.proofs.writing.put_relocs.Given as goal

abbrev pub invariant-loop-reloc : goal.invariant-loop-reloc
invariant-loop-reloc l = l.out.items ≡ l.initial.out.items ++ flat_map reloc_record (take l.reloc-index l.relocs)
