use Rattle.std.{proofs.Common.{◌≡◌, true, take}, specs.List.list_all}
use Rattle.mm_object.specs.Objects.{is_reloc}
use Rattle.mm_object.proofs.relocs.are_relocs.Given as goal

abbrev pub invariant-loop-reloc : goal.invariant-loop-reloc
invariant-loop-reloc l = list_all (is_reloc l.segments l.externals) (take l.reloc-index l.relocs) ≡ true
