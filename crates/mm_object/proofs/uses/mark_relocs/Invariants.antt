use Rattle.std.proofs.Common.{◌++◌, List, map, take}
use Rattle.mm_object.specs.{declared.target.{Reloc.Reloc, Target.Target}, Fits.HoldsUses}
use Rattle.mm_object.proofs.uses.mark_relocs.Given as goal

abbrev pub invariant-loop-reloc : goal.invariant-loop-reloc
invariant-loop-reloc l = (before : List Target) → HoldsUses l.initial.used l.segments before → HoldsUses l.used l.segments (before ++ map (λ (r : Reloc). r.target) (take l.reloc-index l.relocs))
