use Rattle.std.{proofs.Common.{◌++◌, ◌∷◌, take, map}, specs.List.flat_map}
use Rattle.mm_object.specs.{declared.{target.Reloc.Reloc, thread.Thread.Thread}, Objects.value_targets, Fits.HoldsUses}
use Rattle.mm_object.proofs.uses.uses.Given as goal

abbrev pub invariant-loop-thread : goal.invariant-loop-thread
invariant-loop-thread l = HoldsUses l.used l.fn.segments (map (λ (r : Reloc). r.target) l.fn.relocs ++ flat_map
    (λ (t : Thread). t.target ∷ flat_map value_targets t.regs) (take l.thread-index l.threads))
