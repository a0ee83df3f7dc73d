use Rattle.std.{proofs.Common.{◌++◌, ◌∷◌, [], List, take, map, sym, ap, subst, ◌∙◌, append_assoc}, specs.List.flat_map}
use Rattle.mm_object.specs.{declared.{target.{Reloc.Reloc, Target.Target}, thread.Thread.Thread}, Objects.value_targets}
use Rattle.mm_object.{specs.Fits.HoldsUses, proofs.{Bools.flat_map-more, Used.{none_yet, no_more}}}
use Rattle.mm_object.proofs.uses.uses.Goals as goal

targets : Thread → List Target
targets t = t.target ∷ flat_map value_targets t.regs

pub loop-thread-init : goal.loop-thread-init
loop-thread-init c = no_more c.mark_relocs.new.used c.args.segments (map (λ (r : Reloc). r.target) c.args.relocs.now) (c.mark_relocs.ensures [] (none_yet c.args.segments))

pub loop-thread-preserved : goal.loop-thread-preserved
unfolding targets
loop-thread-preserved c =
    let l = c.loop-thread in
    let relocs = map (λ (r : Reloc). r.target) c.args.relocs.now in
    let before = flat_map targets (take l.thread-index c.args.threads.now) in
    let more = append_assoc relocs before _ ∙ ap (λ ts. relocs ++ ts) (sym (flat_map-more targets c.args.threads.now l.thread-index _ c.loop-thread-test.true)) in
    subst (HoldsUses c.mark_thread.new.used c.args.segments) more (c.mark_thread.ensures (relocs ++ before) l.invariant)
