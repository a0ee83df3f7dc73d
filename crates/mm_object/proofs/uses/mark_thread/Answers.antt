use Rattle.std.{proofs.Common.{◌++◌, ◌∷◌, [], subst, append_assoc}, specs.List.flat_map}
use Rattle.mm_object.specs.{Objects.value_targets, Fits.HoldsUses}
use Rattle.mm_object.proofs.uses.mark_thread.Goals as goal

pub returns : goal.returns
returns c = λ before holds.
    let t = c.args.thread.now in
    subst (HoldsUses c.mark_values.new.used c.args.segments)
    (append_assoc before (t.target ∷ []) (flat_map value_targets t.regs))
    (c.mark_values.ensures (before ++ t.target ∷ []) (c.mark.ensures before holds))
