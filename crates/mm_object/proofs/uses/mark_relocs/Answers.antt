use Rattle.std.proofs.{Common.{◌++◌, ◌∷◌, [], List, take, map, sym, ap, subst, ◌∙◌, append_assoc}, lemmas.List.take_all}
use Rattle.mm_object.specs.{declared.target.{Reloc.Reloc, Target.Target}, Fits.HoldsUses}
use Rattle.mm_object.proofs.{Bools.map-more, Used.no_more}
use Rattle.mm_object.proofs.uses.mark_relocs.Goals as goal

pub loop-reloc-init : goal.loop-reloc-init
loop-reloc-init c = λ before holds. no_more c.args.used.now c.args.segments before holds

pub loop-reloc-preserved : goal.loop-reloc-preserved
loop-reloc-preserved c = λ before holds.
    let l = c.loop-reloc in
    let target : Reloc → Target = λ r. r.target in
    let more = append_assoc before (map target (take l.reloc-index c.args.relocs.now)) (_ ∷ [])
    ∙ ap (λ ts. before ++ ts) (sym (map-more target c.args.relocs.now l.reloc-index _ c.loop-reloc-test.true)) in
    subst (HoldsUses c.mark.new.used c.args.segments) more (c.mark.ensures (before ++ map target (take l.reloc-index c.args.relocs.now)) (l.invariant before holds))

pub returns : goal.returns
returns c = λ before holds.
    let all = take_all c.loop-reloc.reloc-index c.args.relocs.now c.loop-reloc-test.false in
    subst (λ (rs : List Reloc). HoldsUses c.loop-reloc.used c.args.segments (before ++ map (λ (r : Reloc). r.target) rs)) all (c.loop-reloc.invariant before holds)
