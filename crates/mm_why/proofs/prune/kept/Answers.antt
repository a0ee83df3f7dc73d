use Rattle.std.proofs.{Common.{◌+◌, sym, subst, ◌∙◌}, Math.Nat.le_antisymm, lemmas.List.with_items_is}
use Rattle.mm_why.{specs.Pruning.AreKept, proofs.Pruning.none_kept}
use Rattle.mm_why.proofs.prune.kept.Goals as goal

pub loop-k-init : goal.loop-k-init
loop-k-init c =
    subst (AreKept c.args.lines.now c.args.needed.now 0 c.in_ok-places.places.items) (sym c.new-out.ensures.items)
    (none_kept c.args.lines.now c.args.needed.now c.in_ok-places.places.items (sym c.in_ok-places.places.ok.0 ∙ c.in_ok-places.ensures.len))

pub keep-requires-clause-kept : goal.keep-requires-clause-kept
keep-requires-clause-kept c =
    subst (λ places. AreKept c.args.lines.now c.args.needed.now c.loop-k.k places c.loop-k.out.items) (sym c.deref_mut.ensures.value) c.loop-k.invariant

pub loop-k-preserved : goal.loop-k-preserved
loop-k-preserved c =
    subst (λ places. AreKept c.args.lines.now c.args.needed.now (c.loop-k.k + 1) places c.keep.new.out.items)
    (sym (with_items_is c.loop-k.places c.keep.new.places (c.in_ok-keep.ensures.len ∙ sym c.loop-k.invariant.len ∙ sym c.loop-k.places.ok.0))) c.in_ok-keep.ensures

pub returns : goal.returns
returns c = record {
  places = c.loop-k.places.items;
  kept = subst (λ top. AreKept c.args.lines.now c.args.needed.now top c.loop-k.places.items c.loop-k.out.items)
      (le_antisymm c.loop-k.auto.k-end c.loop-k-test.false) c.loop-k.invariant;
}
