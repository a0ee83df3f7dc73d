use Rattle.std.proofs.Common.{◌≡◌, ◌∙◌, ◌++◌, ◌∷◌, [], sym, ap, replicate, append_assoc, append-nil}
use Rattle.std.proofs.lemmas.List.{replicate-append-replicate}
use Rattle.mm_sched.proofs.item_texts.append.Goals as goal

pub loop-init : goal.loop-init
loop-init g c = sym (append-nil c.args.items.now.items)

pub loop-preserved : goal.loop-preserved
loop-preserved g c =
    let kept : c.loop.items.items ++ c.args.item ∷ [] ≡ c.args.items.now.items ++ (replicate c.loop.counter c.args.item ++ c.args.item ∷ []) =
    ap (λ xs. xs ++ c.args.item ∷ []) c.loop.invariant ∙ append_assoc c.args.items.now.items (replicate c.loop.counter c.args.item) (c.args.item ∷ []) in
    c.in_ok-push.ensures.items ∙ kept ∙ ap (λ xs. c.args.items.now.items ++ xs) (replicate-append-replicate c.loop.counter 1 c.args.item)
