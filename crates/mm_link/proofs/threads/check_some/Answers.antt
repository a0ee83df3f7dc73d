use Rattle.std.{proofs.Common.{◌≡◌, false, List, [], ◌∷◌, ◌++◌, length, None, refl, sym, ap, ◌∙◌}, specs.Prelude.◌==◌}
use Rattle.mm_object.specs.declared.thread.Thread.{Thread}
use Rattle.mm_link.{specs.Faults.{no_thread, no_thread_of}, proofs.Lists.at_item}
use Rattle.mm_link.proofs.threads.check_some.Goals as goal

some_here : (threads rest : List Thread) → (length threads == 0) ≡ false → no_thread_of (threads ++ rest) ≡ None
some_here [] rest h = absurd cc
some_here (t ∷ threads) rest h = refl

pub returns-then-not-is_empty : goal.returns-then-not-is_empty
returns-then-not-is_empty c =
    let l = c.loop-object in
    let objects = c.args.objects.now in
    sym (at_item no_thread (no_thread objects) objects l.object-index c.object-item.result c.loop-object-test.true c.object-item.is l.invariant)
    ∙ some_here c.object-item.result.threads _ (ap (λ (ts : List Thread). length ts == 0) (sym c.threads.ensures.threads) ∙ sym c.is_empty.ensures ∙ c.if-not-is_empty.true)
