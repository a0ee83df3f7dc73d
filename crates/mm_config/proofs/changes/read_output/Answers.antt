use Rattle.std.proofs.Common.{length, reverse, refl, sym, ap, ◌∙◌, subst}
use Rattle.std.proofs.lemmas.Result.{IfOk-weaker}
use Rattle.mm_model.specs.State.{output_of}
use Rattle.mm_config.specs.Naming.{IsChain, leaf_at}
use Rattle.mm_config.proofs.changes.read_output.Goals as goal

pub returns : goal.returns
returns c =
    let k = c.args.store.now in
    let h = c.requires.change in
    let old = output_of c.args.core.now c.args.group in
    let was = subst (IsChain k.outputs (reverse old)) (sym (c.leaf-was.ensures ∙ ap (leaf_at k.pairs 6 c.args.tree) c.from.ensures)) h.was in
    let long = ap length c.output-len.ensures.bytes in
    IfOk-weaker c.changed.result _ _ (λ r f. record { group = refl; kept = (f old h.bytes was long h.named).0; is = λ bytes named. (f old bytes was long named).1 }) c.changed.ensures
