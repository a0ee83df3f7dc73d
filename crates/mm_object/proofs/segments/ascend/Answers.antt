use Rattle.std.proofs.{Common.{◌≡◌, ◌-◌, ℕ, List, [], get_or, sym, ap, ◌∙◌, arith}, lemmas.List.get_or_default}
use Rattle.mm_object.{specs.Names.is_before, proofs.Adjacent.{names_go_on, names_fall, names_end}}
use Rattle.mm_object.proofs.segments.ascend.Goals as goal

pub returns-then-not-is_before : goal.returns-then-not-is_before
returns-then-not-is_before c =
    let names = c.args.names.now in
    let k = c.loop-k.k in
    let a : get_or names (k - 1) [] ≡ c.bytes.result.now = get_or_default names (k - 1) [] c.index-names-k.result (omega arith) ∙ sym c.index-names-k.is ∙ sym c.bytes.ensures.bytes in
    let b : get_or names k [] ≡ c.bytes-in-loop-k.result.now = get_or_default names k []
    c.index-names-k-in-loop-k.result c.loop-k-test.true ∙ sym c.index-names-k-in-loop-k.is
    ∙ sym c.bytes-in-loop-k.ensures.bytes in
    names_fall names k c.loop-k.auto.k c.loop-k-test.true
    (ap (λ (x : List ℕ). is_before x (get_or names k [])) a ∙ ap (is_before c.bytes.result.now) b ∙ sym c.is_before.ensures ∙ c.if-not-is_before.true)

pub loop-k-preserved : goal.loop-k-preserved
loop-k-preserved c =
    let names = c.args.names.now in
    let k = c.loop-k.k in
    let a : get_or names (k - 1) [] ≡ c.bytes.result.now = get_or_default names (k - 1) [] c.index-names-k.result (omega arith) ∙ sym c.index-names-k.is ∙ sym c.bytes.ensures.bytes in
    let b : get_or names k [] ≡ c.bytes-in-loop-k.result.now = get_or_default names k []
    c.index-names-k-in-loop-k.result c.loop-k-test.true ∙ sym c.index-names-k-in-loop-k.is
    ∙ sym c.bytes-in-loop-k.ensures.bytes in
    names_go_on names k c.loop-k.auto.k
    (ap (λ (x : List ℕ). is_before x (get_or names k [])) a ∙ ap (is_before c.bytes.result.now) b ∙ sym c.is_before.ensures ∙ c.if-not-is_before.false) c.loop-k.invariant

pub returns : goal.returns
returns c = names_end c.args.names.now c.loop-k.k c.loop-k.invariant c.loop-k-test.false
