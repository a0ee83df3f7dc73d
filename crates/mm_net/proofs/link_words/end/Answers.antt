use Rattle.std.proofs.{Common.{◌≡◌, ◌∙◌, ℕ, ◌≤◌, ◌%◌, refl, sym, arith}, lemmas.Fmt.decimal_injective}
use Rattle.mm_net.{specs.Links.IsEnd, proofs.LinkWords.dot_unique}
use Rattle.mm_net.proofs.link_words.end.Goals as goal

last_word : (node address : ℕ) → IsEnd node address → address ≤ 18014398509481976
last_word node address range = omega (arith, range.address_limit, range.whole)

pub returns-in_err-node-2-clause-none : goal.returns-in_err-node-2-clause-none
returns-in_err-node-2-clause-none c _ node address range e =
    let parts = dot_unique c.in_ok-node.node.now c.in_ok-node.address.now node address c.in_ok-node.ensures.0 range (sym c.in_ok-node.ensures.1 ∙ e) in
    c.in_err-node-2.ensures.none refl node range.node_limit parts.0

pub returns-in_err-address-clause-none : goal.returns-in_err-address-clause-none
returns-in_err-address-clause-none c _ node address range e =
    let parts = dot_unique c.in_ok-node.node.now c.in_ok-node.address.now node address c.in_ok-node.ensures.0 range (sym c.in_ok-node.ensures.1 ∙ e) in
    c.in_err-address.ensures.none refl address (last_word node address range) parts.1

pub returns-else-address-eq0-clause-none : goal.returns-else-address-eq0-clause-none
returns-else-address-eq0-clause-none c _ node address range e =
    let parts = dot_unique c.in_ok-node.node.now c.in_ok-node.address.now node address c.in_ok-node.ensures.0 range (sym c.in_ok-node.ensures.1 ∙ e) in
    let same : c.in_ok-address.address ≡ address =
    decimal_injective c.in_ok-address.address address (omega (arith, c.in_ok-address.ensures.some.1)) (omega (arith, range.address_limit)) (sym c.in_ok-address.ensures.some.0 ∙ parts.1) in
    let whole : c.in_ok-address.address % 8 ≡ 0 = rw same range.whole in
    omega arith
