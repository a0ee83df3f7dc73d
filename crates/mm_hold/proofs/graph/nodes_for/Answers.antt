use Rattle.std.proofs.Common.{map, length, sym, ap, ◌∙◌, subst}
use Rattle.std.proofs.lemmas.List.{length-map}
use Rattle.std.specs.{Prelude.Contains, List.All}
use Rattle.mm_graph.specs.{Key.{IsKey, IsRising}, Nodes.{IsAscending, IsNodes}}
use Rattle.mm_hold.specs.Graphs.{entry_mask, found_of}
use Rattle.mm_hold.proofs.graph.nodes_for.Goals as goal

pub nodes_of-requires-clause-rising : goal.nodes_of-requires-clause-rising
nodes_of-requires-clause-rising c = subst IsRising (sym c.deref-2.ensures.value) c.requires.is_keys.rising

pub nodes_of-requires-clause-keys : goal.nodes_of-requires-clause-keys
nodes_of-requires-clause-keys c = subst (All IsKey) (sym c.deref-2.ensures.value) c.requires.is_keys.all

pub nodes_of-requires-clause-entries : goal.nodes_of-requires-clause-entries
nodes_of-requires-clause-entries c y x h e =
    let same = c.deref-2.ensures.value in
    subst (λ l. Contains l x) (sym same) (c.requires.is_keys.of_entries y x (subst (λ l. Contains l y) same h) e)

pub nodes_of-requires-clause-found : goal.nodes_of-requires-clause-found
nodes_of-requires-clause-found c = subst IsAscending (sym (c.deref-3.ensures.value ∙ c.requires.is_found)) c.requires.ascends

pub nodes_of-requires-clause-masks : goal.nodes_of-requires-clause-masks
nodes_of-requires-clause-masks c =
    ap length (c.deref-4.ensures.value ∙ c.in_ok-masks.ensures) ∙ length-map c.deref.result.now (entry_mask c.args.kernel.now.kept)
    ∙ ap length (c.deref.ensures.value ∙ sym c.deref-2.ensures.value)

pub returns : goal.returns
returns c =
    let i = c.args.kernel.now.image in
    let kept = c.args.kernel.now.kept in
    let keys = c.args.places.now.keys.items in
    let nodes = c.in_ok-nodes_of.field-0.items in
    subst (λ l. IsNodes keys (found_of i kept) l nodes) (c.deref-4.ensures.value ∙ c.in_ok-masks.ensures ∙ ap (map (entry_mask kept)) c.deref.ensures.value)
    (subst (λ l. IsNodes keys l c.deref-4.result.now nodes) (c.deref-3.ensures.value ∙ c.requires.is_found)
    (subst (λ l. IsNodes l c.deref-3.result.now c.deref-4.result.now nodes) c.deref-2.ensures.value c.in_ok-nodes_of.ensures))
