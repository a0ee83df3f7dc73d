use Rattle.std.proofs.Common.{◌≡◌, ◌<◌, ◌++◌, ◌∷◌, [], ℕ, List, length, slice_index, ◌+◌, ◌∙◌, sym, ap, subst, inl, inr}
use Rattle.std.proofs.{Common.arith, lemmas.List.{get_or_append_left, get_or_push, length_push}}
use Rattle.mm_flow.{proofs.Masks.below_cases, specs.{declared.node.Node.Node, Edges.{node_at, no_node}}}
use Rattle.mm_graph.specs.Nodes.{IsNode}
use Rattle.mm_graph.proofs.nodes.nodes_of.Goals as goal

pushed : (P : ℕ → Node → Type 0) (xs : List Node) (n : Node) (k : ℕ) → length xs ≡ k → ((j : ℕ) → j < k → P j (node_at xs j)) → P k n → (j : ℕ) → j < k + 1 → P j (node_at (xs ++ n ∷ []) j)
pushed P xs n k len old new j lt = elim (below_cases j k lt) [
  | inl less ↦ subst (P j) (sym (get_or_append_left xs (n ∷ []) no_node j (omega arith))) (old j less)
  | inr e ↦ subst (P j) (sym (get_or_push xs n no_node j (len ∙ sym e))) (subst (λ v. P v n) (sym e) new)
]

pub loop-k-preserved : goal.loop-k-preserved
loop-k-preserved c =
    rw c.in_ok-push.ensures.items (
      length_push c.loop-k.nodes.items c.node_for-node.result ∙ ap (λ v. v + 1) c.loop-k.invariant.0,
      pushed (λ j n. IsNode c.args.keys.now c.args.found.now (slice_index c.args.masks.now j) j n) c.loop-k.nodes.items
          c.node_for-node.result c.loop-k.k c.loop-k.invariant.0 c.loop-k.invariant.1 c.node_for-node.ensures,
    )
