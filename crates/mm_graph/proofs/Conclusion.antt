-- The marks of a graph that has spread are exact.
use Rattle.std.proofs.{Common.{◌≡◌, ℕ, ◌^◌, ◌<◌, List, ◌++◌, length, take, slice_index, ◌∙◌}, lemmas.List.take_at}
use Rattle.mm_model.specs.{Image.Image, Reach.Entries, Spelling.IsImage}
use Rattle.mm_flow.specs.{declared.node.Node.Node, Reached.IsReach}
use Rattle.mm_graph.proofs.{Graphs.exact_marks, Assembly.graph}
use Rattle.mm_graph.specs.{declared.canonical_ptr.CanonicalPtr.CanonicalPtr, Parts.IsBuilt}
use Rattle.mm_graph.specs.Marked.{IsMarked, node_pointer}

pub marked_all : (i : Image) (e : Entries) (keys : List CanonicalPtr) (nodes : List Node) (targets parents links start marks : List ℕ) → IsImage i → IsBuilt i e keys nodes targets parents links start
    → IsReach (record { nodes = nodes; targets = targets }) (record { nodes = nodes; parents = parents; links = links })
    start marks → ((k : ℕ) → slice_index marks k < 2 ^ 64) → IsMarked i e keys nodes marks
marked_all i e keys nodes targets parents links start marks image b r fits =
    let n = b.has_nodes.is_nodes in
    record {
      rising = b.is_keys.rising;
      all = b.is_keys.all;
      nodes_len = n.len;
      marks_len = r.len ∙ b.is_start.len;
      fits = fits;
      loads = λ k lt. (n.each k lt).loads;
      stores = λ k lt. (n.each k lt).stores;
      exact = λ rights right. exact_marks i e (node_pointer keys) (record { nodes = nodes; targets = targets }) (record { nodes = nodes; parents = parents; links = links }) start
          (graph i e image keys nodes targets parents links start b.has_nodes.masks b.is_keys n b.is_targets b.has_forest b.is_links b.is_start b.has_nodes.is_masks) marks r fits rights right;
    }

pub whole : (marks old : List ℕ) (n : ℕ) → length marks ≡ n → take n (marks ++ old) ≡ marks
whole marks old n e = take_at marks old n e
