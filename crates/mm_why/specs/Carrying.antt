-- Lines of nodes at or above others that have a right.
use Rattle.std.specs.Prelude.{◌≡◌, ℕ, ◌<◌, ◌≤◌, ◌⊎◌, Bool, true, List, length, Option, Some, None}
use Rattle.mm_flow.specs.{declared.node.Right.{Right, TheVariants.{Load, Store}}, Edges.right_at, Sharing.Up}
use Rattle.mm_graph.specs.declared.graph.Graph.{Graph}
use Rattle.mm_why.specs.Searches.{place_at}

-- a node at or above this one is kept and has the line
pub record PlacedAbove (par : List ℕ) (places : List (Option ℕ)) (keep : ℕ → Bool) (k t : ℕ) : Type 0 where
  pub node : ℕ
  pub up : Up par node k
  pub at : place_at places node ≡ Some t
  pub kept : keep node ≡ true

-- each item is the line of a node at or above, if there is one that is kept and has a line
pub record AreNearest (par : List ℕ) (places : List (Option ℕ)) (keep : ℕ → Bool) (out : List (Option ℕ)) : Type 0 where
  pub only : (k t : ℕ) → k < length out → place_at out k ≡ Some t → PlacedAbove par places keep k t
  pub none : (k t : ℕ) → k < length out → place_at out k ≡ None → PlacedAbove par places keep k t → ⊥

-- one of the two, and none only if both are
pub record IsOneOf (one other result : Option ℕ) : Type 0 where
  pub some : (t : ℕ) → result ≡ Some t → (one ≡ Some t) ⊎ (other ≡ Some t)
  pub none : result ≡ None → (one ≡ None) × (other ≡ None)

-- the line of the node, if it is kept
pub record IsKept (places : List (Option ℕ)) (keep : ℕ → Bool) (k : ℕ) (result : Option ℕ) : Type 0 where
  pub some : (t : ℕ) → result ≡ Some t → (place_at places k ≡ Some t) × (keep k ≡ true)
  pub none : (t : ℕ) → result ≡ None → place_at places k ≡ Some t → keep k ≡ true → ⊥

-- the item of the parent, if that is before the node
pub record IsOver (out : List (Option ℕ)) (up k : ℕ) (result : Option ℕ) : Type 0 where
  pub before : up < k → result ≡ place_at out up
  pub root : k ≤ up → result ≡ None

-- a node below `top` has these items in both lists
pub record BothAt (stores loads : List (Option ℕ)) (top s l : ℕ) : Type 0 where
  pub node : ℕ
  pub small : node < top
  pub store : place_at stores node ≡ Some s
  pub load : place_at loads node ≡ Some l

-- lines of nodes at or above one node, of which the one stores and the other loads
pub record IsPair (g : Graph) (giver taker : List (Option ℕ)) (s l : ℕ) : Type 0 where
  pub node : ℕ
  pub small : node < length g.nodes.items
  pub store : PlacedAbove g.parents.items giver (right_at g.nodes.items Store) node s
  pub load : PlacedAbove g.parents.items taker (right_at g.nodes.items Load) node l

abbrev pub NoPair : Graph → List (Option ℕ) → List (Option ℕ) → Type 0
NoPair g giver taker = (s l : ℕ) → IsPair g giver taker s l → ⊥

-- the line of a node below `top` that has the right
pub record IsWith (g : Graph) (places : List (Option ℕ)) (right : Right) (top t : ℕ) : Type 0 where
  pub node : ℕ
  pub small : node < top
  pub at : place_at places node ≡ Some t
  pub has : right_at g.nodes.items right node ≡ true
