-- All that groups reach in a graph.
use Rattle.std.specs.{Prelude.{◌≡◌, ℕ, ◌<◌, ◌≤◌, ◌⊎◌, Bool, true, List, length, slice_index}, Int.bit_at}
use Rattle.mm_flow.specs.declared.node.Right.TheVariants.{Load, Store, Make}
use Rattle.mm_flow.specs.Edges.{Edges, SharingEdges, low_at, high_at, entry_at, enters_at, right_at}
use Rattle.mm_flow.specs.{Flow.{Has, Within}, Sharing.{Up, MarkedAbove}}

pub record SharingEdgesFit (n : SharingEdges) (size : ℕ) : Type 0 where
  pub nodes : length n.nodes ≡ size
  pub parents : length n.parents ≡ size
  pub links : length n.links ≡ 64

-- a node with the right is marked for the group
pub record HasSome (marks : List ℕ) (keep : ℕ → Bool) (g : ℕ) : Type 0 where
  pub node : ℕ
  pub small : node < length marks
  pub marked : Has marks node g
  pub kept : keep node ≡ true

-- a sharing edge: the second group gets all that the first has
pub data Shares (n : SharingEdges) (marks : List ℕ) (h g : ℕ) : Type 0 where
  linked : Has n.links h g → Shares n marks h g
  shared : (m : ℕ) → m < length marks → MarkedAbove n.parents marks (right_at n.nodes Store) m h
      → MarkedAbove n.parents marks (right_at n.nodes Load) m g → Shares n marks h g
  by_maker : HasSome marks (right_at n.nodes Make) h → HasSome marks (right_at n.nodes Load) g → Shares n marks h g

pub record AreSharingEdges (n : SharingEdges) (marks sharing : List ℕ) : Type 0 where
  pub len : length sharing ≡ 64
  pub only : (h g : ℕ) → Has sharing h g → Shares n marks h g
  pub each : (h g : ℕ) → h < 64 → Shares n marks h g → Has sharing h g

-- the sharing edges of the links and of the nodes before node k
pub record SharingSoFar (links writes touches : List ℕ) (k : ℕ) (sharing : List ℕ) : Type 0 where
  pub len : length sharing ≡ 64
  pub only : (h g : ℕ) → Has sharing h g → Has links h g ⊎ ((m : ℕ) × (m < k) × Has writes m h × Has touches m g)
  pub keeps : (h g : ℕ) → Has links h g → Has sharing h g
  pub each : (h g m : ℕ) → h < 64 → m < k → Has writes m h → Has touches m g → Has sharing h g

pub data Reached (e : Edges) (n : SharingEdges) (start : List ℕ) : ℕ → ℕ → Type 0 where
  from : {g k : ℕ} → Has start k g → Reached e n start g k
  along : {g k : ℕ} (a j : ℕ) → Reached e n start g a → a < length start → low_at e a ≤ j → j < high_at e a
      → slice_index e.targets j ≡ k → Reached e n start g k
  through : {g k : ℕ} (a : ℕ) → Reached e n start g a → a < length start → (bit_at (enters_at e a) g ≡ 1)
      → entry_at e a ≡ k → Reached e n start g k
  linked : {g k : ℕ} (h : ℕ) → h < 64 → Reached e n start h k → Has n.links h g → Reached e n start g k
  shared : {g k : ℕ} (h m a b : ℕ) → h < 64 → Reached e n start h k → m < length start → Reached e n start h a
      → (right_at n.nodes Store a ≡ true) → Up n.parents a m → Reached e n start g b → (right_at n.nodes Load b ≡ true)
      → Up n.parents b m → Reached e n start g k
  by_maker : {g k : ℕ} (h a b : ℕ) → h < 64 → Reached e n start h k → a < length start → Reached e n start h a
      → (right_at n.nodes Make a ≡ true) → b < length start → Reached e n start g b → (right_at n.nodes Load b ≡ true)
      → Reached e n start g k

-- the marks are exactly at the nodes that each group reaches
pub record IsReach (e : Edges) (n : SharingEdges) (start marks : List ℕ) : Type 0 where
  pub len : length marks ≡ length start
  pub only : (g k : ℕ) → Has marks k g → Reached e n start g k
  pub each : (g k : ℕ) → k < length marks → Reached e n start g k → Has marks k g

pub record Saturating (e : Edges) (n : SharingEdges) (start marks : List ℕ) : Type 0 where
  pub len : length marks ≡ length start
  pub grows : (k : ℕ) → Within (slice_index start k) (slice_index marks k)
  pub only : (g k : ℕ) → Has marks k g → Reached e n start g k
