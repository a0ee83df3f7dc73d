-- Marks that flow along edges: a node's mark is a mask of groups.
use Rattle.std.specs.Prelude.{◌≡◌, ℕ, ◌+◌, ◌-◌, ◌^◌, ◌<◌, ◌≤◌, List, [], ◌∷◌, length, slice_index, bit_and}
use Rattle.std.specs.Int.{bit_at}
use Rattle.mm_flow.specs.Edges.{Edges, low_at, high_at, entry_at, enters_at}

-- the groups of the first mask are in the second
abbrev pub Within : ℕ → ℕ → Type 0
Within m n = (g : ℕ) → bit_at m g ≤ bit_at n g

-- the nodes and targets are those of a graph of n nodes
pub record Fits (e : Edges) (n : ℕ) : Type 0 where
  pub nodes : length e.nodes ≡ n
  pub order : (k : ℕ) → k < n → low_at e k ≤ high_at e k
  pub ends : (k : ℕ) → k < n → high_at e k ≤ length e.targets
  pub targets : (j : ℕ) → j < length e.targets → slice_index e.targets j < n
  pub entries : (k : ℕ) → k < n → entry_at e k < n

abbrev pub Has : List ℕ → ℕ → ℕ → Type 0
Has marks k g = bit_at (slice_index marks k) g ≡ 1

-- the group reaches the node along edges from a node that it marks
pub data Flows (e : Edges) (start : List ℕ) (g : ℕ) : ℕ → Type 0 where
  from : {k : ℕ} → Has start k g → Flows e start g k
  along : {k : ℕ} (a j : ℕ) → Flows e start g a → a < length start → low_at e a ≤ j → j < high_at e a
      → slice_index e.targets j ≡ k → Flows e start g k
  through : {k : ℕ} (a : ℕ) → Flows e start g a → a < length start → (bit_at (enters_at e a) g ≡ 1) → entry_at e a ≡ k
      → Flows e start g k

-- the node's mark is at all nodes to which the node leads
pub record IsSaturated (e : Edges) (marks : List ℕ) (a : ℕ) : Type 0 where
  pub cells : (j : ℕ) → low_at e a ≤ j → j < high_at e a
      → Within (slice_index marks a) (slice_index marks (slice_index e.targets j))
  pub entry : Within (bit_and (slice_index marks a) (enters_at e a)) (slice_index marks (entry_at e a))

-- the distance of the marks from the top
abbrev pub room : ℕ → List ℕ → ℕ
room top [] = 0
room top (m ∷ ms) = (top - m) + room top ms

pub record IsFlow (e : Edges) (old new : List ℕ) : Type 0 where
  pub len : length new ≡ length old
  pub grows : (k : ℕ) → Within (slice_index old k) (slice_index new k)
  pub saturated : (k : ℕ) → k < length new → IsSaturated e new k
  pub sound : (k g : ℕ) → Has new k g → Flows e old g k
  pub no_rise : room (2 ^ 64) new ≤ room (2 ^ 64) old
