-- Graphs of numbered nodes, and sets of nodes that no edge leaves.
use Rattle.std.specs.Prelude.{◌≡◌, ℕ, ◌<◌, ◌≤◌, List, [], ◌∷◌, length, Contains, Option, Some, None, slice_index_or}

-- the children of a node; none if there is no such node
abbrev pub children : List (List ℕ) → ℕ → List ℕ
children g a = slice_index_or g a []

-- each child of a node is a node
abbrev pub AreNodes : List (List ℕ) → Type 0
AreNodes g = (a c : ℕ) → Contains (children g a) c → c < length g

-- a walk along edges from a node, through these nodes, the last of which is where it ends
abbrev pub IsWalk : List (List ℕ) → ℕ → List ℕ → ℕ → Type 0
IsWalk g a [] b = a ≡ b
IsWalk g a (c ∷ nodes) b = Contains (children g a) c × IsWalk g c nodes b

-- a node leads to another by some walk
pub record Leads (g : List (List ℕ)) (a b : ℕ) : Type 0 where
  pub nodes : List ℕ
  pub walk : IsWalk g a nodes b

-- A node is a member of a closed set: each node to which it leads leads back. The set is all of these nodes: no edge
-- leaves it, and each member leads to each.
abbrev pub IsRecurrent : List (List ℕ) → ℕ → Type 0
IsRecurrent g a = (b : ℕ) → Leads g a b → Leads g b a

-- the least of the nodes to which a node leads
pub record IsLeast (g : List (List ℕ)) (a f : ℕ) : Type 0 where
  pub led : Leads g a f
  pub least : (b : ℕ) → Leads g a b → f ≤ b

-- what is told of a node: the least node of its closed set, or that it is in none
abbrev pub IsTold : List (List ℕ) → ℕ → Option ℕ → Type 0
IsTold g a None = IsRecurrent g a → ⊥
IsTold g a (Some f) = IsRecurrent g a × IsLeast g a f

-- for each node the least node of its closed set, if it is in one
pub record AreClosedSets (g : List (List ℕ)) (firsts : List (Option ℕ)) : Type 0 where
  pub count : length firsts ≡ length g
  pub each : (a : ℕ) → a < length g → IsTold g a (slice_index_or firsts a None)

-- From each node of a graph some walk leads into a closed set.
abbrev pub WalksEnd : Type 0
WalksEnd = (g : List (List ℕ)) (a : ℕ) → AreNodes g → a < length g → (b : ℕ) × Leads g a b × IsRecurrent g b
