-- Marks that spread along edges: what holds while nodes are worked off.
use Rattle.std.specs.Prelude.{◌≡◌, ℕ, ◌+◌, ◌*◌, ◌^◌, ◌<◌, ◌≤◌, ◌⊎◌, List, [], ◌∷◌, length, slice_index, bit_and, bit_or}
use Rattle.std.specs.Int.{bit_at}
use Rattle.mm_flow.specs.{Edges.{Edges, low_at, high_at, entry_at, enters_at}, Flow.{Within, Has, Flows, room}}
use Rattle.mm_flow.specs.declared.work.Work.{Work}

abbrev pub IsIn : ℕ → List ℕ → Type 0
IsIn x [] = ⊥
IsIn x (y ∷ ys) = (x ≡ y) ⊎ IsIn x ys

-- the mask was propagated to each target, and the measure did not rise
pub record Propagated (T : ℕ → Type 0) (old p : List ℕ) (mask : ℕ) (new q : List ℕ) : Type 0 where
  pub len : length new ≡ length old
  pub grows : (k : ℕ) → Within (slice_index old k) (slice_index new k)
  pub each : (t : ℕ) → T t → Within mask (slice_index new t)
  pub keeps : (k : ℕ) → IsIn k p → IsIn k q
  pub only : (k g : ℕ) → Has new k g → Has old k g ⊎ (T k × (bit_at mask g ≡ 1))
  pub bounded : (k : ℕ) → IsIn k q → IsIn k p ⊎ (k < length old)
  pub no_rise : room (2 ^ 64) new ≤ room (2 ^ 64) old
  pub room : 2 * room (2 ^ 64) new + length q ≤ 2 * room (2 ^ 64) old + length p

-- the node was taken out of all that were pending
pub record IsTaken (k : ℕ) (all rest : List ℕ) : Type 0 where
  pub there : IsIn k all
  pub cases : (n : ℕ) → IsIn n all → (n ≡ k) ⊎ IsIn n rest
  pub keeps : (n : ℕ) → IsIn n rest → IsIn n all
  pub len : length rest + 1 ≡ length all

-- the node has already propagated its mark, or is pending
abbrev pub IsListed : List ℕ → List ℕ → List ℕ → ℕ → Type 0
IsListed marks propagated pending k = IsIn k pending ⊎ Within (slice_index marks k) (slice_index propagated k)

-- each node that was listed is still listed
abbrev pub StaysListed : List ℕ → List ℕ → List ℕ → List ℕ → List ℕ → Type 0
StaysListed propagated old p new q = (k : ℕ) → IsListed old propagated p k → IsListed new propagated q k

-- the node is a target at an index from `lo` up to `hi`
pub record IsAmong (targets : List ℕ) (lo hi t : ℕ) : Type 0 where
  pub at : ℕ
  pub low : lo ≤ at
  pub high : at < hi
  pub is : slice_index targets at ≡ t

-- the node is a target of k
abbrev pub IsTarget : Edges → ℕ → ℕ → Type 0
IsTarget e k = IsAmong e.targets (low_at e k) (high_at e k)

-- all that the node has propagated is at its targets
abbrev pub HasPropagated : Edges → List ℕ → List ℕ → ℕ → Type 0
HasPropagated e marks propagated i = (j : ℕ) → low_at e i ≤ j → j < high_at e i
    → Within (slice_index propagated i) (slice_index marks (slice_index e.targets j))

-- all that each node has propagated is at its targets, and at its entry for the groups that enter
pub record IsPassed (e : Edges) (marks propagated : List ℕ) : Type 0 where
  pub cells : (i : ℕ) → HasPropagated e marks propagated i
  pub entry : (i : ℕ) → Within (bit_and (slice_index propagated i) (enters_at e i)) (slice_index marks (entry_at e i))

-- the nodes have marks, and all that they have propagated is where it leads
pub record IsReady (e : Edges) (marks propagated : List ℕ) : Type 0 where
  pub nodes : length e.nodes ≡ length marks
  pub len : length propagated ≡ length marks
  pub passed : IsPassed e marks propagated

-- the marks are ready, and each node has propagated its mark or is pending
pub record Working (e : Edges) (marks propagated pending : List ℕ) : Type 0 where
  pub ready : IsReady e marks propagated
  pub listed : (k : ℕ) → IsListed marks propagated pending k

-- what holds while the pending nodes are worked off
pub record Flowing (e : Edges) (old marks propagated pending : List ℕ) : Type 0 where
  pub len : length marks ≡ length old
  pub grows : (k : ℕ) → Within (slice_index old k) (slice_index marks k)
  pub nodes : (k : ℕ) → IsIn k pending → k < length old
  pub working : Working e marks propagated pending
  pub sound : (k g : ℕ) → Has marks k g → Flows e old g k
  pub no_rise : room (2 ^ 64) marks ≤ room (2 ^ 64) old

-- for each of n nodes a later one, or n
pub record IsAhead (after : List ℕ) (n : ℕ) : Type 0 where
  pub len : length after ≡ n
  pub later : (k : ℕ) → k < n → k < slice_index after k
  pub ends : (k : ℕ) → k < n → slice_index after k ≤ n

-- the targets of the first node are targets of the second
abbrev pub IsInner : Edges → ℕ → ℕ → Type 0
IsInner e i k = (low_at e k ≤ low_at e i) × (high_at e i ≤ high_at e k)

-- the state of a flow: the marks, the groups that each node has propagated to all its targets, and the pending nodes
pub record Worklist : Type 0 where
  pub marks : List ℕ
  pub propagated : List ℕ
  pub pending : List ℕ

abbrev pub worklist_of : List ℕ → Work → Worklist
worklist_of marks work = record { marks = marks; propagated = work.propagated.items; pending = work.pending.items }

-- one node propagates a mask to all its targets
pub record Pass : Type 0 where
  pub edges : Edges
  pub outer : ℕ
  pub mask : ℕ

abbrev pub pass_of : Edges → ℕ → ℕ → Pass
pass_of e k mask = record { edges = e; outer = k; mask = mask }

-- a step on the walk over the nodes within the outer one: the next node; the outer node's targets at indices before
-- `done` have the mask
pub record Way : Type 0 where
  pub at : ℕ
  pub done : ℕ
  pub work : Worklist

abbrev pub way_of : ℕ → ℕ → Worklist → Way
way_of at done work = record { at = at; done = done; work = work }

-- the next node is one of the graph, and all that it has propagated is at its targets
pub record IsOnWay (p : Pass) (w : Way) : Type 0 where
  pub nodes : length p.edges.nodes ≡ length w.work.marks
  pub len : length w.work.propagated ≡ length w.work.marks
  pub outer : p.outer < length w.work.marks
  pub node : w.at < length w.work.marks
  pub end : w.done ≤ high_at p.edges p.outer
  pub passed : HasPropagated p.edges w.work.marks w.work.propagated w.at

-- the node has from now on propagated the mask too
abbrev pub AddsMask : Pass → Way → Way → Type 0
AddsMask p from to =
    (slice_index to.work.propagated from.at ≡ bit_or (slice_index from.work.propagated from.at) p.mask)
    × IsInner p.edges from.at p.outer
    × (enters_at p.edges from.at ≡ 0)

-- one step of the walk: the next node was skipped, or has propagated the mask from now on
pub record Walked (p : Pass) (from to : Way) : Type 0 where
  pub forth : from.at < to.at
  pub low : from.done ≤ to.done
  pub high : to.done ≤ high_at p.edges p.outer
  pub marks : Propagated (IsAmong p.edges.targets from.done to.done) from.work.marks from.work.pending p.mask
      to.work.marks to.work.pending
  pub stays : StaysListed from.work.propagated from.work.marks from.work.pending to.work.marks to.work.pending
  pub len : length to.work.propagated ≡ length from.work.propagated
  pub others : (i : ℕ) → (i ≡ from.at → ⊥) → slice_index to.work.propagated i ≡ slice_index from.work.propagated i
  pub own : (slice_index to.work.propagated from.at ≡ slice_index from.work.propagated from.at) ⊎ AddsMask p from to

-- the target of node i at index j has the group, or will have it, since the group is in the mask and the target is one
-- of the outer node
abbrev pub Will : Pass → List ℕ → (i j g : ℕ) → Type 0
Will p marks i j g = Has marks (slice_index p.edges.targets j) g ⊎ ((bit_at p.mask g ≡ 1) × IsInner p.edges i p.outer)

-- what holds on the walk: all that a node has propagated is at its targets, or will be
pub record Walking (p : Pass) (start : Worklist) (now : Way) : Type 0 where
  pub nodes : length p.edges.nodes ≡ length start.marks
  pub low : low_at p.edges p.outer ≤ now.done
  pub high : now.done ≤ high_at p.edges p.outer
  pub marks : Propagated (IsAmong p.edges.targets (low_at p.edges p.outer) now.done) start.marks start.pending p.mask
      now.work.marks now.work.pending
  pub listed : (i : ℕ) → IsListed now.work.marks now.work.propagated now.work.pending i
  pub len : length now.work.propagated ≡ length start.marks
  pub ahead : (i : ℕ) → now.at ≤ i → HasPropagated p.edges now.work.marks now.work.propagated i
  pub entry : (i : ℕ) → Within (bit_and (slice_index now.work.propagated i) (enters_at p.edges i))
      (slice_index now.work.marks (entry_at p.edges i))
  pub before : (i j g : ℕ) → low_at p.edges i ≤ j → j < high_at p.edges i → Has now.work.propagated i g
      → Will p now.work.marks i j g

-- one node was worked off: its mark is at its entry, for the groups that enter, and at all its targets
pub record Stepped (e : Edges) (k : ℕ) (old new : Worklist) : Type 0 where
  pub marks : List ℕ
  pub pending : List ℕ
  pub entry : Propagated (λ t. t ≡ entry_at e k) old.marks old.pending
      (bit_and (slice_index old.marks k) (enters_at e k)) marks pending
  pub cells : Propagated (IsTarget e k) marks pending (slice_index old.marks k) new.marks new.pending
