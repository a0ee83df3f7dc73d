-- Groups that meet by what each has of its own, and pointers that come from group to group.
use Rattle.std.specs.Prelude.{◌≡◌, ℕ, ◌<◌, ◌⊎◌, true, List, length, slice_index_or, Some}
use Rattle.mm_word.specs.Pointer.{Pointer}
use Rattle.mm_model.specs.{Slot.Slot, Image.Image}
use Rattle.mm_flow.specs.{declared.node.Right.TheVariants.{Load, Store, Make}, Edges.right_at, Flow.{Has, Flows}}
use Rattle.mm_flow.specs.Sharing.{Up}
use Rattle.mm_graph.specs.{declared.graph.Graph.Graph, GraphOf.CommonWord}
use Rattle.mm_why.specs.{declared.{line.Line.Line, rounds.Rounds.Rounds}, Derivations.{line_at, Says}, Rounds.AreRounds}
use Rattle.mm_why.specs.{Graphs.{IsGraph, edges_of}, Works.ReachesRight}

-- at a node below two that the groups reach the first group can store where the second can load
pub record MeetsAt (g : Graph) (h t : ℕ) : Type 0 where
  pub at : ℕ
  pub store : ℕ
  pub load : ℕ
  pub small : at < length g.keys.items
  pub reaches_store : Flows (edges_of g) g.start.items h store
  pub stores : right_at g.nodes.items Store store ≡ true
  pub above_store : Up g.parents.items store at
  pub reaches_load : Flows (edges_of g) g.start.items t load
  pub loads : right_at g.nodes.items Load load ≡ true
  pub above_load : Up g.parents.items load at

-- the first group can store where the second can load, by what each has of its own
pub data Meets (g : Graph) (h t : ℕ) : Type 0 where
  by_words : MeetsAt g h t → Meets g h t
  by_maker : ReachesRight g h Make → ReachesRight g t Load → Meets g h t

-- the rounds are those of the image's graph
pub record IsContext (i : Image) (g : Graph) (r : Rounds) : Type 0 where
  pub graph : IsGraph i g
  pub links : r.links ≡ g.links
  pub rounds : AreRounds r.links r.meets r.rounds.items
  pub meets : (h t : ℕ) → Has r.meets h t → Meets g h t

-- a line grants the pointer to the group
abbrev pub HasLine : List Line → ℕ → Pointer → Type 0
HasLine lines h p = (k : ℕ) × Says lines (length lines) k h p

-- the two lines are of these groups, and the first has a pointer that stores at a word that the second's loads
pub record AreCarriers (lines : List Line) (h t s l : ℕ) : Type 0 where
  pub small_store : s < length lines
  pub small_load : l < length lines
  pub of_store : (line_at lines s).group ≡ h
  pub of_load : (line_at lines l).group ≡ t
  pub common : CommonWord (line_at lines s).pointer (line_at lines l).pointer

-- lines grant these pointers to the groups; the first stores at a word that the second loads
pub record CarryBetween (lines : List Line) (h t : ℕ) (store load : Pointer) : Type 0 where
  pub has_store : HasLine lines h store
  pub has_load : HasLine lines t load
  pub common : CommonWord store load

-- the second slot is the handler of the first, and they are of these groups, in one order or the other
pub record Joins (one other : ℕ) (served server : Slot) : Type 0 where
  pub handled : served.handler ≡ Some server.number
  pub groups : ((served.group ≡ one) × (server.group ≡ other)) ⊎ ((served.group ≡ other) × (server.group ≡ one))

-- one of the first slots is the handler of the slot, and they are of these groups
pub record JoinedBy (slots : List Slot) (top one other : ℕ) (served : Slot) : Type 0 where
  pub at : ℕ
  pub small : at < top
  pub server : Slot
  pub is : slice_index_or slots at server ≡ server
  pub joins : Joins one other served server

-- a slot of this number among the first joins the groups
pub record JoinedAt (slots : List Slot) (top one other n : ℕ) : Type 0 where
  pub at : ℕ
  pub small : at < top
  pub served : Slot
  pub is : slice_index_or slots at served ≡ served
  pub number : served.number ≡ n
  pub joined : JoinedBy slots (length slots) one other served
