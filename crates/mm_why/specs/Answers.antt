-- Groups that have a use of a word of their own, and what is found before a derivation is made.
use Rattle.std.specs.Prelude.{◌≡◌, ℕ, ◌<◌, ◌⊎◌, List, length, replicate}
use Rattle.mm_flow.specs.{declared.node.Right.TheVariants.Make, Flow.{Has, Flows}, Reached.AreSharingEdges}
use Rattle.mm_graph.specs.{declared.graph.Graph.Graph, Marked.node_pointer}
use Rattle.mm_why.specs.declared.{line.Line.Line, rounds.Rounds.Rounds, uses.Source.Source}
use Rattle.mm_why.specs.{Derivations.{line_at, GivesUse}, Rounds.{AreRounds, round_at}, Graphs.edges_of}
use Rattle.mm_why.specs.{Works.ReachesRight, Owning.CanUse}
use Rattle.mm_model.specs.declared.word_use.WordUse.{WordUse}

-- the group reaches a node along edges whose pointer can be used
pub record ReachesUse (g : Graph) (group : ℕ) (how : WordUse) (word : ℕ) : Type 0 where
  pub node : ℕ
  pub small : node < length g.keys.items
  pub reached : Flows (edges_of g) g.start.items group node
  pub can : CanUse how (node_pointer g.keys.items node) word

-- the group has the use of its own: by the pointer of a node, or as privileged code, which makes any pointer
abbrev pub Owns : Graph → ℕ → WordUse → ℕ → Type 0
Owns g group how word = ReachesUse g group how word ⊎ ReachesRight g group Make

-- the rounds of those groups that meet by the marks
pub record IsSharing (g : Graph) (marks : List ℕ) (r : Rounds) : Type 0 where
  pub links : r.links ≡ g.links
  pub meets : AreSharingEdges (record { nodes = g.nodes.items; parents = g.parents.items; links = replicate 64 0 })
      marks r.meets
  pub rounds : AreRounds r.links r.meets r.rounds.items

-- the owner has the use of its own, and all that it has comes to the group in this round
pub record IsGiver (g : Graph) (r : Rounds) (how : WordUse) (word to : ℕ) (o : Source) : Type 0 where
  pub small : o.group < 64
  pub round : o.round < length r.rounds.items
  pub comes : Has (round_at r.rounds.items o.round) o.group to
  pub owns : Owns g o.group how word

-- line k grants the group a pointer that gives the use
pub record GivesAt (lines : List Line) (k group : ℕ) (how : WordUse) (word : ℕ) : Type 0 where
  pub small : k < length lines
  pub group_is : (line_at lines k).group ≡ group
  pub gives : GivesUse how (line_at lines k).pointer word
