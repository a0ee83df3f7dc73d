-- Rounds in which parties come to hold pointers.
use Rattle.std.specs.Prelude.{◌≡◌, ◌⊎◌, ◌↔◌, ◌||◌, ℕ, ◌<◌, ◌^◌, Bool, List, length, All}
use Rattle.std.specs.List.{AllByRecursion}
use Rattle.mm_model.specs.Image.{Image}
use Rattle.mm_flow.specs.Flow.{Fits}
use Rattle.mm_graph.specs.Key.{IsKey, IsRising}
use Rattle.mm_kernel.specs.Segments.{Segment}
use Rattle.mm_confine.specs.declared.party.Party.{Party}
use Rattle.mm_hold.specs.declared.{sharing.Sharing.Sharing, marks.Marks.Marks, edges.Graph.Graph, conduct.Conduct.Conduct}
use Rattle.mm_hold.specs.declared.rounds.Passes.{Passes}
use Rattle.mm_hold.specs.Parties.{Shares, ServedParty}
use Rattle.mm_hold.specs.Marks.{Spreads, MeetAbove, PassesByStore, GivesBehind, Adds, Handed, SlotMeets, SharedAt}
use Rattle.mm_hold.specs.Passing.{PassesAtWord}

-- the parts of a graph are of one size, and all that passes is of its nodes
pub record AreOf (c : Conduct) (g : Graph) (p : Passes) (size : ℕ) : Type 0 where
  pub rising : IsRising g.keys.items
  pub keys : All IsKey g.keys.items
  pub many : length g.keys.items ≡ size
  pub nodes : length g.nodes.items ≡ size
  pub parents : length g.parents.items ≡ size
  pub edges : Fits (record { nodes = g.nodes.items; targets = g.targets.items }) size
  pub behind : AllByRecursion (λ (b : ℕ × ℕ). (b.0 < size) × (b.1 < size)) p.behind.items
  pub sent : AllByRecursion (λ (h : ℕ × ℕ). h.1 < size) p.sent.items
  pub given : AllByRecursion (λ (h : ℕ × ℕ). h.1 < size) p.given.items
  pub words : AllByRecursion (λ (u : ℕ × (ℕ × ℕ)). u.0 < 2 ^ 63) c.stored.keys

-- who passes on all that it holds, as marks are now
abbrev pub SharesNow : Image → List Segment → Conduct → Graph → Sharing → Sharing → Marks → Sharing → Type 0
SharesNow i kept c g always meets m s =
    (y x : Party) → Shares s y x ↔ ((Shares always y x ⊎ PassesByStore meets c.senders y x)
    ⊎ PassesAtWord i kept g.keys.items m c.stored.keys c.loaded.keys y x)

-- marks spread along edges, and then parties were given what follows from what all hold
pub record Round (i : Image) (kept : List Segment) (c : Conduct) (g : Graph) (p : Passes) (old new : Marks)
    (changed : Bool) : Type 0 where
  pub spread : Marks
  pub behind : Marks
  pub sent : Marks
  pub given : Marks
  pub meets : Sharing
  pub sharing : Sharing
  pub changes : Bool × Bool × Bool × Bool
  pub spreads : Spreads (record { nodes = g.nodes.items; targets = g.targets.items }) old spread
  pub meet : (y x : Party) → Shares meets y x ↔ MeetAbove g.parents.items g.nodes.items spread y x
  pub share : SharesNow i kept c g p.sharing meets spread sharing
  pub first : GivesBehind p.behind.items spread behind changes.0
  pub second : Adds (Handed p.sent.items (SlotMeets meets)) behind sent changes.1
  pub third : Adds (Handed p.given.items (ServedParty i kept i.slots)) sent given changes.2
  pub last : Adds (SharedAt (length given.groups.items) sharing given) given new changes.3
  pub is : changed ≡ ((changes.0 || changes.1) || (changes.2 || changes.3))
