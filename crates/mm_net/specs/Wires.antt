-- The links of a net with what they carried, and with the accesses by which they take and put.
use Rattle.std.specs.Prelude.{◌≡◌, ℕ, ◌≤◌, List, map}
use Rattle.mm_word.specs.{declared.perm.Kind.{Kind, TheVariants.{LoadSet, Store}}, Access.AccessValue}
use Rattle.mm_model.specs.Schedule.{item_limit}
use Rattle.mm_net.specs.{declared.link.Link.Link, Nets.Carried}

-- a link, what it carried, and the count of integers that it has room for
pub record Wired : Type 0 where
  pub link : Link
  pub carried : Carried
  pub room : ℕ

abbrev pub link_list : List Wired → List Link
link_list wires = map (λ (w : Wired). w.link) wires

abbrev pub carried_list : List Wired → List Carried
carried_list wires = map (λ (w : Wired). w.carried) wires

-- an access of a kind to the word at an address
pub record Reaches (access : AccessValue) (kind : Kind) (address : ℕ) : Type 0 where
  pub of_kind : access.kind ≡ kind
  pub at : access.addr ≡ address

-- the accesses are those of the link, and no more integers arrived than it took
pub record IsWire (link : Link) (taking putting : AccessValue) (sent arrived : ℕ) : Type 0 where
  pub takes : Reaches taking LoadSet link.take
  pub puts : Reaches putting Store link.put
  pub front : arrived ≤ sent
  pub few : sent ≤ item_limit
