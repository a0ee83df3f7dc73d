-- The order in which integers arrive by a link.
use Rattle.std.specs.{Prelude.{◌≡◌, ℕ, List, ◌++◌}, List.All}
use Rattle.mm_model.specs.Image.{Image}
use Rattle.mm_net.specs.{declared.{link.Link.Link, item.NetItem.NetItem}, Nets.{Carried, net_start, net_run}}

-- the integers that arrived are a prefix of those that were sent: each arrived at most once, and in order
pub record IsInOrder (carried : Carried) : Type 0 where
  pub rest : List ℕ
  pub split : carried.sent ≡ carried.arrived ++ rest

-- after every list of items this is so at each link, even if an integer is carried early, twice or never
abbrev pub ArrivesInOrder : Type 0
ArrivesInOrder = (images : List Image) (links : List Link) (items : List NetItem)
    → All IsInOrder (net_run links (net_start images links) items).links
