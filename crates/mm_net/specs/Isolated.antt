-- Groups of a net's nodes that stand apart cannot tell what the others do.
use Rattle.std.specs.Prelude.{◌≡◌, ◌⊎◌, ℕ, Bool, true, false, List, [], ◌∷◌, Contains, length, slice_get, Option, Some}
use Rattle.std.specs.{Prelude.IsSomeAnd, List.All}
use Rattle.mm_model.specs.{Memory.cell_at, State.State, Image.Image, Spelling.IsImage, Schedule.is_kept}
use Rattle.mm_model.specs.{Reach.{CanWrite, Entries as entries}, Worlds.{Touchable, Apart, Agree}}
use Rattle.mm_laws.specs.Isolated.{Alike}
use Rattle.mm_net.specs.declared.{link.Link.Link, item.NetItem.{NetItem, TheVariants.{Turn, Send, Carry}}}
use Rattle.mm_net.specs.{Links.AreLinks, Nets.{NetState, net_start, net_run}}

-- A set of groups of nodes is a test `c` of a node and a group; `c n` is the set of its groups at node n.

-- 1. Links and items of the groups.

-- one of the groups of the node can touch the word
abbrev pub TouchedAt : List Image → (ℕ → ℕ → Bool) → ℕ → ℕ → Type 0
TouchedAt images c n w = IsSomeAnd (slice_get images n) (λ i. Touchable i entries.All (c n) w)

-- a link is the groups' if one of them can touch the word at which it takes, or the word at which it puts
abbrev pub IsLinkOf : List Image → (ℕ → ℕ → Bool) → Link → Type 0
IsLinkOf images c link = TouchedAt images c link.from link.take ⊎ TouchedAt images c link.to link.put

-- An item is the groups' if it is a slot of theirs or the port of such a slot, or if a link of theirs takes or carries.
abbrev pub IsItemOf : List Image → List Link → (ℕ → ℕ → Bool) → NetItem → Type 0
IsItemOf images links c (Turn n item) = IsSomeAnd (slice_get images n) (λ i. is_kept i (c n) item ≡ true)
IsItemOf images links c (Send l) = IsSomeAnd (slice_get links l) (IsLinkOf images c)
IsItemOf images links c (Carry l k) = IsSomeAnd (slice_get links l) (IsLinkOf images c)

-- the items of the groups among all items, in order
pub data AreItemsOf (images : List Image) (links : List Link) (c : ℕ → ℕ → Bool) : List NetItem → List NetItem
    → Type 0 where
  no_item : AreItemsOf images links c [] []
  kept : {item : NetItem} {all own : List NetItem} → IsItemOf images links c item → AreItemsOf images links c all own
      → AreItemsOf images links c (item ∷ all) (item ∷ own)
  left_out : {item : NetItem} {all own : List NetItem} → ¬ IsItemOf images links c item
      → AreItemsOf images links c all own → AreItemsOf images links c (item ∷ all) own

-- 2. Nets whose groups stand apart, and that agree on these groups.

-- no group outside can write the word of the node
abbrev pub IsUnwritten : List Image → (ℕ → ℕ → Bool) → ℕ → ℕ → Type 0
IsUnwritten images c n w =
    (i : Image) (g : ℕ) → slice_get images n ≡ Some i → c n g ≡ false → ¬ CanWrite i entries.All g w

-- the groups stand apart at each node, and no group outside can write where a link of theirs takes or puts
pub record NetApart (images : List Image) (links : List Link) (c : ℕ → ℕ → Bool) : Type 0 where
  pub nodes : (n : ℕ) (i : Image) → slice_get images n ≡ Some i → Apart i entries.All (c n)
  pub takes : (link : Link) → Contains links link → IsLinkOf images c link → IsUnwritten images c link.from link.take
  pub puts : (link : Link) → Contains links link → IsLinkOf images c link → IsUnwritten images c link.to link.put

-- the images have equal cells at the word of the node, or neither has one
abbrev pub HaveSameCell : List Image → List Image → ℕ → ℕ → Type 0
HaveSameCell images others n w =
    (i j : Image) → slice_get images n ≡ Some i → slice_get others n ≡ Some j → cell_at i.memory w ≡ cell_at j.memory w

-- the nets have as many nodes; their images agree on the groups and have equal cells at the ends of the groups' links
pub record NetAgree (images others : List Image) (links : List Link) (c : ℕ → ℕ → Bool) : Type 0 where
  pub count : length images ≡ length others
  pub nodes : (n : ℕ) (i j : Image) → slice_get images n ≡ Some i → slice_get others n ≡ Some j → Agree i j (c n)
  pub takes : (link : Link) → Contains links link → IsLinkOf images c link
      → HaveSameCell images others link.from link.take
  pub puts : (link : Link) → Contains links link → IsLinkOf images c link → HaveSameCell images others link.to link.put

-- two nets with the same links that agree on groups, and in both of which the groups stand apart
pub record NetsAgreeApart (images others : List Image) (links : List Link) (c : ℕ → ℕ → Bool) : Type 0 where
  pub rules : AreLinks links
  pub one : All IsImage images
  pub other : All IsImage others
  pub agree : NetAgree images others links c
  pub one_apart : NetApart images links c
  pub other_apart : NetApart others links c

-- 3. The law.

abbrev pub AlikeNodes : Image → (ℕ → Bool) → Option State → Option State → Type 0
AlikeNodes i c (Some s) (Some t) = Alike i c s t
AlikeNodes i c _ _ = ⊥

-- At each node the slots of the groups with their queues, the outputs of the groups and the cells at the words that
-- they can touch are equal; so are the integers that each link of the groups sent, and those that arrived.
pub record AlikeNets (images : List Image) (links : List Link) (c : ℕ → ℕ → Bool) (s t : NetState) : Type 0 where
  pub nodes : (n : ℕ) (i : Image) → slice_get images n ≡ Some i
      → AlikeNodes i (c n) (slice_get s.nodes n) (slice_get t.nodes n)
  pub carried : (l : ℕ) (link : Link) → slice_get links l ≡ Some link → IsLinkOf images c link
      → slice_get s.links l ≡ slice_get t.links l

-- after two lists with the same items of the groups, the two nets are alike for the groups
abbrev pub NetWorlds : Type 0
NetWorlds =
    (images others : List Image) (links : List Link) (c : ℕ → ℕ → Bool) (items events own : List NetItem)
    → NetsAgreeApart images others links c
    → AreItemsOf images links c items own → AreItemsOf others links c events own
    → AlikeNets images links c (net_run links (net_start images links) items)
    (net_run links (net_start others links) events)

-- a list of items has at most one such list of the groups' items, and it is impossible that it has none
pub record ItemsAreOne : Type 0 where
  pub one : (images : List Image) (links : List Link) (c : ℕ → ℕ → Bool) (all own other : List NetItem)
      → AreItemsOf images links c all own → AreItemsOf images links c all other → own ≡ other
  pub some : (images : List Image) (links : List Link) (c : ℕ → ℕ → Bool) (all : List NetItem)
      → ¬ (¬ ((own : List NetItem) × AreItemsOf images links c all own))
