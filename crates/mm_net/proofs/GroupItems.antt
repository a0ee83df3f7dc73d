-- Each list of items has one list of the groups' items among them.
use Rattle.std.proofs.Common.{◌≡◌, ℕ, Bool, List, [], ◌∷◌, refl, ap}
use Rattle.mm_model.specs.Image.{Image}
use Rattle.mm_net.specs.declared.{link.Link.Link, item.NetItem.NetItem}
use Rattle.mm_net.specs.Isolated.{AreItemsOf, ItemsAreOne, AreItemsOf.{no_item, kept, left_out}}

items_one : (images : List Image) (links : List Link) (c : ℕ → ℕ → Bool) (all own other : List NetItem) → AreItemsOf images links c all own → AreItemsOf images links c all other → own ≡ other
items_one images links c all own other no_item no_item = refl
items_one images links c all own other (kept {item = item} {all = rest} {own = one} is a) (kept {own = two} js b) = ap (λ xs. item ∷ xs) (items_one images links c rest one two a b)
items_one images links c all own other (kept is a) (left_out out b) = absurd (out is)
items_one images links c all own other (left_out out a) (kept is b) = absurd (out is)
items_one images links c all own other (left_out {all = rest} out a) (left_out gone b) = items_one images links c rest own other a b

-- where the rest has such a list, an item is in it or left out
items_some : (images : List Image) (links : List Link) (c : ℕ → ℕ → Bool) (all : List NetItem) → ¬ (¬ ((own : List NetItem) × AreItemsOf images links c all own))
items_some images links c [] none = none ([], no_item)
items_some images links c (item ∷ all) none =
    items_some images links c all (λ rest. none (rest.0, left_out (λ is. none (item ∷ rest.0, kept is rest.1)) rest.1))

pub one_list : ItemsAreOne
one_list = record { one = items_one; some = items_some }
