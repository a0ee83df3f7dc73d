-- Breaks and watches: lists of up to 64 entries in rising order, all different.
use Rattle.std.specs.Prelude.{◌≡◌, ℕ, ◌/◌, ◌%◌, ◌≤◌, Bool, true, false, ◌&&◌, ◌==◌, nat_lt, if◌then◌else◌, List, []}
use Rattle.std.specs.{Prelude.{◌∷◌, length, slice_index_or}, List.{list_any, AllByRecursion, Sorted.IsStrictlySortedBy}}
use Rattle.std.specs.declared.cmp.Ordering.{Ordering, TheVariants.{Less, Equal, Greater}}
use Rattle.std.specs.Ordering.{nat_cmp, ordering_then}
use Rattle.mm_debug.specs.declared.breakpoints.Break.{Break}

-- the most breaks, and the most watches, that are kept
abbrev pub entry_limit : ℕ
entry_limit = 64

-- The entries are in rising order, all different, and not too many.
pub record AreEntries {A : Type 0} (cmp : A → A → Ordering) (entries : List A) : Type 0 where
  pub rise : IsStrictlySortedBy cmp entries
  pub few : length entries ≤ entry_limit

-- the order of breaks: by slot, and then by address
abbrev pub break_cmp : Break → Break → Ordering
break_cmp x y = ordering_then (nat_cmp x.slot y.slot) (nat_cmp x.address y.address)

abbrev pub is_break : ℕ → ℕ → Break → Bool
is_break slot address b = (b.slot == slot) && (b.address == address)

-- a slot has a break at an address
abbrev pub has_break : List Break → ℕ → ℕ → Bool
has_break breaks slot address = list_any (is_break slot address) breaks

-- the spot of an address, one of 1,024; neighbouring words have different ones
abbrev pub spot_of : ℕ → ℕ
spot_of address = address / 8 % 1024

-- each break is at one of the spots that are set
abbrev pub AreSpotted : List Bool → List Break → Type 0
AreSpotted spots breaks = AllByRecursion (λ (b : Break). slice_index_or spots (spot_of b.address) false ≡ true) breaks

-- a word is watched
abbrev pub has_watch : List ℕ → ℕ → Bool
has_watch watches word = list_any (λ w. w == word) watches

module _ {A : Type 0} (cmp : A → A → Ordering) where
  abbrev pub before : Ordering → A → A → List A → List A → List A
  before Less x y ys more = x ∷ y ∷ ys
  before Equal x y ys more = y ∷ ys
  before Greater x y ys more = y ∷ more

  -- the list with this entry in its place; the same list if it has the entry already
  unfoldable pub placed : A → List A → List A
  placed x [] = x ∷ []
  placed x (y ∷ ys) = before (cmp x y) x y ys (placed x ys)

-- a list has room for one entry more, or has the entry already
abbrev pub fits : {A : Type 0} → (there : Bool) → List A → Bool
fits true entries = true
fits false entries = nat_lt (length entries) entry_limit

-- a list after an entry is set; the same list if it has the entry already, or has no room for it
abbrev pub entered : {A : Type 0} → (there : Bool) → (entries with_it : List A) → List A
entered true entries with_it = entries
entered false entries with_it = if nat_lt (length entries) entry_limit then with_it else entries

-- the breaks after a break is set
abbrev pub with_break : List Break → Break → List Break
with_break breaks b = entered (has_break breaks b.slot b.address) breaks (placed break_cmp b breaks)

-- the watches after a watch is set
abbrev pub with_watch : List ℕ → ℕ → List ℕ
with_watch watches word = entered (has_watch watches word) watches (placed nat_cmp word watches)
