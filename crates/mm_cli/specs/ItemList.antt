-- Lists of items as the command line writes them: the items in order, with commas between them.
use Rattle.std.specs.{Prelude.{ℕ, List, [], ◌∷◌, map, ⊤}, List.{AllByRecursion, join_with_byte}}

-- the texts of items, with commas between them
abbrev pub with_commas : {A : Type 0} → (text : A → List ℕ) → List A → List ℕ
with_commas text items = join_with_byte 44 (map text items)

-- each item stands before those after it
abbrev pub InOrder : {A : Type 0} → (Before : A → A → Type 0) → List A → Type 0
InOrder Before [] = ⊤
InOrder Before (a ∷ items) = AllByRecursion (Before a) items × InOrder Before items

-- the items that were read so far: each may be in a list, and they are in order
pub record AreInOrder {A : Type 0} (Before : A → A → Type 0) (IsItem : A → Type 0) (items : List A) : Type 0 where
  pub ascending : InOrder Before items
  pub each : AllByRecursion IsItem items

-- an item may be in a list, and stands after the items
pub record Follows {A : Type 0} (Before : A → A → Type 0) (IsItem : A → Type 0) (items : List A) (a : A)
    : Type 0 where
  pub after : AllByRecursion (λ b. Before b a) items
  pub one : IsItem a
