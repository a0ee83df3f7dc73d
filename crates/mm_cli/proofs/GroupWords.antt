-- Groups as they are written.
use Rattle.std.proofs.Common.{◌≡◌, ◌≢◌, ℕ, suc, ◌+◌, ◌-◌, ◌<◌, ◌≤◌, true, List, [], ◌∷◌, ◌++◌, length, take}
use Rattle.std.proofs.Common.{slice_get, ◌↔◌, Some, None, decimal, codes, nat_lt, refl, sym, ap, ◌∙◌, arith}
use Rattle.std.proofs.Common.{append_assoc}
use Rattle.std.proofs.lemmas.{Bool.{ltb-true, lt-ltb}, Fmt.decimal_injective}
use Rattle.std.specs.List.{AllByRecursion, position}
use Rattle.mm_model.specs.Audit.{groups_text}
use Rattle.mm_cli.specs.ItemList.{InOrder, with_commas}
use Rattle.mm_cli.specs.GroupList.{AreFirstGroups, AreGroups, IsBelow, IsGroup, IsNextGroup}
use Rattle.mm_cli.proofs.{PlainNumbers.plain, ItemLists.{AreTold, ItemsRead, after_last, is_comma}}
use Rattle.mm_cli.proofs.ItemLists as items

-- 1. The texts of groups.

groups_told : AreTold decimal IsGroup
groups_told = record {
  plain = λ g few. plain 44 g (omega arith) (omega (arith, few));
  apart = λ g h few fewer same. decimal_injective g h (omega (arith, few)) (omega (arith, fewer)) same;
}

text_joined : (gs : List ℕ) → groups_text gs ≡ with_commas decimal gs
text_joined [] = refl
text_joined (g ∷ []) = refl
text_joined (g ∷ h ∷ gs) =
    append_assoc (decimal g) (codes ",") (groups_text (h ∷ gs)) ∙ ap (λ (text : List ℕ). decimal g ++ 44 ∷ text) (text_joined (h ∷ gs))

in_order : (gs : List ℕ) → AreGroups gs → AreFirstGroups gs
in_order gs are = record { ascending = are.ascending; each = are.few }

pub one_list : (gs hs : List ℕ) → AreGroups gs → AreGroups hs → groups_text gs ≡ groups_text hs → gs ≡ hs
one_list gs hs are also same =
    items.one_list groups_told gs hs are.some also.some are.few also.few (sym (text_joined gs) ∙ same ∙ text_joined hs)

-- 2. Groups that are read one after the other.

-- the groups so far
abbrev pub GroupsRead : (all rest : List ℕ) → List ℕ → Type 0
GroupsRead all rest gs = ItemsRead decimal IsBelow IsGroup all rest gs

pub no_more : (all rest part gs : List ℕ) (at : ℕ) → GroupsRead all rest gs → position is_comma rest ≡ Some at → part ≡ take at rest
    → ((g : ℕ) → IsNextGroup gs g → part ≢ decimal g) → (hs : List ℕ) → AreGroups hs → all ≢ groups_text hs
no_more all rest part gs at read found front none hs are same =
    items.no_more groups_told read found front hs are.some (in_order hs are) (λ g more is follows. none g follows) (same ∙ text_joined hs)

pub no_last : (all rest gs : List ℕ) → GroupsRead all rest gs → position is_comma rest ≡ None
    → ((g : ℕ) → IsNextGroup gs g → rest ≢ decimal g) → (hs : List ℕ) → AreGroups hs → all ≢ groups_text hs
no_last all rest gs read found none hs are same =
    items.no_last groups_told read found hs are.some (in_order hs are) (λ g more is follows. none g follows) (same ∙ text_joined hs)

pub last_group : (all rest gs hs : List ℕ) (g : ℕ) → GroupsRead all rest gs → position is_comma rest ≡ None → IsNextGroup gs g → rest ≡ decimal g → hs ≡ gs ++ g ∷ []
    → (all ≡ groups_text hs) × AreGroups hs
last_group all rest gs hs g read found follows written more =
    let whole = items.read_last read found follows written more in
    (whole.is ∙ sym (text_joined hs), record { some = whole.some; ascending = whole.items.ascending; few = whole.items.each })

-- 3. A group more.

-- ascending groups are as many as their range at most
few_between : (gs : List ℕ) (least g : ℕ) → InOrder IsBelow gs → AllByRecursion (λ h. least ≤ h) gs → AllByRecursion (λ h. h < g) gs → least ≤ g → length gs + least ≤ g
few_between [] least g up low high le = omega arith
few_between (h ∷ gs) least g up low high le = let rest = few_between gs (suc h) g up.1 up.0 high.1 (omega (arith, high.0)) in omega (arith, low.0)

each_zero : (gs : List ℕ) → AllByRecursion (λ h. 0 ≤ h) gs
each_zero [] = tt
each_zero (h ∷ gs) = (omega arith, each_zero gs)

pub room_for : (gs : List ℕ) (g : ℕ) → AreFirstGroups gs → IsNextGroup gs g → length gs < 64
room_for gs g so_far follows = let few = few_between gs 0 g so_far.ascending (each_zero gs) follows.after (omega arith) in omega (arith, follows.one)

-- a group is above each where it is above the last one
pub is_last : (gs : List ℕ) (g last : ℕ) → InOrder IsBelow gs → Some last ≡ slice_get gs (length gs - 1) → (nat_lt last g ≡ true) ↔ AllByRecursion (λ h. h < g) gs
is_last gs g last up at =
    let above = after_last IsBelow (λ a b c lt less. omega (arith, lt, less)) gs g last up at in
    (λ lt. above.0 (ltb-true last g lt), λ each. lt-ltb last g (above.1 each))
