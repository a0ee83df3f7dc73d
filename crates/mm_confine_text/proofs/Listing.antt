-- The groups that have a slot, and their slots.
use Rattle.std.proofs.Common.{◌≡◌, ℕ, Bool, true, false, ◌&&◌, ◌==◌, cond, if◌then◌else◌, List, [], ◌∷◌, ◌++◌, map, refl, sym, ap, ◌∙◌, subst, append-nil}
use Rattle.std.proofs.Common.{◌+◌, ◌<◌, length, take, get_or}
use Rattle.std.proofs.lemmas.List.{map-append, flat_map_more, take_more}
use Rattle.std.specs.List.{filter, flat_map}
use Rattle.mm_model.specs.{Slot.Slot, Image.Image}
use Rattle.mm_kernel.specs.{Segments.Segment, Threads.is_kernel_slot}
use Rattle.mm_kernel.proofs.Ups.{each_join}
use Rattle.mm_confine_text.specs.declared.kept.Group.{Group}
use Rattle.mm_confine_text.specs.Found.{slot_if, IsGroup, AreGroups, PutGroups, numbers_of, if_present}

number_of : Slot → ℕ
number_of s = s.number

-- the numbers of the slots of a group that are of the kernel
pub slots_are : (kept : List Segment) (g : ℕ) (slots : List Slot)
    → flat_map (slot_if kept g) slots ≡ map (λ (s : Slot). s.number) (filter (λ s. (s.group == g) && is_kernel_slot kept s) slots)
slots_are kept g [] = refl
slots_are kept g (s ∷ slots) = by ((s.group == g) && is_kernel_slot kept s) (slots_are kept g slots)
  where
    p : Slot → Bool
    p t = (t.group == g) && is_kernel_slot kept t

    by : (b : Bool) → flat_map (slot_if kept g) slots ≡ map (λ (t : Slot). t.number) (filter (λ t. (t.group == g) && is_kernel_slot kept t) slots)
        → (if b then s.number ∷ [] else []) ++ flat_map (slot_if kept g) slots
        ≡ map (λ (t : Slot). t.number) (cond b (s ∷ filter (λ t. (t.group == g) && is_kernel_slot kept t) slots) (filter (λ t. (t.group == g) && is_kernel_slot kept t) slots))
    by true rest = ap (λ (l : List ℕ). s.number ∷ l) rest
    by false rest = rest

-- the part of the item at `i` comes behind those of the items before it
pub part_more : {A B : Type 0} (f : A → List B) (xs : List A) (i : ℕ) (x : A) → i < length xs → x ≡ get_or xs i x → (start now next : List B)
    → now ≡ start ++ flat_map f (take i xs) → next ≡ now ++ f x → next ≡ start ++ flat_map f (take (i + 1) xs)
part_more f xs i x lt read start now next is pushed =
    pushed ∙ ap (λ v. v ++ f x) is ∙ flat_map_more f start (take i xs) x
    ∙ ap (λ v. start ++ flat_map f v) (ap (λ v. take i xs ++ v ∷ []) read ∙ sym (take_more xs i x lt))

module _ (i : Image) (kept : List Segment) where
  pub none_put : AreGroups i kept [] []
  none_put = record { numbers_are = refl; each = tt }

  pub more_put : (gs hs : List ℕ) (old new : List Group) → AreGroups i kept gs old → PutGroups i kept hs old new → AreGroups i kept (gs ++ hs) new
  more_put gs hs old new h p =
      subst (AreGroups i kept (gs ++ hs)) (sym p.is) (record {
        numbers_are =
            map-append (λ (g : Group). g.number) old p.part ∙ ap (λ (l : List ℕ). l ++ numbers_of p.part) h.numbers_are
            ∙ ap (λ (l : List ℕ). gs ++ l) p.groups.numbers_are;
        each = each_join (IsGroup i kept) old p.part h.each p.groups.each;
      })

  pub put_one : (b : Bool) (g : ℕ) (group : Group) (old new : List Group) → b ≡ true → group.number ≡ g → IsGroup i kept group → new ≡ old ++ group ∷ []
      → PutGroups i kept (if_present b g) old new
  put_one true g group old new e number is same =
      record { part = group ∷ []; groups = record { numbers_are = ap (λ (n : ℕ). n ∷ []) number; each = (is, tt) }; is = same }
  put_one false g group old new e number is same = cc

  pub put_no : (b : Bool) (g : ℕ) (old new : List Group) → b ≡ false → new ≡ old → PutGroups i kept (if_present b g) old new
  put_no false g old new e same = record { part = []; groups = none_put; is = same ∙ sym (append-nil old) }
  put_no true g old new e same = cc
