-- Items that are read of a configuration, one after the other.
use Rattle.std.proofs.Common.{◌≡◌, ℕ, zero, suc, ◌+◌, ◌/◌, ◌%◌, ◌^◌, ◌<◌, ◌≤◌, Bool, false, if◌then◌else◌, ◌==◌, bit_and, List, []}
use Rattle.std.proofs.Common.{◌∷◌, ◌++◌, length, take, slice_get, Some, sym, ap, ◌∙◌, arith, append_assoc}
use Rattle.std.proofs.lemmas.List.{take_more, flat_map_more, take_all, length-map}
use Rattle.std.proofs.lemmas.{Nat.and_mask, Option.{get_or_from_slice_get, slice_get_within, slice_get-get_or}}
use Rattle.std.specs.List.{flat_map}
use Rattle.mm_model.{specs.{declared.slot.SlotState.SlotState, Fits.{slots_of, IsCore}, Flags.flags, Slot.Slot, State.{Core, ThreadRow}}, proofs.FlagLists.flags-get}
use Rattle.mm_thread.proofs.RowIndex.{few_rows, small_numbers}
use Rattle.mm_explore.specs.declared.explored.Standing.{Standing, TheVariants.{Busy, In}}
use Rattle.mm_explore.{specs.Noting.standings_of, proofs.HeldEnds.flags_long}

-- 1. Lists.

module _ {X : Type 0} where
  take_got : (xs : List X) (k : ℕ) (x : X) → slice_get xs k ≡ Some x → take (k + 1) xs ≡ take k xs ++ x ∷ []
  take_got xs k x e = take_more xs k x (slice_get_within xs k x e) ∙ ap (λ y. take k xs ++ y ∷ []) (get_or_from_slice_get xs k x x e)

  pub one_item : (begin out now xs : List X) (k : ℕ) (x : X) → out ≡ begin ++ take k xs → slice_get xs k ≡ Some x → now ≡ out ++ x ∷ [] → now ≡ begin ++ take (k + 1) xs
  one_item begin out now xs k x was e is =
      is ∙ ap (λ l. l ++ x ∷ []) was ∙ append_assoc begin (take k xs) (x ∷ []) ∙ ap (λ l. begin ++ l) (sym (take_got xs k x e))

  pub all_items : (begin out xs : List X) (k : ℕ) → out ≡ begin ++ take k xs → length xs ≤ k → out ≡ begin ++ xs
  all_items begin out xs k was long = was ∙ ap (λ l. begin ++ l) (take_all k xs long)

module _ {X A : Type 0} (f : X → List A) where
  pub some_items : (begin out now : List A) (xs : List X) (k : ℕ) (x : X) → out ≡ begin ++ flat_map f (take k xs) → slice_get xs k ≡ Some x → now ≡ out ++ f x
      → now ≡ begin ++ flat_map f (take (k + 1) xs)
  some_items begin out now xs k x was e is =
      is ∙ ap (λ l. l ++ f x) was ∙ flat_map_more f begin (take k xs) x ∙ ap (λ l. begin ++ flat_map f l) (sym (take_got xs k x e))

  pub all_some : (begin out : List A) (xs : List X) (k : ℕ) → out ≡ begin ++ flat_map f (take k xs) → length xs ≤ k → out ≡ begin ++ flat_map f xs
  all_some begin out xs k was long = was ∙ ap (λ l. begin ++ flat_map f l) (take_all k xs long)

-- 2. How slots stand.

standing_at : (busy : List Bool) (slots : List Slot) (k : ℕ) (b : Bool) (s : Slot) → slice_get busy k ≡ Some b → slice_get slots k ≡ Some s
    → slice_get (standings_of busy slots) k ≡ Some (if b then Busy else In s.state)
standing_at [] slots k b s e f = cc
standing_at (c ∷ busy) [] k b s e f = cc
standing_at (c ∷ busy) (t ∷ slots) zero b s e f =
    let one : c ≡ b = cc in
    let two : t ≡ s = cc in
    (λ j. Some (if one j then Busy else In (two j).state))
standing_at (c ∷ busy) (t ∷ slots) (suc k) b s e f = standing_at busy slots k b s e f

flag_at : (n mask k : ℕ) → k < n → slice_get (flags n mask) k ≡ Some (mask / 2 ^ k % 2 == 1)
flag_at n mask k lt = let long = flags_long n mask in slice_get-get_or (flags n mask) k false (omega (arith, long, lt)) ∙ ap (λ (b : Bool). Some b) (flags-get n mask k lt)

pub standing_read : (slots : List Slot) (mask k : ℕ) (s : Slot) → slice_get slots k ≡ Some s
    → slice_get (standings_of (flags (length slots) mask) slots) k ≡ Some (if bit_and (mask / 2 ^ k) 1 == 1 then Busy else In s.state)
standing_read slots mask k s e =
    standing_at (flags (length slots) mask) slots k (mask / 2 ^ k % 2 == 1) s (flag_at (length slots) mask k (slice_get_within slots k s e)) e
    ∙ ap (λ (n : ℕ). let x : Standing = if n == 1 then Busy else In s.state in Some x) (sym (and_mask (mask / 2 ^ k) 1))

pub standing_seen : (b : Bool) (s t : SlotState) → s ≡ t → (r : Standing) → r ≡ (if b then Busy else In s) → r ≡ (if b then Busy else In t)
standing_seen b s t same r is = is ∙ ap (λ (x : SlotState). if b then Busy else In x) same

-- a mask of the slots is shifted by no more than it has bits
pub shift_fits : (core : Core) → IsCore core → (at : ℕ) → at < length (slots_of core) → at < 64
shift_fits core whole at lt =
    let few = few_rows core whole.formed.rising (small_numbers core whole) in
    let same = length-map core.rows (λ (row : ThreadRow). row.slot) in
    omega (arith, few, same, lt)
