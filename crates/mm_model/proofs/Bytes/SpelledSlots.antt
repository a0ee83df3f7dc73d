-- Slots of an image, and their handlers.
use Rattle.std.proofs.Common.{◌≡◌, ℕ, zero, suc, ◌<◌, ◌≤◌, Bool, true, false, not, List, [], ◌∷◌, length, get_or}
use Rattle.std.proofs.Common.{Option, Some, None, refl, ap, ◌∙◌, arith, eq-eqb}
use Rattle.std.proofs.lemmas.{List.Folds.list_any_at, Bool.ne_eqb}
use Rattle.std.specs.{Prelude.{◌==◌, ◌||◌, IfSome}, List.AllByRecursion}
use Rattle.mm_model.specs.{Slot.Slot, Spelling.{IsOther, IsFresh, has_number}}

-- 1. One of a list.

pub all_at : {A : Type 0} (P : A → Type 0) (xs : List A) → AllByRecursion P xs → (k : ℕ) (d : A) → k < length xs → P (get_or xs k d)
all_at P [] all k d lt = absurd (omega arith)
all_at P (x ∷ xs) all zero d lt = all.0
all_at P (x ∷ xs) all (suc k) d lt = all_at P xs all.1 k d (omega arith)

-- 2. Handlers.

pub handler_small : (limit : ℕ) (slots : List Slot) (n : ℕ) (handler : Option ℕ) → limit ≤ 64
    → AllByRecursion (IsFresh limit slots) slots → IfSome handler (IsOther slots n) → IfSome handler (λ h. h < 64)
handler_small limit slots n None small all other = tt
handler_small limit slots n (Some h) small all other =
    let found = other.1 in
    let fresh = all_at (IsFresh limit slots) slots all found.1.0 found.0 found.1.1 in
    let same = ap (λ (s : Slot). s.number) found.1.2 in
    omega (arith, fresh.number, same, found.2)

pub handler_good : (slots : List Slot) (n : ℕ) (handler : Option ℕ) → IfSome handler (IsOther slots n)
    → elim handler as (λ _. Bool) [ None ↦ false | Some h ↦ h == n || not (has_number slots h) ] ≡ false
handler_good slots n None other = refl
handler_good slots n (Some h) other =
    let found = other.1 in
    let at : (get_or slots found.1.0 found.0).number == h ≡ true = eq-eqb _ h (ap (λ (s : Slot). s.number) found.1.2 ∙ found.2) in
    let has : has_number slots h ≡ true = list_any_at (λ (s : Slot). s.number == h) slots found.1.0 found.0 found.1.1 at in
    ap (λ b. b || not (has_number slots h)) (ne_eqb h n other.0) ∙ ap not has
