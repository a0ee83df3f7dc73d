-- A handler without a fault is another slot.
use Rattle.std.proofs.Common.{[], ◌≡◌, ℕ, suc, Bool, true, false, not, List, ◌∷◌, Option, Some, None, refl, sym, ap}
use Rattle.std.proofs.{Common.{◌∙◌, arith, eqb-true}, lemmas.Bool.{or_parts, not-false, eqb-false}}
use Rattle.std.specs.Prelude.{◌==◌, ◌||◌, IfSome, Contains}
use Rattle.mm_model.specs.{Slot.Slot, Spelling.{IsOther, has_number}}

abbrev Has : ℕ → List Slot → Type 0
Has h slots = (s : Slot) × Contains slots s × (s.number ≡ h)

has_place : (h : ℕ) (slots : List Slot) → has_number slots h ≡ true → Has h slots
has_place h [] e = absurd cc
has_place h (s ∷ slots) e = first h s slots (s.number == h) refl e (has_place h slots)
  where
    first : (h : ℕ) (s : Slot) (slots : List Slot) (b : Bool) → (s.number == h) ≡ b → has_number (s ∷ slots) h ≡ true → (has_number slots h ≡ true → Has h slots) → Has h (s ∷ slots)
    first h s slots true same e later = (s, (0, omega arith, refl), eqb-true s.number h same)
    first h s slots false other e later =
        let found = later (sym (ap (λ b. b || has_number slots h) other) ∙ e) in
        (found.0, (suc found.1.0, omega (arith, found.1.1), found.1.2), found.2)

pub handler_is_other : (slots : List Slot) (n : ℕ) (handler : Option ℕ) → elim handler as (λ _. Bool)
    [ None ↦ false | Some h ↦ h == n || not (has_number slots h) ] ≡ false → IfSome handler (IsOther slots n)
handler_is_other slots n None e = tt
handler_is_other slots n (Some h) e =
    let tests = or_parts _ _ e in
    let found = has_place h slots (not-false _ tests.1) in
    (eqb-false h n tests.0, (found.0, found.1, found.2))
