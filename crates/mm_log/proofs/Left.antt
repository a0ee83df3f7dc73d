-- The lines of what was kept of a slot are its changes, if no other register changed.
use Rattle.std.proofs.Common.{◌≡◌, ℕ, zero, suc, ◌+◌, ◌<◌, ◌≤◌, inl, inr, ◌&&◌, if◌then◌else◌, List, [], ◌∷◌, ◌++◌}
use Rattle.std.proofs.Common.{Option, Some, None, refl, sym, ap, ◌∙◌, arith}
use Rattle.std.proofs.lemmas.{Bool.{cases_eq, cases_lt}, List.Folds.flat_map-map}
use Rattle.std.specs.List.{flat_map, range_with_len}
use Rattle.mm_model.{specs.{Effect.same_word, Report.same_bit, Slot.{Slot, register, is_empty}}, proofs.Sames.pair_self}
use Rattle.mm_thread.specs.Told.{held_of, was_of}
use Rattle.mm_thread.proofs.Writes.{Spares, SameAt}
use Rattle.mm_log.specs.Lines.{Line}
use Rattle.mm_log.specs.Changes.{pointer_changes, state_changes, register_now, register_changes, load_changes}
use Rattle.mm_log.specs.Changes.{slot_changes, changes_between}
use Rattle.mm_log.specs.Seen.{held_left, left_of}
use Rattle.mm_log.proofs.Numbers.{none_from}

-- 1. Lines of few numbers.

module _ (f : ℕ → List Line) where
  -- only the numbers of a window have lines
  window : (a n first count : ℕ) → first ≤ a → a + n ≤ first + count → ((k : ℕ) → first ≤ k → k < a → f k ≡ []) → ((k : ℕ) → a + n ≤ k → f k ≡ [])
      → flat_map f (range_with_len first count) ≡ flat_map f (range_with_len a n)
  window a zero first count low high below above = none_from f first count (λ k up. elim (cases_lt k a) [
    | inl lt ↦ below k up lt
    | inr ge ↦ above k (omega (arith, ge))
  ])
  window a (suc n) first zero low high below above = absurd (omega arith)
  window a (suc n) first (suc count) low high below above = elim (cases_eq first a) [
    | inl e ↦
        ap (λ l. f first ++ l) (window (first + 1) n (first + 1) count (omega arith) (omega arith) (λ k up lt. absurd (omega arith)) (λ k up. above k (omega arith)))
        ∙ ap (λ x. f x ++ flat_map f (range_with_len (x + 1) n)) e
    | inr ne ↦
        ap (λ l. l ++ flat_map f (range_with_len (first + 1) count)) (below first (omega arith) (omega arith))
        ∙ window a (suc n) (first + 1) count (omega arith) (omega arith) (λ k up lt. below k (omega arith) lt) above
  ]

-- the registers that a turn can change of a slot: none, one, or four in a row
pub data AreNamed : List ℕ → Type 0 where
  none : AreNamed []
  one : (r : ℕ) → r < 16 → AreNamed (r ∷ [])
  four : (r : ℕ) → r + 3 < 16 → AreNamed (r ∷ (r + 1) ∷ (r + 2) ∷ (r + 3) ∷ [])

module _ (f : ℕ → List Line) where
  named : (rs : List ℕ) → AreNamed rs → ((k : ℕ) → Spares rs k → f k ≡ []) → flat_map f (range_with_len 0 16) ≡ flat_map f rs
  named rs AreNamed.none h = none_from f 0 16 (λ k up. h k tt)
  named rs (AreNamed.one r low) h = window f r 1 0 16 (omega arith) (omega (arith, low)) (λ k up lt. h k (omega arith, tt)) (λ k up. h k (omega arith, tt))
  named rs (AreNamed.four r low) h =
      let two : r + 1 + 1 ≡ r + 2 = omega arith in
      let three : r + 1 + 1 + 1 ≡ r + 3 = omega arith in
      window f r 4 0 16 (omega arith) (omega (arith, low)) (λ k up lt. h k (omega arith, (omega arith, (omega arith, (omega arith, tt))))) (λ k up. h k (omega arith, (omega arith, (omega arith, (omega arith, tt)))))
      ∙ ap (flat_map f) (ap (λ (x : ℕ). r ∷ (r + 1) ∷ x ∷ (r + 1 + 1 + 1) ∷ []) two ∙ ap (λ (x : ℕ). r ∷ (r + 1) ∷ (r + 2) ∷ x ∷ []) three)

-- 2. A slot.

module _ (s now : Slot) where
  unchanged : (k : ℕ) → SameAt k s now → register_changes s now k ≡ []
  unchanged k same =
      ap (λ w. if same_word (register s k) w && same_bit (is_empty s k) (is_empty now k) then [] else register_now now k ∷ []) same.word
      ∙ ap (λ b. if same_word (register s k) (register s k) && same_bit (is_empty s k) b then [] else register_now now k ∷ []) same.flag
      ∙ ap (λ b. if b then [] else register_now now k ∷ []) (pair_self (register s k) (is_empty s k))

  changes_left : (rs : List ℕ) → AreNamed rs → ((k : ℕ) → Spares rs k → SameAt k s now) → slot_changes s now ≡ left_of (was_of s rs) (Some now)
  unfolding slot_changes
  changes_left rs names same =
      ap (λ l. pointer_changes s now ++ state_changes s now ++ l ++ load_changes s now)
      (named (register_changes s now) rs names (λ k h. unchanged k (same k h)) ∙ sym (flat_map-map (held_left now) (held_of s) rs))

-- all registers but these are as they were, if the slot is there
abbrev pub Kept : Slot → List ℕ → Option Slot → Type 0
Kept s rs None = Unit {0}
Kept s rs (Some now) = (k : ℕ) → Spares rs k → SameAt k s now

pub between_left : (s : Slot) (rs : List ℕ) → AreNamed rs → (o : Option Slot) → Kept s rs o → changes_between (Some s) o ≡ left_of (was_of s rs) o
between_left s rs names None same = refl
between_left s rs names (Some now) same = changes_left s now rs names same
