-- What is told of numbers where few of them have something to tell.
use Rattle.std.proofs.Common.{◌≡◌, ◌≢◌, ℕ, zero, suc, ◌+◌, ◌<◌, ◌≤◌, inl, inr, if◌then◌else◌, List, [], ◌∷◌, ◌++◌, map}
use Rattle.std.proofs.{Common.{Option, Some, None, refl, ap, ◌∙◌, arith, append-nil}, lemmas.Bool.cases_eq}
use Rattle.std.{proofs.Math.Seq.drop-length, specs.List.{AllByRecursion, flat_map, range_with_len}}
use Rattle.mm_word.specs.declared.word.Word.TheVariants.{Ptr}
use Rattle.mm_model.{specs.Slot.{Slot, register, is_empty}, proofs.Sames.pair_self}
use Rattle.mm_log.specs.Lines.{Line, Line.{Points, Enters, Issues}}
use Rattle.mm_log.specs.Changes.{state_changes, register_changes, register_now, load_changes, slot_changes}
use Rattle.mm_log.{specs.Changes.changes_between, proofs.{Runs.flat_none, Sames.state_self}}

module _ (f : ℕ → List Line) where
  pub none_from : (first count : ℕ) → ((k : ℕ) → first ≤ k → f k ≡ []) → flat_map f (range_with_len first count) ≡ []
  none_from first zero h = refl
  none_from first (suc count) h = ap (λ l. l ++ flat_map f (range_with_len (first + 1) count)) (h first (omega arith)) ∙ none_from (first + 1) count (λ k low. h k (omega arith))

  pub no_number : ((k : ℕ) → f k ≡ []) → flat_map f (range_with_len 0 64) ≡ []
  no_number h = none_from 0 64 (λ k low. h k)

  pub one_from : (a first count : ℕ) → ((k : ℕ) → k ≢ a → f k ≡ []) → first ≤ a → a < first + count → flat_map f (range_with_len first count) ≡ f a
  one_from a first zero h low high = absurd (omega arith)
  one_from a first (suc count) h low high = elim (cases_eq first a) [
    | inl e ↦
        ap (λ l. f first ++ l) (none_from (first + 1) count (λ k up. h k (let ne : k ≢ a = omega arith in ne)))
        ∙ append-nil (f first) ∙ ap f e
    | inr ne ↦ ap (λ l. l ++ flat_map f (range_with_len (first + 1) count)) (h first ne) ∙ one_from a (first + 1) count h (omega arith) (omega arith)
  ]

  pub one_number : (a : ℕ) → a < 64 → ((k : ℕ) → k ≢ a → f k ≡ []) → flat_map f (range_with_len 0 64) ≡ f a
  one_number a few h = one_from a 0 64 h (omega arith) (omega (arith, few))

  two_from : (a b first count : ℕ) → a < b → ((k : ℕ) → k ≢ a → k ≢ b → f k ≡ []) → first ≤ a → b < first + count → flat_map f (range_with_len first count) ≡ f a ++ f b
  two_from a b first zero lt h low high = absurd (omega arith)
  two_from a b first (suc count) lt h low high = elim (cases_eq first a) [
    | inl e ↦ ap (λ l. f first ++ l) (one_later e) ∙ ap (λ k. f k ++ f b) e
    | inr ne ↦
        let apart : first ≢ b = omega arith in
        ap (λ l. l ++ flat_map f (range_with_len (first + 1) count)) (h first ne apart) ∙ two_from a b (first + 1) count lt h (omega arith) (omega arith)
  ]
    where
      later : (first count : ℕ) → a < first → first ≤ b → b < first + count → flat_map f (range_with_len first count) ≡ f b
      later first zero up low high = absurd (omega arith)
      later first (suc count) up low high = elim (cases_eq first b) [
        | inl e ↦
            ap (λ l. f first ++ l) (none_from (first + 1) count (λ k above. h k (let ne : k ≢ a = omega arith in ne) (let ne : k ≢ b = omega arith in ne)))
            ∙ append-nil (f first) ∙ ap f e
        | inr ne ↦
            let apart : first ≢ a = omega arith in
            ap (λ l. l ++ flat_map f (range_with_len (first + 1) count)) (h first apart ne) ∙ later (first + 1) count (omega arith) (omega arith) (omega arith)
      ]

      one_later : first ≡ a → flat_map f (range_with_len (first + 1) count) ≡ f b
      one_later e = later (first + 1) count (omega arith) (omega arith) (omega arith)

  pub two_numbers : (a b : ℕ) → a < b → b < 64 → ((k : ℕ) → k ≢ a → k ≢ b → f k ≡ []) → flat_map f (range_with_len 0 64) ≡ f a ++ f b
  two_numbers a b lt few h = two_from a b 0 64 lt h (omega arith) (omega (arith, few))

pub each_none : {A : Type 0} (f : A → List Line) → ((x : A) → f x ≡ []) → (xs : List A) → AllByRecursion (λ x. f x ≡ []) xs
each_none f h [] = tt
each_none f h (x ∷ xs) = (h x, each_none f h xs)

-- nothing changes of a slot that stays the same
pub slot_self : (s : Slot) → slot_changes s s ≡ []
unfolding slot_changes
slot_self s =
    ap (λ b. (if b then [] else Points s.number s.ip s.past ∷ []) ++ state_changes s s ++ flat_map (register_changes s s) (range_with_len 0 16) ++ load_changes s s) (pair_self (Ptr s.ip) s.past)
    ∙ ap (λ b. (if b then [] else Enters s.number s.state ∷ []) ++ flat_map (register_changes s s) (range_with_len 0 16) ++ load_changes s s) (state_self s.state)
    ∙ ap (λ l. l ++ load_changes s s) (flat_none (register_changes s s) (range_with_len 0 16)
    (each_none (register_changes s s) (λ r. ap (λ b. if b then [] else register_now s r ∷ [])
    (pair_self (register s r) (is_empty s r))) (range_with_len 0 16)))
    ∙ ap (map (Issues s.number)) (drop-length s.pending)

pub changes_self : (o : Option Slot) → changes_between o o ≡ []
changes_self None = refl
changes_self (Some s) = slot_self s

pub changes_none : (a b : Option Slot) → b ≡ a → changes_between a b ≡ []
changes_none a b e = ap (changes_between a) e ∙ changes_self a
