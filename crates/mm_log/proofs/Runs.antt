-- Lines that are carried out one after the other on a part of a state.
use Rattle.std.proofs.Common.{◌≡◌, ◌≢◌, ℕ, zero, suc, ◌+◌, ◌<◌, ◌≤◌, inl, inr, Bool, true, false, if◌then◌else◌, List}
use Rattle.std.proofs.{Common.{[], ◌∷◌, ◌++◌, map, refl, ap, ◌∙◌, arith}, lemmas.Bool.cases_eq}
use Rattle.std.specs.List.{AllByRecursion, flat_map, range_with_len}
use Rattle.mm_log.specs.Lines.{Line}

-- 1. Facts of each line of a list.

pub all_append : {A : Type 0} (P : A → Type 0) (xs ys : List A) → AllByRecursion P xs → AllByRecursion P ys → AllByRecursion P (xs ++ ys)
all_append P [] ys h k = k
all_append P (x ∷ xs) ys h k = (h.0, all_append P xs ys h.1 k)

pub all_flat : {A B : Type 0} (P : B → Type 0) (f : A → List B) → ((x : A) → AllByRecursion P (f x)) → (xs : List A) → AllByRecursion P (flat_map f xs)
all_flat P f h [] = tt
all_flat P f h (x ∷ xs) = all_append P (f x) (flat_map f xs) (h x) (all_flat P f h xs)

pub all_map : {A B : Type 0} (P : B → Type 0) (f : A → B) → ((x : A) → P (f x)) → (xs : List A) → AllByRecursion P (map f xs)
all_map P f h [] = tt
all_map P f h (x ∷ xs) = (h x, all_map P f h xs)

pub all_unless : {A : Type 0} (P : A → Type 0) (b : Bool) (x : A) → P x → AllByRecursion P (if b then [] else x ∷ [])
all_unless P true x h = tt
all_unless P false x h = (h, tt)

pub all_where : {A : Type 0} (P : A → Type 0) (b : Bool) (x : A) → P x → AllByRecursion P (if b then x ∷ [] else [])
all_where P true x h = (h, tt)
all_where P false x h = tt

pub flat_none : {A B : Type 0} (f : A → List B) (xs : List A) → AllByRecursion (λ x. f x ≡ []) xs → flat_map f xs ≡ []
flat_none f [] h = refl
flat_none f (x ∷ xs) h = ap (λ l. l ++ flat_map f xs) h.0 ∙ flat_none f xs h.1

-- 2. Lines on a part of a state.

module _ {A : Type 0} (act : Line → A → A) where
  abbrev pub run_on : List Line → A → A
  run_on [] x = x
  run_on (line ∷ lines) x = run_on lines (act line x)

  pub run_append : (xs ys : List Line) (x : A) → run_on (xs ++ ys) x ≡ run_on ys (run_on xs x)
  run_append [] ys x = refl
  run_append (l ∷ xs) ys x = run_append xs ys (act l x)

  -- a line that does nothing to the part
  abbrev pub IsSilent : Line → Type 0
  IsSilent line = (x : A) → act line x ≡ x

  pub run_silent : (lines : List Line) → AllByRecursion IsSilent lines → (x : A) → run_on lines x ≡ x
  run_silent [] h x = refl
  run_silent (l ∷ lines) h x = ap (run_on lines) (h.0 x) ∙ run_silent lines h.1 x

  -- of the lines of numbers that rise only those of one matter
  module _ (f : ℕ → List Line) (n : ℕ) (silent : (k : ℕ) → k ≢ n → AllByRecursion IsSilent (f k)) where
    run_above : (first count : ℕ) → n < first → (x : A) → run_on (flat_map f (range_with_len first count)) x ≡ x
    run_above first zero low x = refl
    run_above first (suc count) low x =
        run_append (f first) (flat_map f (range_with_len (first + 1) count)) x
        ∙ run_above (first + 1) count (omega arith) (run_on (f first) x)
        ∙ run_silent (f first) (silent first (omega arith)) x

    pub run_range : (first count : ℕ) → first ≤ n → n < first + count → (x : A) → run_on (flat_map f (range_with_len first count)) x ≡ run_on (f n) x
    run_range first zero low high x = absurd (omega arith)
    run_range first (suc count) low high x = elim (cases_eq first n) [
      | inl e ↦
          run_append (f first) (flat_map f (range_with_len (first + 1) count)) x
          ∙ run_above (first + 1) count (omega arith) (run_on (f first) x)
          ∙ ap (λ k. run_on (f k) x) e
      | inr ne ↦
          run_append (f first) (flat_map f (range_with_len (first + 1) count)) x
          ∙ run_range (first + 1) count (omega arith) (omega arith) (run_on (f first) x)
          ∙ ap (run_on (f n)) (run_silent (f first) (silent first ne) x)
    ]
