-- What is found, and what is found once there is one more.
use Rattle.std.proofs.Common.{◌≡◌, ◌≢◌, ◌⊎◌, inl, inr, ℕ, zero, suc, Bool, true, false, List, [], ◌∷◌, ◌++◌, length, slice_get, Option, None, Some, refl, sym, ap, ◌∙◌, subst}
use Rattle.std.proofs.lemmas.{Bool.cases_eq}
use Rattle.mm_pairs.specs.Found.{IsAbsent, AreFound, same_pair}
use Rattle.mm_pairs.proofs.Inserts.{is_same, own_pair}

-- 1. A list with one more at its end.

got_front : {A : Type 0} (xs : List A) (x y : A) (at : ℕ) → slice_get xs at ≡ Some y → slice_get (xs ++ x ∷ []) at ≡ Some y
got_front [] x y at e = cc
got_front (z ∷ xs) x y zero e = e
got_front (z ∷ xs) x y (suc at) e = got_front xs x y at e

pub got_last : {A : Type 0} (xs : List A) (x : A) → slice_get (xs ++ x ∷ []) (length xs) ≡ Some x
got_last [] x = refl
got_last (z ∷ xs) x = got_last xs x

got_either : {A : Type 0} (xs : List A) (x y : A) (at : ℕ) → slice_get (xs ++ x ∷ []) at ≡ Some y → (slice_get xs at ≡ Some y) ⊎ ((at ≡ length xs) × (x ≡ y))
got_either [] x y zero e = inr (refl, cc)
got_either [] x y (suc at) e = cc
got_either (z ∷ xs) x y zero e = inl e
got_either (z ∷ xs) x y (suc at) e = elim (got_either xs x y at e) [ inl front ↦ inl front | inr last ↦ inr (ap suc last.0, last.1) ]

-- 2. What is found.

module _ {A : Type 0} (number : A → ℕ) (kept : List A) (first : ℕ → ℕ) (rest : A → Option ℕ) (h : AreFound number kept first rest) where
  -- nothing has the number
  pub absent_first : (x : A) → first (number x) ≡ 0 → IsAbsent kept x
  absent_first x none at got = elim (h.each x at got) [ inl here ↦ cc | inr here ↦ (h.later x at here).1 none ]

  -- the earliest with the number is another, and it is none of the others
  pub absent_later : (x y : A) (at : ℕ) → first (number x) ≡ suc at → slice_get kept at ≡ Some y → (y ≡ x → ⊥) → rest x ≡ None → IsAbsent kept x
  absent_later x y at is got other none k there = elim (h.each x k there) [
    | inl here ↦ let same : at ≡ k = cc in let both : slice_get kept k ≡ Some y = subst (λ n. slice_get kept n ≡ Some y) same got in other (cc)
    | inr here ↦ cc
  ]

  -- other functions that say the same
  pub same_found : (now : ℕ → ℕ) (later : A → Option ℕ) → ((n : ℕ) → now n ≡ first n) → ((x : A) → later x ≡ rest x) → AreFound number kept now later
  same_found now later f r = record {
    earliest = λ n at e. h.earliest n at (sym (f n) ∙ e);
    later = λ x at e. let w = h.later x at (sym (r x) ∙ e) in (w.0, λ none. w.1 (sym (f (number x)) ∙ none));
    each = λ x at got. elim (h.each x at got) [ inl e ↦ inl (f (number x) ∙ e) | inr e ↦ inr (r x ∙ e) ];
  }

  -- one more, the earliest with its number
  pub more_first : (x : A) (now : ℕ → ℕ) → first (number x) ≡ 0 → now (number x) ≡ suc (length kept) → ((n : ℕ) → n ≢ number x → now n ≡ first n)
      → AreFound number (kept ++ x ∷ []) now rest
  more_first x now none here others = record {
    earliest = λ n at e. elim (cases_eq n (number x)) [
      | inl same ↦
          let now_here : now n ≡ suc (length kept) = ap now same ∙ here in
          let is : at ≡ length kept = cc in
          (x, subst (λ k. slice_get (kept ++ x ∷ []) k ≡ Some x) (sym is) (got_last kept x), sym same)
      | inr other ↦ let w = h.earliest n at (sym (others n other) ∙ e) in (w.0, got_front kept x w.0 at w.1, w.2)
    ];
    later = λ y at e. let w = h.later y at e in (
      got_front kept x y at w.0,
      λ zero_now. w.1 (elim (cases_eq (number y) (number x)) [
        | inl same ↦ ap first same ∙ none
        | inr other ↦ sym (others (number y) other) ∙ zero_now
      ]),
    );
    each = λ y at got. elim (got_either kept x y at got) [
      | inl front ↦ elim (h.each y at front) [
        | inl e ↦ inl (others (number y) (λ same. let was : first (number y) ≡ 0 = ap first same ∙ none in cc) ∙ e)
        | inr e ↦ inr e
      ]
      | inr last ↦ inl (ap (λ z. now (number z)) (sym last.1) ∙ here ∙ ap suc (sym last.0))
    ];
  }

  -- one more, with a number that another has
  pub more_later : (equal : (a b : A) → (a ≡ b) ⊎ (a ≡ b → ⊥)) (x : A) (later : A → Option ℕ) → IsAbsent kept x → first (number x) ≢ 0 → later x ≡ Some (length kept)
      → ((y : A) → y ≢ x → later y ≡ rest y) → AreFound number (kept ++ x ∷ []) first later
  more_later equal x later absent some here others = record {
    earliest = λ n at e. let w = h.earliest n at e in (w.0, got_front kept x w.0 at w.1, w.2);
    later = λ y at e. elim (equal y x) [
      | inl same ↦
          let now_here : later y ≡ Some (length kept) = ap later same ∙ here in
          let is : at ≡ length kept = cc in
          (subst (λ k. slice_get (kept ++ x ∷ []) k ≡ Some y) (sym is) (got_last kept x ∙ ap Some (sym same)), λ none. some (ap (λ z. first (number z)) (sym same) ∙ none))
      | inr other ↦ let w = h.later y at (sym (others y other) ∙ e) in (got_front kept x y at w.0, w.1)
    ];
    each = λ y at got. elim (got_either kept x y at got) [
      | inl front ↦ elim (h.each y at front) [
        | inl e ↦ inl e
        | inr e ↦ inr (others y (λ same. absent at (front ∙ ap Some same)) ∙ e)
      ]
      | inr last ↦ inr (ap later (sym last.1) ∙ here ∙ ap Some (sym last.0))
    ];
  }

-- 3. Pairs.

pub equal_pairs : (a b : ℕ × ℕ) → (a ≡ b) ⊎ (a ≡ b → ⊥)
equal_pairs a b = by (same_pair a b) refl
  where
    by : (t : Bool) → same_pair a b ≡ t → (a ≡ b) ⊎ (a ≡ b → ⊥)
    by true e = inl (is_same a b e)
    by false e = inr (λ same. let yes = own_pair a b same in cc)

pub other_pair : (a b : ℕ × ℕ) → a ≢ b → same_pair b a ≡ false
other_pair a b ne = by (same_pair b a) refl
  where
    by : (t : Bool) → same_pair b a ≡ t → same_pair b a ≡ false
    by true e = absurd (ne (sym (is_same b a e)))
    by false e = e
