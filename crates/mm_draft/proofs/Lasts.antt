-- The last item of a list, and what becomes of a draft's counts when it changes.
use Rattle.std.proofs.Common.{◌≡◌, ℕ, suc, ◌+◌, ◌-◌, ◌<◌, false, not, is_some, List, [], ◌∷◌, ◌++◌, length, get_or}
use Rattle.std.proofs.Common.{Some, None, refl, sym, ap, ◌∙◌, arith, append_assoc, length-append}
use Rattle.std.proofs.{Math.ListN.set, lemmas.{Option.slice_get_read, Bool.Decides.nat_tests}}
use Rattle.std.specs.Prelude.{slice_get, ◌==◌}
use Rattle.mm_draft.specs.declared.segment.Word.{Word}
use Rattle.mm_draft.specs.Drafts.{Segment, last, change_last, with_words, words_of, pointers_of, pointers_among}

module _ {A : Type 0} where
  pub last_at : (xs : List A) → last xs ≡ slice_get xs (length xs - 1)
  last_at [] = refl
  last_at (x ∷ []) = refl
  last_at (x ∷ y ∷ rest) =
      let e : length (x ∷ y ∷ rest) - 1 ≡ suc (length (y ∷ rest) - 1) = omega arith in
      rw e (last_at (y ∷ rest))

  pub last_is : (xs : List A) (x : A) → slice_get xs (length xs - 1) ≡ Some x → last xs ≡ Some x
  last_is xs x e = last_at xs ∙ e

  pub has_last : (xs : List A) → is_some (last xs) ≡ not (length xs == 0)
  has_last [] = refl
  has_last (x ∷ []) = refl
  has_last (x ∷ y ∷ rest) =
      let a : (length (y ∷ rest) == 0) ≡ false = grind (arith, nat_tests) in
      let b : (length (x ∷ y ∷ rest) == 0) ≡ false = grind (arith, nat_tests) in
      has_last (y ∷ rest) ∙ ap not a ∙ sym (ap not b)

  pub change_last_at : (f : A → A) (xs : List A) (x : A) → last xs ≡ Some x → change_last f xs ≡ set xs (length xs - 1) (f x)
  change_last_at f [] x e = refl
  change_last_at f (y ∷ []) x e = let s : y ≡ x = cc in ap (λ z. f z ∷ []) s
  change_last_at f (y ∷ z ∷ rest) x e =
      let s : length (y ∷ z ∷ rest) - 1 ≡ suc (length (z ∷ rest) - 1) = omega arith in
      rw s (ap (λ r. y ∷ r) (change_last_at f (z ∷ rest) x e))

  pub last_read : (xs : List A) (n : ℕ) (x : A) → n ≡ length xs → 0 < n → x ≡ get_or xs (n - 1) x → last xs ≡ Some x
  last_read xs n x e some at =
      let i : n - 1 < n = omega arith in
      last_is xs x (ap (λ m. slice_get xs (m - 1)) (sym e) ∙ slice_get_read xs n (n - 1) x e i at)

  pub set_last : (f : A → A) (xs : List A) (n : ℕ) (x y : A) → n ≡ length xs → last xs ≡ Some x → y ≡ f x → set xs (n - 1) y ≡ change_last f xs
  set_last f xs n x y e l is = ap (λ m. set xs (m - 1) y) e ∙ ap (set xs (length xs - 1)) is ∙ sym (change_last_at f xs x l)

  pub change_last_none : (f : A → A) (xs : List A) → last xs ≡ None → change_last f xs ≡ xs
  change_last_none f [] e = refl
  change_last_none f (y ∷ []) e = cc
  change_last_none f (y ∷ z ∷ rest) e = ap (λ r. y ∷ r) (change_last_none f (z ∷ rest) e)

pub pointers_append : (ws vs : List Word) → pointers_among (ws ++ vs) ≡ pointers_among ws + pointers_among vs
pointers_append [] vs = omega arith
pointers_append (w ∷ ws) vs = omega (arith, pointers_append ws vs)

-- words at the end of the last segment are counted
pub words_more : (ws : List Word) (xs : List Segment) (x : Segment) → last xs ≡ Some x → words_of (change_last (with_words ws) xs) ≡ words_of xs + length ws
words_more ws [] x e = cc
words_more ws (y ∷ []) x e = omega (arith, length-append y.words ws)
words_more ws (y ∷ z ∷ rest) x e = omega (arith, words_more ws (z ∷ rest) x e)

pub pointers_more : (ws : List Word) (xs : List Segment) (x : Segment) → last xs ≡ Some x → pointers_of (change_last (with_words ws) xs) ≡ pointers_of xs + pointers_among ws
pointers_more ws [] x e = cc
pointers_more ws (y ∷ []) x e = omega (arith, pointers_append y.words ws)
pointers_more ws (y ∷ z ∷ rest) x e = omega (arith, pointers_more ws (z ∷ rest) x e)

-- a new segment has no words yet
pub words_begin : (xs : List Segment) (s : Segment) → s.words ≡ [] → words_of (xs ++ s ∷ []) ≡ words_of xs
words_begin [] s e = rw e (omega arith)
words_begin (x ∷ xs) s e = omega (arith, words_begin xs s e)

pub pointers_begin : (xs : List Segment) (s : Segment) → s.words ≡ [] → pointers_of (xs ++ s ∷ []) ≡ pointers_of xs
pointers_begin [] s e = rw e (omega arith)
pointers_begin (x ∷ xs) s e = omega (arith, pointers_begin xs s e)

-- words one after the other
pub words_twice : (ws vs : List Word) (xs : List Segment) → change_last (with_words vs) (change_last (with_words ws) xs) ≡ change_last (with_words (ws ++ vs)) xs
words_twice ws vs [] = refl
words_twice ws vs (x ∷ []) = ap (λ r. record x { words = r } ∷ []) (append_assoc x.words ws vs)
words_twice ws vs (x ∷ y ∷ []) = ap (λ r. x ∷ record y { words = r } ∷ []) (append_assoc y.words ws vs)
words_twice ws vs (x ∷ y ∷ z ∷ rest) = ap (λ r. x ∷ r) (words_twice ws vs (y ∷ z ∷ rest))
