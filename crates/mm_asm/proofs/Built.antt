-- Lists that a loop builds.
use Rattle.std.proofs.Common.{◌≡◌, ℕ, zero, suc, ◌+◌, ◌<◌, List, [], ◌∷◌, length, get_or, take, ◌++◌, sym, ap, ◌∙◌}
use Rattle.std.{proofs.Common.{arith, append_assoc, append-nil}, specs.List.flat_map}
use Rattle.mm_object.proofs.Bools.{flat_map-more}

module _ {A B : Type 0} (f : A → List B) where
  pub pushed : (old mid new : List B) (xs : List A) (i : ℕ) (x : A) → i < length xs → x ≡ get_or xs i x
      → mid ≡ old ++ flat_map f (take i xs) → new ≡ mid ++ f x → new ≡ old ++ flat_map f (take (i + 1) xs)
  pushed old mid new xs i x lt is before now =
      now ∙ ap (λ ys. ys ++ f x) before ∙ append_assoc old (flat_map f (take i xs)) (f x) ∙ ap (λ y. old ++ (flat_map f (take i xs) ++ f y)) is
      ∙ ap (λ ys. old ++ ys) (sym (flat_map-more f xs i x lt))

  pub gathered : (mid new : List B) (xs : List A) (i : ℕ) (x : A) → i < length xs → x ≡ get_or xs i x → mid ≡ flat_map f (take i xs) → new ≡ mid ++ f x → new ≡ flat_map f (take (i + 1) xs)
  gathered mid new xs i x lt is before now = now ∙ ap (λ ys. ys ++ f x) before ∙ ap (λ y. flat_map f (take i xs) ++ f y) is ∙ sym (flat_map-more f xs i x lt)

-- items of numbered items, from a number on
module _ {A B : Type 0} (f : ℕ → A → List B) where
  abbrev pub numbered : ℕ → List A → List B
  numbered k [] = []
  numbered k (x ∷ xs) = f k x ++ numbered (k + 1) xs

  pub numbered_more : (k : ℕ) (xs : List A) (i : ℕ) (d : A) → i < length xs → numbered k (take (i + 1) xs) ≡ numbered k (take i xs) ++ f (k + i) (get_or xs i d)
  numbered_more k [] i d lt = absurd (omega arith)
  numbered_more k (x ∷ xs) zero d lt =
      let same : k + zero ≡ k = omega arith in
      append-nil (f k x) ∙ ap (λ n. f n x) (sym same)
  numbered_more k (x ∷ xs) (suc i) d lt =
      let next : suc i + 1 ≡ suc (i + 1) = omega arith in
      let place : k + 1 + i ≡ k + suc i = omega arith in
      ap (λ n. numbered k (take n (x ∷ xs))) next ∙ ap (λ ys. f k x ++ ys) (numbered_more (k + 1) xs i d (omega arith))
      ∙ sym (append_assoc (f k x) (numbered (k + 1) (take i xs)) (f (k + 1 + i) (get_or xs i d)))
      ∙ ap (λ n. f k x ++ numbered (k + 1) (take i xs) ++ f n (get_or xs i d)) place

  pub numbered_pushed : (old mid new : List B) (xs : List A) (i : ℕ) (x : A) → i < length xs → x ≡ get_or xs i x
      → mid ≡ old ++ numbered 0 (take i xs) → new ≡ mid ++ f i x → new ≡ old ++ numbered 0 (take (i + 1) xs)
  numbered_pushed old mid new xs i x lt is before now =
      let same : 0 + i ≡ i = omega arith in
      now ∙ ap (λ ys. ys ++ f i x) before ∙ append_assoc old (numbered 0 (take i xs)) (f i x)
      ∙ ap (λ y. old ++ (numbered 0 (take i xs) ++ f i y)) is ∙ ap (λ n. old ++ (numbered 0 (take i xs) ++ f n (get_or xs i x))) (sym same)
      ∙ ap (λ ys. old ++ ys) (sym (numbered_more 0 xs i x lt))

  pub numbered_appended : (mid new : List B) (xs : List A) (i : ℕ) (x : A) → i < length xs → x ≡ get_or xs i x → mid ≡ numbered 0 (take i xs) → new ≡ mid ++ f i x → new ≡ numbered 0 (take (i + 1) xs)
  numbered_appended mid new xs i x lt is before now =
      let same : 0 + i ≡ i = omega arith in
      now ∙ ap (λ ys. ys ++ f i x) before
      ∙ ap (λ y. numbered 0 (take i xs) ++ f i y) is ∙ ap (λ n. numbered 0 (take i xs) ++ f n (get_or xs i x)) (sym same)
      ∙ sym (numbered_more 0 xs i x lt)
