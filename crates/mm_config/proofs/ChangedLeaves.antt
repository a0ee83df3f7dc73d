-- The leaves in which one tree differs from another, what they are names of, and lists of what was read of them.
use Rattle.std.proofs.Common.{◌≡◌, ◌⊎◌, inl, inr, ℕ, zero, suc, ◌+◌, ◌<◌, ◌≤◌, List, [], ◌∷◌, map, length, slice_get, slice_index_or, Some, refl, sym, ap, ◌∙◌, subst, arith}
use Rattle.std.proofs.lemmas.{Bool.{cases_eq, cases_lt}, Option.{slice_get-get_or, slice_get_past}}
use Rattle.std.specs.List.{AllByRecursion, AllZip}
use Rattle.mm_pairs.{specs.Trees.{leaves, changed}, proofs.Names.length_leaves}
use Rattle.mm_config.specs.{Naming.{AreLeaves, IsOrNone, leaf_at}, Reaching.IsListed}
use Rattle.mm_config.proofs.Walks.{change_is, change_at}

-- 1. Leaves.

module _ {A : Type 0} (Is : A → ℕ → Type 0) (d : A) (xs : List A) (pairs : List (ℕ × ℕ)) (depth n : ℕ) (h : AreLeaves Is xs pairs depth n) where
  pub leaf_named : (p : ℕ) → p < length xs → Is (slice_index_or xs p d) (leaf_at pairs depth n p)
  leaf_named p lt = subst (λ o. IsOrNone Is o (leaf_at pairs depth n p)) (slice_get-get_or xs p d lt) (h.each p)

  pub none_past : (p : ℕ) → length xs ≤ p → leaf_at pairs depth n p ≡ 0
  none_past p high = subst (λ o. IsOrNone Is o (leaf_at pairs depth n p)) (slice_get_past xs p high) (h.each p)

module _ {A : Type 0} (Is : A → ℕ → Type 0) (d : A) (xs ys : List A) (pairs : List (ℕ × ℕ)) (depth n m : ℕ)
    (hx : AreLeaves Is xs pairs depth n) (hy : AreLeaves Is ys pairs depth m) (many : length xs ≡ length ys) where
  long : length (leaves pairs depth n) ≡ length (leaves pairs depth m)
  long = length_leaves pairs depth n ∙ sym (length_leaves pairs depth m)

  -- a change is to the name of what is at its place, from another
  pub entry : (j : ℕ) (e : ℕ × ℕ) → slice_get (changed 0 (leaves pairs depth n) (leaves pairs depth m)) j ≡ Some e
      → (e.0 < length ys) × Is (slice_index_or ys e.0 d) e.1 × (leaf_at pairs depth n e.0 ≡ leaf_at pairs depth m e.0 → ⊥)
  entry j e got =
      let c = change_is 0 (leaves pairs depth n) (leaves pairs depth m) long j e got in
      let none : 0 + c.place ≡ c.place = omega arith in
      let place : e.0 ≡ c.place = ap (λ (x : ℕ × ℕ). x.0) c.is ∙ none in
      let name : e.1 ≡ leaf_at pairs depth m c.place = ap (λ (x : ℕ × ℕ). x.1) c.is in
      elim (cases_lt c.place (length ys)) [
        | inl lt ↦ (
          omega (arith, place, lt),
          subst (λ p. Is (slice_index_or ys p d) e.1) (sym place) (subst (Is (slice_index_or ys c.place d)) (sym name) (leaf_named Is d ys pairs depth m hy c.place lt)),
          λ same. c.differs (ap (leaf_at pairs depth n) (sym place) ∙ same ∙ ap (leaf_at pairs depth m) place),
        )
        | inr high ↦ absurd (c.differs (none_past Is d xs pairs depth n hx c.place (omega (arith, high, many)) ∙ sym (none_past Is d ys pairs depth m hy c.place high)))
      ]

  -- a place is changed, or its names are the same
  pub left : (p : ℕ) → p < length ys
      → ((j : ℕ) × (slice_get (changed 0 (leaves pairs depth n) (leaves pairs depth m)) j ≡ Some (p, leaf_at pairs depth m p))) ⊎ (leaf_at pairs depth n p ≡ leaf_at pairs depth m p)
  left p lt = elim (cases_eq (leaf_at pairs depth n p) (leaf_at pairs depth m p)) [
    | inl same ↦ inr same
    | inr other ↦
        let wide = hy.wide in
        let all = length_leaves pairs depth m in
        let at = change_at 0 (leaves pairs depth n) (leaves pairs depth m) long p (omega (arith, lt, wide, all)) other in
        let first : 0 + p ≡ p = omega arith in
        inl (at.0, at.1 ∙ ap (λ q. Some (q, leaf_at pairs depth m p)) first)
  ]

-- 2. What was read of changes.

-- what holds of each, at its index, holds of all
pub all_at : {A : Type 0} (P : A → Type 0) (xs : List A) → ((j : ℕ) (x : A) → slice_get xs j ≡ Some x → P x) → AllByRecursion P xs
all_at P [] h = tt
all_at P (x ∷ xs) h = (h 0 x refl, all_at P xs (λ j y got. h (suc j) y got))

pub all_map : {A B : Type 0} (f : A → B) (P : B → Type 0) (xs : List A) → AllByRecursion (λ x. P (f x)) xs → AllByRecursion P (map f xs)
all_map f P [] h = tt
all_map f P (x ∷ xs) h = (h.0, all_map f P xs h.1)

pub listed_map : {B : Type 0} (f : ℕ × ℕ → B) (of : B → ℕ) → ((e : ℕ × ℕ) → of (f e) ≡ e.0) → (xs : List (ℕ × ℕ)) (j : ℕ) (e : ℕ × ℕ) → slice_get xs j ≡ Some e → IsListed of e.0 (map f xs)
listed_map f of same [] j e got = cc
listed_map f of same (x ∷ xs) zero e got = let one : x ≡ e = cc in inl (same x ∙ ap (λ (y : ℕ × ℕ). y.0) one)
listed_map f of same (x ∷ xs) (suc j) e got = inr (listed_map f of same xs j e got)

module _ {B : Type 0} (of : B → ℕ) (R : ℕ × ℕ → B → Type 0) where
  pub listed_zip : ((e : ℕ × ℕ) (x : B) → R e x → of x ≡ e.0) → (es : List (ℕ × ℕ)) (xs : List B) → AllZip R es xs → (j : ℕ) (e : ℕ × ℕ) → slice_get es j ≡ Some e → IsListed of e.0 xs
  listed_zip same [] [] h j e got = cc
  listed_zip same [] (x ∷ xs) h j e got = absurd h
  listed_zip same (d ∷ es) [] h j e got = absurd h
  listed_zip same (d ∷ es) (x ∷ xs) h zero e got = let one : d ≡ e = cc in inl (same d x h.0 ∙ ap (λ (y : ℕ × ℕ). y.0) one)
  listed_zip same (d ∷ es) (x ∷ xs) h (suc j) e got = inr (listed_zip same es xs h.1 j e got)

  pub all_zip : (P : ℕ × ℕ → Type 0) (Q : B → Type 0) → ((e : ℕ × ℕ) (x : B) → P e → R e x → Q x) → (es : List (ℕ × ℕ)) (xs : List B) → AllByRecursion P es → AllZip R es xs → AllByRecursion Q xs
  all_zip P Q f [] [] h k = tt
  all_zip P Q f [] (x ∷ xs) h k = absurd k
  all_zip P Q f (d ∷ es) [] h k = absurd k
  all_zip P Q f (d ∷ es) (x ∷ xs) h k = (f d x h.0 k.0, all_zip P Q f es xs h.1 k.1)
