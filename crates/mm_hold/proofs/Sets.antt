-- Sets that grow key by key, and lists of which more is taken.
use Rattle.std.proofs.Common.{◌≡◌, ◌⊎◌, inl, inr, ℕ, ◌+◌, ◌<◌, List, [], ◌∷◌, ◌++◌, length, take, get_or, Some, slice_get, refl}
use Rattle.std.proofs.Common.{Result, Ok, Err, sym, ap, ◌∙◌, subst}
use Rattle.std.proofs.lemmas.{Option.{slice_get_within, get_or_from_slice_get}, List.take_more}
use Rattle.std.proofs.lemmas.List.Elements.{Contains-append_left, Contains-push, Contains-push_cases}
use Rattle.std.proofs.lemmas.Map.Lookups.{CmpEqualImpliesEq, exact_pairs, exact_unsigned}
use Rattle.std.specs.declared.cmp.Ordering.{Ordering, TheVariants.{Less, Equal, Greater}}
use Rattle.std.specs.{Prelude.{Contains, OnOk}, Ordering.{match_ordering, nat_cmp, ordering_then}, BTreeSet.insert_key, List.flat_map}
use Rattle.mm_span.proofs.Members.{none_in, in_first, in_rest, in_cases, in_flat, flat_in}
use Rattle.mm_hold.specs.Conducts.{AreAll}

-- 1. Keys.

module _ {K : Type 0} (cmp : K → K → Ordering) (exact : CmpEqualImpliesEq cmp) where
  has_new : (keys : List K) (key : K) → Contains (insert_key cmp keys key) key
  has_new [] key = in_first key []
  has_new (k ∷ keys) key = by (has_new keys key) (cmp key k) refl
    where
      by : Contains (insert_key cmp keys key) key → (o : Ordering) → cmp key k ≡ o
          → Contains (match_ordering o (key ∷ k ∷ keys) (k ∷ keys) (k ∷ insert_key cmp keys key)) key
      by rest Less e = in_first key (k ∷ keys)
      by rest Equal e = subst (Contains (k ∷ keys)) (sym (exact key k e)) (in_first k keys)
      by rest Greater e = in_rest k (insert_key cmp keys key) key rest

  has_old : (keys : List K) (key x : K) → Contains keys x → Contains (insert_key cmp keys key) x
  has_old [] key x h = absurd (none_in x h)
  has_old (k ∷ keys) key x h = by (has_old keys key x) (cmp key k)
    where
      by : (Contains keys x → Contains (insert_key cmp keys key) x) → (o : Ordering)
          → Contains (match_ordering o (key ∷ k ∷ keys) (k ∷ keys) (k ∷ insert_key cmp keys key)) x
      by rest Less = in_rest key (k ∷ keys) x h
      by rest Equal = h
      by rest Greater = elim (in_cases k keys x h) [
        | inl e ↦ subst (Contains (k ∷ insert_key cmp keys key)) e (in_first k (insert_key cmp keys key))
        | inr later ↦ in_rest k (insert_key cmp keys key) x (rest later)
      ]

  has_only : (keys : List K) (key x : K) → Contains (insert_key cmp keys key) x → Contains keys x ⊎ (key ≡ x)
  has_only [] key x h = elim (in_cases key [] x h) [ inl e ↦ inr e | inr later ↦ inl later ]
  has_only (k ∷ keys) key x h = by (has_only keys key x) (cmp key k) h
    where
      by : (Contains (insert_key cmp keys key) x → Contains keys x ⊎ (key ≡ x)) → (o : Ordering)
          → Contains (match_ordering o (key ∷ k ∷ keys) (k ∷ keys) (k ∷ insert_key cmp keys key)) x
          → Contains (k ∷ keys) x ⊎ (key ≡ x)
      by rest Less there = elim (in_cases key (k ∷ keys) x there) [ inl e ↦ inr e | inr later ↦ inl later ]
      by rest Equal there = inl there
      by rest Greater there = elim (in_cases k (insert_key cmp keys key) x there) [
        | inl e ↦ inl (subst (Contains (k ∷ keys)) e (in_first k keys))
        | inr later ↦ elim (rest later) [
          | inl old ↦ inl (in_rest k keys x old)
          | inr e ↦ inr e
        ]
      ]

  pub all_inserted : (old : List K) (key : K) → AreAll (λ x. Contains old x ⊎ Contains (key ∷ []) x) (insert_key cmp old key)
  all_inserted old key = record {
    each = λ x. (
      λ h. elim (has_only old key x h) [
        | inl there ↦ inl there
        | inr e ↦ inr (subst (Contains (key ∷ [])) e (in_first key []))
      ],
      λ h. elim h [
        | inl there ↦ has_old old key x there
        | inr one ↦ elim (in_cases key [] x one) [
          | inl e ↦ subst (Contains (insert_key cmp old key)) e (has_new old key)
          | inr none ↦ absurd (none_in x none)
        ]
      ],
    );
  }

exact_twos : {A B : Type 0} (P : A → A → Ordering) (Q : B → B → Ordering) → CmpEqualImpliesEq P → CmpEqualImpliesEq Q
    → CmpEqualImpliesEq (λ (x y : A × B). ordering_then (P x.0 y.0) (Q x.1 y.1))
exact_twos P Q p q = exact_pairs P Q p q

abbrev two_cmp : ℕ × ℕ → ℕ × ℕ → Ordering
two_cmp x y = ordering_then (nat_cmp x.0 y.0) (nat_cmp x.1 y.1)

exact_two : CmpEqualImpliesEq two_cmp
exact_two = exact_twos nat_cmp nat_cmp exact_unsigned exact_unsigned

-- one key more, of each kind
pub word_added : (old : List ℕ) (w : ℕ) → AreAll (λ x. Contains old x ⊎ Contains (w ∷ []) x) (insert_key nat_cmp old w)
word_added = all_inserted nat_cmp exact_unsigned

pub pair_added : (old : List (ℕ × ℕ)) (key : ℕ × ℕ) → AreAll (λ x. Contains old x ⊎ Contains (key ∷ []) x)
    (insert_key (λ (x y : ℕ × ℕ). ordering_then (nat_cmp x.0 y.0) (nat_cmp x.1 y.1)) old key)
pair_added = all_inserted two_cmp exact_two

pub first_added : (old : List ((ℕ × ℕ) × ℕ)) (key : (ℕ × ℕ) × ℕ) → AreAll (λ x. Contains old x ⊎ Contains (key ∷ []) x)
    (insert_key (λ (x y : (ℕ × ℕ) × ℕ). ordering_then (ordering_then (nat_cmp x.0.0 y.0.0) (nat_cmp x.0.1 y.0.1)) (nat_cmp x.1 y.1)) old key)
first_added = all_inserted (λ (x y : (ℕ × ℕ) × ℕ). ordering_then (two_cmp x.0 y.0) (nat_cmp x.1 y.1)) (exact_twos two_cmp nat_cmp exact_two exact_unsigned)

pub last_added : (old : List (ℕ × (ℕ × ℕ))) (key : ℕ × (ℕ × ℕ)) → AreAll (λ x. Contains old x ⊎ Contains (key ∷ []) x)
    (insert_key (λ (x y : ℕ × (ℕ × ℕ)). ordering_then (nat_cmp x.0 y.0) (ordering_then (nat_cmp x.1.0 y.1.0) (nat_cmp x.1.1 y.1.1))) old key)
last_added = all_inserted (λ (x y : ℕ × (ℕ × ℕ)). ordering_then (nat_cmp x.0 y.0) (two_cmp x.1 y.1)) (exact_twos nat_cmp two_cmp exact_unsigned exact_two)

-- 2. What is said of all keys.

pub all_as : {K : Type 0} (P Q : K → Type 0) (keys : List K) → ((x : K) → P x → Q x) → ((x : K) → Q x → P x)
    → AreAll P keys → AreAll Q keys
all_as P Q keys to back h = record { each = λ x. (λ there. to x ((h.each x).0 there), λ q. (h.each x).1 (back x q)) }

-- nothing is added
pub all_same : {K : Type 0} (keys : List K) → AreAll (λ x. Contains keys x ⊎ Contains [] x) keys
all_same keys = record {
  each = λ x. (
    λ there. inl there,
    λ h. elim h [
      | inl there ↦ there
      | inr none ↦ absurd (none_in x none)
    ],
  );
}

-- one thing is added, and then another
pub all_then : {K : Type 0} (P Q R : K → Type 0) (a b c : List K) → ((x : K) → P x → R x) → ((x : K) → Q x → R x) → ((x : K) → R x → P x ⊎ Q x)
    → AreAll (λ x. Contains a x ⊎ P x) b → AreAll (λ x. Contains b x ⊎ Q x) c → AreAll (λ x. Contains a x ⊎ R x) c
all_then P Q R a b c p q r h k = record {
  each = λ x. (
    λ there. elim ((k.each x).0 there) [
      | inl before ↦ elim ((h.each x).0 before) [ inl old ↦ inl old | inr one ↦ inr (p x one) ]
      | inr two ↦ inr (q x two)
    ],
    λ is. elim is [
      | inl old ↦ (k.each x).1 (inl ((h.each x).1 (inl old)))
      | inr some ↦ elim (r x some) [
        | inl one ↦ (k.each x).1 (inl ((h.each x).1 (inr one)))
        | inr two ↦ (k.each x).1 (inr two)
      ]
    ],
  );
}

-- 3. One item more.

pub take_got : {A : Type 0} (xs : List A) (i : ℕ) (x : A) → slice_get xs i ≡ Some x → take (i + 1) xs ≡ take i xs ++ x ∷ []
take_got xs i x is =
    take_more xs i x (slice_get_within xs i x is) ∙ ap (λ y. take i xs ++ y ∷ []) (get_or_from_slice_get xs i x x is)

pub take_item : {A : Type 0} (xs : List A) (i : ℕ) (x : A) → i < length xs → x ≡ get_or xs i x → take (i + 1) xs ≡ take i xs ++ x ∷ []
take_item xs i x inside is = take_more xs i x inside ∙ ap (λ y. take i xs ++ y ∷ []) (sym is)

module _ {A : Type 0} (xs ys : List A) (x : A) (is : ys ≡ xs ++ x ∷ []) where
  pub got_old : (y : A) → Contains xs y → Contains ys y
  got_old y h = subst (λ l. Contains l y) (sym is) (Contains-append_left xs (x ∷ []) y h)

  pub got_new : Contains ys x
  got_new = subst (λ l. Contains l x) (sym is) (Contains-push xs x)

  pub got_cases : (y : A) → Contains ys y → Contains xs y ⊎ (x ≡ y)
  got_cases y h = Contains-push_cases xs x y (subst (λ l. Contains l y) is h)

-- 4. What holds at `Ok`.

pub then_ok : {T E : Type 0} {P Q : Type 0} (r : Result T E) → (P → Q) → OnOk r P → OnOk r Q
then_ok (Ok x) f h = f h
then_ok (Err e) f h = tt

-- 5. What each element of a list gives.

pub all_flat_none : {X K : Type 0} (of : X → List K) (keys : List K) → keys ≡ [] → AreAll (Contains (flat_map of [])) keys
all_flat_none of keys is = record { each = λ x. (λ h. subst (λ l. Contains l x) is h, λ h. absurd (none_in x h)) }

pub all_flat_more : {X K : Type 0} (of : X → List K) (xs ys : List X) (x : X) (old new : List K) → ys ≡ xs ++ x ∷ [] → AreAll (Contains (flat_map of xs)) old
    → AreAll (λ e. Contains old e ⊎ Contains (of x) e) new → AreAll (Contains (flat_map of ys)) new
all_flat_more of xs ys x old new is h k = record {
  each = λ e. (
    λ there. elim ((k.each e).0 there) [
      | inl before ↦ let w = flat_in of xs e ((h.each e).0 before) in in_flat of ys w.source e (got_old xs ys x is w.source w.inside) w.has
      | inr now ↦ in_flat of ys x e (got_new xs ys x is) now
    ],
    λ given.
        let w = flat_in of ys e given in
        elim (got_cases xs ys x is w.source w.inside) [
          | inl before ↦ (k.each e).1 (inl ((h.each e).1 (in_flat of xs w.source e before w.has)))
          | inr same ↦ (k.each e).1 (inr (subst (λ v. Contains (of v) e) (sym same) w.has))
        ],
  );
}
