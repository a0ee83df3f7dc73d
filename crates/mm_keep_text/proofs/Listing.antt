-- Maps from keys to what they are of, of which the values are listed.
use Rattle.std.proofs.Common.{◌≡◌, ◌⊎◌, inl, inr, ℕ, ◌+◌, true, List, [], ◌∷◌, take, Some, slice_get, refl, sym, ap, ◌∙◌, subst}
use Rattle.std.proofs.lemmas.Map.{Keys.{sorted_head, sorted_tail}, Lookups.exact_bytes}
use Rattle.std.specs.declared.cmp.Ordering.{Ordering, TheVariants.{Less, Equal, Greater}}
use Rattle.std.specs.{Prelude.{Contains, ◌↔◌}, List.{AllByRecursion, Sorted.IsStrictlySortedBy}, Map.{keys_of, values_of}}
use Rattle.std.specs.{Ordering.{is_lt, match_ordering, nat_cmp}, Cmp.Lexicographic.slice_cmp, BTreeMap.insert_entry}
use Rattle.mm_span.proofs.Members.{none_in, in_first, in_rest, in_cases}
use Rattle.mm_keep_text.specs.Keys.{Ascend}
use Rattle.mm_keep_text.proofs.Sets.{take_got, got_old, got_new, got_cases}

abbrev cmp : List ℕ → List ℕ → Ordering
cmp = slice_cmp nat_cmp

module _ {V : Type 0} (key : V → List ℕ) (from : List ℕ → V) where
  -- a key, with what it is of
  pub record IsKeyed (e : List ℕ × V) : Type 0 where
    pub is : e.0 ≡ key e.1
    pub again : from e.0 ≡ e.1

  -- the values are those of which something holds
  pub record Lists (P : V → Type 0) (entries : List (List ℕ × V)) : Type 0 where
    pub keyed : AllByRecursion IsKeyed entries
    pub same : (v : V) → Contains (values_of entries) v ↔ P v

  module _ (v : V) (back : from (key v) ≡ v) where
    same_value : (e : List ℕ × V) → IsKeyed e → cmp (key v) e.0 ≡ Equal → e.1 ≡ v
    same_value e h equal = sym h.again ∙ ap from (sym (exact_bytes (key v) e.0 equal)) ∙ back

    put_new : (es : List (List ℕ × V)) → Contains (values_of (insert_entry cmp es (key v) v)) v
    put_new [] = in_first v []
    put_new (e ∷ es) = by (put_new es) (cmp (key v) e.0)
      where
        by : Contains (values_of (insert_entry cmp es (key v) v)) v → (o : Ordering)
            → Contains (values_of (match_ordering o ((key v, v) ∷ e ∷ es) ((e.0, v) ∷ es) (e ∷ insert_entry cmp es (key v) v))) v
        by rest Less = in_first v (values_of (e ∷ es))
        by rest Equal = in_first v (values_of es)
        by rest Greater = in_rest e.1 (values_of (insert_entry cmp es (key v) v)) v rest

    put_old : (es : List (List ℕ × V)) → AllByRecursion IsKeyed es → (x : V) → Contains (values_of es) x → Contains (values_of (insert_entry cmp es (key v) v)) x
    put_old [] h x there = absurd (none_in x there)
    put_old (e ∷ es) h x there = by (put_old es h.1 x) (cmp (key v) e.0) refl
      where
        by : (Contains (values_of es) x → Contains (values_of (insert_entry cmp es (key v) v)) x) → (o : Ordering) → cmp (key v) e.0 ≡ o
            → Contains (values_of (match_ordering o ((key v, v) ∷ e ∷ es) ((e.0, v) ∷ es) (e ∷ insert_entry cmp es (key v) v))) x
        by rest Less is = in_rest v (values_of (e ∷ es)) x there
        by rest Equal is = elim (in_cases e.1 (values_of es) x there) [
          | inl here ↦ subst (Contains (v ∷ values_of es)) (sym (same_value e h.0 is) ∙ here) (in_first v (values_of es))
          | inr later ↦ in_rest v (values_of es) x later
        ]
        by rest Greater is = elim (in_cases e.1 (values_of es) x there) [
          | inl here ↦ subst (Contains (e.1 ∷ values_of (insert_entry cmp es (key v) v))) here (in_first e.1 (values_of (insert_entry cmp es (key v) v)))
          | inr later ↦ in_rest e.1 (values_of (insert_entry cmp es (key v) v)) x (rest later)
        ]

    put_only : (es : List (List ℕ × V)) (x : V) → Contains (values_of (insert_entry cmp es (key v) v)) x → Contains (values_of es) x ⊎ (v ≡ x)
    put_only [] x there = elim (in_cases v [] x there) [ inl here ↦ inr here | inr later ↦ inl later ]
    put_only (e ∷ es) x there = by (put_only es x) (cmp (key v) e.0) there
      where
        by : (Contains (values_of (insert_entry cmp es (key v) v)) x → Contains (values_of es) x ⊎ (v ≡ x)) → (o : Ordering)
            → Contains (values_of (match_ordering o ((key v, v) ∷ e ∷ es) ((e.0, v) ∷ es) (e ∷ insert_entry cmp es (key v) v))) x
            → Contains (values_of (e ∷ es)) x ⊎ (v ≡ x)
        by rest Less there = elim (in_cases v (values_of (e ∷ es)) x there) [ inl here ↦ inr here | inr later ↦ inl later ]
        by rest Equal there = elim (in_cases v (values_of es) x there) [
          | inl here ↦ inr here
          | inr later ↦ inl (in_rest e.1 (values_of es) x later)
        ]
        by rest Greater there = elim (in_cases e.1 (values_of (insert_entry cmp es (key v) v)) x there) [
          | inl here ↦ inl (subst (Contains (values_of (e ∷ es))) here (in_first e.1 (values_of es)))
          | inr later ↦ elim (rest later) [
            | inl old ↦ inl (in_rest e.1 (values_of es) x old)
            | inr new ↦ inr new
          ]
        ]

    put_keyed : (es : List (List ℕ × V)) → AllByRecursion IsKeyed es → AllByRecursion IsKeyed (insert_entry cmp es (key v) v)
    put_keyed [] h = (record { is = refl; again = back }, tt)
    put_keyed (e ∷ es) h = by (put_keyed es h.1) (cmp (key v) e.0) refl
      where
        by : AllByRecursion IsKeyed (insert_entry cmp es (key v) v) → (o : Ordering) → cmp (key v) e.0 ≡ o
            → AllByRecursion IsKeyed (match_ordering o ((key v, v) ∷ e ∷ es) ((e.0, v) ∷ es) (e ∷ insert_entry cmp es (key v) v))
        by rest Less is = (record { is = refl; again = back }, h)
        by rest Equal is = (record { is = sym (exact_bytes (key v) e.0 is); again = h.0.again ∙ same_value e h.0 is }, h.1)
        by rest Greater is = (h.0, rest)

    -- one value more
    pub listed_more : (P Q : V → Type 0) (old new : List (List ℕ × V)) (k : List ℕ) → k ≡ key v → new ≡ insert_entry cmp old k v
        → ((x : V) → P x → Q x) → Q v → ((x : V) → Q x → P x ⊎ (v ≡ x)) → Lists P old → Lists Q new
    listed_more P Q old new k own is to has back h =
        let whole : new ≡ insert_entry cmp old (key v) v = is ∙ ap (λ k. insert_entry cmp old k v) own in
        subst (Lists Q) (sym whole) (record {
          keyed = put_keyed old h.keyed;
          same = λ x. (
            λ there. elim (put_only old x there) [
              | inl before ↦ to x ((h.same x).0 before)
              | inr new ↦ subst Q new has
            ],
            λ q. elim (back x q) [
              | inl before ↦ put_old old h.keyed x ((h.same x).1 before)
              | inr new ↦ subst (Contains (values_of (insert_entry cmp old (key v) v))) new (put_new old)
            ],
          );
        })

  -- the same values in other words
  pub listed_as : (P Q : V → Type 0) (es : List (List ℕ × V)) → ((x : V) → P x → Q x) → ((x : V) → Q x → P x) → Lists P es → Lists Q es
  listed_as P Q es to back h = record { keyed = h.keyed; same = λ x. (λ there. to x ((h.same x).0 there), λ q. (h.same x).1 (back x q)) }

  heads : (k : List ℕ) (es : List (List ℕ × V)) → AllByRecursion IsKeyed es → AllByRecursion (λ y. cmp k y ≡ Less) (keys_of es)
      → AllByRecursion (λ b. is_lt (cmp k (key b)) ≡ true) (values_of es)
  heads k [] h less = tt
  heads k (e ∷ es) h less = (ap is_lt (subst (λ y. cmp k y ≡ Less) h.0.is less.0), heads k es h.1 less.1)

  -- values in the order of their keys
  pub ascends : (es : List (List ℕ × V)) → AllByRecursion IsKeyed es → IsStrictlySortedBy cmp (keys_of es) → Ascend key (values_of es)
  ascends [] h up = tt
  ascends (e ∷ es) h up = (
    subst (λ k. AllByRecursion (λ b. is_lt (cmp k (key b)) ≡ true) (values_of es)) h.0.is (heads e.0 es h.1 (sorted_head cmp e.0 (keys_of es) up)),
    ascends es h.1 (sorted_tail cmp e.0 (keys_of es) up),
  )

  -- the next of a list
  pub listed_got : (all : List V) (n : ℕ) (v : V) → from (key v) ≡ v → slice_get all n ≡ Some v → (old new : List (List ℕ × V)) (k : List ℕ) → k ≡ key v
      → new ≡ insert_entry cmp old k v → Lists (Contains (take n all)) old → Lists (Contains (take (n + 1) all)) new
  listed_got all n v again at old new k own is h =
      let more = take_got all n v at in
      listed_more v again (Contains (take n all)) (Contains (take (n + 1) all)) old new k own is
      (got_old (take n all) (take (n + 1) all) v more) (got_new (take n all) (take (n + 1) all) v more) (got_cases (take n all) (take (n + 1) all) v more) h

  -- the next of a list, of which those are listed for which something does not hold
  module _ (all : List V) (n : ℕ) (v : V) (N : V → Type 0) (at : slice_get all n ≡ Some v) where
    pub listed_unless : from (key v) ≡ v → (old new : List (List ℕ × V)) (k : List ℕ) → k ≡ key v → new ≡ insert_entry cmp old k v → (N v → ⊥)
        → Lists (λ x. Contains (take n all) x × (N x → ⊥)) old → Lists (λ x. Contains (take (n + 1) all) x × (N x → ⊥)) new
    listed_unless again old new k own is none h =
        let more = take_got all n v at in
        listed_more v again (λ x. Contains (take n all) x × (N x → ⊥)) (λ x. Contains (take (n + 1) all) x × (N x → ⊥)) old new k own is
        (λ x p. (got_old (take n all) (take (n + 1) all) v more x p.0, p.1))
        (got_new (take n all) (take (n + 1) all) v more, none)
        (λ x q. elim (got_cases (take n all) (take (n + 1) all) v more x q.0) [ inl before ↦ inl (before, q.1) | inr e ↦ inr e ])
        h

    pub listed_not : N v → (es : List (List ℕ × V)) → Lists (λ x. Contains (take n all) x × (N x → ⊥)) es
        → Lists (λ x. Contains (take (n + 1) all) x × (N x → ⊥)) es
    listed_not has es h =
        let more = take_got all n v at in
        listed_as (λ x. Contains (take n all) x × (N x → ⊥)) (λ x. Contains (take (n + 1) all) x × (N x → ⊥)) es
        (λ x p. (got_old (take n all) (take (n + 1) all) v more x p.0, p.1))
        (λ x q. elim (got_cases (take n all) (take (n + 1) all) v more x q.0) [ inl before ↦ (before, q.1) | inr e ↦ absurd (q.1 (subst N e has)) ])
        h

  -- what is listed in the end
  pub listed_whole : (P : V → Type 0) (es : List (List ℕ × V)) (out : List V) → out ≡ values_of es → Lists P es → (v : V) → Contains out v ↔ P v
  listed_whole P es out is h v = subst (λ l. Contains l v ↔ P v) (sym is) (h.same v)

  pub listed_ascend : (P : V → Type 0) (es : List (List ℕ × V)) (out : List V) → out ≡ values_of es → Lists P es → IsStrictlySortedBy cmp (keys_of es) → Ascend key out
  listed_ascend P es out is h up = subst (Ascend key) (sym is) (ascends es h.keyed up)
