-- Trees of pages, made deeper and lower, and with another page.
use Rattle.std.proofs.Common.{◌≡◌, inl, inr, ℕ, zero, suc, ◌-◌, ◌/◌, ◌*◌, ◌^◌, ◌<◌, ◌≤◌, List, length, slice_index_or, slice_set, Bool, true, false, nat_eq, if◌then◌else◌}
use Rattle.std.proofs.Common.{refl, sym, ap, ◌∙◌, subst, arith, get_or-set_same, get_or-set_other, eqb-true, eq-eqb}
use Rattle.std.proofs.lemmas.{Bool.cases_lt, List.get_or_past, Nat.{pow_pos, shr_split}}
use Rattle.std.proofs.Math.{Nat.div-eq_of_lt, Pow.pow_mono, Seq.take-length}
use Rattle.mm_pairs.specs.{Named.{HasGrown, IsNameOf}, Trees.{pair_of, leaves, IsTree, HasLeaves}}
use Rattle.mm_pairs.proofs.Names.{no_shorter, grown_twice, tree_stays, leaves_stay, length_leaves, leaf_left, leaf_right}
use Rattle.mm_config.specs.declared.{store.Store.Store, names.Names.Names}
use Rattle.mm_config.specs.{Naming.{leaf_at, page_name, IsLow, IsTreeOfPages}, Noting.{IsSameTree, PutsPage}, Places.page_place}
use Rattle.mm_config.proofs.Placing.{place_tells, place_stays}

-- 1. Leaves.

pub leaf_stays : (old new : List (ℕ × ℕ)) → HasGrown old new → (depth tree : ℕ) → IsTree old depth tree → (at : ℕ) → leaf_at new depth tree at ≡ leaf_at old depth tree at
leaf_stays old new grown depth tree h at = ap (λ l. slice_index_or l at 0) (leaves_stay old new grown depth tree h)

-- past the last leaf there is nothing
pub past : (pairs : List (ℕ × ℕ)) (depth tree at : ℕ) → 2 ^ depth ≤ at → leaf_at pairs depth tree at ≡ 0
past pairs depth tree at high = let long = length_leaves pairs depth tree in get_or_past (leaves pairs depth tree) at 0 (omega (arith, high, long))

-- the leaves of a tree that is twice as deep
module _ (pairs : List (ℕ × ℕ)) (depth tree at : ℕ) where
  pub in_left : at < 2 ^ depth → leaf_at pairs depth (pair_of pairs tree).0 at ≡ leaf_at pairs (suc depth) tree at
  in_left low = leaf_left pairs (suc depth) depth tree at (pair_of pairs tree) refl refl low

  pub in_right : 2 ^ depth ≤ at → leaf_at pairs depth (pair_of pairs tree).1 (at - 2 ^ depth) ≡ leaf_at pairs (suc depth) tree at
  in_right high = leaf_right pairs (suc depth) depth tree at (pair_of pairs tree) refl refl high

-- a tree without leaves has the name 0
pub none_tree : (pairs : List (ℕ × ℕ)) (depth : ℕ) → IsTree pairs depth 0
none_tree pairs zero = tt
none_tree pairs (suc depth) = (omega arith, none_tree pairs depth, none_tree pairs depth)

pub none_at : (pairs : List (ℕ × ℕ)) (depth at : ℕ) → leaf_at pairs depth 0 at ≡ 0
none_at pairs zero zero = refl
none_at pairs zero (suc at) = refl
none_at pairs (suc depth) at = elim (cases_lt at (2 ^ depth)) [
  | inl low ↦ sym (in_left pairs depth 0 at low) ∙ none_at pairs depth at
  | inr high ↦ sym (in_right pairs depth 0 at high) ∙ none_at pairs depth (at - 2 ^ depth)
]

-- the left half has all leaves if the right one has none
half_at : (pairs : List (ℕ × ℕ)) (depth tree : ℕ) → (pair_of pairs tree).1 ≡ 0 → (at : ℕ) → leaf_at pairs depth (pair_of pairs tree).0 at ≡ leaf_at pairs (suc depth) tree at
half_at pairs depth tree none at = elim (cases_lt at (2 ^ depth)) [
  | inl low ↦ in_left pairs depth tree at low
  | inr high ↦
      past pairs depth (pair_of pairs tree).0 at high
      ∙ sym (ap (λ t. leaf_at pairs depth t (at - 2 ^ depth)) none ∙ none_at pairs depth (at - 2 ^ depth))
      ∙ in_right pairs depth tree at high
]

-- 2. Deeper and lower.

pub still_same : (old : List (ℕ × ℕ)) (was : Names) → IsTree old was.height was.pages → IsSameTree old was old was
still_same old was h = record { grown = take-length old; others = refl; inner = h; leaves = λ at. refl }

module _ (old mid : List (ℕ × ℕ)) (was n : Names) (same : IsSameTree old was mid n) where
  -- one level more
  pub deeper : (new : List (ℕ × ℕ)) (tree deep : ℕ) → HasGrown mid new → HasGrown old new → IsNameOf (0, 0) new tree (n.pages, 0) → deep ≡ suc n.height
      → IsSameTree old was new (record n { height = deep; pages = tree })
  deeper new tree deep grown all name is = record {
    grown = all;
    others = ap (λ (m : Names). record m { height = deep; pages = tree }) same.others;
    inner = subst (λ d. IsTree new d tree) (sym is) (
      name.within,
      subst (λ (p : ℕ × ℕ). IsTree new n.height p.0) (sym name.is) (tree_stays mid new grown n.height n.pages same.inner),
      subst (λ (p : ℕ × ℕ). IsTree new n.height p.1) (sym name.is) (none_tree new n.height),
    );
    leaves = λ at.
        ap (λ d. leaf_at new d tree at) is
        ∙ sym (half_at new n.height tree (ap (λ (p : ℕ × ℕ). p.1) name.is) at)
        ∙ ap (λ (p : ℕ × ℕ). leaf_at new n.height p.0 at) name.is
        ∙ leaf_stays mid new grown n.height n.pages same.inner at ∙ same.leaves at;
  }

  -- one level less
  pub lower_by : (depth : ℕ) (parts : ℕ × ℕ) → n.height ≡ suc depth → parts ≡ pair_of mid n.pages → parts.1 ≡ 0
      → IsSameTree old was mid (record n { height = depth; pages = parts.0 })
  lower_by depth parts is are none =
      let inner = subst (λ d. IsTree mid d n.pages) is same.inner in
      record {
        grown = same.grown;
        others = ap (λ (m : Names). record m { height = depth; pages = parts.0 }) same.others;
        inner = subst (λ (p : ℕ × ℕ). IsTree mid depth p.0) (sym are) inner.1;
        leaves = λ at.
            ap (λ (p : ℕ × ℕ). leaf_at mid depth p.0 at) are
            ∙ half_at mid depth n.pages (ap (λ (p : ℕ × ℕ). p.1) (sym are) ∙ none) at
            ∙ ap (λ d. leaf_at mid d n.pages at) (sym is) ∙ same.leaves at;
      }

-- a place that is past a tree asks for one more level
pub shallow : (place height : ℕ) → place < 2 ^ 32 → (place / 2 ^ height ≡ 0 → ⊥) → height < 32
shallow place height small some = elim (cases_lt height 32) [
  | inl lt ↦ lt
  | inr high ↦ let wide = pow_mono {i = 32} {j = height} high in absurd (some (div-eq_of_lt {n = place} {m = 2 ^ height} (omega (arith, small, wide))))
]

pub fits : (place height : ℕ) → place / 2 ^ height ≡ 0 → place < 2 ^ height
fits place height none =
    let split = shr_split place height in
    let pos = pow_pos height in
    let zero_is = ap (λ n. n * 2 ^ height) none in
    omega (arith, split, pos, zero_is)

-- 3. Another page.

module _ (k0 : Store) (n0 n2 n4 : Names) (pages : List ℕ) (mid now : List (ℕ × ℕ)) (number name place tree : ℕ) (of : IsTreeOfPages k0 n0)
    (kept : HasGrown k0.pages pages) (at : place ≡ page_place pages number) (within : place < length pages)
    (deep : IsSameTree k0.pairs n0 mid n2) (fit : place < 2 ^ n2.height) (few : n2.height ≤ 32)
    (made : HasLeaves now n2.height tree (slice_set (leaves mid n2.height n2.pages) place name)) (grown : HasGrown mid now)
    (low : IsSameTree now (record n2 { pages = tree }) now n4) (least : IsLow now n4.height n4.pages) (lower : n4.height ≤ n2.height) where
  abbrev leaf : ℕ → ℕ
  leaf a = leaf_at now n4.height n4.pages a

  set_leaf : (a : ℕ) → leaf a ≡ slice_index_or (slice_set (leaves mid n2.height n2.pages) place name) a 0
  set_leaf a = low.leaves a ∙ ap (λ l. slice_index_or l a 0) made.leaves

  here : leaf place ≡ name
  here =
      let long = length_leaves mid n2.height n2.pages in
      set_leaf place ∙ get_or-set_same (leaves mid n2.height n2.pages) place name 0 (omega (arith, fit, long))

  there : (a : ℕ) → (a ≡ place → ⊥) → leaf a ≡ leaf_at k0.pairs n0.height n0.pages a
  there a other = set_leaf a ∙ get_or-set_other (leaves mid n2.height n2.pages) place a name 0 other ∙ deep.leaves a

  none_past : (a : ℕ) → length pages ≤ a → leaf a ≡ 0
  none_past a high =
      let more = no_shorter k0.pages pages kept in
      there a (λ e. omega (arith, e, high, within)) ∙ of.inside a (omega (arith, more, high))

  unplaced : (n : ℕ) → leaf_at k0.pairs n0.height n0.pages (page_place pages n) ≡ page_name k0 n0 n
  unplaced n = elim (place_stays k0.pages pages n kept) [
    | inl e ↦ ap (leaf_at k0.pairs n0.height n0.pages) e
    | inr h ↦
        let none = h.0 in
        of.inside (page_place pages n) h.1 ∙ sym (of.inside (page_place k0.pages n) (omega (arith, none)))
  ]

  names : (n : ℕ) → leaf (page_place pages n) ≡ (if nat_eq n number then name else page_name k0 n0 n)
  names n = by (nat_eq n number) refl
    where
      by : (b : Bool) → nat_eq n number ≡ b → leaf (page_place pages n) ≡ (if b then name else page_name k0 n0 n)
      by true e = ap (λ m. leaf (page_place pages m)) (eqb-true n number e) ∙ ap leaf (sym at) ∙ here
      by false e =
          there (page_place pages n) (λ same.
          let is_it : n ≡ number = place_tells pages number n (subst (λ p. p < length pages) at within) (same ∙ at) in
          let own = eq-eqb n number is_it in cc)
          ∙ unplaced n

  pub puts_page : PutsPage k0 n0 number name (record k0 { pairs = now; pages = pages }) n4
  puts_page = record {
    still = record {
      pairs = grown_twice k0.pairs mid now deep.grown grown;
      outputs = take-length k0.outputs;
      lists = take-length k0.lists;
      cells = take-length k0.cells;
      pages = kept;
    };
    others = low.others ∙ ap (λ (m : Names). record m { height = n4.height; pages = n4.pages }) deep.others;
    tree = record { inner = low.inner; few = omega (arith, lower, few); low = least; inside = none_past };
    names = names;
  }
