-- What stays of names when more pairs are kept, trees with another leaf, and that trees with the same leaves are the same.
use Rattle.std.proofs.Common.{◌≡◌, ℕ, zero, suc, ◌-◌, ◌^◌, ◌<◌, ◌≤◌, List, ◌++◌, length, take, drop, slice_index_or, slice_set}
use Rattle.std.proofs.Common.{refl, sym, ap, ◌∙◌, subst, arith, length-append}
use Rattle.std.proofs.lemmas.List.{get_or-take, get_or_append_left, get_or-append_right, set-append_left, set-append_right, length-take, take-take}
use Rattle.std.proofs.Math.{Nat.pow-suc, Seq.{take-append_seam, drop-append_seam}}
use Rattle.mm_pairs.specs.{Named.{named, HasGrown, HaveOneName, IsNameOf}, Trees.{pair_of, leaves, IsTree, HasLeaves, TreesAreApart}}

-- 1. What stays.

pub no_shorter : {A : Type 0} (old new : List A) → HasGrown old new → length old ≤ length new
no_shorter old new grown = let long = length-take (length old) new in let same = ap length grown in omega (arith, long, same)

pub grown_twice : {A : Type 0} (old mid new : List A) → HasGrown old mid → HasGrown mid new → HasGrown old new
grown_twice old mid new first later =
    sym (take-take (length old) (length mid) new (no_shorter old mid first)) ∙ ap (take (length old)) later ∙ first

module _ {A : Type 0} (none : A) (old new : List A) (grown : HasGrown old new) where
  pub named_stays : (name : ℕ) → name ≤ length old → named none new name ≡ named none old name
  named_stays zero le = refl
  named_stays (suc at) le = sym (get_or-take (length old) new at none (omega (arith, le))) ∙ ap (λ l. slice_index_or l at none) grown

  pub name_stays : (name : ℕ) (x : A) → IsNameOf none old name x → IsNameOf none new name x
  name_stays name x h = record {
    within = let more = no_shorter old new grown in let low = h.within in omega (arith, more, low);
    is = named_stays name h.within ∙ h.is;
  }

pub tree_stays : (old new : List (ℕ × ℕ)) → HasGrown old new → (depth tree : ℕ) → IsTree old depth tree → IsTree new depth tree
tree_stays old new grown zero tree h = tt
tree_stays old new grown (suc depth) tree h =
    let same = named_stays (0, 0) old new grown tree h.0 in
    let more = no_shorter old new grown in
    let low = h.0 in (
      omega (arith, more, low),
      subst (λ (p : ℕ × ℕ). IsTree new depth p.0) (sym same) (tree_stays old new grown depth (pair_of old tree).0 h.1),
      subst (λ (p : ℕ × ℕ). IsTree new depth p.1) (sym same) (tree_stays old new grown depth (pair_of old tree).1 h.2),
    )

pub leaves_stay : (old new : List (ℕ × ℕ)) → HasGrown old new → (depth tree : ℕ) → IsTree old depth tree → leaves new depth tree ≡ leaves old depth tree
leaves_stay old new grown zero tree h = refl
leaves_stay old new grown (suc depth) tree h =
    ap (λ (p : ℕ × ℕ). leaves new depth p.0 ++ leaves new depth p.1) (named_stays (0, 0) old new grown tree h.0)
    ∙ ap (λ l. l ++ leaves new depth (pair_of old tree).1) (leaves_stay old new grown depth (pair_of old tree).0 h.1)
    ∙ ap (λ l. leaves old depth (pair_of old tree).0 ++ l) (leaves_stay old new grown depth (pair_of old tree).1 h.2)

pub length_leaves : (pairs : List (ℕ × ℕ)) (depth tree : ℕ) → length (leaves pairs depth tree) ≡ 2 ^ depth
length_leaves pairs zero tree = refl
length_leaves pairs (suc depth) tree =
    let both = length-append (leaves pairs depth (pair_of pairs tree).0) (leaves pairs depth (pair_of pairs tree).1) in
    let left = length_leaves pairs depth (pair_of pairs tree).0 in
    let right = length_leaves pairs depth (pair_of pairs tree).1 in
    let twice = pow-suc 2 depth in
    omega (arith, both, left, right, twice)

-- 2. Trees with the same leaves.

same_pair : (p q : ℕ × ℕ) → p.0 ≡ q.0 → p.1 ≡ q.1 → p ≡ q
same_pair (a, b) (c, d) e f = ap (λ x. (x, b)) e ∙ ap (λ y. (c, y)) f

front_of : (n : ℕ) (xs ys : List ℕ) → length xs ≡ n → take n (xs ++ ys) ≡ xs
front_of n xs ys e = ap (λ k. take k (xs ++ ys)) (sym e) ∙ take-append_seam xs ys

back_of : (n : ℕ) (xs ys : List ℕ) → length xs ≡ n → drop n (xs ++ ys) ≡ ys
back_of n xs ys e = ap (λ k. drop k (xs ++ ys)) (sym e) ∙ drop-append_seam xs ys

pub trees_apart : (pairs : List (ℕ × ℕ)) → HaveOneName (0, 0) pairs → TreesAreApart pairs
trees_apart pairs apart zero a b ta tb e = ap (λ l. slice_index_or l 0 0) e
trees_apart pairs apart (suc depth) a b ta tb e =
    let xs = leaves pairs depth (pair_of pairs a).0 in
    let ys = leaves pairs depth (pair_of pairs a).1 in
    let us = leaves pairs depth (pair_of pairs b).0 in
    let vs = leaves pairs depth (pair_of pairs b).1 in
    let lx = length_leaves pairs depth (pair_of pairs a).0 in
    let lu = length_leaves pairs depth (pair_of pairs b).0 in
    let left : xs ≡ us = sym (front_of (2 ^ depth) xs ys lx) ∙ ap (take (2 ^ depth)) e ∙ front_of (2 ^ depth) us vs lu in
    let right : ys ≡ vs = sym (back_of (2 ^ depth) xs ys lx) ∙ ap (drop (2 ^ depth)) e ∙ back_of (2 ^ depth) us vs lu in
    apart a b ta.0 tb.0 (same_pair (pair_of pairs a) (pair_of pairs b)
    (trees_apart pairs apart depth (pair_of pairs a).0 (pair_of pairs b).0 ta.1 tb.1 left)
    (trees_apart pairs apart depth (pair_of pairs a).1 (pair_of pairs b).1 ta.2 tb.2 right))

-- 3. A tree of two.

-- two trees, one of which was there before, joined
pub joined : (mid new : List (ℕ × ℕ)) (depth left right t : ℕ) (xs ys : List ℕ) → HasGrown mid new → HasLeaves mid depth left xs
    → HasLeaves mid depth right ys → IsNameOf (0, 0) new t (left, right) → HasLeaves new (suc depth) t (xs ++ ys)
joined mid new depth left right t xs ys grown l r name = record {
  inner = (
    name.within,
    subst (λ (p : ℕ × ℕ). IsTree new depth p.0) (sym name.is) (tree_stays mid new grown depth left l.inner),
    subst (λ (p : ℕ × ℕ). IsTree new depth p.1) (sym name.is) (tree_stays mid new grown depth right r.inner),
  );
  leaves = ap (λ (p : ℕ × ℕ). leaves new depth p.0 ++ leaves new depth p.1) name.is
      ∙ ap (λ k. k ++ leaves new depth right) (leaves_stay mid new grown depth left l.inner ∙ l.leaves)
      ∙ ap (λ k. xs ++ k) (leaves_stay mid new grown depth right r.inner ∙ r.leaves);
}

-- a tree that was there before has its leaves still
pub has_still : (old new : List (ℕ × ℕ)) (depth tree : ℕ) → HasGrown old new → IsTree old depth tree → HasLeaves new depth tree (leaves old depth tree)
has_still old new depth tree grown h = record { inner = tree_stays old new grown depth tree h; leaves = leaves_stay old new grown depth tree h }

-- the halves of a tree
module _ (old : List (ℕ × ℕ)) (depth d tree place : ℕ) (parts : ℕ × ℕ) (is : depth ≡ suc d) (are : parts ≡ pair_of old tree) where
  pub both : leaves old depth tree ≡ leaves old d parts.0 ++ leaves old d parts.1
  both = ap (λ k. leaves old k tree) is ∙ ap (λ (p : ℕ × ℕ). leaves old d p.0 ++ leaves old d p.1) (sym are)

  pub two : IsTree old depth tree → IsTree old d parts.0 × IsTree old d parts.1
  two h =
      let inner = subst (λ k. IsTree old k tree) is h in
      (subst (λ (p : ℕ × ℕ). IsTree old d p.0) (sym are) inner.1, subst (λ (p : ℕ × ℕ). IsTree old d p.1) (sym are) inner.2)

  pub leaf_left : place < 2 ^ d → slice_index_or (leaves old d parts.0) place 0 ≡ slice_index_or (leaves old depth tree) place 0
  leaf_left low =
      let long = length_leaves old d parts.0 in
      sym (ap (λ l. slice_index_or l place 0) both ∙ get_or_append_left (leaves old d parts.0) (leaves old d parts.1) 0 place (omega (arith, low, long)))

  pub leaf_right : 2 ^ d ≤ place → slice_index_or (leaves old d parts.1) (place - 2 ^ d) 0 ≡ slice_index_or (leaves old depth tree) place 0
  leaf_right high =
      sym (ap (λ l. slice_index_or l place 0) both
      ∙ get_or-append_right (leaves old d parts.0) (leaves old d parts.1) (2 ^ d) place 0 (length_leaves old d parts.0) high)

  module _ (mid new : List (ℕ × ℕ)) (leaf t : ℕ) (first : HasGrown old mid) (later : HasGrown mid new) (h : IsTree old depth tree) where
    -- another leaf in the left half
    pub set_left : (left : ℕ) → place < 2 ^ d → HasLeaves mid d left (slice_set (leaves old d parts.0) place leaf)
        → IsNameOf (0, 0) new t (left, parts.1) → HasLeaves new depth t (slice_set (leaves old depth tree) place leaf)
    set_left left low made name =
        let long = length_leaves old d parts.0 in
        let set = set-append_left (leaves old d parts.0) (leaves old d parts.1) place leaf (omega (arith, low, long)) in
        let all = joined mid new d left parts.1 t (slice_set (leaves old d parts.0) place leaf) (leaves old d parts.1) later made
        (has_still old mid d parts.1 first (two h).1) name in
        subst (λ k. HasLeaves new k t (slice_set (leaves old depth tree) place leaf)) (sym is)
        (subst (HasLeaves new (suc d) t) (sym (ap (λ l. slice_set l place leaf) both ∙ set)) all)

    -- another leaf in the right half
    pub set_right : (right : ℕ) → 2 ^ d ≤ place → HasLeaves mid d right (slice_set (leaves old d parts.1) (place - 2 ^ d) leaf)
        → IsNameOf (0, 0) new t (parts.0, right) → HasLeaves new depth t (slice_set (leaves old depth tree) place leaf)
    set_right right high made name =
        let set = set-append_right (leaves old d parts.0) (leaves old d parts.1) (2 ^ d) place leaf (length_leaves old d parts.0) high in
        let all = joined mid new d parts.0 right t (leaves old d parts.0) (slice_set (leaves old d parts.1) (place - 2 ^ d) leaf) later
        (has_still old mid d parts.0 first (two h).0) made name in
        subst (λ k. HasLeaves new k t (slice_set (leaves old depth tree) place leaf)) (sym is)
        (subst (HasLeaves new (suc d) t) (sym (ap (λ l. slice_set l place leaf) both ∙ set)) all)
