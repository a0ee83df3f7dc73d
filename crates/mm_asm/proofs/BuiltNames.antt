-- Names in a set, and the place of a name among those that rise.
use Rattle.std.proofs.Common.{◌≡◌, ℕ, zero, suc, ◌+◌, ◌<◌, Bool, true, false, not, ◌&&◌, ◌||◌, List, bytes_eq, [], ◌∷◌}
use Rattle.std.proofs.Common.{◌++◌, length, get_or, take, Option, is_some, refl, sym, ap, ◌∙◌, subst, arith, inl, inr}
use Rattle.std.proofs.lemmas.{Cmp.{nat_list_cmp_total, tied_itself}, Map.Text.is_eq-slice_cmp}
use Rattle.std.proofs.lemmas.{Bool.{cases_lt, and_parts, false_from_ne_true}, List.Sorted.searchable_from_sorted}
use Rattle.std.specs.declared.cmp.Ordering.{Ordering, TheVariants.{Less, Equal, Greater}}
use Rattle.std.specs.{Ordering.{ordering_index, nat_cmp, is_lt, is_eq}, Cmp.Lexicographic.slice_cmp}
use Rattle.std.specs.List.Sorted.{IsSortedBy, IsNonDecreasingBy, IsPartitionPoint}
use denote.Ref.{Bor}
use Rattle.mm_line.specs.declared.fault.Fault.TheVariants.{Limit}
use Rattle.mm_draft.specs.{Faults.fault_if, Drafts.{Draft, place_of}, declared.fault.Failure.Failure}
use Rattle.mm_object.specs.{Names.is_before, Objects.{is_among, ascend}, Steps.key_names}
use Rattle.mm_asm.specs.Names.{Use, position_of, externals_with, with_use, is_external, name_of}
use Rattle.mm_asm.specs.{Faults.{limit_failures, in_source, is_too_many}, Steps.limit_failure, Answers.Meets}
use Rattle.mm_asm.proofs.{Lists.each_weaker, Order.{Rising, not_itself, before_all, position_at, is_same}}
use Rattle.mm_asm.proofs.LateFirsts.{met_both}

-- 1. The order of bytes.

abbrev pub compared : List ℕ → List ℕ → Ordering
compared a b = slice_cmp nat_cmp a b

abbrev pub order_of : Bor (List ℕ) → Bor (List ℕ) → Ordering
order_of a b = slice_cmp nat_cmp a.now b.now

-- 2. One name too many.

pub as_many : (keys : List (Bor (List ℕ))) → length (key_names keys) ≡ length keys
as_many [] = refl
as_many (k ∷ keys) = ap suc (as_many keys)

-- one too many at a use of a name that a draft does not have
pub limit_is : (d : Draft) (u : Use) (old : List (Bor (List ℕ))) (name : List ℕ) (bad : Bool) → name ≡ name_of u → is_external d u ≡ true → bad ≡ is_too_many (key_names old) name
    → in_source u.source (fault_if bad Limit u.target.mark.left) ≡ limit_failure d (key_names old) u
limit_is d u old name bad same absent is =
    ap (λ b. in_source u.source (fault_if b Limit u.target.mark.left)) (is ∙ ap (is_too_many (key_names old)) same ∙ ap (λ b. b && is_too_many (key_names old) (name_of u)) (sym absent))

pub absent_is : (d : Draft) (u : Use) (name : List ℕ) → name ≡ name_of u → is_some (place_of d name) ≡ false → is_external d u ≡ true
absent_is d u name same none = ap (λ n. not (is_some (place_of d n))) (sym same) ∙ ap not none

-- 3. One use more.

module _ (d : Draft) where
  pub with_more : (names : List (List ℕ)) (uses : List Use) (i : ℕ) (u : Use) → i < length uses → u ≡ get_or uses i u
      → externals_with d names (take (i + 1) uses) ≡ with_use d u (externals_with d names (take i uses))
  with_more names [] i u lt is = absurd (omega arith)
  with_more names (v ∷ uses) zero u lt is = ap (λ w. with_use d w names) (sym is)
  with_more names (v ∷ uses) (suc i) u lt is =
      let next : suc i + 1 ≡ suc (i + 1) = omega arith in
      ap (λ n. externals_with d names (take n (v ∷ uses))) next ∙ with_more (with_use d v names) uses i u (omega arith) is

  pub limits_more : (names : List (List ℕ)) (uses : List Use) (i : ℕ) (u : Use) → i < length uses → u ≡ get_or uses i u
      → limit_failures d names (take (i + 1) uses) ≡ limit_failures d names (take i uses) ++ limit_failure d (externals_with d names (take i uses)) u
  limits_more names [] i u lt is = absurd (omega arith)
  limits_more names (v ∷ uses) zero u lt is = Rattle.std.proofs.lemmas.List.append-nil (limit_failure d names v) ∙ ap (limit_failure d names) (sym is)
  limits_more names (v ∷ uses) (suc i) u lt is =
      let next : suc i + 1 ≡ suc (i + 1) = omega arith in
      ap (λ n. limit_failures d names (take n (v ∷ uses))) next
      ∙ ap (λ fs. limit_failure d names v ++ fs) (limits_more (with_use d v names) uses i u (omega arith) is)
      ∙ sym (Rattle.std.proofs.Common.append_assoc (limit_failure d names v)
      (limit_failures d (with_use d v names) (take i uses))
      (limit_failure d (externals_with d (with_use d v names) (take i uses)) u))

  pub limits_met : (a b c : Option Failure) (names : List (List ℕ)) (uses : List Use) (i : ℕ) (u : Use) → i < length uses → u ≡ get_or uses i u
      → names ≡ externals_with d [] (take i uses) → Meets a b (limit_failures d [] (take i uses)) → Meets b c (limit_failure d names u) → Meets a c (limit_failures d [] (take (i + 1) uses))
  limits_met a b c names uses i u lt is e h k =
      subst (Meets a c) (sym (limits_more [] uses i u lt is))
      (met_both a b c (limit_failures d [] (take i uses)) (limit_failure d (externals_with d [] (take i uses)) u) h (subst (λ ns. Meets b c (limit_failure d ns u)) e k))

-- 4. The place of a name.

pub ascend_rises : (xs : List (List ℕ)) → ascend xs ≡ true → Rising xs
ascend_rises [] h = tt
ascend_rises (x ∷ []) h = (tt, tt)
ascend_rises (x ∷ y ∷ xs) h =
    let b = and_parts (is_before x y) (ascend (y ∷ xs)) h in
    let r = ascend_rises (y ∷ xs) b.1 in
    ((b.0, each_weaker (λ z. is_before y z ≡ true) (λ z. is_before x z ≡ true) xs (λ z k. before_all x y z b.0 k) r.0), r)

same_from_equal : (a b : List ℕ) → compared a b ≡ Equal → a ≡ b
same_from_equal a b h = is_same a b (sym (is_eq-slice_cmp a b) ∙ ap is_eq h)

pub place_is : (names : List (List ℕ)) (name : List ℕ) (i : ℕ) → ascend names ≡ true → i < length names
    → ((d : List ℕ) → slice_cmp nat_cmp (get_or names i d) name ≡ Equal) → i ≡ position_of name names
place_is names name i up lt found =
    let e : get_or names i [] ≡ name = same_from_equal (get_or names i []) name (found []) in
    sym (position_at names i (ascend_rises names up) lt) ∙ ap (λ (n : List ℕ). position_of n names) e

-- 5. A name that is there is found.

rises_at : (names : List (List ℕ)) (k : ℕ) (d : List ℕ) → ascend names ≡ true → k + 1 < length names → is_before (get_or names k d) (get_or names (k + 1) d) ≡ true
rises_at [] k d h lt = absurd (omega arith)
rises_at (x ∷ []) k d h lt = absurd (omega arith)
rises_at (x ∷ y ∷ names) zero d h lt = (and_parts (is_before x y) (ascend (y ∷ names)) h).0
rises_at (x ∷ y ∷ names) (suc k) d h lt =
    let next : suc k + 1 ≡ suc (k + 1) = omega arith in
    ap (λ n. is_before (get_or (y ∷ names) k d) (get_or (x ∷ y ∷ names) n d)) next ∙ rises_at (y ∷ names) k d (and_parts (is_before x y) (ascend (y ∷ names)) h).1 (omega arith)

no_return : (a b : List ℕ) → is_before a b ≡ true → is_before b a ≡ false
no_return a b h = false_from_ne_true (is_before b a) (λ e. not_itself a (before_all a b a h e))

sorted : (names : List (List ℕ)) → ascend names ≡ true → IsSortedBy (λ a b. is_lt (slice_cmp nat_cmp a b)) names
sorted names h = λ k d low lt. no_return (get_or names k d) (get_or names (k + 1) d) (rises_at names k d h lt)

among_place : (name : List ℕ) (names : List (List ℕ)) → is_among name names ≡ true → (k : ℕ) × (k < length names) × (get_or names k [] ≡ name)
among_place name [] h = absurd cc
among_place name (x ∷ names) h = by (bytes_eq name x) refl h (among_place name names)
  where
    by : (b : Bool) → bytes_eq name x ≡ b → (b || is_among name names) ≡ true → (is_among name names ≡ true → (k : ℕ) × (k < length names) × (get_or names k [] ≡ name))
        → (k : ℕ) × (k < length (x ∷ names)) × (get_or (x ∷ names) k [] ≡ name)
    by true e k later = (zero, omega arith, sym (is_same name x e))
    by false e k later = let r = later k in (suc r.0, omega (arith, r.1), r.2)

pub is_found : (names : List (List ℕ)) (name : List ℕ) (i : ℕ) → ascend names ≡ true → is_among name names ≡ true
    → (IsNonDecreasingBy (λ (y : List ℕ). ordering_index (slice_cmp nat_cmp y name)) names → IsPartitionPoint
    (λ (y : List ℕ). slice_cmp nat_cmp y name ≡ Less) (λ (y : List ℕ). slice_cmp nat_cmp y name ≡ Greater) names i)
    → ⊥
is_found names name i up among h =
    let point = h (searchable_from_sorted nat_list_cmp_total (λ (y : List ℕ). y) names name (sorted names up)) in
    let r = among_place name names among in
    let tied : slice_cmp nat_cmp (get_or names r.0 []) name ≡ Equal = ap (λ (n : List ℕ). slice_cmp nat_cmp n name) r.2 ∙ tied_itself nat_list_cmp_total name in
    elim (cases_lt r.0 i) [
      | inl less ↦ let e = point.0 r.0 [] (omega arith) less in cc (tied, e)
      | inr more ↦ let e = point.1 r.0 [] more r.1 in cc (tied, e)
    ]
