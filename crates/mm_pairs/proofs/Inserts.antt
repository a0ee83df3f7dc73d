-- What stands once among what is kept, and what one key more leaves.
use Rattle.std.proofs.Common.{◌≡◌, ℕ, zero, suc, ◌+◌, ◌<◌, ◌≤◌, Bool, true, false, ◌&&◌, nat_eq, List, [], ◌∷◌, ◌++◌, map, length, take, slice_get, slice_index_or, slice_set, replicate, position, if◌then◌else◌, Some, inl, inr, ◌-◌}
use Rattle.std.proofs.Common.{refl, sym, ap, ◌∙◌, subst, arith, eqb-true, eq-eqb}
use Rattle.std.proofs.Math.Seq.{take-length, take-append_seam}
use Rattle.std.proofs.lemmas.{List.{length-map, map-append, Quantifiers.position-Some}, Option.{get_or_from_slice_get, slice_get-get_or, slice_get-map, slice_get_cases, slice_get_within}}
use Rattle.std.specs.{List.{IsDistinct, AllByRecursion, list_any}, Option.option_map}
use Rattle.indexmap.specs.IndexSet.{insert_key}
use Rattle.mm_pairs.{specs.{Named.{named, HasGrown, HaveOneName, IsNameOf, AreNamed}}, proofs.Names.name_stays}
pub use Rattle.mm_pairs.specs.Found.{same_pair}

-- 1. What is at the place of a name.

module _ {K A : Type 0} (f : K → A) (none : A) (keys : List K) where
  pub named_at : (at : ℕ) (k : K) (x : A) → slice_get keys at ≡ Some k → f k ≡ x → IsNameOf none (map f keys) (at + 1) x
  named_at at k x got is =
      let within = slice_get_within keys at k got in
      let long = length-map keys f in
      let next : at + 1 ≡ suc at = omega arith in
      record {
        within = omega (arith, within, long);
        is = ap (named none (map f keys)) next ∙ get_or_from_slice_get (map f keys) at (f k) none (slice_get-map f keys at ∙ ap (option_map f) got) ∙ is;
      }

  pub named_before : (name : ℕ) (d : K) → (name ≡ 0 → ⊥) → name ≤ length (map f keys) → f (slice_index_or keys (name - 1) d) ≡ named none (map f keys) name
  named_before zero d some le = absurd (some refl)
  named_before (suc at) d some le =
      let before : suc at - 1 ≡ at = omega arith in
      let long = length-map keys f in
      ap (λ n. f (slice_index_or keys n d)) before
      ∙ sym (get_or_from_slice_get (map f keys) at (f (slice_index_or keys at d)) none (slice_get-map f keys at ∙ ap (option_map f) (slice_get-get_or keys at d (omega (arith, le, long)))))

-- the key at the first place that passes a test
pub found_at : {K : Type 0} (test : K → Bool) (keys : List K) (at : ℕ) → at < length keys → position test keys ≡ Some at
    → (k : K) × (slice_get keys at ≡ Some k) × (test k ≡ true)
found_at test keys at lt first = elim ((slice_get_cases keys at).1) [
  | inl w ↦ (w.0, w.2, subst (λ k. test k ≡ true) w.3 (position-Some test keys at w.0 first).1)
  | inr w ↦ let high = w.0 in absurd (omega (arith, high, lt))
]

-- 2. Keys of any kind, each of which stands for a value.

module _ {K A : Type 0} (eq : K → K → Bool) (f : K → A) (none : A) (P : K → Type 0) where
  module _ (tells : (k l : K) → P k → P l → f k ≡ f l → eq k l ≡ true) (some : (k : K) → P k → f k ≡ none → ⊥) where
    elsewhere : (k : K) (ks : List K) → P k → AllByRecursion P ks → AllByRecursion (λ l. eq k l ≡ false) ks
        → (at : ℕ) → at < length (map f ks) → f k ≡ slice_index_or (map f ks) at none → ⊥
    elsewhere k [] p ps apart at lt e = absurd (omega (arith, lt))
    elsewhere k (l ∷ ks) p ps apart zero lt e = let same = tells k l p ps.0 e in let other = apart.0 in cc
    elsewhere k (l ∷ ks) p ps apart (suc at) lt e = elsewhere k ks p ps.1 apart.1 at (omega (arith, lt)) e

    present : (ks : List K) → AllByRecursion P ks → (at : ℕ) → at < length (map f ks) → slice_index_or (map f ks) at none ≡ none → ⊥
    present [] ps at lt e = absurd (omega (arith, lt))
    present (k ∷ ks) ps zero lt e = some k ps.0 e
    present (k ∷ ks) ps (suc at) lt e = present ks ps.1 at (omega (arith, lt)) e

    once : (ks : List K) → AllByRecursion P ks → IsDistinct eq ks → (a b : ℕ) → a < length (map f ks) → b < length (map f ks)
        → slice_index_or (map f ks) a none ≡ slice_index_or (map f ks) b none → a ≡ b
    unfolding IsDistinct
    once [] ps apart a b la lb e = absurd (omega (arith, la))
    once (k ∷ ks) ps apart zero zero la lb e = refl
    once (k ∷ ks) ps apart zero (suc b) la lb e = absurd (elsewhere k ks ps.0 ps.1 apart.0 b (omega (arith, lb)) e)
    once (k ∷ ks) ps apart (suc a) zero la lb e = absurd (elsewhere k ks ps.0 ps.1 apart.0 a (omega (arith, la)) (sym e))
    once (k ∷ ks) ps apart (suc a) (suc b) la lb e = ap suc (once ks ps.1 apart.1 a b (omega (arith, la)) (omega (arith, lb)) e)

    -- no value has two names
    pub have_one_name : (ks : List K) → AllByRecursion P ks → IsDistinct eq ks → HaveOneName none (map f ks)
    have_one_name ks ps apart zero zero la lb e = refl
    have_one_name ks ps apart zero (suc b) la lb e = absurd (present ks ps b (omega (arith, lb)) (sym e))
    have_one_name ks ps apart (suc a) zero la lb e = absurd (present ks ps a (omega (arith, la)) e)
    have_one_name ks ps apart (suc a) (suc b) la lb e = ap suc (once ks ps apart a b (omega (arith, la)) (omega (arith, lb)) e)

  push : (ks : List K) (k : K) → AllByRecursion P ks → P k → AllByRecursion P (ks ++ k ∷ [])
  push [] k ps p = (p, tt)
  push (l ∷ ks) k ps p = (ps.0, push ks k ps.1 p)

  module _ (keys now : List K) (k : K) (is : now ≡ insert_key eq keys k) where
    -- what holds of each key still does
    pub all_more : AllByRecursion P keys → P k → AllByRecursion P now
    all_more ps p = subst (AllByRecursion P) (sym is) (by (list_any (eq k) keys))
      where
        by : (b : Bool) → AllByRecursion P (if b then keys else keys ++ k ∷ [])
        by true = ps
        by false = push keys k ps p

    -- what the key stands for has the name of its place
    pub is_named : ((l : K) → eq k l ≡ true → f l ≡ f k) → (at : ℕ) → ((l : K) × (slice_get now at ≡ Some l) × (eq k l ≡ true)) → IsNameOf none (map f now) (at + 1) (f k)
    is_named same at stored = named_at f none now at stored.0 (f k) stored.1 (same stored.0 stored.2)

    -- what was kept stays
    pub has_grown : HasGrown (map f keys) (map f now)
    has_grown = ap (λ l. take (length (map f keys)) (map f l)) is ∙ by (list_any (eq k) keys)
      where
        by : (b : Bool) → take (length (map f keys)) (map f (if b then keys else keys ++ k ∷ [])) ≡ map f keys
        by true = take-length (map f keys)
        by false = ap (take (length (map f keys))) (map-append f keys (k ∷ [])) ∙ take-append_seam (map f keys) (f k ∷ [])

-- 3. Pairs of numbers by their test.

pub is_same : (x y : ℕ × ℕ) → same_pair x y ≡ true → x ≡ y
is_same x y e = by (nat_eq x.0 y.0) refl e
  where
    by : (b : Bool) → nat_eq x.0 y.0 ≡ b → (b && nat_eq x.1 y.1) ≡ true → x ≡ y
    by true first second = λ j. (eqb-true x.0 y.0 first j, eqb-true x.1 y.1 second j)
    by false first second = cc

pub own_pair : (x y : ℕ × ℕ) → x ≡ y → same_pair x y ≡ true
own_pair x y e = ap (λ b. b && nat_eq x.1 y.1) (eq-eqb x.0 y.0 (ap (λ p. p.0) e)) ∙ eq-eqb x.1 y.1 (ap (λ p. p.1) e)

-- 4. Names that stand beside what they are of.

module _ {X : Type 0} (P : X → Type 0) where
  pub each_set : (xs : List X) (at : ℕ) (x : X) → AllByRecursion P xs → P x → AllByRecursion P (slice_set xs at x)
  each_set [] at x ps p = tt
  each_set (y ∷ xs) zero x ps p = (p, ps.1)
  each_set (y ∷ xs) (suc at) x ps p = (ps.0, each_set xs at x ps.1 p)

  each_copy : (n : ℕ) (x : X) → P x → AllByRecursion P (replicate n x)
  each_copy zero x p = tt
  each_copy (suc n) x p = (p, each_copy n x p)

  -- the first ones of a list, and copies after them
  pub each_filled : (n k : ℕ) (xs : List X) (x : X) → AllByRecursion P xs → P x → AllByRecursion P (take n xs ++ replicate k x)
  each_filled zero k xs x ps p = each_copy k x p
  each_filled (suc n) k [] x ps p = each_copy k x p
  each_filled (suc n) k (y ∷ xs) x ps p = (ps.0, each_filled n k xs x ps.1 p)

pub named_still : {A : Type 0} (none : A) (old new : List A) → HasGrown old new → (names : List (A × ℕ)) → AreNamed none old names → AreNamed none new names
named_still none old new grown [] all = tt
named_still none old new grown (x ∷ names) all = (name_stays none old new grown x.1 x.0 all.0, named_still none old new grown names all.1)

-- the name of what is not kept
pub none_named : {A : Type 0} (none : A) (kept : List A) → IsNameOf none kept 0 none
none_named none kept = record { within = omega arith; is = refl }
