-- Keys of the tables that are equal by their tests are the same, and what an insert leaves.
use Rattle.std.proofs.Common.{◌≡◌, ◌⊎◌, inl, inr, ℕ, Bool, true, false, ◌&&◌, nat_eq, List, [], ◌∷◌, ◌++◌, map, refl}
use Rattle.std.proofs.Common.{sym, ap, ◌∙◌, subst, eqb-true, eq-eqb}
use Rattle.std.proofs.lemmas.{Bool.cases_Bool, List.Elements.Contains-append_cases}
use Rattle.std.specs.{Prelude.{Contains, if◌then◌else◌}, List.list_any}
use lib.Pointwise.{pointwise, pointwise_decides}
use Rattle.indexmap.{specs.IndexSet.insert_key, proofs.CallerLemmas.Contains-insert_key}
use Rattle.mm_keep.specs.Claims.{Begins}
use Rattle.mm_keep.proofs.{Claims.begins_same, Members.{in_map, in_cases, none_in}}

-- 1. Tests that decide.

alike : (a b : ℕ) → (nat_eq a b ≡ true → a ≡ b) × (a ≡ b → nat_eq a b ≡ true)
alike a b = (eqb-true a b, eq-eqb a b)

abbrev numbers : List ℕ → List ℕ → Bool
numbers = pointwise nat_eq

abbrev pairs : List (List ℕ) → List (List ℕ) → Bool
pairs = pointwise (pointwise nat_eq)

halves : (a b : Bool) → (a && b) ≡ true → (a ≡ true) × (b ≡ true)
halves true b e = (refl, e)
halves false b e = cc

pub same_number : (a b : ℕ) → nat_eq a b ≡ true → a ≡ b
same_number a b e = eqb-true a b e

pub same_numbers : (xs ys : List ℕ) → numbers xs ys ≡ true → xs ≡ ys
same_numbers xs ys e = (pointwise_decides alike xs ys).0 e

both_true : (a b : Bool) → a ≡ true → b ≡ true → (a && b) ≡ true
both_true true b e f = f
both_true false b e f = cc

own_pairs : (xs : List (List ℕ)) → pairs xs xs ≡ true
own_pairs xs = (pointwise_decides (pointwise_decides alike) xs xs).1 refl

pub same_pairs : (xs ys : List (List ℕ)) → pairs xs ys ≡ true → xs ≡ ys
same_pairs xs ys e = (pointwise_decides (pointwise_decides alike) xs ys).0 e

-- 2. Kinds of keys: threads; words with forms; two numbers; slots with forms, with threads, and two with a form; leaks.

abbrev pub eq_row : List (List ℕ) × List (List ℕ) → List (List ℕ) × List (List ℕ) → Bool
eq_row x y = pairs x.0 y.0 && pairs x.1 y.1

pub same_row : (x y : List (List ℕ) × List (List ℕ)) → eq_row x y ≡ true → x ≡ y
same_row x y e = let h = halves (pairs x.0 y.0) (pairs x.1 y.1) e in λ j. (same_pairs x.0 y.0 h.0 j, same_pairs x.1 y.1 h.1 j)

pub own_row : (x : List (List ℕ) × List (List ℕ)) → eq_row x x ≡ true
own_row x = both_true (pairs x.0 x.0) (pairs x.1 x.1) (own_pairs x.0) (own_pairs x.1)

abbrev pub eq_stored : ℕ × List ℕ → ℕ × List ℕ → Bool
eq_stored x y = nat_eq x.0 y.0 && numbers x.1 y.1

pub same_stored : (x y : ℕ × List ℕ) → eq_stored x y ≡ true → x ≡ y
same_stored x y e = let h = halves (nat_eq x.0 y.0) (numbers x.1 y.1) e in λ j. (same_number x.0 y.0 h.0 j, same_numbers x.1 y.1 h.1 j)

abbrev pub eq_two : ℕ × ℕ → ℕ × ℕ → Bool
eq_two x y = nat_eq x.0 y.0 && nat_eq x.1 y.1

pub same_two : (x y : ℕ × ℕ) → eq_two x y ≡ true → x ≡ y
same_two x y e = let h = halves (nat_eq x.0 y.0) (nat_eq x.1 y.1) e in λ j. (same_number x.0 y.0 h.0 j, same_number x.1 y.1 h.1 j)

abbrev pub eq_write : ℕ × ℕ × List ℕ → ℕ × ℕ × List ℕ → Bool
eq_write x y = (nat_eq x.0 y.0 && nat_eq x.1 y.1) && numbers x.2 y.2

pub same_write : (x y : ℕ × ℕ × List ℕ) → eq_write x y ≡ true → x ≡ y
same_write x y e =
    let h = halves (nat_eq x.0 y.0 && nat_eq x.1 y.1) (numbers x.2 y.2) e in
    let k = halves (nat_eq x.0 y.0) (nat_eq x.1 y.1) h.0 in
    λ j. (same_number x.0 y.0 k.0 j, same_number x.1 y.1 k.1 j, same_numbers x.2 y.2 h.1 j)

abbrev pub eq_faulted : ℕ × List (List ℕ) × List (List ℕ) → ℕ × List (List ℕ) × List (List ℕ) → Bool
eq_faulted x y = (nat_eq x.0 y.0 && pairs x.1 y.1) && pairs x.2 y.2

pub same_faulted : (x y : ℕ × List (List ℕ) × List (List ℕ)) → eq_faulted x y ≡ true → x ≡ y
same_faulted x y e =
    let h = halves (nat_eq x.0 y.0 && pairs x.1 y.1) (pairs x.2 y.2) e in
    let k = halves (nat_eq x.0 y.0) (pairs x.1 y.1) h.0 in
    λ j. (same_number x.0 y.0 k.0 j, same_pairs x.1 y.1 k.1 j, same_pairs x.2 y.2 h.1 j)

abbrev pub eq_event : ℕ × List ℕ × List ℕ × List ℕ → ℕ × List ℕ × List ℕ × List ℕ → Bool
eq_event x y = ((nat_eq x.0 y.0 && numbers x.1 y.1) && numbers x.2 y.2) && numbers x.3 y.3

pub same_event : (x y : ℕ × List ℕ × List ℕ × List ℕ) → eq_event x y ≡ true → x ≡ y
same_event x y e =
    let h = halves ((nat_eq x.0 y.0 && numbers x.1 y.1) && numbers x.2 y.2) (numbers x.3 y.3) e in
    let k = halves (nat_eq x.0 y.0 && numbers x.1 y.1) (numbers x.2 y.2) h.0 in
    let l = halves (nat_eq x.0 y.0) (numbers x.1 y.1) k.0 in
    λ j. (same_number x.0 y.0 l.0 j, same_numbers x.1 y.1 l.1 j, same_numbers x.2 y.2 k.1 j, same_numbers x.3 y.3 h.1 j)

abbrev pub eq_leak : ℕ × ℕ × ℕ × List ℕ → ℕ × ℕ × ℕ × List ℕ → Bool
eq_leak x y = ((nat_eq x.0 y.0 && nat_eq x.1 y.1) && nat_eq x.2 y.2) && numbers x.3 y.3

pub same_leak : (x y : ℕ × ℕ × ℕ × List ℕ) → eq_leak x y ≡ true → x ≡ y
same_leak x y e =
    let h = halves ((nat_eq x.0 y.0 && nat_eq x.1 y.1) && nat_eq x.2 y.2) (numbers x.3 y.3) e in
    let k = halves (nat_eq x.0 y.0 && nat_eq x.1 y.1) (nat_eq x.2 y.2) h.0 in
    let l = halves (nat_eq x.0 y.0) (nat_eq x.1 y.1) k.0 in
    λ j. (same_number x.0 y.0 l.0 j, same_number x.1 y.1 l.1 j, same_number x.2 y.2 k.1 j, same_numbers x.3 y.3 h.1 j)

-- 3. Inserts.

-- what a table holds after an insert: all that it held, and what was inserted
pub record Inserted {X : Type 0} (old : List X) (x : X) (new : List X) : Type 0 where
  pub begins : Begins old new
  pub has : Contains new x
  pub only : (y : X) → Contains new y → Contains old y ⊎ (y ≡ x)

map_push : {K X : Type 0} (f : K → X) (ks : List K) (k : K) → map f (ks ++ k ∷ []) ≡ map f ks ++ f k ∷ []
map_push f [] k = refl
map_push f (y ∷ ks) k = ap (λ l. f y ∷ l) (map_push f ks k)

pushed : {X : Type 0} (old new : List X) (x : X) → new ≡ old ++ x ∷ [] → Contains new x → Inserted old x new
pushed old new x e has = record {
  begins = record { more = x ∷ []; whole = e };
  has = has;
  only = λ y inside. elim (Contains-append_cases old (x ∷ []) y (subst (λ l. Contains l y) e inside)) [
    | inl early ↦ inl early
    | inr last ↦ elim (in_cases x [] y last) [ inl same ↦ inr (sym same) | inr none ↦ absurd (none_in y none) ]
  ];
}

pub inserted : {K X : Type 0} (f : K → X) (eq : K → K → Bool) → ((a b : K) → eq a b ≡ true → a ≡ b)
    → (keys now : List K) (k : K) (x : X) → now ≡ insert_key eq keys k → f k ≡ x → Inserted (map f keys) x (map f now)
inserted f eq same keys now k x e is =
    let has = subst (Contains (map f now)) is (in_map f now k (subst (λ l. Contains l k) (sym e) (Contains-insert_key eq same keys k))) in
    elim (cases_Bool (list_any (eq k) keys)) [
      | inl there ↦
          let stays : now ≡ keys = e ∙ ap (λ (b : Bool). if b then keys else keys ++ k ∷ []) there in
          let all : map f now ≡ map f keys = ap (map f) stays in
          record {
            begins = subst (Begins (map f keys)) (sym all) (begins_same (map f keys));
            has = has;
            only = λ y inside. inl (subst (λ l. Contains l y) all inside);
          }
      | inr absent ↦
          let grows : now ≡ keys ++ k ∷ [] = e ∙ ap (λ (b : Bool). if b then keys else keys ++ k ∷ []) absent in
          pushed (map f keys) (map f now) x (ap (map f) grows ∙ map_push f keys k ∙ ap (λ v. map f keys ++ v ∷ []) is) has
    ]
