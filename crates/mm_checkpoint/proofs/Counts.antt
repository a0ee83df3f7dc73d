-- Lists: what holds of each element, how many pass a test, and which one is found.
use Rattle.std.proofs.Common.{◌≡◌, suc, ◌+◌, ◌≤◌, Bool, true, false, cond, List, [], ◌∷◌, ◌++◌, length, map, Option}
use Rattle.std.proofs.Common.{Some, None, refl, sym, ap, ◌∙◌, append_assoc, arith}
use Rattle.std.proofs.lemmas.List.Sums.{sum_by-cons, sum_by_push, sum_by-append}
use Rattle.std.specs.{Prelude.{◌||◌, count_by}, List.{AllByRecursion, find, list_any}}
use Rattle.mm_model.specs.Flags.{one_if}

-- 1. Each element.

pub each_append : {A : Type 0} (P : A → Type 0) (xs ys : List A) → AllByRecursion P xs → AllByRecursion P ys
    → AllByRecursion P (xs ++ ys)
each_append P [] ys h k = k
each_append P (x ∷ xs) ys h k = (h.0, each_append P xs ys h.1 k)

pub each_parts : {A : Type 0} (P : A → Type 0) (xs ys : List A) → AllByRecursion P (xs ++ ys)
    → AllByRecursion P xs × AllByRecursion P ys
each_parts P [] ys h = (tt, h)
each_parts P (x ∷ xs) ys h = let rest = each_parts P xs ys h.1 in ((h.0, rest.0), rest.1)

pub any_map : {A B : Type 0} (p : B → Bool) (f : A → B) (xs : List A) → list_any p (map f xs)
    ≡ list_any (λ x. p (f x)) xs
any_map p f [] = refl
any_map p f (x ∷ xs) = ap (λ b. p (f x) || b) (any_map p f xs)

abbrev pub listed : {A : Type 0} → Option A → List A
listed None = []
listed (Some x) = x ∷ []

-- what is read so far and what is left, if the next one is read
pub moved : {A : Type 0} (xs rest : List A) (x : A) → (xs ++ x ∷ []) ++ rest ≡ xs ++ x ∷ rest
moved xs rest x = append_assoc xs (x ∷ []) rest

-- 2. Counts.

module _ {A : Type 0} (p : A → Bool) where
  pub count_cons : (x : A) (xs : List A) → count_by p (x ∷ xs) ≡ one_if (p x) + count_by p xs
  count_cons x xs = sum_by-cons (λ y. cond (p y) 1 0) x xs

  pub count_yes : (x : A) (xs : List A) → p x ≡ true → count_by p (x ∷ xs) ≡ suc (count_by p xs)
  count_yes x xs e = let one = ap one_if e in omega (arith, count_cons x xs, one)

  pub count_no : (x : A) (xs : List A) → p x ≡ false → count_by p (x ∷ xs) ≡ count_by p xs
  count_no x xs e = let none = ap one_if e in omega (arith, count_cons x xs, none)

  pub count_push : (xs : List A) (x : A) → count_by p (xs ++ x ∷ []) ≡ count_by p xs + one_if (p x)
  count_push xs x = sum_by_push (λ y. cond (p y) 1 0) xs x

  pub count_append : (xs ys : List A) → count_by p (xs ++ ys) ≡ count_by p xs + count_by p ys
  count_append xs ys = sum_by-append (λ y. cond (p y) 1 0) xs ys

  -- none passes
  pub none_count : (xs : List A) → AllByRecursion (λ x. p x ≡ false) xs → count_by p xs ≡ 0
  none_count [] h = refl
  none_count (x ∷ xs) h = count_no x xs h.0 ∙ none_count xs h.1

  pub count_none : (xs : List A) → count_by p xs ≡ 0 → AllByRecursion (λ x. p x ≡ false) xs
  count_none [] h = tt
  count_none (x ∷ xs) h = by (p x) refl (count_none xs)
    where
      by : (b : Bool) → p x ≡ b → (count_by p xs ≡ 0 → AllByRecursion (λ y. p y ≡ false) xs)
          → AllByRecursion (λ y. p y ≡ false) (x ∷ xs)
      by true e later = absurd (omega (arith, count_yes x xs e, h))
      by false e later = (e, later (sym (count_no x xs e) ∙ h))

  pub none_any : (xs : List A) → list_any p xs ≡ false → AllByRecursion (λ x. p x ≡ false) xs
  none_any [] h = tt
  none_any (x ∷ xs) h = by (p x) refl h (none_any xs)
    where
      by : (b : Bool) → p x ≡ b → (b || list_any p xs) ≡ false
          → (list_any p xs ≡ false → AllByRecursion (λ y. p y ≡ false) xs)
          → AllByRecursion (λ y. p y ≡ false) (x ∷ xs)
      by true e h later = absurd cc
      by false e h later = (e, later h)

  pub any_none : (xs : List A) → AllByRecursion (λ x. p x ≡ false) xs → list_any p xs ≡ false
  any_none [] h = refl
  any_none (x ∷ xs) h = ap (λ b. b || list_any p xs) h.0 ∙ any_none xs h.1

  -- 3. What is found.

  pub find_each : (P : A → Type 0) (xs : List A) → AllByRecursion P xs → AllByRecursion P (listed (find p xs))
  find_each P [] h = tt
  find_each P (x ∷ xs) h = by (p x) (find_each P xs h.1)
    where
      by : (b : Bool) → AllByRecursion P (listed (find p xs))
          → AllByRecursion P (listed (cond b (Some x) (find p xs)))
      by true rest = (h.0, tt)
      by false rest = rest

  pub record Found (P : A → Type 0) (xs : List A) : Type 0 where
    pub item : A
    pub found : find p xs ≡ Some item
    pub passes : p item ≡ true
    pub holds : P item

  pub find_some : (P : A → Type 0) (xs : List A) → AllByRecursion P xs → 1 ≤ count_by p xs → Found P xs
  find_some P [] h some = absurd (omega arith)
  find_some P (x ∷ xs) h some = by (p x) refl (find_some P xs h.1)
    where
      by : (b : Bool) → p x ≡ b → (1 ≤ count_by p xs → Found P xs) → Found P (x ∷ xs)
      by true e later =
          record { item = x; found = ap (λ b. cond b (Some x) (find p xs)) e; passes = e; holds = h.0 }
      by false e later =
          let rest = later (omega (arith, some, count_no x xs e)) in record {
            item = rest.item;
            found = ap (λ b. cond b (Some x) (find p xs)) e ∙ rest.found;
            passes = rest.passes;
            holds = rest.holds;
          }

  pub find_none : (xs : List A) → AllByRecursion (λ x. p x ≡ false) xs → find p xs ≡ None
  find_none [] h = refl
  find_none (x ∷ xs) h = ap (λ b. cond b (Some x) (find p xs)) h.0 ∙ find_none xs h.1

pub count_map : {A B : Type 0} (p : B → Bool) (f : A → B) (xs : List A) → count_by p (map f xs)
    ≡ count_by (λ x. p (f x)) xs
count_map p f [] = refl
count_map p f (x ∷ xs) =
    count_cons p (f x) (map f xs) ∙ ap (λ n. one_if (p (f x)) + n) (count_map p f xs) ∙ sym (count_cons (λ y. p (f y)) x xs)

pub count_all : {A : Type 0} (xs : List A) → count_by (λ _. true) xs ≡ length xs
count_all [] = refl
count_all (x ∷ xs) = let one = count_cons (λ _. true) x xs in let rest = count_all xs in omega (arith, one, rest)
