-- What an exploration finds is determined: the list, the runs of words, the faults, and the ends with their outcomes.
use Rattle.std.proofs.Common.{◌≡◌, ◌⊎◌, inl, inr, ℕ, zero, suc, ◌≤◌, Bool, true, false, List, [], ◌∷◌, ◌++◌, map, length}
use Rattle.std.proofs.Common.{refl, sym, ap, ◌∙◌, subst, arith}
use Rattle.std.specs.{Prelude.Contains, List.{AllByRecursion, AllZip}}
use Rattle.mm_model.specs.{Image.{Image, start}, Report.groups_of, Counted.writes}
use Rattle.mm_span.specs.Pairs.{EachPair}
use Rattle.mm_explore.specs.Schedules.{Before}
use Rattle.mm_explore.specs.Explored.{IsLeast, IsExplored, IsAll}
use Rattle.mm_explore.specs.{Closed.IsFirstEndless, Findings.{any_kind, Reaches, IsFinal}}
use Rattle.mm_explore.specs.{Finds.{IsGroupOf, faults_of, outcomes_of}, Laws.ExplorationsAreOne, Results.{GroupFound}}
use Rattle.mm_explore.specs.Outcomes.{End, SelectsEndless, AreEnds, IsOutcome}
use Rattle.mm_explore.proofs.{Selections.selects_one, SetOutcomes.outcome_one}
use Rattle.mm_explore.specs.Searching.{UpTo}
use Rattle.mm_explore.proofs.Orders.{before_self, before_through}
use Rattle.mm_span.proofs.{Members.{none_in, in_cases, all_at}, Ones.spans_one}

-- 1. The first schedules for which something holds.

record AreFirst (n : ℕ) (S : List ℕ → Type 0) (ts : List (List ℕ)) : Type 0 where
  in_order : EachPair Before ts
  each : AllByRecursion S ts
  few : length ts ≤ n
  first : (t : List ℕ) → S t → Contains ts t ⊎ ((length ts ≡ n) × AllByRecursion (λ s. Before s t) ts)

head_up_to : (n : ℕ) (S : List ℕ → Type 0) (y : List ℕ) (ts : List (List ℕ)) → AreFirst n S (y ∷ ts) → (x : List ℕ) → S x → UpTo y x
head_up_to n S y ts k x h = elim (k.first x h) [
  | inl inside ↦ elim (in_cases y ts x inside) [
    | inl e ↦ inl e
    | inr later ↦ inr (all_at (Before y) ts x k.in_order.0 later)
  ]
  | inr full ↦ inr full.1.0
]

same_head : (x y : List ℕ) → UpTo x y → UpTo y x → x ≡ y
same_head x y (inl e) k = e
same_head x y (inr h) (inl e) = sym e
same_head x y (inr h) (inr k) = absurd (before_self x (before_through x y x h k))

abbrev After : (List ℕ → Type 0) → List ℕ → List ℕ → Type 0
After S x t = S t × Before x t

each_after : (S : List ℕ → Type 0) (x : List ℕ) (ts : List (List ℕ)) → AllByRecursion S ts → AllByRecursion (Before x) ts → AllByRecursion (After S x) ts
each_after S x [] h k = tt
each_after S x (t ∷ ts) h k = ((h.0, k.0), each_after S x ts h.1 k.1)

tail_first : (n : ℕ) (S : List ℕ → Type 0) (x : List ℕ) (ts : List (List ℕ)) → AreFirst (suc n) S (x ∷ ts) → AreFirst n (After S x) ts
tail_first n S x ts k = record {
  in_order = k.in_order.1;
  each = each_after S x ts k.each.1 k.in_order.0;
  few = let few = k.few in omega (arith, few);
  first = λ t h. elim (k.first t h.0) [
    | inl inside ↦ elim (in_cases x ts t inside) [
      | inl e ↦ absurd (before_self x (subst (Before x) (sym e) h.1))
      | inr later ↦ inl later
    ]
    | inr full ↦ let long = full.0 in inr (omega (arith, long), full.1.1)
  ];
}

none_first : (n : ℕ) (S : List ℕ → Type 0) (y : List ℕ) (ts : List (List ℕ)) → AreFirst n S [] → AreFirst n S (y ∷ ts) → ⊥
none_first n S y ts k m = elim (k.first y m.each.0) [
  | inl inside ↦ none_in y inside
  | inr full ↦ let zero_long = full.0 in let few = m.few in omega (arith, zero_long, few)
]

firsts_one : (n : ℕ) (S : List ℕ → Type 0) (a b : List (List ℕ)) → AreFirst n S a → AreFirst n S b → a ≡ b
firsts_one n S [] [] k m = refl
firsts_one n S [] (y ∷ b) k m = absurd (none_first n S y b k m)
firsts_one n S (x ∷ a) [] k m = absurd (none_first n S x a m k)
firsts_one zero S (x ∷ a) (y ∷ b) k m = let few = k.few in absurd (omega (arith, few))
firsts_one (suc n) S (x ∷ a) (y ∷ b) k m =
    let same : y ≡ x = same_head y x (head_up_to (suc n) S y b m x k.each.0) (head_up_to (suc n) S x a k y m.each.0) in
    let rest = firsts_one n (After S x) a b (tail_first n S x a k) (tail_first n S x b (subst (λ z. AreFirst (suc n) S (z ∷ b)) same m)) in
    ap (λ l. x ∷ l) rest ∙ ap (λ z. z ∷ b) (sym same)

lists_one : (i : Image) (n : ℕ) (a b : List (List ℕ)) → IsExplored i n a → IsExplored i n b → a ≡ b
lists_one i n a b k m =
    firsts_one n (IsLeast i) a b
    (record { in_order = k.in_order; each = k.least; few = k.few; first = k.first })
    (record { in_order = m.in_order; each = m.least; few = m.few; first = m.first })

-- 2. What each group reached.

groups_one : (i : Image) (list : List (List ℕ)) (gs : List ℕ) (a b : List GroupFound) → AllZip (IsGroupOf i list) gs a → AllZip (IsGroupOf i list) gs b → a ≡ b
groups_one i list [] [] [] h k = refl
groups_one i list [] (x ∷ a) b h k = absurd h
groups_one i list [] [] (y ∷ b) h k = absurd k
groups_one i list (g ∷ gs) [] b h k = absurd h
groups_one i list (g ∷ gs) (x ∷ a) [] h k = absurd k
groups_one i list (g ∷ gs) (x ∷ a) (y ∷ b) h k =
    let number = h.0.group ∙ sym k.0.group in
    let touched = spans_one (Reaches any_kind i list g) x.reached.touched y.reached.touched h.0.reached.touched k.0.reached.touched in
    let wrote = spans_one (Reaches writes i list g) x.reached.wrote y.reached.wrote h.0.reached.wrote k.0.reached.wrote in
    let rest = groups_one i list gs a b h.1 k.1 in
    λ j. record { group = number j; reached = record { touched = touched j; wrote = wrote j } } ∷ rest j

-- 3. Ends.

answers_one : (A : Type 0) (a b : Bool) → (a ≡ true → A) → (a ≡ false → A → ⊥) → (b ≡ true → A) → (b ≡ false → A → ⊥) → a ≡ b
answers_one A true true h k m n = refl
answers_one A true false h k m n = absurd (n refl (h refl))
answers_one A false true h k m n = absurd (k refl (m refl))
answers_one A false false h k m n = refl

endless_one : (all : Bool) (i : Image) (list a b : List (List ℕ)) → SelectsEndless all i list a → SelectsEndless all i list b → a ≡ b
endless_one true i list a b h k = selects_one (IsFirstEndless i) list a b h k
endless_one false i list a b h k = h ∙ sym k

ends_same : (i : Image) (a b : List End) → map (λ (e : End). e.schedule) a ≡ map (λ (e : End). e.schedule) b
    → AllByRecursion (λ (e : End). IsOutcome i e.schedule e.outcome) a → AllByRecursion (λ (e : End). IsOutcome i e.schedule e.outcome) b → a ≡ b
ends_same i [] [] e h k = refl
ends_same i [] (y ∷ b) e h k = cc
ends_same i (x ∷ a) [] e h k = cc
ends_same i (x ∷ a) (y ∷ b) e h k =
    let head : x.schedule ≡ y.schedule = cc in
    let tail : map (λ (z : End). z.schedule) a ≡ map (λ (z : End). z.schedule) b = cc in
    let outcome = outcome_one i y.schedule x.outcome y.outcome (subst (λ t. IsOutcome i t x.outcome) head h.0) k.0 in
    let rest = ends_same i a b tail h.1 k.1 in
    λ j. record { schedule = head j; outcome = outcome j } ∷ rest j

ends_one : (all : Bool) (i : Image) (list : List (List ℕ)) (a b : List End) → AreEnds i list all a → AreEnds i list all b → a ≡ b
ends_one all i list a b h k =
    let finals = selects_one (IsFinal i) list h.finals k.finals h.final k.final in
    let firsts = endless_one all i list h.firsts k.firsts h.endless k.endless in
    ends_same i a b (h.are.schedules ∙ (λ j. finals j ++ firsts j) ∙ sym k.are.schedules) h.are.outcomes k.are.outcomes

-- 4. The whole.

pub explorations_are_one : ExplorationsAreOne
explorations_are_one i limit e other k m =
    let list : m.list ≡ k.list = lists_one i limit m.list k.list m.explored k.explored in
    let all : e.all ≡ other.all = answers_one (IsAll i k.list) e.all other.all k.all k.more (λ h. subst (IsAll i) list (m.all h)) (λ h n. m.more h (subst (IsAll i) (sym list) n)) in
    let count = k.count ∙ ap length (sym list) ∙ sym m.count in
    let groups = groups_one i k.list (groups_of (start i).core) e.groups other.groups k.groups (subst (λ l. AllZip (IsGroupOf i l) (groups_of (start i).core) other.groups) list m.groups) in
    let faults = k.faults ∙ ap (faults_of i) (sym list) ∙ sym m.faults in
    let ends : k.ends ≡ m.ends = ends_one e.all i k.list k.ends m.ends k.are (subst (λ b. AreEnds i k.list b m.ends) (sym all) (subst (λ l. AreEnds i l other.all m.ends) list m.are)) in
    let outcomes = k.outcomes ∙ ap (outcomes_of i) ends ∙ sym m.outcomes in
    λ j. record { count = count j; all = all j; groups = groups j; faults = faults j; outcomes = outcomes j }
