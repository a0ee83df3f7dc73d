-- The groups of slots, ascending, and outputs of these groups.
use Rattle.std.specs.Prelude.{◌==◌}
use Rattle.std.proofs.Common.{◌≡◌, ◌≢◌, ℕ, zero, suc, ◌+◌, ◌<◌, ◌≤◌, inl, inr, Bool, true, false, cond, ◌||◌, eqb, List}
use Rattle.std.proofs.Common.{[], ◌∷◌, length, map, Option, refl, sym, ap, subst, ◌∙◌, arith, eq-eqb}
use Rattle.std.proofs.lemmas.Bool.{cases_Bool, cases_eq, ne_eqb, or_right}
use Rattle.std.proofs.lemmas.List.{length-map}
use Rattle.std.proofs.lemmas.List.Kept.{IsStrictlyIncreasing-filter}
use Rattle.std.proofs.lemmas.List.FromFn.{length-range_with_len, get_or-range_with_len}
use Rattle.std.specs.List.{AllByRecursion, filter, list_any, range_with_len, Sorted.IsStrictlyIncreasing}
use Rattle.mm_machine.{proofs.{Copied.own_group, Outputs.group_has}, specs.Snapshot.{Parts, has_output, IsSnapshot}}
use Rattle.mm_model.proofs.TurnKeeps.{each_of}
use Rattle.mm_model.proofs.CoreRows.{each_map, each_both, rest_rises, above_first, slot_limit-few, out_of_map}
use Rattle.mm_model.proofs.Filters.{filter_takes, filter_drops, each_filter, filter_short}
use Rattle.mm_model.specs.{Slot.Slot, Image.Image, Groups.has_group, Fits.identity_of, Spelling.IsImage}
use Rattle.mm_thread.specs.Output.{Output}
use Rattle.mm_checkpoint.{specs.Reading.groups_of, proofs.Counts.any_map}

-- 1. Outputs of the groups of slots.

range_rises : (a n : ℕ) → IsStrictlyIncreasing (range_with_len a n)
range_rises a n k lt =
    let long = length-range_with_len a n in
    let this = get_or-range_with_len a n k 0 (omega (arith, long)) in
    let next = get_or-range_with_len a n (k + 1) 0 (omega (arith, long)) in
    omega (arith, this, next)

among_range : (g from n : ℕ) → from ≤ g → g < from + n → list_any (λ h. h == g) (range_with_len from n) ≡ true
among_range g from zero low high = absurd (omega arith)
among_range g from (suc n) low high = elim (cases_eq from g) [
  | inl e ↦ ap (λ b. b || list_any (λ h. h == g) (range_with_len (from + 1) n)) (eq-eqb from g e)
  | inr ne ↦ or_right (from == g) (list_any (λ h. h == g) (range_with_len (from + 1) n)) (among_range g (from + 1) n (omega arith) (omega arith))
]

among_filter : (p : ℕ → Bool) (g : ℕ) → p g ≡ true → (xs : List ℕ) → list_any (λ h. h == g) (filter p xs) ≡ list_any (λ h. h == g) xs
among_filter p g e [] = refl
among_filter p g e (x ∷ xs) = elim (cases_Bool (p x)) [
  | inl t ↦ ap (list_any (λ h. h == g)) (filter_takes p x xs t) ∙ ap (λ b. (x == g) || b) (among_filter p g e xs)
  | inr f ↦
      let other : x ≡ g → ⊥ = λ s. let t : p x ≡ true = ap p s ∙ e in cc in
      ap (list_any (λ h. h == g)) (filter_drops p x xs f) ∙ among_filter p g e xs ∙ sym (ap (λ b. b || list_any (λ h. h == g) xs) (ne_eqb x g other))
]

among_groups : (slots : List Slot) (g : ℕ) → g < 64 → has_group slots g ≡ true → list_any (λ h. h == g) (groups_of slots) ≡ true
unfolding groups_of
among_groups slots g lt has = among_filter (has_group slots) g has (range_with_len 0 64) ∙ among_range g 0 64 (omega arith) (omega arith)

module _ (slots : List Slot) (small : AllByRecursion (λ (s : Slot). s.group < 64) slots) (outputs : List Output)
    (are : map (λ (o : Output). o.group) outputs ≡ groups_of slots) where
  pub groups_rise : IsStrictlyIncreasing (map (λ (o : Output). o.group) outputs)
  unfolding groups_of
  groups_rise = subst IsStrictlyIncreasing (sym are)
      (IsStrictlyIncreasing-filter (has_group slots) (range_with_len 0 64) (range_rises 0 64))

  pub groups_used : AllByRecursion (λ (o : Output). has_group slots o.group ≡ true) outputs
  unfolding groups_of
  groups_used =
      let all = range_with_len 0 64 in
      out_of_map _ (λ (o : Output). o.group) outputs
      (subst (AllByRecursion (λ g. has_group slots g ≡ true)) (sym are)
      (each_map _ _ (λ g h. h.1)
      (filter (has_group slots) all)
      (each_filter (has_group slots) (λ _. Unit {0}) all (each_of _ (λ _. tt) all))))

  pub groups_low : AllByRecursion (λ (o : Output). o.group < 64) outputs
  groups_low = each_map _ _
      (λ o has. group_has (λ g. g < 64) slots o.group small has) outputs groups_used

  pub groups_shown : (g : ℕ) → g < 64 → has_group slots g ≡ true → has_output outputs g ≡ true
  groups_shown g lt has =
      sym (any_map (λ h. h == g) (λ (o : Output). o.group) outputs) ∙ ap (list_any (λ h. h == g)) are
      ∙ among_groups slots g lt has

  pub slots_shown : AllByRecursion (λ (s : Slot). has_output outputs s.group ≡ true) slots
  slots_shown =
      each_both _ _ _ (λ s lt has. groups_shown s.group lt has) slots small
      (own_group slots)

-- 2. A list that rises is what a test passes of a range.

abbrev DoRise : ℕ → List ℕ → Type 0
DoRise least [] = Unit {0}
DoRise least (x ∷ xs) = (least ≤ x) × DoRise (x + 1) xs

rise : (xs : List ℕ) (least : ℕ) → IsStrictlyIncreasing xs → AllByRecursion (λ x. least ≤ x) xs → DoRise least xs
rise [] least h low = tt
rise (x ∷ xs) least h low = (low.0, rise xs (x + 1) (rest_rises x xs h) (each_map _ _ (λ y lt. omega (arith, lt)) xs (above_first x xs h)))

abbrev is_among : List ℕ → ℕ → Bool
is_among xs g = list_any (λ x. eqb x g) xs

not_among : (xs : List ℕ) (least g : ℕ) → DoRise least xs → g < least → is_among xs g ≡ false
not_among [] least g up lt = refl
not_among (x ∷ xs) least g up lt = ap (λ b. b || is_among xs g) (ne_eqb x g (λ same. absurd (omega (arith, same, up.0, lt)))) ∙ not_among xs (x + 1) g up.1 (let low = up.0 in omega (arith, low, lt))

module _ (test : ℕ → Bool) where
  abbrev ArePassed : ℕ → List ℕ → Type 0
  ArePassed limit xs = AllByRecursion (λ x. (test x ≡ true) × (x < limit)) xs

  abbrev HasPassed : ℕ → List ℕ → Type 0
  HasPassed from xs = (g : ℕ) → from ≤ g → test g ≡ true → is_among xs g ≡ true

  -- the same from the next number on
  abbrev PassesOn : (from n limit : ℕ) → Type 0
  PassesOn from n limit = (ys : List ℕ) → DoRise (from + 1) ys → ArePassed limit ys → HasPassed (from + 1) ys → filter test (range_with_len (from + 1) n) ≡ ys

  -- a number that passes stands first
  takes_first : (xs : List ℕ) (from n limit : ℕ) → PassesOn from n limit → DoRise from xs → ArePassed limit xs
      → HasPassed from xs → test from ≡ true → from ∷ filter test (range_with_len (from + 1) n) ≡ xs
  takes_first [] from n limit on up all known is = absurd (let has : is_among [] from ≡ true = known from (omega arith) is in cc)
  takes_first (x ∷ xs) from n limit on up all known is = elim (cases_eq x from) [
    | inl same ↦
        let next : DoRise (from + 1) xs = subst (λ k. DoRise (k + 1) xs) same up.1 in
        let still : HasPassed (from + 1) xs = λ g low passes.
        ap (λ b. b || is_among xs g) (sym (ne_eqb x g (λ e. absurd (omega (arith, e, same, low))))) ∙ known g (omega (arith, low)) passes in
        ap (λ k. k ∷ filter test (range_with_len (from + 1) n)) (sym same) ∙ ap (λ ys. x ∷ ys) (on xs next all.1 still)
    | inr ne ↦
        let least = up.0 in
        let none : is_among (x ∷ xs) from ≡ false = ap (λ b. b || is_among xs from) (ne_eqb x from ne) ∙ not_among xs (x + 1) from up.1 (omega (arith, least)) in
        let has : is_among (x ∷ xs) from ≡ true = known from (omega arith) is in
        absurd cc
  ]

  raised : (xs : List ℕ) (from limit : ℕ) → test from ≡ false → DoRise from xs → ArePassed limit xs → DoRise (from + 1) xs
  raised [] from limit fails up all = tt
  raised (x ∷ xs) from limit fails up all =
      let apart : x ≢ from = λ same. absurd (let passes : test from ≡ true = ap test (sym same) ∙ all.0.0 in cc) in
      let least = up.0 in
      (omega (arith, apart, least), up.1)

  filter_range : (n : ℕ) (xs : List ℕ) (from limit : ℕ) → from + n ≡ limit → DoRise from xs → ArePassed limit xs → HasPassed from xs → filter test (range_with_len from n) ≡ xs
  filter_range zero [] from limit size up all known = refl
  filter_range zero (x ∷ xs) from limit size up all known = absurd (let low = up.0 in let high = all.0.1 in omega (arith, size, low, high))
  filter_range (suc n) xs from limit size up all known = by (test from) refl (λ ys. filter_range n ys (from + 1) limit (omega (arith, size)))
    where
      by : (b : Bool) → test from ≡ b → PassesOn from n limit → cond b (from ∷ filter test (range_with_len (from + 1) n)) (filter test (range_with_len (from + 1) n)) ≡ xs
      by true is on = takes_first xs from n limit on up all known is
      by false fails on = on xs (raised xs from limit fails up all) all (λ g low. known g (omega (arith, low)))

-- 3. The outputs of a snapshot have the groups of the image.

has_group-identity : (slots : List Slot) (g : ℕ) → list_any (λ (x : ℕ × ℕ × Option ℕ). eqb x.1 g) (map identity_of slots) ≡ has_group slots g
has_group-identity [] g = refl
has_group-identity (s ∷ slots) g = ap (λ b. eqb s.group g || b) (has_group-identity slots g)

pub same_groups : (slots images : List Slot) (g : ℕ) → map identity_of slots ≡ map identity_of images → has_group slots g ≡ has_group images g
same_groups slots images g same = sym (has_group-identity slots g) ∙ ap (list_any (λ (x : ℕ × ℕ × Option ℕ). eqb x.1 g)) same ∙ has_group-identity images g

pub small_groups : (i : Image) → IsImage i → AllByRecursion (λ (s : Slot). s.group < 64) i.slots
small_groups i image =
    each_map _ _
    (λ s fresh. let few = slot_limit-few i.version in let group = fresh.group in omega (arith, few, group)) i.slots
    image.fresh

filter_same : (p q : ℕ → Bool) → ((x : ℕ) → p x ≡ q x) → (xs : List ℕ) → filter p xs ≡ filter q xs
filter_same p q same [] = refl
filter_same p q same (x ∷ xs) =
    ap (λ b. cond b (x ∷ filter p xs) (filter p xs)) (same x) ∙ ap (λ ys. cond (q x) (x ∷ ys) ys) (filter_same p q same xs)

-- slots of one identity have the same groups
pub groups_by : (slots images : List Slot) → map identity_of slots ≡ map identity_of images → groups_of slots ≡ groups_of images
unfolding groups_of
groups_by slots images same = filter_same (has_group slots) (has_group images) (λ g. same_groups slots images g same) (range_with_len 0 64)

shown_group : (outputs : List Output) (slots : List Slot) (g : ℕ) → AllByRecursion (λ (s : Slot). has_output outputs s.group ≡ true) slots → has_group slots g ≡ true → has_output outputs g ≡ true
shown_group outputs [] g shown has = absurd cc
shown_group outputs (s ∷ slots) g shown has = elim (cases_eq s.group g) as (λ _. has_output outputs g ≡ true) [
  | inl is ↦ ap (has_output outputs) (sym is) ∙ shown.0
  | inr ne ↦ shown_group outputs slots g shown.1 (ap (λ b. b || has_group slots g) (sym (ne_eqb s.group g ne)) ∙ has)
]

is_output : (outputs : List Output) (g : ℕ) → is_among (map (λ (o : Output). o.group) outputs) g ≡ has_output outputs g
is_output [] g = refl
is_output (o ∷ outputs) g = ap (λ b. eqb o.group g || b) (is_output outputs g)

pub groups_same : (i : Image) (p : Parts) → IsImage i → IsSnapshot p → map identity_of p.slots ≡ map identity_of i.slots → groups_of i.slots ≡ map (λ (o : Output). o.group) p.outputs
unfolding groups_of
groups_same i p image rules same =
    let groups = map (λ (o : Output). o.group) p.outputs in
    let test = has_group i.slots in
    let passed : ArePassed test 64 groups = used p.outputs rules.used in
    let known : HasPassed test 0 groups = λ g low passes. is_output p.outputs g ∙ shown_group p.outputs p.slots g rules.shown (same_groups p.slots i.slots g same ∙ passes) in
    filter_range test 64 groups 0 64 (omega arith) (rise groups 0 rules.groups (each_of _ (λ x. omega arith) groups)) passed known
  where
    used : (outputs : List Output) → AllByRecursion (λ (o : Output). has_group p.slots o.group ≡ true) outputs → ArePassed (has_group i.slots) 64 (map (λ (o : Output). o.group) outputs)
    used [] h = tt
    used (o ∷ outputs) h =
        let has : has_group i.slots o.group ≡ true = sym (same_groups p.slots i.slots o.group same) ∙ h.0 in
        ((has, group_has (λ g. g < 64) i.slots o.group (small_groups i image) has), used outputs h.1)

-- there are no more than 64 groups
pub few_outputs : (i : Image) (p : Parts) → IsImage i → map identity_of p.slots ≡ map identity_of i.slots → IsSnapshot p
    → length p.outputs ≤ 64
unfolding groups_of
few_outputs i p image same rules =
    let few = filter_short (has_group i.slots) (range_with_len 0 64) in
    let all = length-range_with_len 0 64 in
    let are = ap length (groups_same i p image rules same) in
    let many = length-map p.outputs (λ (o : Output). o.group) in
    omega (arith, few, all, are, many)
