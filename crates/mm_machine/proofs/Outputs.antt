-- Outputs in their groups' places.
use Rattle.std.proofs.Common.{◌≡◌, ◌≢◌, ℕ, zero, suc, ◌<◌, ◌≤◌, inl, inr, true, false, List, [], ◌∷◌, length, replicate}
use Rattle.std.proofs.Common.{refl, sym, subst, ◌∙◌, arith, length-set, get_or-set_same, get_or-set_other}
use Rattle.std.proofs.lemmas.Bool.{cases_eq, eq-eqb, ne_eqb}
use Rattle.std.specs.{Prelude.{slice_set, slice_index_or}, List.{AllByRecursion, Sorted.IsStrictlyIncreasing}}
use Rattle.mm_model.{specs.{Slot.Slot, Groups.has_group}, proofs.CoreRows.{each_set, rest_rises, above_first}}
use Rattle.mm_thread.specs.{Output.Output, Parts.outputs_with}
use Rattle.mm_machine.specs.Snapshot.{groups_of, has_output}

pub outputs_count : (os : List Output) (all : List (List ℕ)) → length (outputs_with os all) ≡ length all
outputs_count [] all = refl
outputs_count (o ∷ os) all = outputs_count os (slice_set all o.group o.bytes) ∙ length-set all o.group o.bytes

pub outputs_within : (limit : ℕ) (os : List Output) (all : List (List ℕ)) → AllByRecursion (λ (o : Output). length o.bytes ≤ limit) os → AllByRecursion (λ (bytes : List ℕ). length bytes ≤ limit) all
    → AllByRecursion (λ (bytes : List ℕ). length bytes ≤ limit) (outputs_with os all)
outputs_within limit [] all short within = within
outputs_within limit (o ∷ os) all short within =
    outputs_within limit os (slice_set all o.group o.bytes) short.1 (each_set (λ (bytes : List ℕ). length bytes ≤ limit) all o.group o.bytes within short.0)

pub nothing_within : (limit n : ℕ) → AllByRecursion (λ (bytes : List ℕ). length bytes ≤ limit) (replicate n [])
nothing_within limit zero = tt
nothing_within limit (suc n) = (omega arith, nothing_within limit n)

-- a group of which no output is said keeps its place
pub output_untouched : (os : List Output) (all : List (List ℕ)) (g : ℕ) → AllByRecursion (λ (o : Output). o.group ≢ g) os → slice_index_or (outputs_with os all) g [] ≡ slice_index_or all g []
output_untouched [] all g other = refl
output_untouched (o ∷ os) all g other =
    output_untouched os (slice_set all o.group o.bytes) g other.1 ∙ get_or-set_other all o.group g o.bytes [] (λ is. other.0 (sym is))

of_groups : (g : ℕ) (os : List Output) → AllByRecursion (λ y. g < y) (groups_of os) → AllByRecursion (λ (o : Output). o.group ≢ g) os
of_groups g [] above = tt
of_groups g (o ∷ os) above = (λ is. omega (arith, is, above.0), of_groups g os above.1)

pub outputs_given : (os : List Output) (all : List (List ℕ)) → IsStrictlyIncreasing (groups_of os) → AllByRecursion (λ (o : Output). o.group < length all) os
    → AllByRecursion (λ (o : Output). slice_index_or (outputs_with os all) o.group [] ≡ o.bytes) os
outputs_given [] all rising small = tt
outputs_given (o ∷ os) all rising small =
    let put : List (List ℕ) = slice_set all o.group o.bytes in (
      output_untouched os put o.group (of_groups o.group os (above_first o.group (groups_of os) rising)) ∙ get_or-set_same all o.group o.bytes [] small.0,
      outputs_given os put (rest_rises o.group (groups_of os) rising) (subst (λ (n : ℕ). AllByRecursion (λ (x : Output). x.group < n) os) (sym (length-set all o.group o.bytes)) small.1),
    )

-- what holds of the group of each slot holds of a group that has a slot
pub group_has : (P : ℕ → Type 0) (slots : List Slot) (g : ℕ) → AllByRecursion (λ (s : Slot). P s.group) slots → has_group slots g ≡ true → P g
group_has P [] g all has = cc
group_has P (s ∷ slots) g all has = elim (cases_eq s.group g) as (λ _. P g) [
  | inl is ↦ subst P is all.0
  | inr ne ↦ group_has P slots g all.1 (rw (ne_eqb s.group g ne) at has)
]

-- what holds of each output of a group holds where the group has an output
pub output_has : (P : ℕ → Type 0) (os : List Output) (g : ℕ) → AllByRecursion (λ (o : Output). P o.group) os → has_output os g ≡ true → P g
output_has P [] g all has = cc
output_has P (o ∷ os) g all has = elim (cases_eq o.group g) as (λ _. P g) [
  | inl is ↦ subst P is all.0
  | inr ne ↦ output_has P os g all.1 (rw (ne_eqb o.group g ne) at has)
]

pub no_output_at : (os : List Output) (g : ℕ) → has_output os g ≡ false → AllByRecursion (λ (o : Output). o.group ≢ g) os
no_output_at [] g has = tt
no_output_at (o ∷ os) g has = elim (cases_eq o.group g) as (λ _. AllByRecursion (λ (x : Output). x.group ≢ g) (o ∷ os)) [
  | inl is ↦ let yes : true ≡ false = rw (eq-eqb o.group g is) at has in cc
  | inr ne ↦ (ne, no_output_at os g (rw (ne_eqb o.group g ne) at has))
]
