-- The index of places as it is made.
use Rattle.std.proofs.Common.{◌≡◌, ◌≢◌, ℕ, zero, suc, ◌+◌, ◌<◌, ◌≤◌, ◌⊎◌, inl, inr, List, length, set, replicate}
use Rattle.std.proofs.Common.{slice_index, sym, ap, ◌∙◌, arith}
use Rattle.std.proofs.lemmas.Bool.{cases_eq}
use Rattle.std.proofs.lemmas.List.{get_or-set_same, get_or-set_other, get_or-replicate, get_or-map, length-set}
use Rattle.std.proofs.lemmas.List.{length-map, length-replicate}
use Rattle.std.specs.List.{AllByRecursion, Sorted.IsStrictlyIncreasing}
use Rattle.mm_model.specs.{Slot.Slot, State.{ThreadRow, Core}, Fits.{slots_of, IsSlot, IsCore}}
use Rattle.mm_model.proofs.CoreRows.{each_get, each_map}
use Rattle.mm_thread.specs.{Tables.{slot_of_row, AreNumbered, IsIndex}, SlotIndices.{no_row, slot_in, numbers_in}}
use Rattle.mm_thread.proofs.Index.{length-numbers, number-get}

-- where numbers rise, an earlier one is less than a later one
pub rises_between : (xs : List ℕ) → IsStrictlyIncreasing xs → (j k : ℕ) → j < k → k < length xs → slice_index xs j < slice_index xs k
rises_between xs h j zero less within = absurd (omega arith)
rises_between xs h j (suc k) less within =
    let step : slice_index xs k < slice_index xs (k + 1) = h k (omega arith) in
    let same : slice_index xs (suc k) ≡ slice_index xs (k + 1) = let e : suc k ≡ k + 1 = omega arith in ap (slice_index xs) e in
    elim (cases_eq j k) as (λ _. slice_index xs j < slice_index xs (suc k)) [
      | inl is ↦ omega (arith, same, ap (slice_index xs) is)
      | inr ne ↦ omega (arith, same, rises_between xs h j k (omega arith) (omega arith))
    ]

-- and none is less than its place
pub place_below : (xs : List ℕ) → IsStrictlyIncreasing xs → (k : ℕ) → k < length xs → k ≤ slice_index xs k
place_below xs h zero within = omega arith
place_below xs h (suc k) within = omega (arith, place_below xs h k (omega arith), rises_between xs h k (suc k) (omega arith) within)

pub differs_between : (xs : List ℕ) → IsStrictlyIncreasing xs → (j k : ℕ) → j ≢ k → j < length xs → k < length xs → slice_index xs j ≢ slice_index xs k
differs_between xs h j k other first second same = elim (Rattle.std.proofs.lemmas.Bool.cases_lt j k) as (λ _. ⊥) [
  | inl less ↦ omega (arith, rises_between xs h j k less second)
  | inr more ↦ omega (arith, rises_between xs h k j (omega arith) first)
]

-- the numbers of the first rows lead to their places, and no other number leads to a place
pub record IsIndexBelow (rows : List ThreadRow) (index : List ℕ) (i : ℕ) : Type 0 where
  pub long : length index ≡ 64
  pub each : (n : ℕ) → n < 64 → (slice_index index n ≡ 64) ⊎ ((slice_index index n < i) × ((slot_of_row rows (slice_index index n)).number ≡ n))
  pub back : (k : ℕ) → k < i → slice_index index (slot_of_row rows k).number ≡ k

pub index_none : (rows : List ThreadRow) → IsIndexBelow rows (replicate 64 64) 0
index_none rows = record {
  long = length-replicate {A = ℕ} 64 64;
  each = λ n small. inl (get_or-replicate {A = ℕ} 64 n 64 0 small);
  back = λ k none. absurd (omega arith);
}

pub index_more : (rows : List ThreadRow) (index : List ℕ) (i : ℕ) → AreNumbered rows → i < length rows → IsIndexBelow rows index i → IsIndexBelow rows (set index (slot_of_row rows i).number i) (i + 1)
index_more rows index i apart within h =
    let n : ℕ = (slot_of_row rows i).number in
    let inside : n < length index = let long = h.long in let small = apart.small i within in omega arith in
    record {
      long = length-set index n i ∙ h.long;
      each = λ k low. elim (cases_eq k n) as (λ _. (slice_index (set index n i) k ≡ 64) ⊎ ((slice_index (set index n i) k < i + 1) × ((slot_of_row rows (slice_index (set index n i) k)).number ≡ k))) [
        | inl same ↦
            let at : slice_index (set index n i) k ≡ i = ap (slice_index (set index n i)) same ∙ get_or-set_same index n i 0 inside in
            inr (omega (arith, at), ap (λ (j : ℕ). (slot_of_row rows j).number) at ∙ sym same)
        | inr other ↦
            let at : slice_index (set index n i) k ≡ slice_index index k = get_or-set_other index n k i 0 other in
            elim (h.each k low) as (λ _. (slice_index (set index n i) k ≡ 64) ⊎ ((slice_index (set index n i) k < i + 1) × ((slot_of_row rows (slice_index (set index n i) k)).number ≡ k))) [
              | inl none ↦ inl (at ∙ none)
              | inr some ↦ inr (omega (arith, at, some.0), ap (λ (j : ℕ). (slot_of_row rows j).number) at ∙ some.1)
            ]
      ];
      back = λ k below. elim (cases_eq k i) as (λ _. slice_index (set index n i) (slot_of_row rows k).number ≡ k) [
        | inl same ↦ ap (λ (j : ℕ). slice_index (set index n i) (slot_of_row rows j).number) same ∙ get_or-set_same index n i 0 inside ∙ sym same
        | inr other ↦ get_or-set_other index n (slot_of_row rows k).number i 0 (λ same. other (apart.own k i (omega arith) within same)) ∙ h.back k (omega arith)
      ];
    }

pub index_all : (rows : List ThreadRow) (index : List ℕ) (i : ℕ) → length rows ≤ 64 → length rows ≡ i → IsIndexBelow rows index i → IsIndex rows index
index_all rows index i few all h = record {
  there = λ n small within. elim (h.each n small) as (λ _. (slot_of_row rows (slice_index index n)).number ≡ n) [
    | inl none ↦ absurd (omega (arith, none))
    | inr some ↦ some.1
  ];
  back = λ k within. h.back k (omega arith);
}

pub number_at-small : (core : Core) → AllByRecursion (λ (s : Slot). s.number < 64) (slots_of core) → (k : ℕ) → k < length core.rows → (slot_in core k).number < 64
number_at-small core small k within =
    let slots : k < length (slots_of core) = omega (arith, length-map core.rows (λ (row : ThreadRow). row.slot)) in
    let one = each_get (λ (s : Slot). s.number < 64) (slots_of core) k no_row.slot small slots in
    omega (arith, one, ap (λ (s : Slot). s.number) (get_or-map (λ (row : ThreadRow). row.slot) core.rows k no_row no_row.slot within))

pub few_rows : (core : Core) → IsStrictlyIncreasing (numbers_in core) → AllByRecursion (λ (s : Slot). s.number < 64) (slots_of core) → length core.rows ≤ 64
few_rows core rising small = elim (Rattle.std.proofs.lemmas.Bool.cases_lt 64 (length core.rows)) as (λ _. length core.rows ≤ 64) [
  | inl many ↦
      let below = place_below (numbers_in core) rising 64 (omega (arith, length-numbers core)) in
      absurd (omega (arith, below, number-get core 64 many, number_at-small core small 64 many))
  | inr few ↦ few
]

-- the rows of slots whose numbers rise have numbers of their own
pub core_numbered : (core : Core) → IsStrictlyIncreasing (numbers_in core) → AllByRecursion (λ (s : Slot). s.number < 64) (slots_of core) → AreNumbered core.rows
core_numbered core rising small = record {
  small = number_at-small core small;
  own = λ j k first second e. elim (cases_eq j k) [
    | inl same ↦ same
    | inr other ↦ absurd (differs_between (numbers_in core) rising j k other (omega (arith, length-numbers core))
        (omega (arith, length-numbers core)) (number-get core j first ∙ e ∙ sym (number-get core k second)))
  ];
}

-- the numbers of a core's slots are below 64
pub small_numbers : (core : Core) → IsCore core → AllByRecursion (λ (s : Slot). s.number < 64) (slots_of core)
small_numbers core whole = each_map IsSlot (λ (s : Slot). s.number < 64) (λ s is. is.number) (slots_of core) whole.formed.slots

pub apart_in : (core : Core) → IsCore core → AreNumbered core.rows
apart_in core whole = core_numbered core whole.formed.rising (small_numbers core whole)
