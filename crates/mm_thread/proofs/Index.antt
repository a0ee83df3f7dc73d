-- Slots found by their numbers, where each row has a number of its own.
use Rattle.std.proofs.Common.{◌≡◌, ◌≢◌, ℕ, zero, suc, ◌<◌, ◌≤◌, List, [], ◌∷◌, length, map, get_or, set, slice_index}
use Rattle.std.proofs.Common.{Some, None, refl, sym, ap, ◌∙◌, arith}
use Rattle.std.proofs.lemmas.{List.{length-map, get_or-map, map-set, set-get_or}, Bool.{eq-eqb, ne_eqb}}
use Rattle.mm_model.specs.{declared.event.Event.Event, Slot.Slot}
use Rattle.mm_model.specs.State.{ThreadRow, Core, row_in, slot_of, queue_of, slot_at, queue_at, at_number, put_slot}
use Rattle.mm_model.specs.{State.put_queue, Fits.slots_of}
use Rattle.mm_thread.specs.SlotIndices.{no_row, row_at, slot_in, queue_in, with_row, with_slot, with_queue_in}
use Rattle.mm_thread.specs.{SlotIndices.numbers_in, Tables.{AreNumbered, IsIndex}}

abbrev number_at : List ThreadRow → ℕ → ℕ
number_at rows k = (get_or rows k no_row).slot.number

-- no row has this number
abbrev pub HasNone : List ThreadRow → ℕ → Type 0
HasNone rows n = (k : ℕ) → k < length rows → number_at rows k ≢ n

-- this number stands at this place alone
abbrev pub HasAlone : List ThreadRow → ℕ → ℕ → Type 0
HasAlone rows p n = (k : ℕ) → k < length rows → number_at rows k ≡ n → k ≡ p

pub row_in-none : (rows : List ThreadRow) (n : ℕ) → HasNone rows n → row_in rows n ≡ None
row_in-none [] n none = refl
row_in-none (row ∷ rows) n none =
    let first : row.slot.number ≢ n = none 0 (omega arith) in
    rw (ne_eqb row.slot.number n first) (row_in-none rows n (λ k within. none (suc k) (omega arith)))

pub row_in-alone : (rows : List ThreadRow) (p n : ℕ) → p < length rows → number_at rows p ≡ n → HasAlone rows p n → row_in rows n ≡ Some (get_or rows p no_row)
row_in-alone [] p n within here alone = absurd (omega arith)
row_in-alone (row ∷ rows) zero n within here alone = rw (eq-eqb row.slot.number n here) refl
row_in-alone (row ∷ rows) (suc p) n within here alone =
    let first : row.slot.number ≢ n = λ e. omega (arith, alone 0 (omega arith) e) in
    rw (ne_eqb row.slot.number n first) (row_in-alone rows p n (omega arith) here (λ k below e. omega (arith, alone (suc k) (omega arith) e)))

pub map-none : (rows : List ThreadRow) (n : ℕ) (change : ThreadRow → ThreadRow) → HasNone rows n → map (at_number n change) rows ≡ rows
map-none [] n change none = refl
map-none (row ∷ rows) n change none =
    let first : row.slot.number ≢ n = none 0 (omega arith) in
    rw (ne_eqb row.slot.number n first) (ap (λ (rs : List ThreadRow). row ∷ rs) (map-none rows n change (λ k within. none (suc k) (omega arith))))

pub map-alone : (rows : List ThreadRow) (p n : ℕ) (change : ThreadRow → ThreadRow) → p < length rows → number_at rows p ≡ n → HasAlone rows p n
    → map (at_number n change) rows ≡ set rows p (change (get_or rows p no_row))
map-alone [] p n change within here alone = absurd (omega arith)
map-alone (row ∷ rows) zero n change within here alone =
    rw (eq-eqb row.slot.number n here) (ap (λ (rs : List ThreadRow). change row ∷ rs) (map-none rows n change (λ k below e. omega (arith, alone (suc k) (omega arith) e))))
map-alone (row ∷ rows) (suc p) n change within here alone =
    let first : row.slot.number ≢ n = λ e. omega (arith, alone 0 (omega arith) e) in
    rw (ne_eqb row.slot.number n first) (ap (λ (rs : List ThreadRow). row ∷ rs) (map-alone rows p n change (omega arith) here (λ k below e. omega (arith, alone (suc k) (omega arith) e))))

-- 2. Slots of a core, and their places.

pub length-numbers : (core : Core) → length (numbers_in core) ≡ length core.rows
length-numbers core = length-map (slots_of core) (λ (s : Slot). s.number) ∙ length-map core.rows (λ (row : ThreadRow). row.slot)

pub number-get : (core : Core) (k : ℕ) → k < length core.rows → slice_index (numbers_in core) k ≡ (slot_in core k).number
number-get core k within =
    let slots : k < length (slots_of core) = omega (arith, length-map core.rows (λ (row : ThreadRow). row.slot)) in
    get_or-map (λ (s : Slot). s.number) (slots_of core) k no_row.slot 0 slots ∙ ap (λ (s : Slot). s.number) (get_or-map (λ (row : ThreadRow). row.slot) core.rows k no_row no_row.slot within)

module _ (core : Core) (apart : AreNumbered core.rows) where
  alone_at : (p : ℕ) → p < length core.rows → HasAlone core.rows p (slot_in core p).number
  alone_at p within k below same = apart.own k p below within same

  module _ (p : ℕ) (within : p < length core.rows) where
    pub row_found : row_in core.rows (slot_in core p).number ≡ Some (row_at core p)
    row_found = row_in-alone core.rows p (slot_in core p).number within refl (alone_at p within)

    pub slot_found : slot_at core (slot_in core p).number ≡ Some (slot_in core p)
    unfolding slot_at
    slot_found = ap slot_of row_found

    pub queue_found : queue_at core (slot_in core p).number ≡ queue_in core p
    unfolding queue_at
    queue_found = ap queue_of row_found

    pub put_slot-at : (s : Slot) → s.number ≡ (slot_in core p).number → put_slot core s ≡ with_slot core p s
    unfolding put_slot
    put_slot-at s same =
        ap (λ (n : ℕ). record core { rows = map (at_number n (λ row. record row { slot = s })) core.rows }) same
        ∙ ap (λ (rows : List ThreadRow). record core { rows = rows }) (map-alone core.rows p (slot_in core p).number (λ row. record row { slot = s }) within refl (alone_at p within))

    pub put_queue-at : (q : List Event) → put_queue core (slot_in core p).number q ≡ with_queue_in core p q
    unfolding put_queue
    put_queue-at q = ap (λ (rows : List ThreadRow). record core { rows = rows }) (map-alone core.rows p (slot_in core p).number (λ row. record row { queue = q }) within refl (alone_at p within))

    pub numbers-with_row : (row : ThreadRow) → row.slot.number ≡ (slot_in core p).number → numbers_in (with_row core p row) ≡ numbers_in core
    numbers-with_row row same =
        let f : ThreadRow → ℕ = λ r. r.slot.number in
        ap (map (λ (s : Slot). s.number)) (map-set (λ (r : ThreadRow). r.slot) core.rows p row)
        ∙ map-set (λ (s : Slot). s.number) (slots_of core) p row.slot
        ∙ ap (λ (n : ℕ). set (numbers_in core) p n) (same ∙ sym (number-get core p within))
        ∙ set-get_or (numbers_in core) p 0

-- no row has a number that leads to no place
pub none_past : (rows : List ThreadRow) (index : List ℕ) → IsIndex rows index → (n : ℕ) → length rows ≤ slice_index index n → HasNone rows n
none_past rows index h n past = λ k within same. omega (arith, ap (slice_index index) same, h.back k within)

-- cores with the same numbers
pub apart_by : (core k : Core) → numbers_in k ≡ numbers_in core → AreNumbered core.rows → AreNumbered k.rows
apart_by core k same apart = record {
  small = λ j within. omega (arith, number j within, apart.small j (omega (arith, many)));
  own = λ i j first second e. apart.own i j (omega (arith, many)) (omega (arith, many)) (sym (number i first) ∙ e ∙ number j second);
}
  where
    many : length k.rows ≡ length core.rows
    many = sym (length-numbers k) ∙ ap length same ∙ length-numbers core

    number : (j : ℕ) → j < length k.rows → (slot_in k j).number ≡ (slot_in core j).number
    number j within = sym (number-get k j within) ∙ ap (λ (ns : List ℕ). slice_index ns j) same ∙ number-get core j (omega (arith, many))
