-- The running slots as bits.
use Rattle.std.proofs.Common.{◌≡◌, ◌≢◌, ℕ, zero, suc, ◌*◌, ◌%◌, ◌^◌, ◌<◌, ◌↔◌, ◌⊎◌, Bool, true, false, List, [], ◌∷◌}
use Rattle.std.proofs.Common.{length, get_or, set, bit_or, bit_and, Option, Some, None, Result, refl, sym, ap, ◌∙◌}
use Rattle.std.proofs.Common.{arith, inl, inr}
use Rattle.std.proofs.lemmas.Bool.{cases_eq, cases_lt}
use Rattle.std.proofs.lemmas.List.{get_or-set_same, get_or-set_other, get_or_default, length-set}
use Rattle.std.proofs.lemmas.Nat.{pow_pos}
use Rattle.std.proofs.lemmas.Nat.Bits.{and_pow, bit_at_above, bit_at_set_same, bit_at_set_other, bit_at_clear_same}
use Rattle.std.proofs.lemmas.Nat.Bits.{bit_at_clear_other}
use Rattle.std.specs.{Prelude.{IsSomeAnd, slice_index}, Int.{IsBitSet, bit_at, bit_not, w64}}
use Rattle.mm_word.specs.{declared.cause.Cause.Cause, Pointer.Pointer}
use Rattle.mm_isa.specs.declared.instr.How.{How, TheVariants.{Retry, Skip, Kill}}
use Rattle.mm_model.specs.declared.slot.SlotState.{SlotState, TheVariants.{Running, Waiting, Taken, Halted}}
use Rattle.mm_model.specs.{Slot.Slot, State.{ThreadRow, Core, slot_of, slot_at}}
use Rattle.mm_model.specs.Effect.{Change, Effect, plain, resumed_by, Effect.{Fault, Block, Deliver, Do}}
use Rattle.mm_model.{specs.{Turn.{is_running, slot_after, state_after}, Flags.one_if}, proofs.TurnKeeps.changed_from}
use Rattle.mm_thread.specs.{Ends.EndsAlone, SlotIndices.no_row}
use Rattle.mm_thread.specs.Tables.{slot_of_row, AreNumbered, HasRunners, IsNoted, IsIndex, AreKnown}
use Rattle.mm_thread.proofs.Index.{row_in-none, row_in-alone}

-- 1. One bit.

pub set_noted : (runners n : ℕ) (s : Slot) → n ≡ s.number → s.number < 64 → is_running s.state ≡ true → IsNoted runners (bit_or runners (1 * 2 ^ n % 2 ^ 64)) s
set_noted runners n s same small runs = record {
  here = ap (λ k. bit_at (bit_or runners (1 * 2 ^ k % 2 ^ 64)) s.number) same ∙ bit_at_set_same w64 runners s.number small ∙ sym (ap one_if runs);
  others = λ k low other. ap (λ j. bit_at (bit_or runners (1 * 2 ^ j % 2 ^ 64)) k) same ∙ bit_at_set_other w64 runners s.number small k other;
}

pub clear_noted : (runners n : ℕ) (s : Slot) → n ≡ s.number → s.number < 64 → is_running s.state ≡ false → IsNoted runners (bit_and runners (bit_not w64 (1 * 2 ^ n % 2 ^ 64))) s
clear_noted runners n s same small rests = record {
  here = ap (λ k. bit_at (bit_and runners (bit_not w64 (1 * 2 ^ k % 2 ^ 64))) s.number) same ∙ bit_at_clear_same w64 runners s.number small ∙ sym (ap one_if rests);
  others = λ k low other. ap (λ j. bit_at (bit_and runners (bit_not w64 (1 * 2 ^ j % 2 ^ 64))) k) same ∙ bit_at_clear_other w64 runners s.number small k low other;
}

-- 2. The bits of the first rows.

-- 3. A row changes, but for its number.

module _ (rows : List ThreadRow) (p : ℕ) (within : p < length rows) (row : ThreadRow) (same : row.slot.number ≡ (slot_of_row rows p).number) where
  slot-same : slot_of_row (set rows p row) p ≡ row.slot
  slot-same = ap (λ (r : ThreadRow). r.slot) (get_or-set_same rows p row no_row within)

  slot-other : (k : ℕ) → k ≢ p → slot_of_row (set rows p row) k ≡ slot_of_row rows k
  slot-other k other = ap (λ (r : ThreadRow). r.slot) (get_or-set_other rows p k row no_row other)

  number-set : (k : ℕ) → (slot_of_row (set rows p row) k).number ≡ (slot_of_row rows k).number
  number-set k = elim (cases_eq k p) [
    | inl is ↦ rw is (ap (λ (s : Slot). s.number) slot-same ∙ same)
    | inr other ↦ ap (λ (s : Slot). s.number) (slot-other k other)
  ]

  pub numbered_set : AreNumbered rows → AreNumbered (set rows p row)
  numbered_set h = record {
    small = λ k inside. omega (arith, number-set k, h.small k (omega (arith, length-set rows p row)));
    own = λ j k first second e. h.own j k (omega (arith, length-set rows p row)) (omega (arith, length-set rows p row)) (sym (number-set j) ∙ e ∙ number-set k);
  }

  -- its bit is noted
  runners_set : (before after : ℕ) → HasRunners rows before → IsNoted before after row.slot → HasRunners (set rows p row) after
  runners_set before after h noted = record {
    numbered = numbered_set h.numbered;
    bits = record {
      each = λ k inside. elim (cases_eq k p) [
        | inl is ↦ rw is (ap (λ (s : Slot). bit_at after s.number) slot-same ∙ noted.here ∙ sym (ap (λ (s : Slot). one_if (is_running s.state)) slot-same))
        | inr other ↦
            let old : k < length rows = omega (arith, inside, length-set rows p row) in
            ap (λ (s : Slot). bit_at after s.number) (slot-other k other)
            ∙ noted.others (slot_of_row rows k).number (h.numbered.small k old) (λ e. other (h.numbered.own k p old within (e ∙ same)))
            ∙ h.bits.each k old
            ∙ sym (ap (λ (s : Slot). one_if (is_running s.state)) (slot-other k other))
      ];
      none = λ n small none.
          let inside : p < length (set rows p row) = omega (arith, length-set rows p row) in
          noted.others n small (λ e. none p inside (number-set p ∙ sym same ∙ sym e)) ∙ h.bits.none n small (λ k old e. none k (omega (arith, length-set rows p row)) (number-set k ∙ e));
    };
  }

  -- it runs where it ran
  runners_kept : (runners : ℕ) → HasRunners rows runners → row.slot.state ≡ (slot_of_row rows p).state → HasRunners (set rows p row) runners
  runners_kept runners h state = runners_set runners runners h (record {
    here = ap (bit_at runners) same ∙ h.bits.each p within ∙ sym (ap (λ (st : SlotState). one_if (is_running st)) state);
    others = λ n low other. refl;
  })

  index_set : (index : List ℕ) → IsIndex rows index → IsIndex (set rows p row) index
  index_set index h = record {
    there = λ n small inside. number-set (slice_index index n) ∙ h.there n small (omega (arith, length-set rows p row));
    back = λ k inside. ap (slice_index index) (number-set k) ∙ h.back k (omega (arith, length-set rows p row));
  }

  pub known_set : (index : List ℕ) (before after : ℕ) → AreKnown rows index before → IsNoted before after row.slot → AreKnown (set rows p row) index after
  known_set index before after h noted = record { places = index_set index h.places; running = runners_set before after h.running noted }

  pub known_kept : (index : List ℕ) (runners : ℕ) → AreKnown rows index runners → row.slot.state ≡ (slot_of_row rows p).state → AreKnown (set rows p row) index runners
  known_kept index runners h state = record { places = index_set index h.places; running = runners_kept runners h.running state }

-- the slot that is taken from a place
pub slot_there : (rows : List ThreadRow) (p : ℕ) → p < length rows → (row d : ThreadRow) → row ≡ get_or rows p d → row.slot ≡ slot_of_row rows p
slot_there rows p within row d is = ap (λ (r : ThreadRow). r.slot) (is ∙ get_or_default rows p d no_row within)

-- 4. What the bits tell.

pub runs_where : (state : SlotState) → is_running state ≡ true → state ≡ Running
runs_where Running e = refl
runs_where Waiting e = absurd cc
runs_where Taken e = absurd cc
runs_where (Halted c) e = absurd cc

bit_set : (runners n : ℕ) → bit_at runners n ≡ 1 → IsBitSet runners n
bit_set runners n is none = omega (arith, and_pow runners n, pow_pos n, ap (λ (b : ℕ). b * 2 ^ n) is)

bit_clear : (runners n : ℕ) → bit_at runners n ≡ 0 → IsBitSet runners n → ⊥
bit_clear runners n is set = set (and_pow runners n ∙ ap (λ (b : ℕ). b * 2 ^ n) is ∙ omega arith)

abbrev HasNumber : List ThreadRow → ℕ → Type 0
HasNumber rows n = (k : ℕ) × (k < length rows) × ((slot_of_row rows k).number ≡ n)

abbrev HasNoNumber : List ThreadRow → ℕ → Type 0
HasNoNumber rows n = (k : ℕ) → k < length rows → (slot_of_row rows k).number ≢ n

has_number : (rows : List ThreadRow) (n : ℕ) → HasNumber rows n ⊎ HasNoNumber rows n
has_number [] n = inr (λ k none. absurd (omega arith))
has_number (row ∷ rows) n = elim (cases_eq row.slot.number n) as (λ _. HasNumber (row ∷ rows) n ⊎ HasNoNumber (row ∷ rows) n) [
  | inl same ↦ inl (0, omega arith, same)
  | inr other ↦ elim (has_number rows n) as (λ _. HasNumber (row ∷ rows) n ⊎ HasNoNumber (row ∷ rows) n) [
    | inl at ↦ inl (suc at.0, let below = at.1 in omega arith, at.2)
    | inr none ↦ inr (later other none)
  ]
]
  where
    later : row.slot.number ≢ n → HasNoNumber rows n → HasNoNumber (row ∷ rows) n
    later other none zero within = other
    later other none (suc k) within = none k (omega arith)

pub runners_say : (core : Core) (runners : ℕ) → runners < 2 ^ 64 → HasRunners core.rows runners → (n : ℕ) → IsBitSet runners n ↔ IsSomeAnd (slot_at core n) (λ s. s.state ≡ Running)
unfolding slot_at
runners_say core runners fits h n = elim (has_number core.rows n) as (λ _. IsBitSet runners n ↔ IsSomeAnd (slot_at core n) (λ s. s.state ≡ Running)) [
  | inl at ↦
      let k = at.0 in
      let s = slot_of_row core.rows k in
      let found : slot_at core n ≡ Some s = ap slot_of (row_in-alone core.rows k n at.1 at.2 (λ j within e. h.numbered.own j k within at.1 (e ∙ sym at.2))) in
      let bit : bit_at runners n ≡ one_if (is_running s.state) = ap (bit_at runners) (sym at.2) ∙ h.bits.each k at.1 in
      rw found (runs (is_running s.state) s refl bit)
  | inr none ↦
      let missing : slot_at core n ≡ None = ap slot_of (row_in-none core.rows n none) in
      let bit : bit_at runners n ≡ 0 = elim (cases_lt n 64) as (λ _. bit_at runners n ≡ 0) [
        | inl low ↦ h.bits.none n low none
        | inr high ↦ bit_at_above runners 64 n fits high
      ] in
      rw missing (λ set. absurd (bit_clear runners n bit set), λ some. absurd some)
]
  where
    runs : (b : Bool) (s : Slot) → is_running s.state ≡ b → bit_at runners n ≡ one_if (is_running s.state) → IsBitSet runners n ↔ (s.state ≡ Running)
    runs true s is bit = (λ _. runs_where s.state is, λ _. bit_set runners n (bit ∙ ap one_if is))
    runs false s is bit = (λ set. absurd (bit_clear runners n (bit ∙ ap one_if is) set), λ same. absurd (cc (ap is_running same, is)))

-- 5. No turn changes a slot's number.

pub after_number : (s : Slot) (c : Change) → (slot_after s c).number ≡ s.number
after_number s c = let from = changed_from s c in from.number

-- a slot that goes on does not halt
pub plain_goes : (s : Slot) → (plain s).halts ≡ false
unfolding plain
plain_goes s = refl

-- a slot that does not halt runs after its turn
pub after_running : (s : Slot) (c : Change) → c.halts ≡ false → is_running (slot_after s c).state ≡ true
after_running s c goes = let from = changed_from s c in ap is_running (from.state ∙ ap state_after goes)

pub alone_number : (e : Effect) (old new : Slot) (ended : Result (Option Pointer) Cause) → EndsAlone e old new ended → new.number ≡ old.number
alone_number (Do c) old new ended h = ap (λ (s : Slot). s.number) h.slot ∙ after_number old c
alone_number (Fault c) old new ended h = ap (λ (s : Slot). s.number) h.slot
alone_number Block old new ended h = absurd h
alone_number (Deliver other) old new ended h = absurd h

pub resumed_number : (how : How) (s : Slot) → (resumed_by how s).number ≡ s.number
resumed_number Retry s = refl
resumed_number Skip s = refl
resumed_number Kill s = refl
