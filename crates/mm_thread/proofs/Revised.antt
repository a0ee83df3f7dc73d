-- How a core is revised, slot by slot, queue by queue and output by output.
use Rattle.std.proofs.Common.{◌≡◌, ◌≢◌, ℕ, zero, suc, ◌+◌, ◌/◌, ◌^◌, ◌<◌, ◌≤◌, Bool, true, false, bit_and, List, [], ◌∷◌, length}
use Rattle.std.proofs.Common.{map, take, get_or, set, refl, sym, ap, subst, ◌∙◌, arith}
use Rattle.std.proofs.lemmas.{Bool.ne_eqb, List.{get_or-map, length-map, length-set, set-get_or, take_all}, Nat.and_mask}
use Rattle.std.specs.{Prelude.{if◌then◌else◌, ◌==◌}, List.AllByRecursion}
use Rattle.mm_model.specs.{declared.event.Event.Event, Flags.flags, Slot.Slot, State.{ThreadRow, Core, put_output}}
use Rattle.mm_model.{specs.Fits.{identity_of, slots_of}, proofs.FlagLists.flags-get}
use Rattle.mm_thread.specs.SlotIndices.{no_slot, no_row, slot_in, with_slot, with_queue_in}
use Rattle.mm_thread.specs.Revisions.{with_slots, with_queues}

-- 1. Slots.

-- the rows that come are as they were
pub slots_before : (changed : List Bool) (slots : List Slot) (rows : List ThreadRow) (i : ℕ) → get_or (with_slots (take i changed) slots rows) i no_row ≡ get_or rows i no_row
slots_before changed slots rows zero = refl
slots_before [] slots rows (suc i) = refl
slots_before (c ∷ changed) [] rows (suc i) = refl
slots_before (c ∷ changed) (s ∷ slots) [] (suc i) = refl
slots_before (c ∷ changed) (s ∷ slots) (row ∷ rows) (suc i) = slots_before changed slots rows i

abbrev one_slot : Bool → Slot → ThreadRow → ThreadRow
one_slot c s row = if c then record row { slot = s } else row

slots_next : (changed : List Bool) (slots : List Slot) (rows : List ThreadRow) (i : ℕ) → i < length changed → i < length slots → i < length rows
    → with_slots (take (suc i) changed) slots rows ≡ set (with_slots (take i changed) slots rows) i (one_slot (get_or changed i false) (get_or slots i no_slot) (get_or rows i no_row))
slots_next [] slots rows i a b d = absurd (omega arith)
slots_next (c ∷ changed) [] rows i a b d = absurd (omega arith)
slots_next (c ∷ changed) (s ∷ slots) [] i a b d = absurd (omega arith)
slots_next (c ∷ changed) (s ∷ slots) (row ∷ rows) zero a b d = refl
slots_next (c ∷ changed) (s ∷ slots) (row ∷ rows) (suc i) a b d =
    ap (λ (rs : List ThreadRow). one_slot c s row ∷ rs) (slots_next changed slots rows i (omega arith) (omega arith) (omega arith))

pub slots_long : (changed : List Bool) (slots : List Slot) (rows : List ThreadRow) → length (with_slots changed slots rows) ≡ length rows
slots_long [] slots rows = refl
slots_long (c ∷ changed) [] rows = refl
slots_long (c ∷ changed) (s ∷ slots) [] = refl
slots_long (c ∷ changed) (s ∷ slots) (row ∷ rows) = ap suc (slots_long changed slots rows)

-- the flag of a bit
flag_long : (k n : ℕ) → length (flags k n) ≡ k
flag_long zero n = refl
flag_long (suc k) n = ap suc (flag_long k (n / 2))

flag_set : (k n i : ℕ) → i < k → bit_and (n / 2 ^ i) 1 ≡ 1 → get_or (flags k n) i false ≡ true
flag_set k n i lt e = flags-get k n i lt ∙ ap (λ m. m == 1) (sym (and_mask (n / 2 ^ i) 1) ∙ e)

flag_clear : (k n i : ℕ) → i < k → bit_and (n / 2 ^ i) 1 ≢ 1 → get_or (flags k n) i false ≡ false
flag_clear k n i lt ne = flags-get k n i lt ∙ ap (λ m. m == 1) (sym (and_mask (n / 2 ^ i) 1)) ∙ ne_eqb (bit_and (n / 2 ^ i) 1) 1 ne

-- as many slots as there are, each with the identity of the one at its index
pub slots_many : (slots : List Slot) (core : Core) → map identity_of slots ≡ map identity_of (slots_of core) → length slots ≡ length core.rows
slots_many slots core same =
    sym (length-map slots identity_of) ∙ ap length same ∙ length-map (slots_of core) identity_of ∙ length-map core.rows (λ (row : ThreadRow). row.slot)

pub same_at : (slots : List Slot) (core : Core) → map identity_of slots ≡ map identity_of (slots_of core) → (i : ℕ) (s : Slot) → i < length slots → s ≡ get_or slots i s
    → identity_of s ≡ identity_of (slot_in core i)
same_at slots core same i s lt is =
    let many = slots_many slots core same in
    let rows = length-map core.rows (λ (row : ThreadRow). row.slot) in
    ap identity_of is ∙ sym (get_or-map identity_of slots i s (identity_of no_slot) lt)
    ∙ ap (λ (l : List (ℕ × ℕ × Rattle.std.specs.Prelude.Option ℕ)). get_or l i (identity_of no_slot)) same
    ∙ get_or-map identity_of (slots_of core) i no_slot (identity_of no_slot) (omega (arith, many, rows, lt))
    ∙ ap identity_of (get_or-map (λ (row : ThreadRow). row.slot) core.rows i no_row no_slot (omega (arith, many, lt)))

-- the slots that a loop has put
module _ (core : Core) (changed : ℕ) (slots : List Slot) (same : map identity_of slots ≡ map identity_of (slots_of core)) (now : Core) (i : ℕ)
    (was : now ≡ record core { rows = with_slots (take i (flags (length slots) changed)) slots core.rows }) where
  abbrev fs : List Bool
  fs = flags (length slots) changed

  one_on : suc i ≡ i + 1
  one_on = omega arith

  pub put_long : length now.rows ≡ length slots
  put_long = ap (λ (k : Core). length k.rows) was ∙ slots_long (take i fs) slots core.rows ∙ sym (slots_many slots core same)

  -- the slot that comes is as it was
  pub put_here : slot_in now i ≡ slot_in core i
  put_here = ap (λ (k : Core). slot_in k i) was ∙ ap (λ (row : ThreadRow). row.slot) (slots_before fs slots core.rows i)

  module _ (lt : i < length slots) where
    next : with_slots (take (i + 1) fs) slots core.rows ≡ set (with_slots (take i fs) slots core.rows) i (one_slot (get_or fs i false) (get_or slots i no_slot) (get_or core.rows i no_row))
    next =
        let many = slots_many slots core same in
        let long = flag_long (length slots) changed in
        ap (λ n. with_slots (take n fs) slots core.rows) (sym one_on) ∙ slots_next fs slots core.rows i (omega (arith, long, lt)) lt (omega (arith, many, lt))

    pub put_one : bit_and (changed / 2 ^ i) 1 ≡ 1 → (s : Slot) → s ≡ get_or slots i s → (after : Core) → after ≡ with_slot now i s
        → after ≡ record core { rows = with_slots (take (i + 1) fs) slots core.rows }
    put_one set_here s is after e =
        let rows : List ThreadRow = with_slots (take i fs) slots core.rows in
        let s_is : s ≡ get_or slots i no_slot = is ∙ Rattle.std.proofs.lemmas.List.get_or_default slots i s no_slot lt in
        e ∙ ap (λ (k : Core). with_slot k i s) was
        ∙ ap (λ (row : ThreadRow). record core { rows = set rows i (record row { slot = s }) }) (slots_before fs slots core.rows i)
        ∙ ap (λ (x : Slot). record core { rows = set rows i (record (get_or core.rows i no_row) { slot = x }) }) s_is
        ∙ ap (λ (b : Bool). record core { rows = set rows i (one_slot b (get_or slots i no_slot) (get_or core.rows i no_row)) }) (sym (flag_set (length slots) changed i lt set_here))
        ∙ ap (λ (l : List ThreadRow). record core { rows = l }) (sym next)

    pub put_none : bit_and (changed / 2 ^ i) 1 ≢ 1 → now ≡ record core { rows = with_slots (take (i + 1) fs) slots core.rows }
    put_none clear =
        let rows : List ThreadRow = with_slots (take i fs) slots core.rows in
        was ∙ ap (λ (l : List ThreadRow). record core { rows = l })
        (sym (set-get_or rows i no_row) ∙ ap (set rows i) (slots_before fs slots core.rows i)
        ∙ ap (λ (b : Bool). set rows i (one_slot b (get_or slots i no_slot) (get_or core.rows i no_row))) (sym (flag_clear (length slots) changed i lt clear)) ∙ sym next)

  pub put_all : length slots ≤ i → now ≡ record core { rows = with_slots fs slots core.rows }
  put_all past = let long = flag_long (length slots) changed in was ∙ ap (λ (l : List Bool). record core { rows = with_slots l slots core.rows }) (take_all i fs (omega (arith, long, past)))

-- 2. Queues and outputs.

pub each_at : {A B : Type 0} (f : A → B) (P : B → Type 0) (xs : List A) (i : ℕ) (x : A) → AllByRecursion P (map f xs) → i < length xs → x ≡ get_or xs i x → P (f x)
each_at f P [] i x h lt is = absurd (omega arith)
each_at f P (y ∷ xs) zero x h lt is = subst (λ z. P (f z)) (sym is) h.0
each_at f P (y ∷ xs) (suc i) x h lt is = each_at f P xs i x h.1 (omega arith) is

pub length-put_output : (core : Core) (g : ℕ) (bytes : List ℕ) → length (put_output core g bytes).outputs ≡ length core.outputs
unfolding put_output
length-put_output core g bytes = length-set core.outputs g bytes

pub queues-outputs : (queues : List (ℕ × List Event)) (core : Core) → (with_queues queues core).outputs ≡ core.outputs
queues-outputs [] core = refl
queues-outputs (x ∷ xs) core = queues-outputs xs (with_queue_in core x.0 x.1)
