-- Slots, read again from their differences from the image's.
use Rattle.std.proofs.Common.{◌≡◌, ℕ, suc, ◌+◌, ◌*◌, ◌/◌, ◌%◌, ◌^◌, ◌<◌, ◌≤◌, Bool, true}
use Rattle.std.proofs.Common.{if◌then◌else◌, List, [], ◌∷◌, ◌++◌, map, length, Some, None, refl, sym, ap, ◌∙◌}
use Rattle.std.proofs.Common.{subst, arith}
use Rattle.std.proofs.lemmas.List.{append-nil}
use Rattle.std.proofs.lemmas.Bool.{le-ltb, cond-false, ne_eqb}
use Rattle.std.specs.{Prelude.{◌==◌}, List.{AllByRecursion, flat_map}}
use Rattle.mm_model.proofs.{Bytes.Apart.number_of_flags-below}
use Rattle.mm_model.proofs.OneIf.{below_two, one_back}
use Rattle.mm_model.specs.declared.slot.SlotState.{SlotState, TheVariants.{Running, Waiting, Taken, Halted}}
use Rattle.mm_model.specs.{declared.slot.Pending.Pending, Flags.{one_if, number_of_flags}}
use Rattle.mm_model.specs.{Slot.Slot}
use Rattle.mm_word.specs.{declared.word.Word.{Word}, Cause.{number_of, cause_of}, Perm.can_fetch}
use Rattle.mm_word.specs.{Pointer.{Pointer, IsWellFormed, bits_of}, Word.is_pointer}
use Rattle.mm_word.proofs.Causes.{cause_back, number_within}
use Rattle.mm_config.specs.{Configurations.uncounted_slot, StateNumbers.state_number}
use Rattle.mm_config.specs.Forms.{changed_flags, changed_bits, words_from, load_form, loads_from, few_loads}
use Rattle.mm_config.specs.Forms.{register_flags, state_at, ip_of, slot_head, slot_masks, slot_form, slot_from}
use Rattle.mm_config.proofs.WordForms.{flags_of, ip_again, AreWords, words_read, length-changed, IsLoad, loads_read}

-- 1. States.

halted_at : (n : ℕ) → state_at (3 + n) ≡ Halted (cause_of n)
halted_at n =
    cond-false (3 + n == 0) _ _ (ne_eqb (3 + n) 0 (λ e. omega (arith, e)))
    ∙ cond-false (3 + n == 1) _ _ (ne_eqb (3 + n) 1 (λ e. omega (arith, e)))
    ∙ cond-false (3 + n == 2) _ _ (ne_eqb (3 + n) 2 (λ e. omega (arith, e)))
    ∙ ap (λ k. Halted (cause_of k)) (omega arith)

pub state_back : (s : SlotState) → state_at (state_number s) ≡ s
state_back Running = refl
state_back Waiting = refl
state_back Taken = refl
state_back (Halted None) = refl
state_back (Halted (Some c)) = halted_at (number_of c) ∙ ap Halted (cause_back c)

state_small : (s : SlotState) → state_number s < 32
state_small Running = omega arith
state_small Waiting = omega arith
state_small Taken = omega arith
state_small (Halted None) = omega arith
state_small (Halted (Some c)) = let small = (number_within c).1 in omega (arith, small)

-- 2. The numbers of a head and of masks.

head_state : (a b c d : ℕ) → a < 32 → (a + 32 * (b + 2 * (c + 32 * d))) % 32 ≡ a
head_state a b c d lt = omega (arith, lt)

head_past : (a b c d : ℕ) → a < 32 → b < 2 → (a + 32 * (b + 2 * (c + 32 * d))) / 32 % 2 ≡ b
head_past a b c d lt low = omega (arith, lt, low)

head_loads : (a b c d : ℕ) → a < 32 → b < 2 → c < 32 → (a + 32 * (b + 2 * (c + 32 * d))) / 64 % 32 ≡ c
head_loads a b c d lt low few = omega (arith, lt, low, few)

head_empty : (a b c d : ℕ) → a < 32 → b < 2 → c < 32 → (a + 32 * (b + 2 * (c + 32 * d))) / 2048 ≡ d
head_empty a b c d lt low few = omega (arith, lt, low, few)

masks_low : (a b : ℕ) → a < 65536 → (a + 65536 * b) % 65536 ≡ a
masks_low a b lt = omega (arith, lt)

masks_high : (a b : ℕ) → a < 65536 → (a + 65536 * b) / 65536 ≡ b
masks_high a b lt = omega (arith, lt)

pub length-pointers : (words : List Word) → length (map is_pointer words) ≡ length words
length-pointers [] = refl
length-pointers (w ∷ words) = ap suc (length-pointers words)

flags_16 : (bs : List Bool) → length bs ≡ 16 → number_of_flags bs < 65536
flags_16 bs e = let P : ℕ → Type 0 = λ n. number_of_flags bs < 2 ^ n in subst P e (number_of_flags-below bs)

registers_of : (bs : List Bool) → length bs ≡ 16 → register_flags (number_of_flags bs) ≡ bs
unfolding register_flags
registers_of bs e = flags_of 16 bs e

low_again : (n : ℕ) → n < 65536 → n % 65536 ≡ n
low_again n lt = omega (arith, lt)

few_again : (n : ℕ) → n ≤ 16 → few_loads n ≡ n
few_again n le = ap (λ b. if b then 16 else n) (le-ltb 16 n le)

-- 3. One slot.

-- a slot that can be kept as its difference from another
pub record IsKeepable (base s : Slot) : Type 0 where
  pub number : base.number ≡ s.number
  pub group : base.group ≡ s.group
  pub handler : base.handler ≡ s.handler
  pub base_count : length base.regs ≡ 16
  pub count : length s.regs ≡ 16
  pub base_words : AreWords base.regs
  pub words : AreWords s.regs
  pub base_ip : IsWellFormed base.ip
  pub ip : IsWellFormed s.ip
  pub fetches : can_fetch s.ip.perm ≡ true
  pub flags : length s.empty ≡ 16
  pub few : length s.pending ≤ 16
  pub loads : AllByRecursion IsLoad s.pending

module _ (base : Slot) where
  abbrev made : SlotState → Bool → ℕ → List Bool → (changed tagged : List Bool) → Pointer → List ℕ → Slot
  made state past count empty changed tagged ip tail =
      let words = words_from changed tagged base.regs tail in
      record base { regs = words.0; ip = ip; past = past; turns = 0; state = state; empty = empty; pending = (loads_from count words.1).0 }

  module _ (s : Slot) (k : IsKeepable base s) where
    abbrev a : ℕ
    a = state_number s.state

    abbrev b : ℕ
    b = one_if s.past

    abbrev c : ℕ
    c = length s.pending

    abbrev d : ℕ
    d = number_of_flags s.empty

    abbrev changed : List Bool
    changed = changed_flags base.regs s.regs

    abbrev tagged : List Bool
    tagged = map is_pointer s.regs

    long_changed : length changed ≡ 16
    long_changed = length-changed base.regs s.regs (k.base_count ∙ sym k.count) ∙ k.count

    abbrev loads : List ℕ
    loads = flat_map load_form s.pending

    abbrev tail : List ℕ
    tail = changed_bits base.regs s.regs ++ loads

    opened : slot_from base (slot_form base s)
        ≡ made (state_at (slot_head s % 32)) (slot_head s / 32 % 2 == 1) (few_loads (slot_head s / 64 % 32)) (register_flags (slot_head s / 2048 % 65536))
        (register_flags (slot_masks base s % 65536)) (register_flags (slot_masks base s / 65536)) (ip_of base.ip (bits_of s.ip)) tail
    unfolding slot_from slot_form
    opened = refl

    small_a : a < 32
    small_a = state_small s.state

    small_b : b < 2
    small_b = below_two s.past

    state_is : state_at (slot_head s % 32) ≡ s.state
    state_is = ap state_at (head_state a b c d small_a) ∙ state_back s.state

    past_is : (slot_head s / 32 % 2 == 1) ≡ s.past
    past_is = ap (λ n. n == 1) (head_past a b c d small_a small_b) ∙ one_back s.past

    fewer : c < 32
    fewer = let few = k.few in omega (arith, few)

    count_is : few_loads (slot_head s / 64 % 32) ≡ length s.pending
    count_is = ap few_loads (head_loads a b c d small_a small_b fewer) ∙ few_again c k.few

    empty_is : register_flags (slot_head s / 2048 % 65536) ≡ s.empty
    empty_is = ap (λ n. register_flags (n % 65536)) (head_empty a b c d small_a small_b fewer) ∙ ap register_flags (low_again d (flags_16 s.empty k.flags)) ∙ registers_of s.empty k.flags

    changed_is : register_flags (slot_masks base s % 65536) ≡ changed
    changed_is = ap register_flags (masks_low (number_of_flags changed) (number_of_flags tagged) (flags_16 changed long_changed)) ∙ registers_of changed long_changed

    tagged_is : register_flags (slot_masks base s / 65536) ≡ tagged
    tagged_is =
        ap register_flags (masks_high (number_of_flags changed) (number_of_flags tagged) (flags_16 changed long_changed))
        ∙ registers_of tagged (length-pointers s.regs ∙ k.count)

    ip_is : ip_of base.ip (bits_of s.ip) ≡ s.ip
    ip_is = ip_again base.ip s.ip k.ip k.fetches

    -- the registers, and then the loads
    abbrev with_words : List Word × List ℕ → Slot
    with_words words = record s { turns = 0; regs = words.0; pending = (loads_from (length s.pending) words.1).0 }

    loads_are : (loads_from (length s.pending) loads).0 ≡ s.pending
    loads_are = ap (λ l. (loads_from (length s.pending) l).0) (sym (append-nil loads)) ∙ ap (λ r. r.0) (loads_read s.pending [] k.loads)

    pub slot_read : slot_from base (slot_form base s) ≡ uncounted_slot s
    slot_read =
        opened
        ∙ (λ j. record (made (state_is j) (past_is j) (count_is j) (empty_is j) (changed_is j) (tagged_is j) (ip_is j) tail) {
          number = k.number j;
          group = k.group j;
          handler = k.handler j;
        })
        ∙ ap with_words (words_read base.regs s.regs loads (k.base_count ∙ sym k.count) k.base_words k.words)
        ∙ ap (λ (l : List Pending). record (uncounted_slot s) { pending = l }) loads_are

-- so a form is that of one slot
pub form_tells : (base s t : Slot) → IsKeepable base s → IsKeepable base t → slot_form base s ≡ slot_form base t → uncounted_slot s ≡ uncounted_slot t
form_tells base s t k h e = sym (slot_read base s k) ∙ ap (slot_from base) e ∙ slot_read base t h
