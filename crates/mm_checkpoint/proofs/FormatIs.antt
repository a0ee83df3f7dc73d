-- The checkpoint's file is a format.
use Rattle.std.proofs.Common.{◌≡◌, ℕ, ◌+◌, ◌≤◌, Bool, true, false, not, cond, List, [], ◌∷◌, length, map, Option, Some}
use Rattle.std.proofs.Common.{None, refl, sym, ap, ◌∙◌, arith, eqb-true, eq-eqb, codes}
use Rattle.std.{proofs.lemmas.Bool.{not-false, ltb-false, eqb-false}, specs.Prelude.{◌==◌, ◌&&◌, option_map, unwrap_or}}
use Rattle.mm_model.proofs.{OneIf.at_most_one, Bytes.Bitmaps.number_of_flags-flags}
use Rattle.mm_model.specs.{declared.event.Event.Event, Flags.{flags, number_of_flags, one_if}, Slot.Slot}
use Rattle.mm_model.specs.Image.{Image, output_limit}
use Rattle.mm_word.specs.declared.{cause.Cause.TheVariants.NotPointer, word.Word.{Word, TheVariants.{Int, Ptr}}}
use Rattle.mm_word.specs.{Word.{word_bits, is_pointer}, Cause.cause_of}
use Rattle.mm_format.specs.Formats.{Format, IsFormat, u16, u32, u64, byte, each, cons}
use Rattle.mm_format.specs.Images.{mask, flags_of, word, page}
use Rattle.mm_format.proofs.Formats.{byte_is, u16_is, u32_is, u64_is, text_is, test_is, literal_is, literal_read}
use Rattle.mm_format.proofs.{Formats.{then_is, done_is}, Lists.{each_is, times_is, times_long, late_is}}
use Rattle.mm_format.proofs.Images.{mask_is, word_is, word_tag, word_again, ip_is, page_is}
use Rattle.mm_checkpoint.specs.{Checkpoints.{last_byte, state_byte, cause_byte}, Reading.{state_of, groups_of}}
use Rattle.mm_checkpoint.specs.{Tests.is_bad_cause, declared.rows.{Queued.Queued, SlotRow.SlotRow}}
use Rattle.mm_checkpoint.specs.Format.{header, word_with, tagged, register, operand, load, beside, event_in}
use Rattle.mm_checkpoint.specs.Format.{place_in_row, address_in, value_in, slot_row, load_count, queue_tests, Front}
use Rattle.mm_checkpoint.specs.Format.{front, waiting_in, output, Contents, checkpoint}
use Rattle.mm_checkpoint.proofs.States.{state_right, state_again, cause_again}

-- 1. The header.

last_again : (n : ℕ) → last_byte (cond (n == 255) None (Some n)) ≡ n
last_again n = by (n == 255) refl
  where
    by : (b : Bool) → (n == 255) ≡ b → last_byte (cond b None (Some n)) ≡ n
    by true e = sym (eqb-true n 255 e)
    by false e = refl

pub header_is : (frames : ℕ) → IsFormat (header frames)
unfolding header
header_is frames =
    then_is _ _ (literal_is (codes "MMS1") 2) (λ magic _.
    then_is _ _ (test_is u16 u16_is 3 _) (λ version _.
    then_is _ _ (test_is byte byte_is 4 _) (λ last _.
    then_is _ _ (test_is byte byte_is 4 _) (λ zero _.
    then_is _ _ (test_is u64 u64_is 4 _) (λ cycles _.
    then_is _ _ (test_is u16 u16_is 12 _) (λ pages _. done_is _)
    (λ a h fits e. ap (λ h. h.pages) e))
    (λ a h fits e. ap (λ h. h.cycles) e.1))
    (λ a h fits e. sym (eqb-true a 0 (not-false _ fits.1))))
    (λ a h fits e. ap (λ h. last_byte h.last) e.1.1.1 ∙ last_again a))
    (λ a h fits e. sym (eqb-true a 1 (not-false _ fits.1))))
    (λ a h fits e. literal_read (codes "MMS1") 2 a fits)

-- 2. Words.

pub with_is : (tag : Bool) (bad : ℕ → Bool) → IsFormat (word_with tag bad)
unfolding word_with
with_is tag bad =
    then_is _ _ (test_is _ (test_is u64 u64_is 9 _) 9 bad) (λ n _. done_is _)
    (λ n w fits e. ap word_bits e ∙ word_again tag n fits.0.1)

pub with_tag : (tag : Bool) (bad : ℕ → Bool) (w : Word) → (word_with tag bad).Fits w → is_pointer w ≡ tag
unfolding word_with
with_tag true bad w fits = ap is_pointer fits.1
with_tag false bad w fits = ap is_pointer fits.1

pub flag_again : (n : ℕ) → n ≤ 1 → one_if (n == 1) ≡ n
flag_again n le = by (n == 1) refl
  where
    by : (b : Bool) → (n == 1) ≡ b → one_if b ≡ n
    by true e = sym (eqb-true n 1 e)
    by false e = let ne = eqb-false n 1 e in omega arith

tagged_is : (most : ℕ) (f : Bool → Format Word) → most ≤ 1 → ((b : Bool) → IsFormat (f b))
    → ((b : Bool) (w : Word) → (f b).Fits w → is_pointer w ≡ b) → IsFormat (tagged most f)
unfolding tagged
tagged_is most f le is tags =
    then_is _ _ (test_is byte byte_is 4 _) (λ tag _.
    then_is _ _ (is (tag == 1)) (λ w _. done_is w)
    (λ a w fits e. e))
    (λ a w fits e. let few = ltb-false most a fits.1 in ap one_if (tags (a == 1) w e.0) ∙ flag_again a (omega arith))

operand_is : (waits : Bool) → IsFormat (operand waits)
operand_is waits = tagged_is (one_if waits) _ (at_most_one waits) (λ b. with_is b _) (λ b w. with_tag b _ w)

pub operand_zero : (waits : Bool) (w : Word) → (operand waits).Fits w → waits ≡ false → w ≡ Int 0
unfolding tagged word_with
operand_zero true w fits e = absurd cc
operand_zero false (Int n) fits e = ap Int (eqb-true n 0 (not-false _ fits.1.0.0.1))
operand_zero false (Ptr p) fits e = absurd (let no = fits.0.1 in cc)

load_is : (empty : ℕ) (earlier : List Rattle.mm_model.specs.declared.slot.Pending.Pending) → IsFormat (load empty earlier)
unfolding load
load_is empty earlier =
    then_is _ _ (test_is byte byte_is 4 _) (λ register _.
    then_is _ _ (tagged_is 1 word (omega arith) word_is word_tag) (λ w _. done_is _)
    (λ a p fits e. ap (λ p. p.word) e))
    (λ a p fits e. ap (λ p. p.reg) e.1)

-- 3. The record of a slot.

pub registers_tags : (tags empty : List Bool) → length tags ≡ length empty → (regs : List Word)
    → (each register (beside tags empty)).Fits regs → map is_pointer regs ≡ tags
unfolding cons
registers_tags [] empty even regs fits = ap (map is_pointer) fits
registers_tags (a ∷ tags) [] even regs fits = absurd (omega arith)
registers_tags (a ∷ tags) (b ∷ empty) even [] fits = absurd fits
registers_tags (a ∷ tags) (b ∷ empty) even (w ∷ regs) fits =
    ap (λ x. x ∷ map is_pointer regs) (with_tag a _ w fits.0)
    ∙ ap (λ xs. a ∷ xs) (registers_tags tags empty (omega arith) regs fits.1)

mask_long : (fs : List Bool) → mask.Fits fs → length fs ≡ 16
unfolding mask flags_of
mask_long fs fits = ap length fits.1

module _ (waits : Bool) (q : Queued) where
  abbrev queued : Option Queued
  queued = cond waits (Some q) None

  operand_again : (get : Option Event → Word) → get None ≡ Int 0 → (w : Word) → get (Some q.event) ≡ w
      → (waits ≡ false → w ≡ Int 0) → get (option_map (λ q. q.event) queued) ≡ w
  operand_again get none w is zero = by waits refl
    where
      by : (b : Bool) → waits ≡ b → get (option_map (λ (q : Queued). q.event) (cond b (Some q) None)) ≡ w
      by true e = is
      by false e = none ∙ sym (zero e)

  place_again : (n : ℕ) → q.place ≡ n → (not waits && not (n == 0)) ≡ false → place_in_row queued ≡ n
  place_again n is right = by waits right
    where
      by : (b : Bool) → (not b && not (n == 0)) ≡ false → place_in_row (cond b (Some q) None) ≡ n
      by true e = is
      by false e = sym (eqb-true n 0 (not-false _ e))

cause_here : (st ca : ℕ) (q : Queued) → st ≤ 3 → is_bad_cause st ca ≡ false
    → q.event.cause ≡ unwrap_or (cause_of ca) NotPointer
    → cause_byte (state_of st ca) (option_map (λ q. q.event) (cond (st == 1) (Some q) None)) ≡ ca
cause_here st ca q le right is =
    cause_again st ca _ le right
    (λ one. (q.event, ap (λ b. option_map (λ (q : Queued). q.event) (cond b (Some q) None)) (eq-eqb st 1 one), is))

pub row_is : (split : Bool) (cycles : ℕ) (s : Slot) → IsFormat (slot_row split cycles s)
unfolding slot_row load_count
row_is split cycles s =
    then_is _ _ (test_is byte byte_is 8 _) (λ state st.
    then_is _ _ (test_is byte byte_is 4 _) (λ cause _.
    then_is _ _ (test_is byte byte_is 7 _) (λ place _.
    then_is _ _ (test_is byte byte_is 4 _) (λ past _.
    then_is _ _ (test_is u64 u64_is 4 _) (λ turns _.
    then_is _ _ ip_is (λ p _.
    then_is _ _ mask_is (λ tags _.
    then_is _ _ (test_is u16 u16_is 4 _) (λ empty _.
    then_is _ _ (each_is register (λ k. with_is k.0 _) (beside tags (flags 16 empty))) (λ regs _.
    then_is _ _ (operand_is (state == 1)) (λ address _.
    then_is _ _ (operand_is (state == 1)) (λ value _.
    then_is _ _ (test_is byte byte_is 4 _) (λ count _.
    then_is _ _ (times_is (load empty) _ (load_is empty) count []) (λ pending _. done_is _)
    (λ a r fits e. ap (λ (r : SlotRow). r.slot.pending) e))
    (λ a r fits e. times_long (load empty) _ a [] r.slot.pending e.0))
    (λ a r fits e. ap (λ (r : SlotRow). value_in (event_in r)) e.1.1
    ∙ operand_again (state == 1) _ value_in refl a refl (operand_zero (state == 1) a fits)))
    (λ a r fits e. ap (λ (r : SlotRow). address_in (event_in r)) e.1.1.1
    ∙ operand_again (state == 1) _ address_in refl a refl (operand_zero (state == 1) a fits)))
    (λ a r fits e. ap (λ (r : SlotRow). r.slot.regs) e.1.1.1.1))
    (λ a r fits e. ap (λ (r : SlotRow). number_of_flags r.slot.empty) e.1.1.1.1.1
    ∙ number_of_flags-flags 16 a fits.0))
    (λ a r fits e. registers_tags a _ (mask_long a fits) r.slot.regs e.1.0))
    (λ a r fits e. ap (λ (r : SlotRow). r.slot.ip) e.1.1.1.1.1.1.1))
    (λ a r fits e. ap (λ (r : SlotRow). r.slot.turns) e.1.1.1.1.1.1.1.1))
    (λ a r fits e. ap (λ (r : SlotRow). one_if r.slot.past) e.1.1.1.1.1.1.1.1.1
    ∙ flag_again a (ltb-false 1 a fits.1)))
    (λ a r fits e. ap (λ (r : SlotRow). place_in_row r.queued) e.1.1.1.1.1.1.1.1.1.1
    ∙ place_again (state == 1) _ a refl fits.1))
    (λ a r fits e. ap (λ (r : SlotRow). cause_byte r.slot.state (event_in r)) e.1.1.1.1.1.1.1.1.1.1.1
    ∙ cause_here state a _ (state_right _ state st.1).known fits.1 refl))
    (λ a r fits e. ap (λ (r : SlotRow). state_byte r.slot.state) e.1.1.1.1.1.1.1.1.1.1.1.1
    ∙ state_again a _ (state_right _ a fits.1).known)

-- 4. The whole.

output_is : (limit group : ℕ) → IsFormat (output limit group)
unfolding output
output_is limit group =
    then_is _ _ (test_is u32 u32_is 4 _) (λ size _.
    then_is _ _ (text_is size) (λ bytes _. done_is _)
    (λ a o fits e. ap (λ (o : ℕ × List ℕ). o.1) e))
    (λ a o fits e. e.0)

front_is : (i : Image) → IsFormat (front i)
unfolding front
front_is i =
    then_is _ _ (header_is i.memory.frames) (λ head _.
    then_is _ _ (each_is _ (row_is i.split head.cycles) i.slots) (λ rows _. done_is _)
    (λ a f fits e. ap (λ (f : Front). f.rows) e))
    (λ a f fits e. ap (λ (f : Front). f.head) e.1)

pub checkpoint_is : (i : Image) → IsFormat (checkpoint i)
unfolding checkpoint
checkpoint_is i =
    then_is _ _ (late_is (front i) (λ f. queue_tests (waiting_in f) [] (waiting_in f)) (front_is i)) (λ f _.
    then_is _ _ (each_is (output (output_limit i.version)) (output_is (output_limit i.version)) (groups_of i.slots)) (λ outputs _.
    then_is _ _ (times_is page (λ _ p. p.0 + 1) page_is f.head.pages 0) (λ pages _. done_is _)
    (λ a c fits e. ap (λ (c : Contents). c.pages) e))
    (λ a c fits e. ap (λ (c : Contents). c.outputs) e.1))
    (λ a c fits e. ap (λ (c : Contents). c.front) e.1.1)
