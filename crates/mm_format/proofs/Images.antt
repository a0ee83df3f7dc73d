-- The image file is a format.
use Rattle.std.proofs.Common.{◌≡◌, ℕ, ◌+◌, ◌*◌, ◌<◌, ◌≤◌, Bool, true, false, not, cond, List, [], ◌∷◌, length, map}
use Rattle.std.proofs.Common.{get_or, Some, None, eqb-true, refl, sym, ap, ◌∙◌, arith}
use Rattle.std.proofs.lemmas.List.{take_all, FromFn.{length-map-range_with_len, get_or-map-range_with_len}}
use Rattle.std.{proofs.lemmas.Bool.{or_parts, not-false, ltb-false, eqb-false}, specs.Prelude.{◌==◌, ◌&&◌}}
use Rattle.mm_word.specs.declared.word.{Word.{Word, TheVariants.{Int, Ptr}}, Cell.Cell}
use Rattle.mm_word.specs.{Pointer.{pointer_of, bits_of, spells_pointer}, Word.{word_bits, is_pointer}}
use Rattle.mm_model.specs.{declared.slot.SlotState.TheVariants.{Running, Halted}, Flags.number_of_flags, Slot.Slot}
use Rattle.mm_model.specs.{Image.{Image, slot_limit}, Bytes.{IsBytes, bit_at}}
use Rattle.mm_model.specs.Spelling.{handler_byte, state_byte, bitmap}
use Rattle.mm_model.proofs.Bytes.{CleanWords.bits_again, Bitmaps.{number_of_flags-flags, bitmap-part}, Ranges.map-map}
use Rattle.mm_format.specs.Formats.{IsFormat, u64, byte, each}
use Rattle.mm_format.specs.Images.{mask, flags_of, bits_in, bits, word, ip, slot, cells_of, page, handler_tests, slots}
use Rattle.mm_format.specs.Images.{header_in, image}
use Rattle.mm_format.proofs.{Formats.{byte_is, u16_is, u64_is, raw_is, test_is, then_is, done_is}, Headers.header_is}
use Rattle.mm_format.proofs.Lists.{times_is, times_long, each_is, each_long, late_is}

-- 1. Flags and words.

pub mask_is : IsFormat mask
unfolding mask flags_of
mask_is = then_is _ _ u16_is (λ n _. done_is _)
    (λ n fs small e. ap number_of_flags e ∙ number_of_flags-flags 16 n small)

pub bits_count : (count : ℕ) (bytes : List ℕ) → length (bits_in count bytes) ≡ count
unfolding bits_in
bits_count count bytes = length-map-range_with_len (bit_at bytes 0) 0 count

pub bits_item : (count : ℕ) (bytes : List ℕ) (k : ℕ) → k < count → bit_at bytes 0 k ≡ get_or (bits_in count bytes) k false
unfolding bits_in
bits_item count bytes k lt = sym (get_or-map-range_with_len (bit_at bytes 0) 0 count k k false lt (omega arith))

bits_back : (size : ℕ) (bytes : List ℕ) → length bytes ≡ size → IsBytes bytes
    → bitmap size (bits_in (8 * size) bytes) ≡ bytes
unfolding bits_in
bits_back size bytes long fits = bitmap-part bytes fits 0 0 size (omega arith) ∙ take_all size bytes (omega arith)

pub bits_is : (size : ℕ) → IsFormat (bits size)
unfolding bits
bits_is size =
    then_is _ _ (raw_is size) (λ bytes _. done_is _)
    (λ bytes fs fits e. ap (bitmap size) e ∙ bits_back size bytes fits.0 fits.1)

pub bits_long : (size : ℕ) (fs : List Bool) → (bits size).Fits fs → length fs ≡ 8 * size
unfolding bits
bits_long size fs fits = ap length fits.1 ∙ bits_count (8 * size) (bitmap size fs)

pub word_again : (tagged : Bool) (n : ℕ) → (tagged && not (spells_pointer n)) ≡ false
    → word_bits (cond tagged (Ptr (pointer_of n)) (Int n)) ≡ n
word_again true n e = bits_again n (not-false _ e)
word_again false n e = refl

pub word_is : (tagged : Bool) → IsFormat (word tagged)
unfolding word
word_is tagged =
    then_is _ _ (test_is u64 u64_is 9 _) (λ n _. done_is _) (λ n w fits e. ap word_bits e ∙ word_again tagged n fits.1)

pub word_tag : (tagged : Bool) (w : Word) → (word tagged).Fits w → is_pointer w ≡ tagged
unfolding word
word_tag true w fits = ap is_pointer fits.1
word_tag false w fits = ap is_pointer fits.1

pub words_tags : (tags : List Bool) (words : List Word) → (each word tags).Fits words → map is_pointer words ≡ tags
unfolding Rattle.mm_format.specs.Formats.cons
words_tags [] words fits = ap (map is_pointer) fits
words_tags (b ∷ tags) [] fits = absurd fits
words_tags (b ∷ tags) (w ∷ words) fits = ap (λ x. x ∷ map is_pointer words) (word_tag b w fits.0)
    ∙ ap (λ xs. b ∷ xs) (words_tags tags words fits.1)

pub ip_is : IsFormat ip
unfolding ip
ip_is =
    then_is _ _ (test_is u64 u64_is 10 _) (λ n _. done_is _)
    (λ n p fits e. ap bits_of e ∙ bits_again n (not-false _ (or_parts _ _ fits.1).0))

-- 2. Slots.

pub handler_again : (none : Bool) (h : ℕ) → (h == 255) ≡ none → handler_byte (cond none None (Some h)) ≡ h
handler_again true h e = sym (eqb-true h 255 e)
handler_again false h e = refl

state_again : (running : Bool) (n : ℕ) → n ≤ 1 → (n == 0) ≡ running → state_byte (cond running Running (Halted None))
    ≡ n
state_again true n le e = sym (eqb-true n 0 e)
state_again false n le e = let ne = eqb-false n 0 e in omega arith

pub slot_is : (limit least : ℕ) → IsFormat (slot limit least)
unfolding slot
slot_is limit least =
    then_is _ _ (test_is byte byte_is 5 _) (λ number _.
    then_is _ _ (test_is byte byte_is 6 _) (λ group _.
    then_is _ _ byte_is (λ handler _.
    then_is _ _ (test_is byte byte_is 8 _) (λ state _.
    then_is _ _ ip_is (λ p _.
    then_is _ _ mask_is (λ tags _.
    then_is _ _ (each_is word word_is tags) (λ regs _. done_is _)
    (λ a s fits e. ap (λ (s : Slot). s.regs) e))
    (λ a s fits e. words_tags a s.regs e.0))
    (λ a s fits e. ap (λ (s : Slot). s.ip) e.1.1))
    (λ a s fits e. ap (λ (s : Slot). state_byte s.state) e.1.1.1 ∙ state_again (a == 0) a (ltb-false 1 a fits.1) refl))
    (λ a s fits e. ap (λ (s : Slot). handler_byte s.handler) e.1.1.1.1 ∙ handler_again (a == 255) a refl))
    (λ a s fits e. ap (λ (s : Slot). s.group) e.1.1.1.1.1))
    (λ a s fits e. ap (λ (s : Slot). s.number) e.1.1.1.1.1.1)

pub slots_is : (version count : ℕ) → IsFormat (slots version count)
unfolding slots
slots_is version count =
    late_is _ (λ all. handler_tests all 0 all)
    (times_is (slot (slot_limit version)) (λ _ s. s.number + 1) (slot_is (slot_limit version)) count 0)

-- 3. Pages.

pub words_in : (words : List Word) (full : List Bool) → length words ≡ length full
    → map (λ (c : Cell). c.word) (cells_of words full) ≡ words
words_in [] full e = refl
words_in (w ∷ words) [] e = absurd (omega arith)
words_in (w ∷ words) (b ∷ full) e = ap (λ ws. w ∷ ws) (words_in words full (omega arith))

pub full_in : (words : List Word) (full : List Bool) → length words ≡ length full
    → map (λ (c : Cell). c.full) (cells_of words full) ≡ full
full_in [] [] e = refl
full_in [] (b ∷ full) e = absurd (omega arith)
full_in (w ∷ words) [] e = absurd (omega arith)
full_in (w ∷ words) (b ∷ full) e = ap (λ bs. b ∷ bs) (full_in words full (omega arith))

pub page_is : (least : ℕ) → IsFormat (page least)
unfolding page
page_is least =
    then_is _ _ (test_is u64 u64_is 11 _) (λ number _.
    then_is _ _ (bits_is 64) (λ tags some.
    then_is _ _ (bits_is 64) (λ full more.
    then_is _ _ (each_is word word_is tags) (λ words _. done_is _)
    (λ a p fits e. ap (λ (p : ℕ × List Cell). map (λ (c : Cell). c.word) p.1) e
    ∙ words_in a full (even tags full a some more fits)))
    (λ a p fits e. ap (λ (p : ℕ × List Cell). map (λ (c : Cell). c.full) p.1) e.1
    ∙ full_in _ a (even tags a _ some fits e.0)))
    (λ a p fits e. sym (map-map is_pointer (λ (c : Cell). c.word) p.1) ∙ words_tags a _ e.1.0))
    (λ a p fits e. ap (λ (p : ℕ × List Cell). p.0) e.1.1.1)
  where
    even : (tags full : List Bool) (words : List Word) → (bits 64).Fits tags → (bits 64).Fits full
        → (each word tags).Fits words → length words ≡ length full
    even tags full words some more fits = each_long word tags words fits ∙ bits_long 64 tags some
        ∙ sym (bits_long 64 full more)

-- 4. The whole.

pub slots_long : (version count : ℕ) (xs : List Slot) → (slots version count).Fits xs → length xs ≡ count
unfolding slots
slots_long version count xs fits = times_long (slot (slot_limit version)) (λ _ s. s.number + 1) count 0 xs fits.0

same_header : (v s f p : ℕ) (b : Bool) (i : Image) → i.version ≡ v → length i.slots ≡ s → i.memory.frames ≡ f
    → length i.memory.pages ≡ p → i.split ≡ b → header_in i
    ≡ record { version = v; slots = s; frames = f; pages = p; split = b }
same_header v s f p b i version counted frames pages split = cc

pub image_is : IsFormat image
unfolding image
image_is =
    then_is _ _ header_is (λ head _.
    then_is _ _ (slots_is head.version head.slots) (λ xs _.
    then_is _ _ (times_is page (λ _ p. p.0 + 1) page_is head.pages 0) (λ ps _. done_is _)
    (λ a i fits e. ap (λ (i : Image). i.memory.pages) e))
    (λ a i fits e. ap (λ (i : Image). i.slots) e.1))
    (λ a i fits e. same_header a.version a.slots a.frames a.pages a.split i (ap (λ (i : Image). i.version) e.1.1)
    (slots_long a.version a.slots i.slots e.0)
    (ap (λ (i : Image). i.memory.frames) e.1.1) (times_long page (λ _ p. p.0 + 1) a.pages 0 i.memory.pages e.1.0)
    (ap (λ (i : Image). i.split) e.1.1))
