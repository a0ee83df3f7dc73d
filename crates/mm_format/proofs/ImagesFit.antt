-- What fits the image's format is an image, and what is an image fits it.
use Rattle.std.proofs.Common.{◌≡◌, ℕ, zero, suc, ◌+◌, ◌*◌, ◌/◌, ◌%◌, ◌-◌, ◌^◌, ◌<◌, ◌≤◌, Bool, true, false, not, cond}
use Rattle.std.proofs.Common.{nat_lt, List, [], ◌∷◌, length, take, drop, map, get_or, Option, Some, None, refl, sym, ap}
use Rattle.std.proofs.{Common.{subst, ◌∙◌, arith, inl, inr, eqb-true, eq-eqb}, Math.Pow.pow_mono}
use Rattle.std.proofs.lemmas.Bool.{or_parts, not-false, ltb-false, le-ltb, or_from, Decides.nat_tests}
use Rattle.std.proofs.lemmas.List.{length-map, length-take, take_all}
use Rattle.std.specs.Prelude.{◌==◌, ◌||◌, IfSome, slice_index, ◌⊎◌}
use Rattle.std.specs.List.{AllByRecursion, range_with_len, Sorted.IsStrictlyIncreasing}
use Rattle.mm_word.specs.{declared.word.{Word.{Word, TheVariants.{Int, Ptr}}, Cell.Cell}, Perm.can_fetch}
use Rattle.mm_word.specs.{Pointer.{Pointer, IsWellFormed, pointer_of, bits_of}, Word.{IsWord, word_bits, is_pointer}}
use Rattle.mm_word.proofs.Packing.{code_of-in_range, pointer_of-bits_of}
use Rattle.mm_model.specs.declared.slot.SlotState.{SlotState, TheVariants.{Running, Waiting, Taken, Halted}}
use Rattle.mm_model.specs.{declared.slot.Pending.Pending, Flags.{flags, number_of_flags}, Memory.IsPage, Slot.Slot}
use Rattle.mm_model.specs.{Image.{Image, slot_limit, frame_limit, none_empty}, Bytes.{IsBytes, bit_at}}
use Rattle.mm_model.specs.Spelling.{Begins, IsFresh, IsImage, HoldsWords, mode_of, handler_byte, state_byte, bitmap}
use Rattle.mm_model.specs.Spelling.{is_bad_handler}
use Rattle.mm_model.proofs.Bytes.{Apart.{number_of_flags-below, bit_at-bitmap}, Clean.is_below}
use Rattle.mm_model.proofs.Bytes.{CleanRecords.handler_is_other, CleanWords.well_formed, Ranges.{map-map, range-list}}
use Rattle.mm_model.proofs.Bytes.Rising.{AreRisingFrom, sorted_from, rising_from_sorted}
use Rattle.mm_model.proofs.Bytes.{SpelledRecords.{is_spelled, not_le}, SpelledSlots.{handler_small, handler_good}}
use Rattle.mm_format.specs.{Formats.{each, times, cons, first_late}, Headers.header}
use Rattle.mm_format.specs.Images.{mask, flags_of, bits_in, bits, word, ip, slot, cells_of, page, handler_tests, slots}
use Rattle.mm_format.{specs.Images.image, proofs.Images.bits_long}
-- names by which crates above know them
pub use Rattle.std.proofs.lemmas.Bool.{or_from as or_false}

-- 1. Words and pointers.

pub small_bits : (p : Pointer) → IsWellFormed p → bits_of p < 2 ^ 64
small_bits p h = omega (arith, (code_of-in_range p.perm).1, h.log_in_range, h.addr_in_range)

pub word_fits : (tagged : Bool) (w : Word) → (word tagged).Fits w → IsWord w
unfolding word
word_fits true w fits = subst IsWord (sym fits.1) (well_formed (word_bits w) (not-false _ fits.0.1))
word_fits false w fits = subst IsWord (sym fits.1) fits.0.0

pub fits_word : (w : Word) → IsWord w → (word (is_pointer w)).Fits w
unfolding word
fits_word (Int n) small = ((small, refl), refl)
fits_word (Ptr p) h = ((small_bits p h, ap not (is_spelled p h)), ap Ptr (sym (pointer_of-bits_of p h)))

pub words_fit : (tags : List Bool) (words : List Word) → (each word tags).Fits words → AllByRecursion IsWord words
unfolding cons
words_fit [] words fits = subst (AllByRecursion IsWord) (sym fits) tt
words_fit (b ∷ tags) [] fits = absurd fits
words_fit (b ∷ tags) (w ∷ words) fits = (word_fits b w fits.0, words_fit tags words fits.1)

fit_words : (words : List Word) → AllByRecursion IsWord words → (each word (map is_pointer words)).Fits words
unfolding cons
fit_words [] all = refl
fit_words (w ∷ words) all = (fits_word w all.0, fit_words words all.1)

pub ip_fits : (p : Pointer) → ip.Fits p → IsWellFormed p × (can_fetch p.perm ≡ true)
unfolding ip
ip_fits p fits =
    let tests = or_parts _ _ fits.0.1 in
    subst (λ (q : Pointer). IsWellFormed q × (can_fetch q.perm ≡ true)) (sym fits.1)
    (well_formed (bits_of p) (not-false _ tests.0), not-false _ tests.1)

pub fits_ip : (p : Pointer) → IsWellFormed p → can_fetch p.perm ≡ true → ip.Fits p
unfolding ip
fits_ip p h fetch =
    let same = pointer_of-bits_of p h in (
      (
        small_bits p h,
        ap (λ b. not b || not (can_fetch (pointer_of (bits_of p)).perm)) (is_spelled p h)
            ∙ ap (λ (q : Pointer). not (can_fetch q.perm)) same ∙ ap not fetch,
      ),
      sym same,
    )

-- 2. Flags.

pub fits_mask : (fs : List Bool) → length fs ≡ 16 → mask.Fits fs
unfolding mask flags_of
fits_mask fs long = (
  subst (λ n. number_of_flags fs < 2 ^ n) long (number_of_flags-below fs),
  sym
      (ap (λ n. flags n (number_of_flags fs)) (sym long) ∙ again fs),
)
  where
    half : (b : Bool) (n : ℕ) → (cond b 1 0 + 2 * n) / 2 ≡ n
    half true n = omega arith
    half false n = omega arith

    odd : (b : Bool) (n : ℕ) → ((cond b 1 0 + 2 * n) % 2 == 1) ≡ b
    odd true n = eq-eqb _ 1 (omega arith)
    odd false n = let e : (cond false 1 0 + 2 * n) % 2 ≡ 0 = omega arith in ap (λ m. m == 1) e

    again : (fs : List Bool) → flags (length fs) (number_of_flags fs) ≡ fs
    again [] = refl
    again (b ∷ fs) = ap (λ x. x ∷ flags (length fs) ((cond b 1 0 + 2 * number_of_flags fs) / 2))
        (odd b (number_of_flags fs)) ∙ ap (λ n. b ∷ flags (length fs) n) (half b (number_of_flags fs))
        ∙ ap (λ xs. b ∷ xs) (again fs)

pub long_bitmap : (count : ℕ) (fs : List Bool) → length (bitmap count fs) ≡ count
long_bitmap zero fs = refl
long_bitmap (suc count) fs = ap suc (long_bitmap count (drop 8 fs))

bytes_bitmap : (count : ℕ) (fs : List Bool) → IsBytes (bitmap count fs)
bytes_bitmap zero fs i = omega arith
bytes_bitmap (suc count) fs zero =
    let small = number_of_flags-below (take 8 fs) in
    let few : 2 ^ length (take 8 fs) ≤ 2 ^ 8 =
    pow_mono {i = length (take 8 fs)} {j = 8} (omega (arith, length-take 8 fs)) in
    omega (arith, small, few)
bytes_bitmap (suc count) fs (suc i) = bytes_bitmap count (drop 8 fs) i

fits_bits : (fs : List Bool) → length fs ≡ 512 → (bits 64).Fits fs
unfolding bits bits_in
fits_bits fs long =
    let text = bitmap 64 fs in
    let size = long_bitmap 64 fs in
    let there : take 64 (drop 0 text) ≡ text = take_all 64 text (omega (arith, size)) in
    let read : map (bit_at text 0) (range_with_len 0 (length fs)) ≡ fs = range-list (bit_at text 0) 0 fs (λ k d lt.
    let here : 0 + k ≡ k = omega arith in
    ap (bit_at text 0) here ∙ bit_at-bitmap text 0 fs long there k (omega (arith, long)) ∙ default fs k d lt) in
    ((size, bytes_bitmap 64 fs), sym (ap (λ n. map (bit_at text 0) (range_with_len 0 n)) (sym long) ∙ read))
  where
    default : (xs : List Bool) (k : ℕ) (d : Bool) → k < length xs → get_or xs k false ≡ get_or xs k d
    default [] k d lt = absurd (omega arith)
    default (x ∷ xs) zero d lt = refl
    default (x ∷ xs) (suc k) d lt = default xs k d (omega arith)

-- 3. Slots.

begins : (b : Bool) → Begins (cond b Running (Halted None))
begins true = tt
begins false = tt

state_again : (state : SlotState) → Begins state → (state_byte state ≤ 1)
    × (state ≡ cond (state_byte state == 0) Running (Halted None))
state_again Running h = (omega arith, refl)
state_again (Halted None) h = (omega arith, refl)
state_again (Halted (Some c)) h = absurd h
state_again Waiting h = absurd h
state_again Taken h = absurd h

handler_again : (h : Option ℕ) → IfSome h (λ n. n < 64) → (handler_byte h < 256)
    × (h ≡ cond (handler_byte h == 255) None (Some (handler_byte h)))
handler_again None small = (omega arith, refl)
handler_again (Some h) small = let other : (h == 255) ≡ false = grind (arith, nat_tests) in
    (omega arith, ap (λ b. cond b None (Some h)) (sym other))

-- numbers that rise from a least one on
module _ {A : Type 0} (key : A → ℕ) where
  abbrev pub Rise : ℕ → List A → Type 0
  Rise least [] = Unit {0}
  Rise least (x ∷ xs) = (least ≤ key x) × Rise (key x + 1) xs

  pub rises : (least : ℕ) (xs : List A) → Rise least xs → IsStrictlyIncreasing (map key xs)
  rises least [] rise k lt = absurd (omega arith)
  rises least (x ∷ []) rise k lt = absurd (omega arith)
  rises least (x ∷ y ∷ xs) rise zero lt = omega (arith, rise.1.0)
  rises least (x ∷ y ∷ xs) rise (suc k) lt =
      let next : suc k + 1 ≡ suc (k + 1) = omega arith in
      subst (λ n. slice_index (map key (x ∷ y ∷ xs)) (suc k) < slice_index (map key (x ∷ y ∷ xs)) n) (sym next)
      (rises (key x + 1) (y ∷ xs) rise.1 k (omega arith))

  rise_from : (least : ℕ) (x : A) (xs : List A) → least ≤ key x → IsStrictlyIncreasing (map key (x ∷ xs))
      → Rise least (x ∷ xs)
  rise_from least x [] low up = (low, tt)
  rise_from least x (y ∷ xs) low up = (
    low,
    rise_from (key x + 1) y xs (omega (arith, up 0 (omega arith))) (λ k lt.
        let next : suc k + 1 ≡ suc (k + 1) = omega arith in
        subst (λ n. slice_index (map key (x ∷ y ∷ xs)) (suc k) < slice_index (map key (x ∷ y ∷ xs)) n) next
        (up (suc k) (omega arith))),
  )

  pub rise_all : (xs : List A) → IsStrictlyIncreasing (map key xs) → Rise 0 xs
  rise_all [] up = tt
  rise_all (x ∷ xs) up = rise_from 0 x xs (omega arith) up

module _ (limit : ℕ) (all : List Slot) where
  slot_fits : (least : ℕ) (s : Slot) → (slot limit least).Fits s → is_bad_handler all s ≡ false → IsFresh limit all s
  unfolding slot mask flags_of
  slot_fits least s fits right =
      let is = fits.1.1.1.1.1.1.1 in
      let p = ip_fits s.ip fits.1.1.1.1.0 in
      record {
        number = is_below _ _ (or_parts _ _ fits.0.1).0;
        group = is_below _ _ fits.1.0.1;
        handler = handler_is_other all s.number s.handler right;
        begins = subst Begins (sym (ap (λ (x : Slot). x.state) is)) (begins (state_byte s.state == 0));
        executable = p.1;
        ip = p.0;
        registers = sym (length-map s.regs is_pointer) ∙ ap length fits.1.1.1.1.1.0.1;
        words = words_fit (map is_pointer s.regs) s.regs fits.1.1.1.1.1.1.0;
        past = ap (λ (x : Slot). x.past) is;
        turns = ap (λ (x : Slot). x.turns) is;
        empty = ap (λ (x : Slot). x.empty) is;
        pending = ap (λ (x : Slot). x.pending) is;
      }

  same_slot : (n g : ℕ) (h k : Option ℕ) (regs : List Word) (p : Pointer) (past : Bool) (turns : ℕ)
      (state begun : SlotState) (empty : List Bool) (pending : List Pending)
      → h ≡ k → past ≡ false → turns ≡ 0 → state ≡ begun → empty ≡ none_empty → pending ≡ []
      → Rattle.std.proofs.Common.◌≡◌ {A = Slot}
      (record {
        number = n;
        group = g;
        handler = h;
        regs = regs;
        ip = p;
        past = past;
        turns = turns;
        state =
            state;
        empty = empty;
        pending = pending;
      })
      (record {
        number = n;
        group = g;
        handler = k;
        regs = regs;
        ip = p;
        past = false;
        turns = 0;
        state =
            begun;
        empty = none_empty;
        pending = [];
      })
  same_slot n g h k regs p past turns state begun empty pending a b c d e f = cc

  fits_slot : (least : ℕ) (s : Slot) → limit ≤ 64 → IsFresh limit all s → IfSome s.handler (λ h. h < 64)
      → least ≤ s.number → (slot limit least).Fits s
  unfolding slot
  fits_slot least s small f handler order =
      let state = state_again s.state f.begins in
      let h = handler_again s.handler handler in (
        (omega (arith, f.number), or_from _ _ (not_le s.number limit f.number) (le-ltb s.number least order)),
        (
          (omega (arith, f.group), not_le s.group limit f.group),
          (
            h.0,
            (
              (omega (arith, state.0), le-ltb 1 (state_byte s.state) state.0),
              (
                fits_ip s.ip f.ip f.executable,
                (
                  fits_mask (map is_pointer s.regs) (length-map s.regs is_pointer ∙ f.registers),
                  (
                    fit_words s.regs f.words,
                    same_slot s.number s.group s.handler _ s.regs s.ip s.past s.turns s.state _ s.empty s.pending h.1
                        f.past f.turns state.1 f.empty f.pending,
                  ),
                ),
              ),
            ),
          ),
        ),
      )

  pub record SlotsAre (least : ℕ) (xs : List Slot) : Type 0 where
    pub rise : Rise (λ (s : Slot). s.number) least xs
    pub fresh : AllByRecursion (IsFresh limit all) xs

  slots_fit : (n least k : ℕ) (xs : List Slot) → (times (slot limit) (λ _ s. s.number + 1) n least).Fits xs
      → first_late 0 (handler_tests all k xs) ≡ None → SlotsAre least xs
  unfolding cons slot
  slots_fit zero least k xs fits right = subst (SlotsAre least) (sym fits) (record { rise = tt; fresh = tt })
  slots_fit (suc n) least k [] fits right = absurd fits
  slots_fit (suc n) least k (s ∷ xs) fits right =
      let t = one (is_bad_handler all s) (7, 142 * k + 2) (first_late 0 (handler_tests all (k + 1) xs)) right in
      let others = slots_fit n (s.number + 1) (k + 1) xs fits.1 t.1 in
      record {
        rise = (ltb-false _ _ (or_parts _ _ fits.0.0.1).1, others.rise);
        fresh =
            (slot_fits least s fits.0 t.0, others.fresh);
      }
    where
      one : (b : Bool) (p : ℕ × ℕ) (o : Option (ℕ × ℕ)) → cond b (Some (p.0, 0 + p.1)) o ≡ None → (b ≡ false)
          × (o ≡ None)
      one true p o e = absurd cc
      one false p o e = (refl, e)

  fit_slots : (least : ℕ) (xs : List Slot) → limit ≤ 64 → SlotsAre least xs
      → AllByRecursion (λ (s : Slot). IfSome s.handler (λ h. h < 64)) xs
      → (times (slot limit) (λ _ s. s.number + 1) (length xs) least).Fits xs
  unfolding cons
  fit_slots least [] small are handlers = refl
  fit_slots least (s ∷ xs) small are handlers = (
    fits_slot least s small are.fresh.0 handlers.0 are.rise.0,
    fit_slots (s.number + 1) xs small
        (record { rise = are.rise.1; fresh = are.fresh.1 }) handlers.1,
  )

  handlers_right : (k : ℕ) (xs : List Slot) → AllByRecursion (IsFresh limit all) xs
      → first_late 0 (handler_tests all k xs) ≡ None
  handlers_right k [] fresh = refl
  handlers_right k (s ∷ xs) fresh =
      ap (λ b. cond b (Some (7, 0 + (142 * k + 2))) (first_late 0 (handler_tests all (k + 1) xs)))
      (handler_good all s.number s.handler fresh.0.handler) ∙ handlers_right (k + 1) xs fresh.1

  handlers_small : (xs : List Slot) → limit ≤ 64 → AllByRecursion (IsFresh limit all) all
      → AllByRecursion (IsFresh limit all) xs → AllByRecursion (λ (s : Slot). IfSome s.handler (λ h. h < 64)) xs
  handlers_small [] small everyone fresh = tt
  handlers_small (s ∷ xs) small everyone fresh = (
    handler_small limit all s.number s.handler small everyone fresh.0.handler,
    handlers_small xs small everyone
        fresh.1,
  )

-- 4. Pages.

cells_words : (cells : List Cell) → AllByRecursion IsWord (map (λ (c : Cell). c.word) cells)
    → AllByRecursion (λ (c : Cell). IsWord c.word) cells
cells_words [] all = tt
cells_words (c ∷ cells) all = (all.0, cells_words cells all.1)

words_cells : (cells : List Cell) → AllByRecursion (λ (c : Cell). IsWord c.word) cells
    → AllByRecursion IsWord (map (λ (c : Cell). c.word) cells)
words_cells [] all = tt
words_cells (c ∷ cells) all = (all.0, words_cells cells all.1)

pub cells_again : (cells : List Cell) → cells
    ≡ cells_of (map (λ (c : Cell). c.word) cells) (map (λ (c : Cell). c.full) cells)
cells_again [] = refl
cells_again (c ∷ cells) = ap (λ cs. c ∷ cs) (cells_again cells)

page_fits : (least : ℕ) (p : ℕ × List Cell) → (page least).Fits p → IsPage p × HoldsWords p × (least ≤ p.0)
unfolding page
page_fits least p fits =
    let tests = or_parts _ _ fits.0.1 in (
      record {
        number = is_below _ _ tests.0;
        cells = sym (length-map p.1 (λ (c : Cell). c.full))
            ∙ bits_long 64 _ fits.1.1.0;
      },
      cells_words p.1 (words_fit _ _ fits.1.1.1.0),
      ltb-false _ _ tests.1,
    )

fits_page : (least : ℕ) (p : ℕ × List Cell) → IsPage p → HoldsWords p → least ≤ p.0 → (page least).Fits p
unfolding page
fits_page least p whole words order = (
  (omega (arith, whole.number), or_from _ _ (not_le p.0 (2 ^ 42) whole.number) (le-ltb p.0 least order)),
  (
    fits_bits _ (length-map p.1 (λ (c : Cell). is_pointer c.word) ∙ whole.cells),
    (
      fits_bits _ (length-map p.1 (λ (c : Cell). c.full) ∙ whole.cells),
      (
        subst (λ tags. (each word tags).Fits (map (λ (c : Cell). c.word) p.1))
            (map-map is_pointer (λ (c : Cell). c.word) p.1)
            (fit_words (map (λ (c : Cell). c.word) p.1) (words_cells p.1 words)),
        ap (λ cs. (p.0, cs)) (cells_again p.1),
      ),
    ),
  ),
)

pub record PagesAre (least : ℕ) (xs : List (ℕ × List Cell)) : Type 0 where
  pub rise : AreRisingFrom least xs
  pub whole : AllByRecursion IsPage xs
  pub words : AllByRecursion HoldsWords xs

pub pages_fit : (n least : ℕ) (xs : List (ℕ × List Cell)) → (times page (λ _ p. p.0 + 1) n least).Fits xs
    → PagesAre least xs
unfolding cons
pages_fit zero least xs fits = subst (PagesAre least) (sym fits) (record { rise = tt; whole = tt; words = tt })
pages_fit (suc n) least [] fits = absurd fits
pages_fit (suc n) least (p ∷ xs) fits =
    let one = page_fits least p fits.0 in
    let others = pages_fit n (p.0 + 1) xs fits.1 in
    record { rise = (one.2, others.rise); whole = (one.0, others.whole); words = (one.1, others.words) }

pub fit_pages : (least : ℕ) (xs : List (ℕ × List Cell)) → PagesAre least xs
    → (times page (λ _ p. p.0 + 1) (length xs) least).Fits xs
unfolding cons
fit_pages least [] are = refl
fit_pages least (p ∷ xs) are = (
  fits_page least p are.whole.0 are.words.0 are.rise.0,
  fit_pages (p.0 + 1) xs
      (record { rise = are.rise.1; whole = are.whole.1; words = are.words.1 }),
)

-- 5. The whole.

one_or_two : (v : ℕ) → not (v == 1 || v == 2) ≡ false → (v ≡ 1) ⊎ (v ≡ 2)
one_or_two v e = go (v == 1) refl (not-false _ e)
  where
    go : (b : Bool) → (v == 1) ≡ b → (v == 1 || v == 2) ≡ true → (v ≡ 1) ⊎ (v ≡ 2)
    go true one e = inl (eqb-true v 1 one)
    go false other e = inr (eqb-true v 2 (sym (ap (λ b. b || v == 2) other) ∙ e))

limit_small : (v : ℕ) → (v ≡ 1) ⊎ (v ≡ 2) → (slot_limit v ≤ 64) × (frame_limit v ≤ 4096)
    × (not (v == 1 || v == 2) ≡ false)
limit_small v (inl one) = subst (λ n. (slot_limit n ≤ 64) × (frame_limit n ≤ 4096) × (not (n == 1 || n == 2) ≡ false))
    (sym one) (omega arith, omega arith, refl)
limit_small v (inr two) = subst (λ n. (slot_limit n ≤ 64) × (frame_limit n ≤ 4096) × (not (n == 1 || n == 2) ≡ false))
    (sym two) (omega arith, omega arith, refl)

mode_fits : (v : ℕ) (split : Bool) → nat_lt (v - 1) (mode_of split) ≡ false → v ≡ 1 → split ≡ false
mode_fits v true e one = grind (arith, nat_tests)
mode_fits v false e one = refl

fits_mode : (v : ℕ) (split : Bool) → (v ≡ 1) ⊎ (v ≡ 2) → (v ≡ 1 → split ≡ false) → (mode_of split < 2 ^ 32)
    × (nat_lt (v - 1) (mode_of split) ≡ false) × (split ≡ (mode_of split == 1))
fits_mode v true (inl one) plain = absurd (let e = plain one in cc)
fits_mode v true (inr two) plain = (omega arith, le-ltb (v - 1) 1 (omega arith), refl)
fits_mode v false version plain = (omega arith, le-ltb (v - 1) 0 (omega arith), refl)

some : (n : ℕ) → (n == 0) ≡ false → 1 ≤ n
some n e = grind (arith, nat_tests)

pub not_zero : (n : ℕ) → 1 ≤ n → (n == 0) ≡ false
not_zero n le = grind (arith, nat_tests)

pub image_fits : (i : Image) → image.Fits i → IsImage i
unfolding image header slots
image_fits i fits =
    let h = fits.0.1 in
    let slot_count = or_parts _ _ h.1.0.1 in
    let frame_count = or_parts _ _ h.1.1.0.1 in
    let are = slots_fit (slot_limit i.version) i.slots (length i.slots) 0 0 i.slots fits.1.0.0 fits.1.0.1 in
    let pages = pages_fit (length i.memory.pages) 0 i.memory.pages fits.1.1.0 in
    record {
      version = one_or_two i.version h.0.1;
      mode = mode_fits i.version i.split h.1.1.1.1.0.1;
      some_slots = some _ slot_count.0;
      few_slots = ltb-false _ _ slot_count.1;
      rising = rises (λ (s : Slot). s.number) 0 i.slots are.rise;
      fresh = are.fresh;
      some_frames = some _ frame_count.0;
      few_frames = ltb-false _ _ frame_count.1;
      paged = record {
        pages = record { rising = sorted_from 0 i.memory.pages pages.rise; whole = pages.whole };
        fitting = ltb-false _ _ h.1.1.1.0.1;
      };
      words = pages.words;
    }

pub fits_image : (i : Image) → IsImage i → image.Fits i
unfolding image header slots
fits_image i is =
    let limit = slot_limit i.version in
    let small = limit_small i.version is.version in
    let mode = fits_mode i.version i.split is.version is.mode in
    let version : i.version < 2 ^ 16 = elim is.version [ inl one ↦ omega (arith, one) | inr two ↦ omega (arith, two) ]
    in
    let are : SlotsAre limit i.slots 0 i.slots =
    record { rise = rise_all (λ (s : Slot). s.number) i.slots is.rising; fresh = is.fresh } in (
      (
        (refl, refl),
        (
          (version, small.2),
          (
            (omega (arith, is.few_slots, small.0), or_from _ _ (not_zero _ is.some_slots) (le-ltb _ _ is.few_slots)),
            (
              (
                omega (arith, is.few_frames, small.1),
                or_from _ _ (not_zero _ is.some_frames) (le-ltb _ _ is.few_frames),
              ),
              (
                (omega (arith, is.paged.fitting, is.few_frames, small.1), le-ltb _ _ is.paged.fitting),
                (
                  (mode.0, mode.1),
                  same i.version (length i.slots) i.memory.frames (length i.memory.pages) i.split _ mode.2,
                ),
              ),
            ),
          ),
        ),
      ),
      (
        (
          fit_slots limit i.slots 0 i.slots small.0 are
              (handlers_small limit i.slots i.slots small.0 is.fresh is.fresh),
          handlers_right limit i.slots 0 i.slots
              is.fresh,
        ),
        (
          fit_pages 0 i.memory.pages
              (record {
                rise = rising_from_sorted i.memory.pages is.paged.pages.rising;
                whole = is.paged.pages.whole;
                words =
                    is.words;
              }),
          refl,
        ),
      ),
    )
  where
    same : (v s f p : ℕ) (b c : Bool) → b ≡ c
        → Rattle.std.proofs.Common.◌≡◌ {A = Rattle.mm_format.specs.declared.header.Header.Header}
        (record { version = v; slots = s; frames = f; pages = p; split = b })
        (record { version = v; slots = s; frames = f; pages = p; split = c })
    same v s f p b c e = cc
