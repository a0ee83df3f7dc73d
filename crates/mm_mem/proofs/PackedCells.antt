-- Cells that are packed, and read again.
use Rattle.std.proofs.Common.{◌≡◌, ◌≢◌, ℕ, ◌+◌, ◌*◌, ◌%◌, ◌^◌, ◌<◌, Bool, true, false, List, [], ◌∷◌, ◌++◌, zero, suc}
use Rattle.std.proofs.Common.{length, map, take, get_or, set, refl, sym, ap, subst, ◌∙◌, ⊎_elim, arith}
use Rattle.std.proofs.lemmas.{Nat.{or_shifted, or_comm, pow_below}, Bool.cases_eq}
use Rattle.std.proofs.lemmas.List.{length-take-le, length-map, length-set, get_or-set_same, get_or-set_other}
use Rattle.std.proofs.lemmas.List.{get_or-map, map_more}
use Rattle.std.proofs.lemmas.List.FromFn.{length-map-range_with_len, get_or-map-range_with_len, fill_by_all}
use Rattle.std.specs.{List.AllByRecursion, Int.RustNames.bit_or}
use mir.Val.{bool_byte}
use Rattle.mm_word.specs.{declared.word.{Word.{Word, TheVariants.{Int, Ptr}}, Cell.Cell}, Pointer.SpellsPointer}
use Rattle.mm_word.specs.Word.{IsWord, word_bits, is_pointer}
use Rattle.mm_word.proofs.Packing.{pointer_of-bits_of, SpellsPointer-bits_of}
use Rattle.mm_model.specs.{Flags.{one_if, number_of_flags, in_mask}, Memory.zero_cell}
use Rattle.mm_model.proofs.Bytes.Apart.{number_of_flags-below, flag-get}
use Rattle.mm_mem.specs.Packed.{word_of, cell_from, cell_of_block, block_of, IsPackedBlock}
use Rattle.mm_mem.specs.Unpacked.{words_of, tags_of, fulls_of}

-- 1. Words.

-- a word is what its bits and its tag say
pub word_again : (w : Word) → IsWord w → word_of (word_bits w) (is_pointer w) ≡ w
word_again (Int n) is = refl
word_again (Ptr p) is = ap Ptr (pointer_of-bits_of p is)

pub tagged_spells : (w : Word) → IsWord w → is_pointer w ≡ true → SpellsPointer (word_bits w)
tagged_spells (Int n) is tagged = absurd (cc)
tagged_spells (Ptr p) is tagged = SpellsPointer-bits_of p is

abbrev pub HoldWords : List Cell → Type 0
HoldWords cells = AllByRecursion (λ (c : Cell). IsWord c.word) cells

word_at : (cells : List Cell) (i : ℕ) → i < length cells → HoldWords cells → IsWord (get_or cells i zero_cell).word
word_at [] i lt all = absurd (omega arith)
word_at (c ∷ cells) zero lt all = all.0
word_at (c ∷ cells) (suc i) lt all = word_at cells i (omega arith) all.1

-- a cell is what its bits, its tag and its full bit say
cell_again : (bits : ℕ) (tag full : Bool) (c : Cell) → bits ≡ word_bits c.word → tag ≡ is_pointer c.word → full ≡ c.full → IsWord c.word → record { word = word_of bits tag; full = full } ≡ c
cell_again bits tag full c b t f is =
    ap (λ n. record { word = word_of n tag; full = full }) b
    ∙ ap (λ x. record { word = word_of (word_bits c.word) x; full = full }) t
    ∙ ap (λ x. record { word = word_of (word_bits c.word) (is_pointer c.word); full = x }) f
    ∙ ap (λ w. record { word = w; full = c.full }) (word_again c.word is)

-- the same bits, and bits of two bytes that are the same
same_cell : (bits bits' tags tags' fulls fulls' i j : ℕ) → bits ≡ bits' → in_mask tags i ≡ in_mask tags' j → in_mask fulls i ≡ in_mask fulls' j
    → cell_from bits tags fulls i ≡ cell_from bits' tags' fulls' j
same_cell bits bits' tags tags' fulls fulls' i j b t f =
    ap (λ n. cell_from n tags fulls i) b
    ∙ ap (λ x. record { word = word_of bits' x; full = in_mask fulls i }) t
    ∙ ap (λ x. record { word = word_of bits' (in_mask tags' j); full = x }) f

-- 2. Cells by their places.

module _ (bits : List ℕ) (tags fulls : ℕ) where
  pub length-block_of : length (block_of bits tags fulls) ≡ 8
  unfolding block_of
  length-block_of = length-map-range_with_len (cell_of_block bits tags fulls) 0 8

  pub get_or-block_of : (i : ℕ) (d : Cell) → i < 8 → get_or (block_of bits tags fulls) i d ≡ cell_of_block bits tags fulls i
  unfolding block_of
  get_or-block_of i d lt = get_or-map-range_with_len (cell_of_block bits tags fulls) 0 8 i i d lt (omega arith)

  pub block_is : (cells : List Cell) → length cells ≡ 8 → ((i : ℕ) → i < 8 → get_or cells i zero_cell ≡ cell_of_block bits tags fulls i) → cells ≡ block_of bits tags fulls
  unfolding block_of
  block_is cells eight each = fill_by_all (cell_of_block bits tags fulls) cells 8 zero_cell eight each

-- 3. A block of cells that are packed.

module _ (cells : List Cell) (eight : length cells ≡ 8) (words : HoldWords cells) where
  flag_is : (f : Cell → Bool) (i : ℕ) → i < 8 → in_mask (number_of_flags (map f cells)) i ≡ f (get_or cells i zero_cell)
  flag_is f i lt = flag-get (map f cells) i (omega (arith, eight, length-map cells f)) ∙ get_or-map f cells i zero_cell false (omega (arith, eight))

  word_is : (i : ℕ) → i < 8 → get_or (words_of cells) i 0 ≡ word_bits (get_or cells i zero_cell).word
  word_is i lt = get_or-map (λ (c : Cell). word_bits c.word) cells i zero_cell 0 (omega (arith, eight))

  its_word : (i : ℕ) → i < 8 → IsWord (get_or cells i zero_cell).word
  its_word i lt = word_at cells i (omega (arith, eight)) words

  byte_below : (f : Cell → Bool) → number_of_flags (map f cells) < 256
  byte_below f = subst (λ n. number_of_flags (map f cells) < 2 ^ n) (length-map cells f ∙ eight) (number_of_flags-below (map f cells))

  pub block_packed : block_of (words_of cells) (tags_of cells) (fulls_of cells) ≡ cells
  block_packed = sym (block_is (words_of cells) (tags_of cells) (fulls_of cells) cells eight (λ i lt. sym (cell_again _ _ _ (get_or cells i zero_cell)
      (word_is i lt) (flag_is (λ (c : Cell). is_pointer c.word) i lt) (flag_is (λ (c : Cell). c.full) i lt) (its_word i lt))))

  pub packed_is : IsPackedBlock (words_of cells) (tags_of cells) (fulls_of cells)
  packed_is = record {
    words = length-map cells (λ (c : Cell). word_bits c.word) ∙ eight;
    tag_byte = byte_below (λ (c : Cell). is_pointer c.word);
    full_byte = byte_below (λ (c : Cell). c.full);
    pointers = λ i lt tagged. subst SpellsPointer (sym (word_is i lt))
        (tagged_spells (get_or cells i zero_cell).word (its_word i lt) (sym (flag_is (λ (c : Cell). is_pointer c.word) i lt) ∙ tagged));
  }

-- 4. A cell of a block that is written.

module _ (bits : List ℕ) (tags fulls : ℕ) (is : IsPackedBlock bits tags fulls) (index : ℕ) (within : index < 8) (c : Cell) (word : IsWord c.word)
    (tags_after fulls_after : ℕ)
    (tag_own : in_mask tags_after index ≡ is_pointer c.word) (tag_others : (i : ℕ) → i < 8 → i ≢ index → in_mask tags_after i ≡ in_mask tags i)
    (full_own : in_mask fulls_after index ≡ c.full) (full_others : (i : ℕ) → i < 8 → i ≢ index → in_mask fulls_after i ≡ in_mask fulls i) where
  abbrev words_after : List ℕ
  words_after = set bits index (word_bits c.word)

  here : get_or words_after index 0 ≡ word_bits c.word
  here = get_or-set_same bits index (word_bits c.word) 0 (omega (arith, within, is.words))

  there : (i : ℕ) → i ≢ index → get_or words_after i 0 ≡ get_or bits i 0
  there i ne = get_or-set_other bits index i (word_bits c.word) 0 ne

  abbrev cells : List Cell
  cells = block_of bits tags fulls

  each : (i : ℕ) → i < 8 → get_or (set cells index c) i zero_cell ≡ cell_of_block words_after tags_after fulls_after i
  each i lt = ⊎_elim
      (λ (e : i ≡ index).
      ap (λ n. get_or (set cells index c) n zero_cell) e
      ∙ get_or-set_same cells index c zero_cell (omega (arith, within, length-block_of bits tags fulls))
      ∙ sym (cell_again _ _ _ c here tag_own full_own word)
      ∙ ap (cell_of_block words_after tags_after fulls_after) (sym e))
      (λ (ne : i ≡ index → ⊥).
      get_or-set_other cells index i c zero_cell ne
      ∙ get_or-block_of bits tags fulls i zero_cell lt
      ∙ sym (same_cell _ _ tags_after tags fulls_after fulls i i (there i ne) (tag_others i lt ne) (full_others i lt ne)))
      (cases_eq i index)

  pub cell_set : block_of words_after tags_after fulls_after ≡ set cells index c
  cell_set = sym (block_is words_after tags_after fulls_after (set cells index c) (length-set cells index c ∙ length-block_of bits tags fulls) each)

  pub set_is : tags_after < 256 → fulls_after < 256 → IsPackedBlock words_after tags_after fulls_after
  set_is small_tags small_fulls = record {
    words = length-set bits index (word_bits c.word) ∙ is.words;
    tag_byte = small_tags;
    full_byte = small_fulls;
    pointers = λ i lt tagged. ⊎_elim
        (λ (e : i ≡ index). subst SpellsPointer (sym here ∙ ap (λ n. get_or words_after n 0) (sym e)) (tagged_spells c.word word (sym tag_own ∙ ap (in_mask tags_after) (sym e) ∙ tagged)))
        (λ (ne : i ≡ index → ⊥). subst SpellsPointer (sym (there i ne)) (is.pointers i lt (sym (tag_others i lt ne) ∙ tagged)))
        (cases_eq i index);
  }

-- 5. One step of a loop over a block.

pub byte_of_bool : (b : Bool) → bool_byte b ≡ one_if b
byte_of_bool true = refl
byte_of_bool false = refl

low_bit : (b : Bool) (i : ℕ) → i < 8 → one_if b * 2 ^ i % 256 ≡ one_if b * 2 ^ i
low_bit true i lt = omega (arith, pow_below i 8 lt)
low_bit false i lt = omega arith

flags_push : (fs : List Bool) (b : Bool) → number_of_flags (fs ++ b ∷ []) ≡ one_if b * 2 ^ length fs + number_of_flags fs
flags_push [] b = omega arith
flags_push (f ∷ fs) b =
    let more : 2 ^ suc (length fs) ≡ 2 * 2 ^ length fs = grind arith in
    let product : one_if b * (2 * 2 ^ length fs) ≡ 2 * (one_if b * 2 ^ length fs) = grind arith in
    ap (λ n. one_if f + 2 * n) (flags_push fs b) ∙ omega (arith, ap (λ n. one_if b * n) more, product)

-- a byte with the flag of one cell more
pub byte_more : (f : Cell → Bool) (cells : List Cell) (i : ℕ) (c : Cell) (b : Bool) (byte : ℕ) → length cells ≡ 8 → i < length cells → c ≡ get_or cells i c → b ≡ f c
    → byte ≡ number_of_flags (map f (take i cells)) → bit_or byte (bool_byte b * 2 ^ i % 256) ≡ number_of_flags (map f (take (i + 1) cells))
byte_more f cells i c b byte eight lt is its so_far =
    let long : length (map f (take i cells)) ≡ i = length-map (take i cells) f ∙ length-take-le i cells (omega arith) in
    let below : byte < 2 ^ i = subst (λ n. byte < 2 ^ n) long (subst (λ n. n < 2 ^ length (map f (take i cells))) (sym so_far) (number_of_flags-below (map f (take i cells)))) in
    ap (λ n. bit_or byte (n * 2 ^ i % 256)) (byte_of_bool b ∙ ap one_if its)
    ∙ ap (bit_or byte) (low_bit (f c) i (omega (arith, eight)))
    ∙ or_comm byte (one_if (f c) * 2 ^ i)
    ∙ or_shifted (one_if (f c)) i byte below
    ∙ ap (λ n. one_if (f c) * 2 ^ i + n) so_far
    ∙ ap (λ n. one_if (f c) * 2 ^ n + number_of_flags (map f (take i cells))) (sym long)
    ∙ sym (flags_push (map f (take i cells)) (f c))
    ∙ ap (λ (x : Cell). number_of_flags (map f (take i cells) ++ f x ∷ [])) is
    ∙ ap number_of_flags (sym (map_more f cells i c lt))
