-- A packed block is made again from its cells.
use Rattle.std.specs.{Prelude.{◌≡◌, ℕ, ◌<◌, Bool, true, false, List, length, map, refl}, List.range_with_len}
use Rattle.std.proofs.Common.{sym, ap, ◌∙◌, arith, get_or}
use Rattle.std.proofs.lemmas.List.{length-map, get_or-map, get_or_default, same_lists}
use Rattle.std.proofs.lemmas.List.FromFn.{length-map-range_with_len, get_or-map-range_with_len}
use Rattle.mm_word.specs.{declared.word.Cell.Cell, Pointer.SpellsPointer, PointerBits.bits_of-pointer_of}
use Rattle.mm_word.specs.Word.{word_bits, is_pointer}
use Rattle.mm_model.specs.Flags.{number_of_flags, in_mask}
use Rattle.mm_model.proofs.Bytes.{Bitmaps.number_of_bits, Ranges.{map-map, map-same}}
use Rattle.mm_mem.specs.declared.block.Block.TheInside.{Inside}
use Rattle.mm_mem.specs.Packed.{word_of, cell_of_block, block_of, IsPackedBlock}

-- the 64 bits of each cell's word
abbrev pub words_of : List Cell → List ℕ
words_of cells = map (λ (c : Cell). word_bits c.word) cells

-- the byte that says which of eight cells hold pointers
abbrev pub tags_of : List Cell → ℕ
tags_of cells = number_of_flags (map (λ (c : Cell). is_pointer c.word) cells)

-- the byte that says which of eight cells are full
abbrev pub fulls_of : List Cell → ℕ
fulls_of cells = number_of_flags (map (λ (c : Cell). c.full) cells)

abbrev pub packed : List Cell → Inside
packed cells = record { bits = words_of cells; tags = tags_of cells; fulls = fulls_of cells }

tag_again : (bits : ℕ) (tagged : Bool) → is_pointer (word_of bits tagged) ≡ tagged
tag_again bits true = refl
tag_again bits false = refl

bits_again : (bits : ℕ) (tagged : Bool) → (tagged ≡ true → SpellsPointer bits) → word_bits (word_of bits tagged) ≡ bits
bits_again bits true spells = bits_of-pointer_of bits (spells refl)
bits_again bits false spells = refl

module _ (bits : List ℕ) (tags fulls : ℕ) (is : IsPackedBlock bits tags fulls) where
  abbrev at : ℕ → Cell
  at = cell_of_block bits tags fulls

  words_again : words_of (map at (range_with_len 0 8)) ≡ bits
  words_again =
      let count : length (words_of (map at (range_with_len 0 8))) ≡ 8 = length-map (map at (range_with_len 0 8))
      (λ (c : Cell). word_bits c.word) ∙ length-map-range_with_len at 0 8 in
      same_lists (words_of (map at (range_with_len 0 8))) bits (count ∙ sym is.words) (λ i d lt.
      let low : i < 8 = omega (arith, count) in
      get_or-map (λ (c : Cell). word_bits c.word) (map at (range_with_len 0 8)) i (at 0) d
      (omega (arith, low, length-map-range_with_len at 0 8))
      ∙ ap (λ (c : Cell). word_bits c.word) (get_or-map-range_with_len at 0 8 i i (at 0) low (omega arith))
      ∙ bits_again (get_or bits i 0) (in_mask tags i) (is.pointers i low)
      ∙ get_or_default bits i 0 d (omega (arith, low, is.words)))

  tags_again : tags_of (map at (range_with_len 0 8)) ≡ tags
  tags_again =
      ap number_of_flags (map-map (λ (c : Cell). is_pointer c.word) at (range_with_len 0 8)
      ∙ map-same (λ i. is_pointer (at i).word) (in_mask tags) 0 8
      (λ i low high. tag_again (get_or bits i 0) (in_mask tags i)))
      ∙ number_of_bits 8 tags is.tag_byte

  fulls_again : fulls_of (map at (range_with_len 0 8)) ≡ fulls
  fulls_again = ap number_of_flags (map-map (λ (c : Cell). c.full) at (range_with_len 0 8))
      ∙ number_of_bits 8 fulls is.full_byte

  pub words_back : words_of (block_of bits tags fulls) ≡ bits
  unfolding block_of
  words_back = words_again

  pub tags_back : tags_of (block_of bits tags fulls) ≡ tags
  unfolding block_of
  tags_back = tags_again

  pub fulls_back : fulls_of (block_of bits tags fulls) ≡ fulls
  unfolding block_of
  fulls_back = fulls_again

pub packed_again : (a : Inside) → IsPackedBlock a.bits a.tags a.fulls → packed (block_of a.bits a.tags a.fulls) ≡ a
packed_again a is =
    let make : List ℕ → ℕ → ℕ → Inside = λ ws t f. record { bits = ws; tags = t; fulls = f } in
    let cells : List Cell = block_of a.bits a.tags a.fulls in
    ap (λ ws. make ws (tags_of cells) (fulls_of cells)) (words_back a.bits a.tags a.fulls is)
    ∙ ap (λ t. make a.bits t (fulls_of cells)) (tags_back a.bits a.tags a.fulls is)
    ∙ ap (make a.bits a.tags) (fulls_back a.bits a.tags a.fulls is)
