-- The laws of image files, by their format.
use Rattle.std.proofs.Common.{◌≡◌, ℕ, ◌+◌, Bool, List, [], ◌++◌, length, map, None, refl, sym, ap, ◌∙◌, append_assoc}
use Rattle.std.{proofs.lemmas.List.append-nil, specs.{List.flat_map, Int.{w64, to_be_bytes}}}
use Rattle.mm_word.specs.{declared.word.{Word.Word, Cell.Cell}, Word.{word_bits, is_pointer}}
use Rattle.mm_model.specs.{Slot.Slot, Image.{Image, slot_limit}, Bytes.IsBytes, Spelling.bitmap}
use Rattle.mm_format.specs.{Formats.{each, file, fault_in, Parsed.Got}, Headers.header}
use Rattle.mm_format.specs.Images.{word, bits, slot, page, image, header_in, slot_record, page_record, spelling, Spells}
use Rattle.mm_format.specs.Images.{image_fault}
use Rattle.mm_format.proofs.{Files.{spelled_by, read_whole, same_value, clean_got}, Images.image_is}
use Rattle.mm_format.proofs.{ImagesFit.{image_fits, fits_image}, Lists.{each_spell, times_spell}}
use Rattle.mm_format.specs.Images as images

-- 1. The spelling.

-- the words of a list, whatever their tags
pub words_spelled : (tags : List Bool) (words : List Word) → length words ≡ length tags
    → (each word tags).spell words ≡ flat_map (λ w. to_be_bytes w64 (word_bits w)) words
unfolding word
words_spelled tags words even = each_spell word (λ w. to_be_bytes w64 (word_bits w)) (λ b w. refl) tags words even

-- the parts of a page's record
pub page_spelled : (p : ℕ × List Cell) → page_record p
    ≡ to_be_bytes w64 p.0 ++ bitmap 64 (map (λ (c : Cell). is_pointer c.word) p.1)
    ++ bitmap 64 (map (λ (c : Cell). c.full) p.1)
    ++ (each word (map (λ (c : Cell). is_pointer c.word) p.1)).spell (map (λ (c : Cell). c.word) p.1)
unfolding page bits
page_spelled p =
    let tags = map (λ (c : Cell). is_pointer c.word) p.1 in
    glued (to_be_bytes w64 p.0) (bitmap 64 tags) (bitmap 64 (map (λ (c : Cell). c.full) p.1))
    ((each word tags).spell (map (λ (c : Cell). c.word) p.1))
  where
    glued : (n t f w : List ℕ) → n ++ ((t ++ []) ++ ((f ++ []) ++ (w ++ []))) ≡ n ++ t ++ f ++ w
    glued n t f w = simp (append_assoc, append-nil)

pub pages_spelled : (pages : List (ℕ × List Cell)) → (images.pages (length pages)).spell pages ≡ flat_map page_record pages
unfolding page
pages_spelled pages = times_spell page (λ _ p. p.0 + 1) page_record (λ least p. refl) (length pages) 0 pages refl

pub slots_spelled : (version : ℕ) (slots : List Slot) → (images.slots version (length slots)).spell slots
    ≡ flat_map slot_record slots
unfolding images.slots slot
slots_spelled version slots =
    times_spell (slot (slot_limit version)) (λ _ s. s.number + 1) slot_record (λ least s. refl) (length slots) 0 slots refl

-- the header, and the records of slots and pages one after the other
pub image_spelled : (i : Image) → spelling i
    ≡ header.spell (header_in i) ++ flat_map slot_record i.slots ++ flat_map page_record i.memory.pages
unfolding image
image_spelled i =
    let head = header.spell (header_in i) in
    let rest = (images.pages (length i.memory.pages)).spell i.memory.pages in
    ap (λ t. head ++ (t ++ (rest ++ []))) (slots_spelled i.version i.slots)
    ∙ ap (λ t. head ++ (flat_map slot_record i.slots ++ t)) (append-nil rest ∙ pages_spelled i.memory.pages)
    ∙ sym (append_assoc head (flat_map slot_record i.slots) (flat_map page_record i.memory.pages))

-- 2. The file.

module _ (bytes : List ℕ) where
  -- what is read is spelled by the bytes
  pub read_spells : IsBytes bytes → (i : Image) (next : ℕ) → file image 13 bytes ≡ Got i next → Spells bytes i
  read_spells fits i next e =
      let p = spelled_by image image_is 13 bytes fits i next e in
      record { image = image_fits i p.0; spelled = p.1 }

  -- what the bytes spell is read
  pub spelled_read : (i : Image) → Spells bytes i → file image 13 bytes ≡ Got i (length bytes)
  spelled_read i s = read_whole image image_is 13 bytes i (fits_image i s.image) s.spelled

  pub clean_spells : IsBytes bytes → image_fault bytes ≡ None → (i : Image) × Spells bytes i
  unfolding image_fault
  clean_spells fits none =
      let r = clean_got (file image 13 bytes) none in
      (r.0, read_spells fits r.0 r.1 r.2)

  pub spelled_clean : (i : Image) → Spells bytes i → image_fault bytes ≡ None
  unfolding image_fault
  spelled_clean i s = ap fault_in (spelled_read i s)

  pub spelled_one : (i j : Image) → Spells bytes i → Spells bytes j → i ≡ j
  spelled_one i j s t = same_value (sym (spelled_read i s) ∙ spelled_read j t)
