-- The object file as a format: a row of its table is a line.
--
-- The faults, each at its field or record:
-- 1 short, at the end of the file: a field, a bitmap, a name or a record is not whole
-- 2 magic
-- 3 version
-- 4 count: a number in the header, or the words of all segments together
-- 5 name, at its length: no name, a name that is there already, a name out of order, or an external without a use
-- 6 segment: its length, its count of words, or a bit of its bitmap, at the last byte, that belongs to no word
-- 7 relocation
-- 8 thread
-- 9 trailing, at the first byte too many
use Rattle.std.specs.Prelude.{◌≡◌, ℕ, ◌+◌, ◌-◌, ◌/◌, ◌%◌, ◌^◌, Bool, true, false, not, ◌&&◌, ◌||◌, ◌==◌, nat_lt, nat_le}
use Rattle.std.specs.Prelude.{if◌then◌else◌, List, [], ◌∷◌, ◌++◌, map, length, codes, is_some, unwrap_or, Some, None}
use Rattle.std.specs.List.{list_any}
use Rattle.mm_word.specs.{declared.perm.Perm.{Perm, TheVariants.Key}, Perm.{code_of, perm_of}}
use Rattle.mm_model.specs.{Bytes.number_at, Spelling.{bitmap, handler_byte}, Limits.{segment_limit, word_limit}}
use Rattle.mm_format.specs.Formats.{Parsed, Format, Late, byte, u16, u32, u64, text, raw, test, literal, part, after}
use Rattle.mm_format.specs.{Formats.{done, ◌>>=◌, each, times, late}, Images.{mask, bits_in}}
use Rattle.mm_object.specs.declared.{header.Header.Header, item.Item.Item, target.{Target.Target, Reloc.Reloc}}
use Rattle.mm_object.specs.declared.thread.{Value.{Value, TheVariants.{Int, Ptr}}, Thread.Thread}
use Rattle.mm_object.specs.Names.{has_form, is_before}
use Rattle.mm_object.specs.Objects.{Segment, Object, IsObject, external_limit, thread_limit, spare_limit, least_log}
use Rattle.mm_object.specs.Objects.{greatest_log, words_of, names_of, is_among, is_reloc, place_of, is_thread}
use Rattle.mm_object.specs.{Objects.targets_of, Fits.object_from}

-- 1. Records.

-- the list with one value more at its end
abbrev pub push : {A : Type 0} → List A → A → List A
push xs x = xs ++ x ∷ []

-- whatever is wrong is the fault of this number at this place
abbrev pub renamed : {A : Type 0} → (number at : ℕ) → Parsed A → Parsed A
renamed number at (Parsed.Got a next) = Parsed.Got a next
renamed number at (Parsed.Bad n place) = Parsed.Bad number at

-- a record of this size, which has to be whole; whatever is wrong in it, the fault of this number is where it begins
abbrev pub framed : {A : Type 0} → (size : ℕ) → Format A → (number : ℕ) → Format A
framed size f number = record {
  Fits = f.Fits;
  spell = f.spell;
  read = λ bytes at. after ((text size).read bytes at) (λ _ _. renamed number at (f.read bytes at));
}

-- 2. The header. Its count of relocations has no test, since two bytes cannot say too many.

unfoldable pub header_row : Format Header
header_row = do
  magic ← part (λ h. codes "MMO1") (literal (codes "MMO1") 2)
  version ← part (λ h. 1) (test u16 3 (λ n. not (n == 1)))
  segments ← part (λ h. h.segments) (test u16 4 (λ n. nat_lt segment_limit n))
  externals ← part (λ h. h.externals) (test u16 4 (λ n. nat_lt external_limit n))
  relocs ← part (λ h. h.relocs) u16
  threads ← part (λ h. h.threads) (test u16 4 (λ n. nat_lt thread_limit n))
  spare ← part (λ h. h.spare) (test u16 4 (λ n. nat_lt spare_limit n))
  done (record { segments = segments; externals = externals; relocs = relocs; threads = threads; spare = spare })

-- 3. Names.

-- the length of a name, and its bytes
unfoldable pub name_fields : Format (List ℕ)
name_fields = do
  size ← part length (test byte 5 (λ n. n == 0 || nat_lt 31 n))
  bytes ← part (λ n. n) (text size)
  done bytes

unfoldable pub name_row : Format (List ℕ)
name_row = test name_fields 5 (λ n. not (has_form n))

-- whether a name is not after the last of other names
abbrev pub is_late : List (List ℕ) → List ℕ → Bool
is_late [] name = false
is_late (a ∷ []) name = not (is_before a name)
is_late (a ∷ b ∷ names) name = is_late (b ∷ names) name

-- an external of an object of these segments, after the externals before it
unfoldable pub external_row : (segments : List Segment) (before : List (List ℕ)) → Format (List ℕ)
external_row segments before = test name_row 5 (λ n. is_among n (names_of segments) || is_late before n)

-- 4. Segments.

-- whether the last byte of a bitmap has a bit set that belongs to none of `count` words
abbrev pub has_unused_bit : (bytes : List ℕ) (at count : ℕ) → Bool
has_unused_bit bytes at count =
    not (count % 8 == 0) && nat_le (2 ^ (count % 8)) (number_at bytes (at + count / 8) 1)

abbrev pub unused_bit : (count : ℕ) (bytes : List ℕ) → Late
unused_bit count bytes =
    record { number = 6; offset = (count + 7) / 8 - 1; bad = has_unused_bit bytes 0 count }

-- the bits of this count of words
unfoldable pub bits_row : (count : ℕ) → Format (List Bool)
bits_row count = do
  bytes ← part (bitmap ((count + 7) / 8)) (late (raw ((count + 7) / 8)) (λ bytes. unused_bit count bytes ∷ []))
  done (bits_in count bytes)

unfoldable pub item_row : (full : Bool) → Format Item
item_row full = do
  bits ← part (λ i. i.bits) u64
  done (record { bits = bits; full = full })

unfoldable pub log_row : Format ℕ
log_row = test byte 6 (λ n. nat_lt n least_log || nat_lt greatest_log n)

-- the count of words of a segment of this length, after segments of `words` words
unfoldable pub count_row : (log words : ℕ) → Format ℕ
count_row log words = test (test u32 4 (λ n. nat_lt word_limit (words + n))) 6 (λ n. nat_lt (2 ^ (log - 3)) n)

-- a segment after the segments before it
unfoldable pub segment_row : (before : List Segment) → Format Segment
segment_row before = do
  name ← part (λ s. s.name) (test name_row 5 (λ n. is_among n (names_of before)))
  log ← part (λ s. s.log) log_row
  count ← part (λ s. length s.items) (count_row log (words_of before))
  full ← part (λ s. map (λ (i : Item). i.full) s.items) (bits_row count)
  items ← part (λ s. s.items) (each item_row full)
  done (record { name = name; log = log; items = items })

-- 5. Relocations and threads.

-- a permission, else the fault of this number
unfoldable pub perm_row : (number : ℕ) → Format Perm
perm_row number = do
  code ← part code_of (test byte number (λ n. not (is_some (perm_of n))))
  done (unwrap_or (perm_of code) Key)

unfoldable pub target_row : Format Target
target_row = do
  index ← part (λ t. t.index) u16
  addend ← part (λ t. t.addend) u32
  done (record { index = index; addend = addend })

unfoldable pub reloc_fields : Format Reloc
reloc_fields = do
  segment ← part (λ r. r.segment) u16
  word ← part (λ r. r.word) u32
  perm ← part (λ r. r.perm) (perm_row 7)
  target ← part (λ r. r.target) target_row
  done (record { segment = segment; word = word; perm = perm; target = target })

-- a relocation of an object of these segments and this count of externals, whose place is at least `least`
unfoldable pub good_reloc : (segments : List Segment) (externals least : ℕ) → Format Reloc
good_reloc segments externals least =
    test reloc_fields 7 (λ r. not (is_reloc segments externals r) || nat_lt (place_of r) least)

abbrev pub reloc_row : (segments : List Segment) (externals least : ℕ) → Format Reloc
reloc_row segments externals least = framed 13 (good_reloc segments externals least) 7

abbrev pub is_tagged : Value → Bool
is_tagged (Int n) = false
is_tagged (Ptr perm target) = true

abbrev pub number_in : Value → ℕ
number_in (Int n) = n
number_in (Ptr perm target) = 0

abbrev pub perm_in : Value → Perm
perm_in (Int n) = Key
perm_in (Ptr perm target) = perm

abbrev pub target_in : Value → Target
target_in (Int n) = record { index = 0; addend = 0 }
target_in (Ptr perm target) = target

unfoldable pub integer_row : Format Value
integer_row = do
  number ← part number_in u64
  done (Int number)

unfoldable pub pointer_row : Format Value
pointer_row = do
  perm ← part perm_in (perm_row 8)
  gap ← part (λ v. 0) (test byte 8 (λ n. not (n == 0)))
  target ← part target_in target_row
  done (Ptr perm target)

-- a register, which becomes a pointer if it is tagged
abbrev pub value_row : (tagged : Bool) → Format Value
value_row true = pointer_row
value_row false = integer_row

unfoldable pub thread_fields : Format Thread
thread_fields = do
  slot ← part (λ t. t.slot) byte
  group ← part (λ t. t.group) byte
  handler ← part (λ t. handler_byte t.handler) byte
  perm ← part (λ t. t.perm) (perm_row 8)
  target ← part (λ t. t.target) target_row
  tags ← part (λ t. map is_tagged t.regs) mask
  regs ← part (λ t. t.regs) (each value_row tags)
  done (record {
    slot = slot;
    group = group;
    handler = if handler == 255 then None else Some handler;
    perm = perm;
    target = target;
    regs = regs;
  })

-- a thread of an object of these segments and this count of externals, whose slot is at least `least`
unfoldable pub good_thread : (segments : List Segment) (externals least : ℕ) → Format Thread
good_thread segments externals least =
    test thread_fields 8 (λ t. not (is_thread segments externals t) || nat_lt t.slot least)

abbrev pub thread_row : (segments : List Segment) (externals least : ℕ) → Format Thread
thread_row segments externals least = framed 140 (good_thread segments externals least) 8

-- 6. The whole.

-- the names that an object uses, and what points to them
pub record Pointers : Type 0 where
  pub externals : List (List ℕ)
  pub relocs : List Reloc
  pub threads : List Thread

abbrev pub pointers_from : List (List ℕ) → List Reloc → List Thread → Pointers
pointers_from externals relocs threads = record { externals = externals; relocs = relocs; threads = threads }

unfoldable pub pointers_row : (segments : List Segment) (head : Header) → Format Pointers
pointers_row segments head = do
  externals ← part (λ p. p.externals) (times (external_row segments) push head.externals [])
  relocs ← part (λ p. p.relocs) (times (reloc_row segments head.externals) (λ _ r. place_of r + 1) head.relocs 0)
  threads ← part (λ p. p.threads) (times (thread_row segments head.externals) (λ _ t. t.slot + 1) head.threads 0)
  done (pointers_from externals relocs threads)

-- whether nothing points to the external of this index
abbrev pub is_unused : (targets : List Target) (index : ℕ) → Bool
is_unused targets index = not (list_any (λ (t : Target). t.index == index) targets)

-- each external is a target. The record of the first of these names begins at this offset.
abbrev pub use_tests : (targets : List Target) (index offset : ℕ) → List (List ℕ) → List Late
use_tests targets index offset [] = []
use_tests targets index offset (n ∷ names) =
    record { number = 5; offset = offset; bad = is_unused targets index }
    ∷ use_tests targets (index + 1) (offset + (1 + length n)) names

-- the tests of externals, which are counted after the segments
abbrev pub uses_in : (segments : List Segment) → Pointers → List Late
uses_in segments p = use_tests (targets_of p.relocs p.threads) (length segments) 0 p.externals

-- the uses of externals are tested after the last thread, since a thread may use them
abbrev pub used_pointers : (segments : List Segment) (head : Header) → Format Pointers
used_pointers segments head = late (pointers_row segments head) (uses_in segments)

abbrev pub header_in : Object → Header
header_in o = record {
  segments = length o.segments;
  externals = length o.externals;
  relocs = length o.relocs;
  threads = length o.threads;
  spare = o.spare;
}

abbrev pub pointers_in : Object → Pointers
pointers_in o = pointers_from o.externals o.relocs o.threads

unfoldable pub object : Format Object
object = do
  head ← part header_in header_row
  segments ← part (λ o. o.segments) (times segment_row push head.segments [])
  pointers ← part pointers_in (used_pointers segments head)
  done (object_from segments pointers.externals pointers.relocs pointers.threads head.spare)

-- 7. The bytes.

-- the bytes of each record, which do not depend on the records before it
abbrev pub segment_record : Segment → List ℕ
segment_record s = (segment_row []).spell s

abbrev pub name_record : List ℕ → List ℕ
name_record n = name_row.spell n

abbrev pub reloc_record : Reloc → List ℕ
reloc_record r = (reloc_row [] 0 0).spell r

abbrev pub thread_record : Thread → List ℕ
thread_record t = (thread_row [] 0 0).spell t

-- the bytes of an object's file
abbrev pub spelling : Object → List ℕ
spelling o = object.spell o

-- the bytes spell the object
pub record Spells (bytes : List ℕ) (o : Object) : Type 0 where
  pub object : IsObject o
  pub spelled : bytes ≡ spelling o
