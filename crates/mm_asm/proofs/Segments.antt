-- The segments of a draft in its object: their names, and the bits of their words.
use Rattle.std.proofs.Common.{◌≡◌, ℕ, zero, suc, ◌+◌, ◌-◌, ◌^◌, ◌<◌, ◌≤◌, Bool, true, false, ◌||◌, ◌==◌, nat_le}
use Rattle.std.proofs.Common.{if◌then◌else◌, List, [], ◌∷◌, map, length, slice_get, Option, Some, None, FitsSigned}
use Rattle.std.proofs.Common.{bytes_eq, refl, ap, subst, inl, inr, arith}
use Rattle.std.proofs.lemmas.{Int.ints, Bool.{and_parts, and_from, Decides.nat_tests}}
use Rattle.std.specs.{List.{list_all, AllByRecursion}, Char.{is_digit, is_ascii_alphabetic}, Int.w32}
use Prim.Native.Char.{code}
use Rattle.mm_isa.specs.{declared.fields.Fields.Fields, Table.{packed, FitInWord}}
use Rattle.mm_isa.proofs.{Operands.fields_fit, Packing.cast_below}
use Rattle.mm_line.specs.declared.{name.Mark.Mark, statement.{Constant.TheVariants.{Integer, Pointer}, Content.Content}}
use Rattle.mm_line.specs.Ranges.{IsMark, IsContent}
use Rattle.mm_draft.specs.declared.{segment.Word.Word, location.Location.Location}
use Rattle.mm_draft.specs.Drafts.{Entry, Draft, place_in, place_of}
use Rattle.mm_object.specs.{declared.item.Item.Item, Names.{begins_name, goes_on, has_form, is_name}}
use Rattle.mm_object.proofs.Members.{In}
use Rattle.mm_asm.specs.Meaning.{distance_to, with_goal, bits_of, word_items, segment_of}
use Rattle.mm_asm.specs.Bounds.{IsWord, IsSegment, HasWord, IsLocation, IsDraft}
use Rattle.mm_line.specs.declared.statement.Content.TheVariants as content
use Rattle.mm_line.specs.Forms as forms
use Rattle.mm_draft.specs.Drafts as draft
use Rattle.mm_object.specs.Objects as object

-- 1. Names.

-- the bytes that a name in a line goes on with
abbrev is_name_byte : ℕ → Bool
is_name_byte b = is_ascii_alphabetic b || b == code "_" || is_digit b 10

byte_goes_on : (b : ℕ) → is_name_byte b ≡ true → goes_on b ≡ true
byte_goes_on b h = grind (arith, nat_tests, h)

all_go_on : (bytes : List ℕ) → list_all is_name_byte bytes ≡ true → list_all goes_on bytes ≡ true
all_go_on [] h = refl
all_go_on (b ∷ bytes) h = let r = and_parts (is_name_byte b) (list_all is_name_byte bytes) h in and_from _ _ (byte_goes_on b r.0) (all_go_on bytes r.1)

has_the_form : (name : List ℕ) → forms.is_name name ≡ true → has_form name ≡ true
has_the_form [] h = absurd cc
has_the_form (b ∷ bytes) h =
    let r = and_parts (begins_name b) (list_all is_name_byte (b ∷ bytes)) h in
    let s = and_parts (is_name_byte b) (list_all is_name_byte bytes) r.1 in
    and_from (begins_name b) (list_all goes_on bytes) r.0 (all_go_on bytes s.1)

-- the name of a mark is one that an object may have
pub mark_name : (most : ℕ) (m : Mark) → IsMark most m → is_name m.name ≡ true
mark_name most m h = and_from (has_form m.name) (nat_le (length m.name) 31) (has_the_form m.name h.name) (grind (arith, nat_tests, h.length))

pub names_same : (d : Draft) (segments : List draft.Segment) → object.names_of (map (segment_of d) segments) ≡ map (λ (s : draft.Segment). s.name) segments
names_same d [] = refl
names_same d (s ∷ segments) = ap (λ (names : List (List ℕ)). s.name ∷ names) (names_same d segments)

-- 2. Words.

length_items : (d : Draft) (k : ℕ) (words : List Word) → length (word_items d k words) ≡ length words
length_items d k [] = refl
length_items d k (w ∷ words) = ap suc (length_items d (k + 1) words)

pub words_same : (d : Draft) (segments : List draft.Segment) → object.words_of (map (segment_of d) segments) ≡ draft.words_of segments
words_same d [] = refl
words_same d (s ∷ segments) = omega (arith, length_items d 0 s.words, words_same d segments)

pub words_in : (s : draft.Segment) (segments : List draft.Segment) → In s segments → length s.words ≤ draft.words_of segments
words_in s [] m = absurd m
words_in s (x ∷ segments) (inl e) = let same = ap (λ (y : draft.Segment). length y.words) e in omega (arith, same)
words_in s (x ∷ segments) (inr m) = omega (arith, words_in s segments m)

word_in : (segments : List draft.Segment) (i word : ℕ) → HasWord (slice_get segments i) word → word ≤ draft.words_of segments
word_in [] i word h = absurd h
word_in (s ∷ segments) zero word h = omega (arith, h)
word_in (s ∷ segments) (suc i) word h = omega (arith, word_in segments i word h)

-- what is true of all entries' places is true of what a name stands for
pub place_is : (P : Location → Type 0) (entries : List Entry) (name : List ℕ) (p : Location) → AllByRecursion (λ (e : Entry). P e.location) entries → place_in entries name ≡ Some p → P p
place_is P [] name p h e = absurd cc
place_is P (x ∷ entries) name p h e = by (bytes_eq name x.name) e (place_is P entries name p h.1)
  where
    by : (b : Bool) → (if b then Some x.location else place_in entries name) ≡ Some p → (place_in entries name ≡ Some p → P p) → P p
    by true f later = subst P (let same : x.location ≡ p = cc in same) h.0
    by false f later = later f

module _ (d : Draft) (is_draft : IsDraft d) where
  distance_fits : (o : Option Location) (k : ℕ) → ((p : Location) → o ≡ Some p → p.word ≤ 131072) → k ≤ 131072 → FitsSigned w32 (distance_to o k)
  distance_fits None k h le = omega (arith, ints)
  distance_fits (Some p) k h le = let small = h p refl in omega (arith, ints, small, le)

  place_small : (name : List ℕ) (p : Location) → place_of d name ≡ Some p → p.word ≤ 131072
  place_small name p e =
      let has = place_is (IsLocation d.segments) d.names name p is_draft.segments.places e in
      omega (arith, word_in d.segments p.segment p.word has, is_draft.segments.words)

  pub fields_fit_with : (k : ℕ) (goal : Option Mark) (fields : Fields) → k ≤ 131072 → FitInWord fields → FitInWord (with_goal d k goal fields)
  fields_fit_with k None fields le h = h
  fields_fit_with k (Some m) fields le h = record { operation = h.operation; rd = h.rd; ra = h.ra; rb = h.rb; c = h.c; imm = distance_fits (place_of d m.name) k (place_small m.name) le }

  packed_fits : (f : Fields) → FitInWord f → packed f < 2 ^ 64
  unfolding packed
  packed_fits f h = omega (arith, h.operation, h.rd, h.ra, h.rb, h.c, cast_below f.imm h.imm)

  bits_fit : (most k : ℕ) (c : Content) → k ≤ 131072 → IsContent most c → bits_of d k c < 2 ^ 64
  bits_fit most k (content.Constant (Integer n)) le h = h
  bits_fit most k (content.Constant (Pointer perm target)) le h = omega arith
  bits_fit most k (content.Code c) le h =
      let fields = h.fields in
      packed_fits (with_goal d k c.goal c.fields) (fields_fit_with k c.goal c.fields le (subst FitInWord fields.2 (fields_fit fields.0 fields.1)))

  items_fit : (k : ℕ) (words : List Word) → k + length words ≤ 131072 → AllByRecursion IsWord words → AllByRecursion (λ (item : Item). item.bits < 2 ^ 64) (word_items d k words)
  items_fit k [] le h = tt
  items_fit k (w ∷ words) le h = (bits_fit h.0.0 k w.content (omega arith) h.0.1, items_fit (k + 1) words (omega arith) h.1)

  pub segment_is : (s : draft.Segment) → In s d.segments → IsSegment s → object.IsSegment (segment_of d s)
  segment_is s m h =
      let room : length (word_items d 0 s.words) ≤ 2 ^ (s.log - 3) = omega (arith, length_items d 0 s.words, h.room) in
      let small = words_in s d.segments m in
      record { name = h.name; least = h.least; greatest = h.greatest; room = room; words = items_fit 0 s.words (omega (arith, small, is_draft.segments.words)) h.words }
