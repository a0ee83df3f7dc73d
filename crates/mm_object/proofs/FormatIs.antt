-- The object's file is a format.
use Rattle.std.proofs.Common.{◌≡◌, ℕ, ◌+◌, ◌*◌, ◌-◌, ◌/◌, ◌≤◌, Bool, true, false, cond, List, [], ◌∷◌, ◌++◌, length}
use Rattle.std.proofs.Common.{map, Option, Some, None, refl, sym, ap, ◌∙◌, arith, eqb-true, append-nil, length-append}
use Rattle.std.proofs.lemmas.{Bool.{not-false, Decides.nat_tests}, List.{length-map, take_all}}
use Rattle.std.specs.{Prelude.{◌==◌, codes, is_some, unwrap_or}, Int.{w16, w32, to_be_bytes}}
use Rattle.mm_word.specs.{declared.perm.Perm.TheVariants.Key, Perm.{code_of, perm_of}, PointerBits.code_of-perm_of}
use Rattle.mm_model.specs.{Flags.number_of_flags, Bytes.IsBytes, Spelling.{bitmap, handler_byte}}
use Rattle.mm_format.specs.Formats.{Format, IsFormat, byte, u16, u32, raw, each, cons, Parsed.Got}
use Rattle.mm_format.specs.Images.{mask, flags_of, bits_in}
use Rattle.mm_format.proofs.Formats.{byte_is, u16_is, u32_is, u64_is, text_is, raw_is, test_is, literal_is}
use Rattle.mm_format.proofs.Formats.{literal_read, then_is, done_is, ends_within}
use Rattle.mm_format.proofs.Images.{mask_is, bits_count, handler_again}
use Rattle.mm_format.proofs.Lists.{each_is, times_is, times_long, late_is}
use Rattle.mm_object.specs.declared.{header.Header.Header, item.Item.Item, target.{Target.Target, Reloc.Reloc}}
use Rattle.mm_object.specs.{declared.thread.{Value.Value, Thread.Thread}, Objects.{Segment, Object, place_of}}
use Rattle.mm_object.specs.Format.{is_tagged, push, header_row, name_fields, name_row, external_row, has_unused_bit}
use Rattle.mm_object.specs.Format.{unused_bit, bits_row, item_row, log_row, count_row, segment_row, perm_row}
use Rattle.mm_object.specs.Format.{target_row, reloc_fields, good_reloc, reloc_row, number_in, perm_in, target_in}
use Rattle.mm_object.specs.Format.{integer_row, pointer_row, value_row, thread_fields, good_thread, thread_row}
use Rattle.mm_object.specs.Format.{Pointers, pointers_row, uses_in, header_in, pointers_in, object}
use Rattle.mm_object.proofs.{BitmapBytes.bits_part, Framed.framed_is}

-- what is read at a place ends within the bytes
pub read_within : {A : Type 0} {f : Format A} → IsFormat f → (bytes : List ℕ) → IsBytes bytes → (at : ℕ) (a : A) (next : ℕ)
    → at ≤ length bytes → f.read bytes at ≡ Got a next → next ≤ length bytes
read_within {f = f} is bytes fits at a next low e =
    let s = is.sound bytes fits at a next e in
    omega (arith, ends_within bytes at (f.spell a) s.1 low, s.2)

-- 1. The header and names.

pub header_is : IsFormat header_row
unfolding header_row
header_is =
    then_is _ _ (literal_is (codes "MMO1") 2) (λ magic _.
    then_is _ _ (test_is u16 u16_is 3 _) (λ version _.
    then_is _ _ (test_is u16 u16_is 4 _) (λ segments _.
    then_is _ _ (test_is u16 u16_is 4 _) (λ externals _.
    then_is _ _ u16_is (λ relocs _.
    then_is _ _ (test_is u16 u16_is 4 _) (λ threads _.
    then_is _ _ (test_is u16 u16_is 4 _) (λ spare _. done_is _)
    (λ a h fits e. ap (λ h. h.spare) e))
    (λ a h fits e. ap (λ h. h.threads) e.1))
    (λ a h fits e. ap (λ h. h.relocs) e.1.1))
    (λ a h fits e. ap (λ h. h.externals) e.1.1.1))
    (λ a h fits e. ap (λ h. h.segments) e.1.1.1.1))
    (λ a h fits e. sym (eqb-true a 1 (not-false _ fits.1))))
    (λ a h fits e. literal_read (codes "MMO1") 2 a fits)

name_is : IsFormat name_row
unfolding name_row name_fields
name_is =
    test_is _ (
    then_is _ _ (test_is byte byte_is 5 _) (λ size _.
    then_is _ _ (text_is size) (λ bytes _. done_is _)
    (λ a n fits e. e))
    (λ a n fits e. e.0)) 5 _

external_is : (segments : List Segment) (before : List (List ℕ)) → IsFormat (external_row segments before)
unfolding external_row
external_is segments before = test_is _ name_is 5 _

-- 2. Segments.

-- a late test that finds nothing
pub no_late : (b : Bool) (fault : ℕ × ℕ) (others : Option (ℕ × ℕ)) → cond b (Some fault) others ≡ None
    → (b ≡ false) × (others ≡ None)
no_late true fault others e = absurd cc
no_late false fault others e = (refl, e)

bits_is : (count : ℕ) → IsFormat (bits_row count)
unfolding bits_row bits_in
bits_is count =
    let size = (count + 7) / 8 in
    then_is _ _ (late_is (raw size) (λ bytes. unused_bit count bytes ∷ []) (raw_is size)) (λ bytes _. done_is _)
    (λ bytes fs fits e.
    let long = fits.0.0 in
    let used = no_late (has_unused_bit bytes 0 count) (6, 0 + (size - 1)) None fits.1 in
    ap (bitmap size) e ∙ bits_part bytes fits.0.1 0 count (omega (arith, long)) used.0
    ∙ take_all size bytes (omega (arith, long)))

bits_long : (count : ℕ) (fs : List Bool) → (bits_row count).Fits fs → length fs ≡ count
unfolding bits_row
bits_long count fs fits = ap length fits.1 ∙ bits_count count (bitmap ((count + 7) / 8) fs)

item_is : (full : Bool) → IsFormat (item_row full)
unfolding item_row
item_is full = then_is _ _ u64_is (λ n _. done_is _) (λ n i fits e. ap (λ (i : Item). i.bits) e)

items_full : (full : List Bool) (items : List Item) → (each item_row full).Fits items
    → map (λ (i : Item). i.full) items ≡ full
unfolding cons item_row
items_full [] items fits = ap (map (λ (i : Item). i.full)) fits
items_full (b ∷ full) [] fits = absurd fits
items_full (b ∷ full) (i ∷ items) fits =
    ap (λ x. x ∷ map (λ (i : Item). i.full) items) (ap (λ (i : Item). i.full) fits.0.1)
    ∙ ap (λ xs. b ∷ xs) (items_full full items fits.1)

pub segment_is : (before : List Segment) → IsFormat (segment_row before)
unfolding segment_row log_row count_row
segment_is before =
    then_is _ _ (test_is _ name_is 5 _) (λ name _.
    then_is _ _ (test_is byte byte_is 6 _) (λ log _.
    then_is _ _ (test_is _ (test_is u32 u32_is 4 _) 6 _) (λ count _.
    then_is _ _ (bits_is count) (λ full _.
    then_is _ _ (each_is item_row item_is full) (λ items _. done_is _)
    (λ a s fits e. ap (λ (s : Segment). s.items) e))
    (λ a s fits e. items_full a s.items e.0))
    (λ a s fits e. sym (length-map s.items (λ (i : Item). i.full)) ∙ bits_long a _ e.0))
    (λ a s fits e. ap (λ (s : Segment). s.log) e.1.1.1))
    (λ a s fits e. ap (λ (s : Segment). s.name) e.1.1.1.1)

-- 3. Relocations and threads.

perm_again : (n : ℕ) → is_some (perm_of n) ≡ true → code_of (unwrap_or (perm_of n) Key) ≡ n
perm_again n h = code_of-perm_of n (grind (arith, nat_tests)) (grind (arith, nat_tests))

perm_is : (number : ℕ) → IsFormat (perm_row number)
unfolding perm_row
perm_is number =
    then_is _ _ (test_is byte byte_is number _) (λ n _. done_is _)
    (λ n p fits e. ap code_of e ∙ perm_again n (not-false _ fits.1))

target_is : IsFormat target_row
unfolding target_row
target_is =
    then_is _ _ u16_is (λ index _.
    then_is _ _ u32_is (λ addend _. done_is _)
    (λ a t fits e. ap (λ (t : Target). t.addend) e))
    (λ a t fits e. ap (λ (t : Target). t.index) e.1)

fields_is : IsFormat reloc_fields
unfolding reloc_fields
fields_is =
    then_is _ _ u16_is (λ segment _.
    then_is _ _ u32_is (λ word _.
    then_is _ _ (perm_is 7) (λ perm _.
    then_is _ _ target_is (λ target _. done_is _)
    (λ a r fits e. ap (λ (r : Reloc). r.target) e))
    (λ a r fits e. ap (λ (r : Reloc). r.perm) e.1))
    (λ a r fits e. ap (λ (r : Reloc). r.word) e.1.1))
    (λ a r fits e. ap (λ (r : Reloc). r.segment) e.1.1.1)

reloc_long : (r : Reloc) → length (reloc_fields.spell r) ≡ 13
unfolding reloc_fields perm_row target_row
reloc_long r = refl

reloc_is : (segments : List Segment) (externals least : ℕ) → IsFormat (reloc_row segments externals least)
unfolding good_reloc
reloc_is segments externals least =
    framed_is 13 (good_reloc segments externals least) 7 (test_is _ fields_is 7 _) (λ r _. reloc_long r)

integer_is : IsFormat integer_row
unfolding integer_row
integer_is = then_is _ _ u64_is (λ n _. done_is _) (λ n v fits e. ap number_in e)

pointer_is : IsFormat pointer_row
unfolding pointer_row
pointer_is =
    then_is _ _ (perm_is 8) (λ perm _.
    then_is _ _ (test_is byte byte_is 8 _) (λ gap _.
    then_is _ _ target_is (λ target _. done_is _)
    (λ a v fits e. ap target_in e))
    (λ a v fits e. sym (eqb-true a 0 (not-false _ fits.1))))
    (λ a v fits e. ap perm_in e.1.1)

value_is : (tagged : Bool) → IsFormat (value_row tagged)
value_is true = pointer_is
value_is false = integer_is

value_tag : (tagged : Bool) (v : Value) → (value_row tagged).Fits v → is_tagged v ≡ tagged
unfolding integer_row pointer_row
value_tag true v fits = ap is_tagged fits.1.1.1
value_tag false v fits = ap is_tagged fits.1

values_tags : (tags : List Bool) (regs : List Value) → (each value_row tags).Fits regs → map is_tagged regs ≡ tags
unfolding cons
values_tags [] regs fits = ap (map is_tagged) fits
values_tags (b ∷ tags) [] fits = absurd fits
values_tags (b ∷ tags) (v ∷ regs) fits =
    ap (λ x. x ∷ map is_tagged regs) (value_tag b v fits.0) ∙ ap (λ xs. b ∷ xs) (values_tags tags regs fits.1)

value_long : (tagged : Bool) (v : Value) → length ((value_row tagged).spell v) ≡ 8
unfolding integer_row pointer_row perm_row target_row
value_long true v = refl
value_long false v = refl

values_long : (tags : List Bool) (regs : List Value) → (each value_row tags).Fits regs
    → length ((each value_row tags).spell regs) ≡ 8 * length tags
unfolding cons
values_long [] regs fits = refl
values_long (b ∷ tags) [] fits = absurd fits
values_long (b ∷ tags) (v ∷ regs) fits = omega (
  arith,
  length-append ((value_row b).spell v) ((each value_row tags).spell regs),
  value_long b v,
  values_long tags regs fits.1,
)

thread_fields_is : IsFormat thread_fields
unfolding thread_fields
thread_fields_is =
    then_is _ _ byte_is (λ slot _.
    then_is _ _ byte_is (λ group _.
    then_is _ _ byte_is (λ handler _.
    then_is _ _ (perm_is 8) (λ perm _.
    then_is _ _ target_is (λ target _.
    then_is _ _ mask_is (λ tags _.
    then_is _ _ (each_is value_row value_is tags) (λ regs _. done_is _)
    (λ a t fits e. ap (λ (t : Thread). t.regs) e))
    (λ a t fits e. values_tags a t.regs e.0))
    (λ a t fits e. ap (λ (t : Thread). t.target) e.1.1))
    (λ a t fits e. ap (λ (t : Thread). t.perm) e.1.1.1))
    (λ a t fits e. ap (λ (t : Thread). handler_byte t.handler) e.1.1.1.1 ∙ handler_again (a == 255) a refl))
    (λ a t fits e. ap (λ (t : Thread). t.group) e.1.1.1.1.1))
    (λ a t fits e. ap (λ (t : Thread). t.slot) e.1.1.1.1.1.1)

thread_long : (t : Thread) → thread_fields.Fits t → length (thread_fields.spell t) ≡ 140
unfolding thread_fields perm_row target_row mask flags_of
thread_long t fits =
    let tags = map is_tagged t.regs in
    let front = (t.slot ∷ t.group ∷ handler_byte t.handler ∷ code_of t.perm ∷ []) ++ to_be_bytes w16 t.target.index
    ++ to_be_bytes w32 t.target.addend ++ to_be_bytes w16 (number_of_flags tags) in
    let regs = (each value_row tags).spell t.regs in
    let sixteen : length tags ≡ 16 = ap length fits.1.1.1.1.1.0.1 in
    let all : length (regs ++ []) ≡ 8 * 16 =
    ap length (append-nil regs) ∙ values_long tags t.regs fits.1.1.1.1.1.1.0 ∙ ap (λ n. 8 * n) sixteen in
    length-append front (regs ++ []) ∙ ap (λ n. 12 + n) all

thread_is : (segments : List Segment) (externals least : ℕ) → IsFormat (thread_row segments externals least)
unfolding good_thread
thread_is segments externals least =
    framed_is 140 (good_thread segments externals least) 8 (test_is _ thread_fields_is 8 _)
    (λ t fits. thread_long t fits.0)

-- 4. The whole.

pointers_is : (segments : List Segment) (head : Header) → IsFormat (pointers_row segments head)
unfolding pointers_row
pointers_is segments head =
    then_is _ _ (times_is (external_row segments) push (external_is segments) head.externals []) (λ externals _.
    then_is _ _ (times_is (reloc_row segments head.externals) (λ _ r. place_of r + 1)
    (reloc_is segments head.externals) head.relocs 0) (λ relocs _.
    then_is _ _ (times_is (thread_row segments head.externals) (λ _ t. t.slot + 1)
    (thread_is segments head.externals) head.threads 0) (λ threads _. done_is _)
    (λ a p fits e. ap (λ (p : Pointers). p.threads) e))
    (λ a p fits e. ap (λ (p : Pointers). p.relocs) e.1))
    (λ a p fits e. ap (λ (p : Pointers). p.externals) e.1.1)

same_header : (s x r t f : ℕ) (o : Object) → length o.segments ≡ s → length o.externals ≡ x → length o.relocs ≡ r
    → length o.threads ≡ t → o.spare ≡ f → header_in o
    ≡ record { segments = s; externals = x; relocs = r; threads = t; spare = f }
same_header s x r t f o segments externals relocs threads spare = cc

pub object_is : IsFormat object
unfolding object pointers_row
object_is =
    then_is _ _ header_is (λ head _.
    then_is _ _ (times_is segment_row push segment_is head.segments []) (λ segments _.
    then_is _ _ (late_is _ (uses_in segments) (pointers_is segments head)) (λ p _. done_is _)
    (λ a o fits e. ap pointers_in e))
    (λ a o fits e. ap (λ (o : Object). o.segments) e.1))
    (λ a o fits e.
    let p = e.1.0.0 in
    same_header a.segments a.externals a.relocs a.threads a.spare o
    (times_long segment_row push a.segments [] o.segments e.0)
    (times_long (external_row o.segments) push a.externals [] o.externals p.0)
    (times_long (reloc_row o.segments a.externals) (λ _ r. place_of r + 1) a.relocs 0 o.relocs p.1.0)
    (times_long (thread_row o.segments a.externals) (λ _ t. t.slot + 1) a.threads 0 o.threads p.1.1.0)
    (ap (λ (o : Object). o.spare) e.1.1))
