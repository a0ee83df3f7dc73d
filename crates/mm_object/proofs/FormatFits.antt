-- What fits the format of an object's file is an object, and each object fits it.
use Rattle.std.proofs.Common.{◌≡◌, ℕ, zero, suc, ◌+◌, ◌-◌, ◌/◌, ◌^◌, ◌<◌, ◌≤◌, Bool, true, false, not, cond, List, []}
use Rattle.std.proofs.Common.{◌∷◌, ◌++◌, length, take, drop, map, Option, Some, None, refl, sym, ap, subst, ◌∙◌, arith}
use Rattle.std.proofs.Common.{append_assoc, append-nil}
use Rattle.std.proofs.lemmas.Bool.{leb-true, ltb-true, le-leb, or_parts, not-false, ltb-false, and_parts, and_from}
use Rattle.std.proofs.lemmas.Bool.{le-ltb, or_from}
use Rattle.std.proofs.lemmas.{Bool.Decides.nat_tests, List.{length-map, length-take, take_all, get_or_default}}
use Rattle.std.specs.{Prelude.{◌==◌, is_some, unwrap_or}, List.{list_any, list_all, AllByRecursion}}
use Rattle.mm_word.specs.declared.perm.Perm.{Perm, TheVariants.Key}
use Rattle.mm_word.proofs.Packing.{perm_of-code_of, code_of-in_range}
use Rattle.mm_model.specs.{Bytes.{IsBytes, bit_at}, Spelling.{bitmap, handler_byte}, Limits.word_limit}
use Rattle.mm_model.proofs.Bytes.{Apart.number_of_flags-below, Ranges.range-list}
use Rattle.mm_format.specs.{Formats.{each, times, cons, first_late}, Images.{mask, flags_of, bits_in}}
use Rattle.mm_format.proofs.ImagesFit.{fits_mask, Rise, rises, rise_all, long_bitmap, not_zero}
use Rattle.mm_object.specs.declared.{item.Item.Item, target.{Target.Target, Reloc.Reloc}}
use Rattle.mm_object.specs.declared.thread.{Value.{Value, TheVariants.{Int, Ptr}}, Thread.Thread}
use Rattle.mm_object.specs.Names.{is_name, has_form, is_before}
use Rattle.mm_object.specs.Objects.{Segment, Object, IsSegment, IsNumber, IsObject, least_log, greatest_log, words_of}
use Rattle.mm_object.specs.Objects.{names_of, is_among, are_apart, ascend, is_target, is_reloc, place_of, is_value}
use Rattle.mm_object.specs.Objects.{is_handler, is_thread, targets_of}
use Rattle.mm_object.specs.Format.{is_tagged, push, header_row, name_fields, name_row, is_late, external_row, bits_row}
use Rattle.mm_object.specs.Format.{item_row, log_row, count_row, segment_row, perm_row, target_row, reloc_fields}
use Rattle.mm_object.specs.Format.{good_reloc, reloc_row, integer_row, pointer_row, value_row, thread_fields}
use Rattle.mm_object.specs.Format.{good_thread, thread_row, is_unused, use_tests, pointers_row, object}
use Rattle.mm_object.proofs.{Apartness.{apart-push, apart-before, names-push}, BitmapBytes.{bit_is, none_unused_is}}
use Rattle.mm_object.proofs.{Bounds.{pow_up, target_small, reloc_small}, FormatIs.no_late}

-- 1. Names.

name_fits : (n : List ℕ) → name_row.Fits n → is_name n ≡ true
unfolding name_row name_fields
name_fits n fits = and_from _ _ (not-false _ fits.1) (le-leb _ _ (ltb-false 31 (length n) (or_parts _ _ fits.0.0.1).1))

fits_name : (n : List ℕ) → is_name n ≡ true → name_row.Fits n
unfolding name_row name_fields
fits_name n good =
    let p = and_parts _ _ good in
    let long = leb-true (length n) 31 p.1 in
    (((omega (arith, long), or_from _ _ (some n p.0) (le-ltb 31 (length n) long)), (refl, refl)), ap not p.0)
  where
    some : (n : List ℕ) → has_form n ≡ true → (length n == 0) ≡ false
    some [] e = absurd cc
    some (b ∷ n) e = not_zero (length (b ∷ n)) (omega arith)

-- 2. Segments.

words_of-append : (xs ys : List Segment) → words_of (xs ++ ys) ≡ words_of xs + words_of ys
words_of-append [] ys = omega arith
words_of-append (x ∷ xs) ys = omega (arith, words_of-append xs ys)

-- of segments one more
pub words_of-push : (segments : List Segment) (s : Segment)
    → words_of (push segments s) ≡ words_of segments + length s.items
words_of-push segments s = omega (arith, words_of-append segments (s ∷ []))

bytes_bitmap : (count : ℕ) (fs : List Bool) → IsBytes (bitmap count fs)
bytes_bitmap zero fs i = omega arith
bytes_bitmap (suc count) fs zero =
    let few = pow_up (length (take 8 fs)) 8 (omega (arith, length-take 8 fs)) in
    omega (arith, number_of_flags-below (take 8 fs), few)
bytes_bitmap (suc count) fs (suc i) = bytes_bitmap count (drop 8 fs) i

fits_bits : (fs : List Bool) → (bits_row (length fs)).Fits fs
unfolding bits_row bits_in
fits_bits fs =
    let size = (length fs + 7) / 8 in
    let text = bitmap size fs in
    let long = long_bitmap size fs in
    let le : 0 + size ≤ length text = omega (arith, long) in
    let all : take size (drop 0 text) ≡ text = take_all size text (omega (arith, long)) in (
      (
        (long, bytes_bitmap size fs),
        ap (λ b. cond b (Some (6, 0 + (size - 1))) None) (none_unused_is text 0 fs le all),
      ),
      sym (range-list (bit_at text 0) 0 fs (λ k d lt.
          let here : 0 + k ≡ k = omega arith in
          ap (bit_at text 0) here ∙ bit_is text 0 fs le all k lt ∙ get_or_default fs k false d lt)),
    )

items_fit : (full : List Bool) (items : List Item) → (each item_row full).Fits items
    → AllByRecursion (λ (i : Item). i.bits < 2 ^ 64) items
unfolding cons item_row
items_fit [] items fits = subst (AllByRecursion (λ (i : Item). i.bits < 2 ^ 64)) (sym fits) tt
items_fit (b ∷ full) [] fits = absurd fits
items_fit (b ∷ full) (i ∷ items) fits = (fits.0.0, items_fit full items fits.1)

fit_items : (items : List Item) → AllByRecursion (λ (i : Item). i.bits < 2 ^ 64) items
    → (each item_row (map (λ (i : Item). i.full) items)).Fits items
unfolding cons item_row
fit_items [] small = refl
fit_items (i ∷ items) small = ((small.0, refl), fit_items items small.1)

-- a segment that may come after others
record IsNext (before : List Segment) (s : Segment) : Type 0 where
  segment : IsSegment s
  other : is_among s.name (names_of before) ≡ false
  few : words_of before + length s.items ≤ word_limit

segment_fits : (before : List Segment) (s : Segment) → (segment_row before).Fits s → IsNext before s
unfolding segment_row log_row count_row
segment_fits before s fits =
    let log = or_parts _ _ fits.1.0.1 in
    let count = fits.1.1.0 in
    record {
      segment = record {
        name = name_fits s.name fits.0.0;
        least = ltb-false s.log least_log log.0;
        greatest = ltb-false greatest_log s.log log.1;
        room = ltb-false (2 ^ (s.log - 3)) (length s.items) count.1;
        words = items_fit _ s.items fits.1.1.1.1.0;
      };
      other = fits.0.1;
      few = ltb-false word_limit (words_of before + length s.items) count.0.1;
    }

fits_segment : (before : List Segment) (s : Segment) → IsNext before s → (segment_row before).Fits s
unfolding segment_row log_row count_row
fits_segment before s next =
    let is = next.segment in
    let full = map (λ (i : Item). i.full) s.items in (
      (fits_name s.name is.name, next.other),
      (
        (
          omega (arith, is.greatest),
          or_from _ _ (le-ltb s.log least_log is.least) (le-ltb greatest_log s.log is.greatest),
        ),
        (
          (
            (omega (arith, next.few), le-ltb word_limit (words_of before + length s.items) next.few),
            le-ltb (2 ^ (s.log - 3)) (length s.items) is.room,
          ),
          (
            subst (λ n. (bits_row n).Fits full) (length-map s.items (λ (i : Item). i.full)) (fits_bits full),
            (fit_items s.items is.words, refl),
          ),
        ),
      ),
    )

-- segments after others
record SegmentsAre (before xs : List Segment) : Type 0 where
  segments : AllByRecursion IsSegment xs
  names : are_apart (names_of (before ++ xs)) ≡ true
  words : words_of (before ++ xs) ≤ word_limit

segments_fit : (n : ℕ) (before xs : List Segment) → (times segment_row push n before).Fits xs
    → are_apart (names_of before) ≡ true → words_of before ≤ word_limit → SegmentsAre before xs
unfolding cons
segments_fit zero before xs fits apart few =
    subst (SegmentsAre before) (sym fits) (record {
      segments = tt;
      names = ap (λ (ys : List Segment). are_apart (names_of ys)) (append-nil before) ∙ apart;
      words = subst (λ (ys : List Segment). words_of ys ≤ word_limit) (sym (append-nil before)) few;
    })
segments_fit (suc n) before [] fits apart few = absurd fits
segments_fit (suc n) before (s ∷ xs) fits apart few =
    let is = segment_fits before s fits.0 in
    let more = apart-push (names_of before) s.name apart is.other in
    let rest = segments_fit n (push before s) xs fits.1 (ap are_apart (names-push before s) ∙ more)
    (omega (arith, words_of-push before s, is.few)) in
    let same : push before s ++ xs ≡ before ++ s ∷ xs = append_assoc before (s ∷ []) xs in
    record {
      segments = (is.segment, rest.segments);
      names = ap (λ (ys : List Segment). are_apart (names_of ys)) (sym same) ∙ rest.names;
      words = subst (λ (ys : List Segment). words_of ys ≤ word_limit) same rest.words;
    }

fit_segments : (before xs : List Segment) → SegmentsAre before xs → (times segment_row push (length xs) before).Fits xs
unfolding cons
fit_segments before [] are = refl
fit_segments before (s ∷ xs) are =
    let same : push before s ++ xs ≡ before ++ s ∷ xs = append_assoc before (s ∷ []) xs in (
      fits_segment before s (record {
        segment = are.segments.0;
        other = apart-before before s xs are.names;
        few = omega (arith, words_of-append before (s ∷ xs), are.words);
      }),
      fit_segments (push before s) xs (record {
        segments = are.segments.1;
        names = ap (λ (ys : List Segment). are_apart (names_of ys)) same ∙ are.names;
        words = subst (λ (ys : List Segment). words_of ys ≤ word_limit) (sym same) are.words;
      }),
    )

-- 3. Externals.

ascend-push : (names : List (List ℕ)) (n : List ℕ) → ascend names ≡ true → is_late names n ≡ false
    → ascend (names ++ n ∷ []) ≡ true
ascend-push [] n up late = refl
ascend-push (a ∷ []) n up late = and_from _ _ (not-false _ late) refl
ascend-push (a ∷ b ∷ names) n up late =
    let p = and_parts (is_before a b) (ascend (b ∷ names)) up in and_from _ _ p.0 (ascend-push (b ∷ names) n p.1 late)

ascend-late : (names : List (List ℕ)) (n : List ℕ) (others : List (List ℕ)) → ascend (names ++ n ∷ others) ≡ true
    → is_late names n ≡ false
ascend-late [] n others up = refl
ascend-late (a ∷ []) n others up = ap not (and_parts (is_before a n) (ascend (n ∷ others)) up).0
ascend-late (a ∷ b ∷ names) n others up =
    ascend-late (b ∷ names) n others (and_parts (is_before a b) (ascend (b ∷ names ++ n ∷ others)) up).1

module _ (segments : List Segment) where
  abbrev is_own : List ℕ → Bool
  is_own name = is_among name (names_of segments)

  -- externals after others
  record ExternalsAre (before xs : List (List ℕ)) : Type 0 where
    names : list_all is_name xs ≡ true
    rising : ascend (before ++ xs) ≡ true
    foreign : list_any is_own xs ≡ false

  externals_fit : (n : ℕ) (before xs : List (List ℕ)) → (times (external_row segments) push n before).Fits xs
      → ascend before ≡ true → ExternalsAre before xs
  unfolding cons external_row
  externals_fit zero before xs fits up = subst (ExternalsAre before) (sym fits) (record {
    names = refl;
    rising = ap ascend (append-nil before) ∙ up;
    foreign = refl;
  })
  externals_fit (suc n) before [] fits up = absurd fits
  externals_fit (suc n) before (x ∷ xs) fits up =
      let p = or_parts _ _ fits.0.1 in
      let rest = externals_fit n (push before x) xs fits.1 (ascend-push before x up p.1) in
      record {
        names = and_from _ _ (name_fits x fits.0.0) rest.names;
        rising = ap ascend (sym (append_assoc before (x ∷ []) xs)) ∙ rest.rising;
        foreign = or_from _ _ p.0 rest.foreign;
      }

  fit_externals : (before xs : List (List ℕ)) → ExternalsAre before xs
      → (times (external_row segments) push (length xs) before).Fits xs
  unfolding cons external_row
  fit_externals before [] are = refl
  fit_externals before (x ∷ xs) are =
      let names = and_parts _ _ are.names in
      let foreign = or_parts _ _ are.foreign in (
        (fits_name x names.0, or_from _ _ foreign.0 (ascend-late before x xs are.rising)),
        fit_externals (push before x) xs (record {
          names = names.1;
          rising = ap ascend (append_assoc before (x ∷ []) xs) ∙ are.rising;
          foreign = foreign.1;
        }),
      )

-- 4. Relocations.

fits_perm : (number : ℕ) (p : Perm) → (perm_row number).Fits p
unfolding perm_row
fits_perm number p =
    let known = perm_of-code_of p in (
      (omega (arith, (code_of-in_range p).1), ap (λ (o : Option Perm). not (is_some o)) known),
      sym (ap (λ (o : Option Perm). unwrap_or o Key) known),
    )

fits_target : (t : Target) → t.index < 2 ^ 16 → t.addend < 2 ^ 32 → target_row.Fits t
unfolding target_row
fits_target t index addend = (index, (addend, refl))

module _ (segments : List Segment) (externals : ℕ) where
  relocs_fit : (n least : ℕ) (rs : List Reloc)
      → (times (reloc_row segments externals) (λ _ r. place_of r + 1) n least).Fits rs
      → (list_all (is_reloc segments externals) rs ≡ true) × Rise place_of least rs
  unfolding cons good_reloc
  relocs_fit zero least rs fits =
      subst (λ (xs : List Reloc). (list_all (is_reloc segments externals) xs ≡ true) × Rise place_of least xs)
      (sym fits) (refl, tt)
  relocs_fit (suc n) least [] fits = absurd fits
  relocs_fit (suc n) least (r ∷ rs) fits =
      let p = or_parts _ _ fits.0.1 in
      let rest = relocs_fit n (place_of r + 1) rs fits.1 in
      (and_from _ _ (not-false _ p.0) rest.0, (ltb-false (place_of r) least p.1, rest.1))

  -- the values of registers
  values_fit : (tags : List Bool) (regs : List Value) → (each value_row tags).Fits regs → AllByRecursion IsNumber regs
  unfolding cons integer_row pointer_row
  values_fit [] regs fits = subst (AllByRecursion IsNumber) (sym fits) tt
  values_fit (b ∷ tags) [] fits = absurd fits
  values_fit (true ∷ tags) (v ∷ regs) fits = (subst IsNumber (sym fits.0.1.1.1) tt, values_fit tags regs fits.1)
  values_fit (false ∷ tags) (v ∷ regs) fits = (subst IsNumber (sym fits.0.1) fits.0.0, values_fit tags regs fits.1)

  record ThreadsAre (least : ℕ) (ts : List Thread) : Type 0 where
    threads : list_all (is_thread segments externals) ts ≡ true
    rise : Rise (λ (t : Thread). t.slot) least ts
    whole : AllByRecursion (λ (t : Thread). length t.regs ≡ 16) ts
    integers : AllByRecursion (λ (t : Thread). AllByRecursion IsNumber t.regs) ts

  threads_fit : (n least : ℕ) (ts : List Thread)
      → (times (thread_row segments externals) (λ _ t. t.slot + 1) n least).Fits ts → ThreadsAre least ts
  unfolding cons good_thread thread_fields mask flags_of
  threads_fit zero least ts fits =
      subst (ThreadsAre least) (sym fits) (record { threads = refl; rise = tt; whole = tt; integers = tt })
  threads_fit (suc n) least [] fits = absurd fits
  threads_fit (suc n) least (t ∷ ts) fits =
      let p = or_parts _ _ fits.0.1 in
      let rest = threads_fit n (t.slot + 1) ts fits.1 in
      let own = fits.0.0.1.1.1.1.1 in
      record {
        threads = and_from _ _ (not-false _ p.0) rest.threads;
        rise = (ltb-false t.slot least p.1, rest.rise);
        whole = (sym (length-map t.regs is_tagged) ∙ ap length own.0.1, rest.whole);
        integers = (values_fit _ t.regs own.1.0, rest.integers);
      }

  module _ (own : AllByRecursion IsSegment segments) (few : length segments + externals ≤ 1280) where
    fits_near : (t : Target) → is_target segments externals t ≡ true → target_row.Fits t
    fits_near t is =
        let small = target_small segments own externals t is in
        fits_target t (omega (arith, small.0, few)) (omega (arith, small.1))

    fit_relocs : (least : ℕ) (rs : List Reloc) → list_all (is_reloc segments externals) rs ≡ true
        → Rise place_of least rs → (times (reloc_row segments externals) (λ _ r. place_of r + 1) (length rs) least).Fits rs
    unfolding cons good_reloc reloc_fields
    fit_relocs least [] good rise = refl
    fit_relocs least (r ∷ rs) good rise =
        let p = and_parts _ _ good in
        let small = reloc_small segments own externals r p.0 in (
          (
            (
              omega (arith, small.0, few),
              (
                omega (arith, small.1),
                (
                  fits_perm 7 r.perm,
                  (fits_target r.target (omega (arith, small.2, few)) (omega (arith, small.3)), refl),
                ),
              ),
            ),
            or_from _ _ (ap not p.0) (le-ltb (place_of r) least rise.0),
          ),
          fit_relocs (place_of r + 1) rs p.1 rise.1,
        )

    fit_values : (regs : List Value) → list_all (is_value segments externals) regs ≡ true
        → AllByRecursion IsNumber regs → (each value_row (map is_tagged regs)).Fits regs
    unfolding cons integer_row pointer_row
    fit_values [] good numbers = refl
    fit_values (Int n ∷ regs) good numbers =
        ((numbers.0, refl), fit_values regs (and_parts true (list_all (is_value segments externals) regs) good).1 numbers.1)
    fit_values (Ptr p t ∷ regs) good numbers =
        let tests = and_parts (is_target segments externals t) (list_all (is_value segments externals) regs) good in (
          (fits_perm 8 p, ((omega arith, refl), (fits_near t tests.0, refl))),
          fit_values regs tests.1 numbers.1,
        )

    handler_fits : (slot : ℕ) (h : Option ℕ) → is_handler slot h ≡ true → (handler_byte h < 256)
        × (h ≡ cond (handler_byte h == 255) None (Some (handler_byte h)))
    handler_fits slot None e = (omega arith, refl)
    handler_fits slot (Some h) e =
        let small = ltb-true h 16 (and_parts _ _ e).0 in
        let other : (h == 255) ≡ false = grind (arith, nat_tests) in
        (omega (arith, small), ap (λ b. cond b None (Some h)) (sym other))

    fits_thread : (t : Thread) → is_thread segments externals t ≡ true → length t.regs ≡ 16
        → AllByRecursion IsNumber t.regs → thread_fields.Fits t
    unfolding thread_fields
    fits_thread t good whole numbers =
        let p5 = and_parts _ _ good in
        let p4 = and_parts _ _ p5.0 in
        let p3 = and_parts _ _ p4.0 in
        let p2 = and_parts _ _ p3.0 in
        let p1 = and_parts _ _ p2.0 in
        let handler = handler_fits t.slot t.handler p2.1 in
        let make : Option ℕ → Thread = λ h. record {
          slot = t.slot;
          group = t.group;
          handler = h;
          perm = t.perm;
          target = t.target;
          regs = t.regs;
        } in (
          omega (arith, ltb-true t.slot 16 p1.0),
          (
            omega (arith, ltb-true t.group 16 p1.1),
            (
              handler.0,
              (
                fits_perm 8 t.perm,
                (
                  fits_near t.target p4.1,
                  (
                    fits_mask (map is_tagged t.regs) (length-map t.regs is_tagged ∙ whole),
                    (fit_values t.regs p5.1 numbers, ap make handler.1),
                  ),
                ),
              ),
            ),
          ),
        )

    fit_threads : (least : ℕ) (ts : List Thread) → ThreadsAre least ts
        → (times (thread_row segments externals) (λ _ t. t.slot + 1) (length ts) least).Fits ts
    unfolding cons good_thread
    fit_threads least [] are = refl
    fit_threads least (t ∷ ts) are =
        let p = and_parts _ _ are.threads in (
          (
            fits_thread t p.0 are.whole.0 are.integers.0,
            or_from _ _ (ap not p.0) (le-ltb t.slot least are.rise.0),
          ),
          fit_threads (t.slot + 1) ts
              (record { threads = p.1; rise = are.rise.1; whole = are.whole.1; integers = are.integers.1 }),
        )

-- 5. Uses.

module _ (targets : List Target) where
  abbrev is_use : ℕ → Bool
  is_use index = list_any (λ (t : Target). t.index == index) targets

  all_used : (index offset : ℕ) (names : List (List ℕ)) → first_late 0 (use_tests targets index offset names) ≡ None
      → (i : ℕ) → i < length names → is_use (index + i) ≡ true
  all_used index offset [] right i lt = absurd (omega arith)
  all_used index offset (n ∷ names) right zero lt =
      let p = no_late (is_unused targets index) (5, 0 + offset)
      (first_late 0 (use_tests targets (index + 1) (offset + (1 + length n)) names)) right in
      let here : index + 0 ≡ index = omega arith in
      ap is_use here ∙ not-false _ p.0
  all_used index offset (n ∷ names) right (suc i) lt =
      let p = no_late (is_unused targets index) (5, 0 + offset)
      (first_late 0 (use_tests targets (index + 1) (offset + (1 + length n)) names)) right in
      let next : index + suc i ≡ index + 1 + i = omega arith in
      ap is_use next ∙ all_used (index + 1) (offset + (1 + length n)) names p.1 i (omega arith)

  used_all : (index offset : ℕ) (names : List (List ℕ)) → ((i : ℕ) → i < length names → is_use (index + i) ≡ true)
      → first_late 0 (use_tests targets index offset names) ≡ None
  used_all index offset [] used = refl
  used_all index offset (n ∷ names) used =
      let here : index ≡ index + 0 = omega arith in
      let first : is_unused targets index ≡ false = ap not (ap is_use here ∙ used 0 (omega arith)) in
      ap (λ b. cond b (Some (5, 0 + offset)) (first_late 0 (use_tests targets (index + 1) (offset + (1 + length n)) names)))
      first
      ∙ used_all (index + 1) (offset + (1 + length n)) names (λ i lt.
      let next : index + 1 + i ≡ index + suc i = omega arith in
      ap is_use next ∙ used (suc i) (omega arith))

-- 6. The whole.

pub object_fits : (o : Object) → object.Fits o → IsObject o
unfolding object header_row pointers_row
object_fits o fits =
    let h = fits.0.1.1 in
    let p = fits.1.1.0 in
    let s = segments_fit _ [] o.segments fits.1.0 refl (omega arith) in
    let x = externals_fit o.segments _ [] o.externals p.0.0 refl in
    let r = relocs_fit o.segments _ _ 0 o.relocs p.0.1.0 in
    let t = threads_fit o.segments _ _ 0 o.threads p.0.1.1.0 in
    record {
      few_segments = ltb-false _ _ h.0.1;
      segments = s.segments;
      names = s.names;
      few_words = s.words;
      few_externals = ltb-false _ _ h.1.0.1;
      externals = x.names;
      rising = x.rising;
      foreign = x.foreign;
      used = all_used (targets_of o.relocs o.threads) (length o.segments) 0 o.externals p.1;
      few_relocs = omega (arith, h.1.1.0);
      relocs = r.0;
      in_order = rises place_of 0 o.relocs r.1;
      few_threads = ltb-false _ _ h.1.1.1.0.1;
      threads = t.threads;
      whole = t.whole;
      slots = rises (λ (t : Thread). t.slot) 0 o.threads t.rise;
      integers = t.integers;
      few_spare = ltb-false _ _ h.1.1.1.1.0.1;
    }

pub fits_object : (o : Object) → IsObject o → object.Fits o
unfolding object header_row pointers_row
fits_object o is =
    let few : length o.segments + length o.externals ≤ 1280 = omega (arith, is.few_segments, is.few_externals) in (
      (
        (refl, refl),
        (
          (omega arith, refl),
          (
            (omega (arith, is.few_segments), le-ltb 256 (length o.segments) is.few_segments),
            (
              (omega (arith, is.few_externals), le-ltb 1024 (length o.externals) is.few_externals),
              (
                omega (arith, is.few_relocs),
                (
                  (omega (arith, is.few_threads), le-ltb 16 (length o.threads) is.few_threads),
                  ((omega (arith, is.few_spare), le-ltb 256 o.spare is.few_spare), refl),
                ),
              ),
            ),
          ),
        ),
      ),
      (
        fit_segments [] o.segments (record { segments = is.segments; names = is.names; words = is.few_words }),
        (
          (
            (
              fit_externals o.segments [] o.externals
                  (record { names = is.externals; rising = is.rising; foreign = is.foreign }),
              (
                fit_relocs o.segments (length o.externals) is.segments few 0 o.relocs is.relocs
                    (rise_all place_of o.relocs is.in_order),
                (
                  fit_threads o.segments (length o.externals) is.segments few 0 o.threads (record {
                    threads = is.threads;
                    rise = rise_all (λ (t : Thread). t.slot) o.threads is.slots;
                    whole = is.whole;
                    integers = is.integers;
                  }),
                  refl,
                ),
              ),
            ),
            used_all (targets_of o.relocs o.threads) (length o.segments) 0 o.externals is.used,
          ),
          refl,
        ),
      ),
    )
