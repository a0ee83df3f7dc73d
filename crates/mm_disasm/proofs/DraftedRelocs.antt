-- The relocations that are found at the words of an object, one word after the other, are all of them.
use Rattle.std.proofs.Common.{◌≡◌, ℕ, zero, suc, ◌+◌, ◌*◌, ◌^◌, ◌<◌, ◌≤◌, Bool, true, false, ◌&&◌, ◌==◌, cond, List, []}
use Rattle.std.proofs.Common.{◌∷◌, ◌++◌, map, length, slice_get, Option, Some, None, refl, sym, ap, ◌∙◌, subst, inl}
use Rattle.std.proofs.{Common.{inr, arith}, lemmas.{List.map-append, Bool.{and_parts, eqb-true, Decides.nat_tests}}}
use Rattle.std.specs.{Prelude.find, Option.option_to_list}
use Rattle.mm_object.specs.{declared.{item.Item.Item, target.Reloc.Reloc}, Lookups.{is_at, reloc_at}}
use Rattle.mm_object.specs.Objects.{Segment, Object, IsObject, words_of, place_of, item_of, is_zero, is_target}
use Rattle.mm_object.{specs.Objects.is_reloc, proofs.Members.{In, in_left, in_right, in_either}}
use Rattle.mm_asm.proofs.Relocs.{RisesWithin, lower, higher, in_turn, rises}
use Rattle.mm_disasm.proofs.DraftedOrder.{one_passes, Ascends, ascends_by, same_items, one_item}

-- those of the words of a segment from word k on
abbrev pub found_words : Object → (segment k : ℕ) → List Item → List Reloc
found_words o segment k [] = []
found_words o segment k (item ∷ items) = option_to_list (reloc_at o segment k) ++ found_words o segment (k + 1) items

-- those of the segments from a number on
abbrev pub found_segments : Object → (number : ℕ) → List Segment → List Reloc
found_segments o number [] = []
found_segments o number (s ∷ segments) = found_words o number 0 s.items ++ found_segments o (number + 1) segments

-- 1. What is found.

find_some : {A : Type 0} (p : A → Bool) (x : A) (xs : List A) → find p xs ≡ Some x → In x xs × (p x ≡ true)
find_some p x [] e = absurd cc
find_some p x (y ∷ xs) e = by (p y) refl e (find_some p x xs)
  where
    by : (b : Bool) → p y ≡ b → cond b (Some y) (find p xs) ≡ Some x → (find p xs ≡ Some x → In x xs × (p x ≡ true)) → In x (y ∷ xs) × (p x ≡ true)
    by true f g later = let same : x ≡ y = cc g in (inl same, ap p same ∙ f)
    by false f g later = let r = later g in (inr r.0, r.1)

find_only : {A : Type 0} (p : A → Bool) (x : A) (xs : List A) → In x xs → p x ≡ true → ((y : A) → In y xs → p y ≡ true → y ≡ x) → find p xs ≡ Some x
find_only p x [] m e only = absurd m
find_only p x (y ∷ xs) m e only = by (p y) refl m (λ n. find_only p x xs n e (λ z k. only z (inr k)))
  where
    by : (b : Bool) → p y ≡ b → In x (y ∷ xs) → (In x xs → find p xs ≡ Some x) → cond b (Some y) (find p xs) ≡ Some x
    by true f n later = ap Some (only y (inl refl) f)
    by false f (inl same) later = absurd (let g = ap p same in cc (e, f, g))
    by false f (inr n) later = later n

stands_at : (segment k : ℕ) (r : Reloc) → is_at segment k r ≡ true → (r.segment ≡ segment) × (r.word ≡ k)
stands_at segment k r e = let parts = and_parts (r.segment == segment) (r.word == k) e in (eqb-true r.segment segment parts.0, eqb-true r.word k parts.1)

module _ (o : Object) where
  pub found_at : (segment k : ℕ) (r : Reloc) → reloc_at o segment k ≡ Some r → In r o.relocs × (r.segment ≡ segment) × (r.word ≡ k)
  unfolding reloc_at
  found_at segment k r e =
      let found = find_some (is_at segment k) r o.relocs e in
      let at = stands_at segment k r found.1 in
      (found.0, at.0, at.1)

  found_one : (segment k : ℕ) (found : Option Reloc) (r : Reloc) → In r (option_to_list found) → found ≡ Some r
  found_one segment k None r m = absurd m
  found_one segment k (Some x) r (inl e) = ap Some (sym e)
  found_one segment k (Some x) r (inr m) = absurd m

  words_from : (segment k : ℕ) (items : List Item) (r : Reloc) → In r (found_words o segment k items) → In r o.relocs
  words_from segment k [] r m = absurd m
  words_from segment k (item ∷ items) r m =
      elim (in_either r (option_to_list (reloc_at o segment k)) (found_words o segment (k + 1) items) m) [
        | inl here ↦ (found_at segment k r (found_one segment k (reloc_at o segment k) r here)).0
        | inr later ↦ words_from segment (k + 1) items r later
      ]

  pub segments_from : (number : ℕ) (segments : List Segment) (r : Reloc) → In r (found_segments o number segments) → In r o.relocs
  segments_from number [] r m = absurd m
  segments_from number (s ∷ segments) r m =
      elim (in_either r (found_words o number 0 s.items) (found_segments o (number + 1) segments) m) [
        | inl here ↦ words_from number 0 s.items r here
        | inr later ↦ segments_from (number + 1) segments r later
      ]

  -- 2. Each relocation is found at its word.

  in_found : (found : Option Reloc) (r : Reloc) → found ≡ Some r → In r (option_to_list found)
  in_found None r e = absurd cc
  in_found (Some x) r e = inl (let same : r ≡ x = cc in same)

  in_words : (segment k i : ℕ) (items : List Item) (item : Item) (r : Reloc) → slice_get items i ≡ Some item → reloc_at o segment (k + i) ≡ Some r →
      In r (found_words o segment k items)
  in_words segment k i [] item r e f = absurd cc
  in_words segment k zero (x ∷ items) item r e f =
      let same : k + 0 ≡ k = omega arith in
      in_left r (option_to_list (reloc_at o segment k)) (found_words o segment (k + 1) items) (in_found (reloc_at o segment k) r (ap (reloc_at o segment) (sym same) ∙ f))
  in_words segment k (suc i) (x ∷ items) item r e f =
      let same : k + suc i ≡ k + 1 + i = omega arith in
      in_right r (option_to_list (reloc_at o segment k)) (found_words o segment (k + 1) items) (in_words segment (k + 1) i items item r e (ap (reloc_at o segment) (sym same) ∙ f))

  in_segments : (number i word : ℕ) (segments : List Segment) (s : Segment) (item : Item) (r : Reloc) → slice_get segments i ≡ Some s → slice_get s.items word ≡ Some item →
      reloc_at o (number + i) word ≡ Some r → In r (found_segments o number segments)
  in_segments number i word [] s item r e f g = absurd cc
  in_segments number zero word (x ∷ segments) s item r e f g =
      let same : number + 0 ≡ number = omega arith in
      let here : x ≡ s = cc e in
      let at : reloc_at o number (0 + word) ≡ Some r = let w : 0 + word ≡ word = omega arith in ap (reloc_at o number) w ∙ ap (λ (n : ℕ). reloc_at o n word) (sym same) ∙ g in
      in_left r (found_words o number 0 x.items) (found_segments o (number + 1) segments)
      (in_words number 0 word x.items item r (ap (λ (y : Segment). slice_get y.items word) here ∙ f) at)
  in_segments number (suc i) word (x ∷ segments) s item r e f g =
      let same : number + suc i ≡ number + 1 + i = omega arith in
      in_right r (found_words o number 0 x.items) (found_segments o (number + 1) segments)
      (in_segments (number + 1) i word segments s item r e f (ap (λ (n : ℕ). reloc_at o n word) (sym same) ∙ g))

  -- a relocation stands at a word that is 0
  pub record StandsAt (segment word : ℕ) : Type 0 where
    pub s : Segment
    pub item : Item
    pub is_segment : slice_get o.segments segment ≡ Some s
    pub is_item : slice_get s.items word ≡ Some item
    pub is_zero : item.bits ≡ 0

  stands : (found : Option Segment) (segment word : ℕ) → slice_get o.segments segment ≡ found → is_zero (item_of found word) ≡ true → StandsAt segment word
  stands None segment word e h = absurd cc
  stands (Some s) segment word e h = by (slice_get s.items word) refl h
    where
      by : (found : Option Item) → slice_get s.items word ≡ found → is_zero found ≡ true → StandsAt segment word
      by None f k = absurd cc
      by (Some item) f k = record { s = s; item = item; is_segment = e; is_item = f; is_zero = eqb-true item.bits 0 k }

  module _ (is : IsObject o) where
    each_reloc : (r : Reloc) → In r o.relocs → is_reloc o.segments (length o.externals) r ≡ true
    each_reloc r m = one_passes (is_reloc o.segments (length o.externals)) o.relocs r is.relocs m

    pub reloc_target : (r : Reloc) → In r o.relocs → is_target o.segments (length o.externals) r.target ≡ true
    reloc_target r m = (and_parts (is_zero (item_of (slice_get o.segments r.segment) r.word)) (is_target o.segments (length o.externals) r.target) (each_reloc r m)).1

    pub reloc_stands : (r : Reloc) → In r o.relocs → StandsAt r.segment r.word
    reloc_stands r m =
        stands (slice_get o.segments r.segment) r.segment r.word refl
        (and_parts (is_zero (item_of (slice_get o.segments r.segment) r.word)) (is_target o.segments (length o.externals) r.target) (each_reloc r m)).0

    relocs_ascend : Ascends (λ (x y : Reloc). place_of x < place_of y) o.relocs
    relocs_ascend = ascends_by place_of o.relocs is.in_order

    reloc_found : (r : Reloc) → In r o.relocs → reloc_at o r.segment r.word ≡ Some r
    unfolding reloc_at
    reloc_found r m =
        find_only (is_at r.segment r.word) r o.relocs m (here r.segment r.word)
        (λ y n e. let at = stands_at r.segment r.word y e in
        let same : place_of y ≡ place_of r = omega (arith, at.0, at.1) in
        one_item place_of y r o.relocs relocs_ascend n m same)
      where
        here : (a b : ℕ) → (a == a && b == b) ≡ true
        here a b = grind (arith, nat_tests)

    to_found : (r : Reloc) → In r o.relocs → In r (found_segments o 0 o.segments)
    to_found r m =
        let h = reloc_stands r m in
        let same : 0 + r.segment ≡ r.segment = omega arith in
        in_segments 0 r.segment r.word o.segments h.s h.item r h.is_segment h.is_item (ap (λ (n : ℕ). reloc_at o n r.word) same ∙ reloc_found r m)

  -- 3. They are found in order.

  one_rises : (segment k : ℕ) (found : Option Reloc) → reloc_at o segment k ≡ found →
      RisesWithin (segment * 2 ^ 32 + k) (segment * 2 ^ 32 + (k + 1)) (map place_of (option_to_list found))
  one_rises segment k None e = omega arith
  one_rises segment k (Some r) e = let at = found_at segment k r e in (omega (arith, at.1, at.2), omega (arith, at.1, at.2))

  words_rise : (segment k : ℕ) (items : List Item) → RisesWithin (segment * 2 ^ 32 + k) (segment * 2 ^ 32 + (k + length items)) (map place_of (found_words o segment k items))
  words_rise segment k [] = omega arith
  words_rise segment k (item ∷ items) =
      let high : segment * 2 ^ 32 + (k + 1 + length items) ≤ segment * 2 ^ 32 + (k + length (item ∷ items)) = omega arith in
      let first = one_rises segment k (reloc_at o segment k) refl in
      let later = words_rise segment (k + 1) items in
      let joined = in_turn (segment * 2 ^ 32 + k) (segment * 2 ^ 32 + (k + 1)) (segment * 2 ^ 32 + (k + 1 + length items))
      (map place_of (option_to_list (reloc_at o segment k))) (map place_of (found_words o segment (k + 1) items)) first later in
      let same = map-append place_of (option_to_list (reloc_at o segment k)) (found_words o segment (k + 1) items) in
      subst (RisesWithin (segment * 2 ^ 32 + k) (segment * 2 ^ 32 + (k + length (item ∷ items)))) (sym same) (higher (segment * 2 ^ 32 + k) _ _ _ high joined)

  segments_rise : (number : ℕ) (segments : List Segment) → words_of segments ≤ 2 ^ 32 →
      RisesWithin (number * 2 ^ 32) ((number + length segments) * 2 ^ 32) (map place_of (found_segments o number segments))
  segments_rise number [] h = omega arith
  segments_rise number (s ∷ segments) h =
      let high : (number + 1 + length segments) * 2 ^ 32 ≤ (number + length (s ∷ segments)) * 2 ^ 32 = omega arith in
      let room : number * 2 ^ 32 + (0 + length s.items) ≤ (number + 1) * 2 ^ 32 = omega (arith, h) in
      let first = lower (number * 2 ^ 32) (number * 2 ^ 32 + 0) _ _ (omega arith) (higher _ _ ((number + 1) * 2 ^ 32) _ room (words_rise number 0 s.items)) in
      let later = segments_rise (number + 1) segments (omega (arith, h)) in
      let joined = in_turn (number * 2 ^ 32) ((number + 1) * 2 ^ 32) ((number + 1 + length segments) * 2 ^ 32)
      (map place_of (found_words o number 0 s.items)) (map place_of (found_segments o (number + 1) segments)) first later in
      let same = map-append place_of (found_words o number 0 s.items) (found_segments o (number + 1) segments) in
      subst (RisesWithin (number * 2 ^ 32) ((number + length (s ∷ segments)) * 2 ^ 32)) (sym same) (higher _ _ _ _ high joined)

  -- 4. So they are all.

  pub found_all : IsObject o → found_segments o 0 o.segments ≡ o.relocs
  found_all is =
      let found : List Reloc = found_segments o 0 o.segments in
      let in_order = rises (0 * 2 ^ 32) ((0 + length o.segments) * 2 ^ 32) (map place_of found) (segments_rise 0 o.segments (omega (arith, is.few_words))) in
      same_items (λ (x y : Reloc). place_of x < place_of y) (λ x y lt gt. omega (arith, lt, gt)) found o.relocs
      (ascends_by place_of found in_order) (relocs_ascend is) (segments_from 0 o.segments) (to_found is)
