-- The relocations of a draft: each replaces a word that is 0, they are in order, and there is one for each pointer.
use Rattle.std.proofs.Common.{◌≡◌, ℕ, zero, suc, ◌+◌, ◌*◌, ◌^◌, ◌≤◌, true, ◌==◌, if◌then◌else◌, List, [], ◌∷◌, ◌++◌}
use Rattle.std.proofs.Common.{map, length, slice_get, Option, Some, option_map, refl, sym, ap, ◌∙◌, subst, inl, arith}
use Rattle.std.proofs.{Common.length-append, lemmas.{List.map-append, Bool.and_from}}
use Rattle.std.specs.List.{flat_map, AllByRecursion, Sorted.IsStrictlyIncreasing}
use Rattle.mm_line.specs.declared.statement.{Constant.TheVariants.{Integer, Pointer}, Content.Content}
use Rattle.mm_draft.specs.{declared.segment.Word.Word, Drafts.{Draft, is_pointer, pointers_among, pointers_of}}
use Rattle.mm_object.specs.declared.{item.Item.Item, target.{Target.Target, Reloc.Reloc}}
use Rattle.mm_object.specs.Objects.{Segment, is_target, item_of, is_zero, is_reloc, place_of}
use Rattle.mm_object.proofs.Members.{In, in_left, in_right, each_more}
use Rattle.mm_asm.specs.Names.{Use, content_uses, word_uses, segment_uses}
use Rattle.mm_asm.specs.Meaning.{bits_of, word_items, segment_of, target_of, content_relocs, words_relocs}
use Rattle.mm_asm.{specs.Meaning.segments_relocs, proofs.Lists.get_map}
use Rattle.mm_line.specs.declared.statement.Content.TheVariants as content
use Rattle.mm_draft.specs.Drafts as draft

-- 1. Numbers that rise from one bound to another.

abbrev pub RisesWithin : ℕ → ℕ → List ℕ → Type 0
RisesWithin low high [] = low ≤ high
RisesWithin low high (n ∷ numbers) = (low ≤ n) × RisesWithin (n + 1) high numbers

pub lower : (lowest low high : ℕ) (numbers : List ℕ) → lowest ≤ low → RisesWithin low high numbers → RisesWithin lowest high numbers
lower lowest low high [] le h = omega arith
lower lowest low high (n ∷ numbers) le h = (omega (arith, h.0), h.1)

pub higher : (low high highest : ℕ) (numbers : List ℕ) → high ≤ highest → RisesWithin low high numbers → RisesWithin low highest numbers
higher low high highest [] le h = omega arith
higher low high highest (n ∷ numbers) le h = (h.0, higher (n + 1) high highest numbers le h.1)

pub in_turn : (low mid high : ℕ) (ms ns : List ℕ) → RisesWithin low mid ms → RisesWithin mid high ns → RisesWithin low high (ms ++ ns)
in_turn low mid high [] ns h k = lower low mid high ns h k
in_turn low mid high (m ∷ ms) ns h k = (h.0, in_turn (m + 1) mid high ms ns h.1 k)

pub as_many : (low high : ℕ) (numbers : List ℕ) → RisesWithin low high numbers → low + length numbers ≤ high
as_many low high [] h = omega arith
as_many low high (n ∷ numbers) h = omega (arith, h.0, as_many (n + 1) high numbers h.1)

pub rises : (low high : ℕ) (numbers : List ℕ) → RisesWithin low high numbers → IsStrictlyIncreasing numbers
rises low high [] h k lt = absurd (omega arith)
rises low high (a ∷ []) h k lt = absurd (omega arith)
rises low high (a ∷ b ∷ numbers) h zero lt = omega (arith, h.1.0)
rises low high (a ∷ b ∷ numbers) h (suc k) lt =
    let next : suc k + 1 ≡ suc (k + 1) = omega arith in
    rw next (rises (a + 1) high (b ∷ numbers) h.1 k (omega arith))

-- 2. Places.

module _ (d : Draft) where
  content_rises : (segment k : ℕ) (c : Content) → RisesWithin (segment * 2 ^ 32 + k) (segment * 2 ^ 32 + (k + 1)) (map place_of (content_relocs d segment k c))
  content_rises segment k (content.Constant (Pointer perm target)) = (omega arith, omega arith)
  content_rises segment k (content.Constant (Integer n)) = omega arith
  content_rises segment k (content.Code code) = omega arith

  words_rise : (segment k : ℕ) (words : List Word) → RisesWithin (segment * 2 ^ 32 + k) (segment * 2 ^ 32 + (k + length words)) (map place_of (words_relocs d segment k words))
  words_rise segment k [] = omega arith
  words_rise segment k (w ∷ words) =
      let high : segment * 2 ^ 32 + (k + 1 + length words) ≤ segment * 2 ^ 32 + (k + length (w ∷ words)) = omega arith in
      let first = content_rises segment k w.content in
      let later = words_rise segment (k + 1) words in
      let both = in_turn (segment * 2 ^ 32 + k) (segment * 2 ^ 32 + (k + 1)) (segment * 2 ^ 32 + (k + 1 + length words))
      (map place_of (content_relocs d segment k w.content)) (map place_of (words_relocs d segment (k + 1) words))
      first later in
      let same = map-append place_of (content_relocs d segment k w.content) (words_relocs d segment (k + 1) words) in
      subst (RisesWithin (segment * 2 ^ 32 + k) (segment * 2 ^ 32 + (k + length (w ∷ words)))) (sym same) (higher (segment * 2 ^ 32 + k) _ _ _ high both)

  pub segments_rise : (segment : ℕ) (segments : List draft.Segment)
      → AllByRecursion (λ (s : draft.Segment). length s.words ≤ 2 ^ 32) segments → RisesWithin (segment * 2 ^ 32)
      ((segment + length segments) * 2 ^ 32) (map place_of (segments_relocs d segment segments))
  segments_rise segment [] h = omega arith
  segments_rise segment (s ∷ segments) h =
      let high : (segment + 1 + length segments) * 2 ^ 32 ≤ (segment + length (s ∷ segments)) * 2 ^ 32 = omega arith in
      let room : segment * 2 ^ 32 + (0 + length s.words) ≤ (segment + 1) * 2 ^ 32 = omega (arith, h.0) in
      let first = lower (segment * 2 ^ 32) (segment * 2 ^ 32 + 0) _ _ (omega arith) (higher _ _ ((segment + 1) * 2 ^ 32) _ room (words_rise segment 0 s.words)) in
      let later = segments_rise (segment + 1) segments h.1 in
      let both = in_turn (segment * 2 ^ 32) ((segment + 1) * 2 ^ 32) ((segment + 1 + length segments) * 2 ^ 32)
      (map place_of (words_relocs d segment 0 s.words)) (map place_of (segments_relocs d (segment + 1) segments))
      first later in
      let same = map-append place_of (words_relocs d segment 0 s.words) (segments_relocs d (segment + 1) segments) in
      subst (RisesWithin (segment * 2 ^ 32) ((segment + length (s ∷ segments)) * 2 ^ 32)) (sym same) (higher _ _ _ _ high both)

  -- 3. How many.

  content_count : (segment k : ℕ) (c : Content) → length (content_relocs d segment k c) ≡ (if is_pointer c then 1 else 0)
  content_count segment k (content.Constant (Pointer perm target)) = refl
  content_count segment k (content.Constant (Integer n)) = refl
  content_count segment k (content.Code code) = refl

  words_count : (segment k : ℕ) (words : List Word) → length (words_relocs d segment k words) ≡ pointers_among words
  words_count segment k [] = refl
  words_count segment k (w ∷ words) =
      omega (arith, length-append (content_relocs d segment k w.content) (words_relocs d segment (k + 1) words), content_count segment k w.content, words_count segment (k + 1) words)

  pub segments_count : (segment : ℕ) (segments : List draft.Segment) → length (segments_relocs d segment segments) ≡ pointers_of segments
  segments_count segment [] = refl
  segments_count segment (s ∷ segments) =
      omega (arith, length-append (words_relocs d segment 0 s.words) (segments_relocs d (segment + 1) segments), words_count segment 0 s.words, segments_count (segment + 1) segments)

  -- 4. Targets.

  content_targets : (segment k : ℕ) (w : Word) → map (λ (r : Reloc). r.target) (content_relocs d segment k w.content) ≡ map (λ (u : Use). target_of d u.target) (word_uses w)
  content_targets segment k w = by w.content
    where
      by : (c : Content) → map (λ (r : Reloc). r.target) (content_relocs d segment k c) ≡ map (λ (u : Use). target_of d u.target) (content_uses w.source c)
      by (content.Constant (Pointer perm target)) = refl
      by (content.Constant (Integer n)) = refl
      by (content.Code code) = refl

  words_targets : (segment k : ℕ) (words : List Word) → map (λ (r : Reloc). r.target) (words_relocs d segment k words) ≡ map (λ (u : Use). target_of d u.target) (flat_map word_uses words)
  words_targets segment k [] = refl
  words_targets segment k (w ∷ words) =
      map-append (λ (r : Reloc). r.target) (content_relocs d segment k w.content) (words_relocs d segment (k + 1) words)
      ∙ ap (λ (ts : List Target). ts ++ map (λ (r : Reloc). r.target) (words_relocs d segment (k + 1) words)) (content_targets segment k w)
      ∙ ap (λ (ts : List Target). map (λ (u : Use). target_of d u.target) (word_uses w) ++ ts) (words_targets segment (k + 1) words)
      ∙ sym (map-append (λ (u : Use). target_of d u.target) (word_uses w) (flat_map word_uses words))

  pub segments_targets : (segment : ℕ) (segments : List draft.Segment) → map (λ (r : Reloc). r.target)
      (segments_relocs d segment segments) ≡ map (λ (u : Use). target_of d u.target) (flat_map segment_uses segments)
  segments_targets segment [] = refl
  segments_targets segment (s ∷ segments) =
      map-append (λ (r : Reloc). r.target) (words_relocs d segment 0 s.words) (segments_relocs d (segment + 1) segments)
      ∙ ap (λ (ts : List Target). ts ++ map (λ (r : Reloc). r.target) (segments_relocs d (segment + 1) segments)) (words_targets segment 0 s.words)
      ∙ ap (λ (ts : List Target). map (λ (u : Use). target_of d u.target) (segment_uses s) ++ ts) (segments_targets (segment + 1) segments)
      ∙ sym (map-append (λ (u : Use). target_of d u.target) (segment_uses s) (flat_map segment_uses segments))

  -- 5. The words that they replace.

  get_items : (k i : ℕ) (words : List Word) → slice_get (word_items d k words) i ≡ option_map (λ (w : Word). record { bits = bits_of d (k + i) w.content; full = w.full }) (slice_get words i)
  get_items k i [] = refl
  get_items k zero (w ∷ words) = let same : k ≡ k + 0 = omega arith in ap (λ (n : ℕ). Some (let item : Item = record { bits = bits_of d n w.content; full = w.full } in item)) same
  get_items k (suc i) (w ∷ words) =
      let same : k + 1 + i ≡ k + suc i = omega arith in
      get_items (k + 1) i words ∙ ap (λ (n : ℕ). option_map (λ (v : Word). let item : Item = record { bits = bits_of d n v.content; full = v.full } in item) (slice_get words i)) same

  module _ (externals : ℕ) where
    abbrev all : List Segment
    all = map (segment_of d) d.segments

    content_replaces : (segment k : ℕ) (s : draft.Segment) (w : Word) → slice_get d.segments segment ≡ Some s → slice_get s.words k ≡ Some w →
        ((u : Use) → In u (word_uses w) → is_target all externals (target_of d u.target) ≡ true)
        → AllByRecursion (λ (r : Reloc). is_reloc all externals r ≡ true) (content_relocs d segment k w.content)
    content_replaces segment k s w is_segment is_word targets = by w.content refl
      where
        item : item_of (slice_get all segment) k ≡ Some (record { bits = bits_of d (0 + k) w.content; full = w.full })
        item =
            ap (λ (o : Option Segment). item_of o k) (get_map (segment_of d) d.segments segment ∙ ap (option_map (segment_of d)) is_segment)
            ∙ get_items 0 k s.words ∙ ap (option_map (λ (v : Word). let i : Item = record { bits = bits_of d (0 + k) v.content; full = v.full } in i)) is_word

        by : (c : Content) → w.content ≡ c → AllByRecursion (λ (r : Reloc). is_reloc all externals r ≡ true) (content_relocs d segment k c)
        by (content.Constant (Pointer perm target)) e =
            let zero_bits : is_zero (item_of (slice_get all segment) k) ≡ true = ap is_zero item ∙ ap (λ (c : Content). bits_of d (0 + k) c == 0) e in
            let u : Use = record { target = target; source = w.source } in
            let m : In u (word_uses w) = subst (λ (c : Content). In u (content_uses w.source c)) (sym e) (inl refl) in
            (and_from _ _ zero_bits (targets u m), tt)
        by (content.Constant (Integer n)) e = tt
        by (content.Code code) e = tt

    words_replace : (segment k : ℕ) (s : draft.Segment) (words : List Word) → slice_get d.segments segment ≡ Some s → ((i : ℕ) → slice_get s.words (k + i) ≡ slice_get words i) →
        ((u : Use) → In u (flat_map word_uses words) → is_target all externals (target_of d u.target) ≡ true)
        → AllByRecursion (λ (r : Reloc). is_reloc all externals r ≡ true) (words_relocs d segment k words)
    words_replace segment k s [] is_segment is_words targets = tt
    words_replace segment k s (w ∷ words) is_segment is_words targets =
        let first : slice_get s.words k ≡ Some w = let same : k ≡ k + 0 = omega arith in ap (slice_get s.words) same ∙ is_words 0 in
        let rest : (i : ℕ) → slice_get s.words (k + 1 + i) ≡ slice_get words i = λ i. let same : k + 1 + i ≡ k + suc i = omega arith in ap (slice_get s.words) same ∙ is_words (suc i) in
        each_more (λ (r : Reloc). is_reloc all externals r ≡ true) (content_relocs d segment k w.content) (words_relocs d segment (k + 1) words)
        (content_replaces segment k s w is_segment first (λ u m. targets u (in_left u (word_uses w) (flat_map word_uses words) m)))
        (words_replace segment (k + 1) s words is_segment rest (λ u m. targets u (in_right u (word_uses w) (flat_map word_uses words) m)))

    pub segments_replace : (segment : ℕ) (segments : List draft.Segment) → ((i : ℕ) → slice_get d.segments (segment + i) ≡ slice_get segments i) →
        ((u : Use) → In u (flat_map segment_uses segments) → is_target all externals (target_of d u.target) ≡ true)
        → AllByRecursion (λ (r : Reloc). is_reloc all externals r ≡ true) (segments_relocs d segment segments)
    segments_replace segment [] is_segments targets = tt
    segments_replace segment (s ∷ segments) is_segments targets =
        let first : slice_get d.segments segment ≡ Some s = let same : segment ≡ segment + 0 = omega arith in ap (slice_get d.segments) same ∙ is_segments 0 in
        let rest : (i : ℕ) → slice_get d.segments (segment + 1 + i) ≡ slice_get segments i = λ i. let same : segment + 1
        + i ≡ segment + suc i = omega arith in ap (slice_get d.segments) same ∙ is_segments (suc i) in
        each_more (λ (r : Reloc). is_reloc all externals r ≡ true) (words_relocs d segment 0 s.words) (segments_relocs d (segment + 1) segments)
        (words_replace segment 0 s s.words first (λ i. let same : 0 + i ≡ i = omega arith in ap (slice_get s.words)
        same) (λ u m. targets u (in_left u (segment_uses s) (flat_map segment_uses segments) m)))
        (segments_replace (segment + 1) segments rest (λ u m. targets u (in_right u (segment_uses s) (flat_map segment_uses segments) m)))
