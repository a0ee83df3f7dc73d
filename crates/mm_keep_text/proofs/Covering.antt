-- The words of a set that lie in segments.
use Rattle.std.proofs.Common.{◌≡◌, ◌⊎◌, inl, inr, ℕ, ◌+◌, ◌*◌, ◌/◌, ◌%◌, ◌^◌, ◌&&◌, ◌||◌, ◌==◌, ◌<◌, ◌≤◌, Bool, true, false, not, List, []}
use Rattle.std.proofs.Common.{◌∷◌, length, take, get_or, refl, sym, ap, ◌∙◌, subst, arith, pow_pos, eq-eqb, eqb-true}
use Rattle.std.proofs.Math.{Nat.{div-mul-le_self, lt-div-mul-add, div-eq_of_lt-le, div-eq_of_lt, mod-eq_of_lt, lt_of_lt_of_le}, Pow.pow_mono}
use Rattle.std.proofs.lemmas.{Bool.Decides.nat_tests, List.{take_all, Folds.list_any-append}}
use Rattle.std.specs.declared.ops.Bound.TheVariants.{Included, Excluded}
use Rattle.std.specs.{Prelude.{Contains, ◌↔◌}, List.{filter, list_any, AllByRecursion}, Ordering.{nat_cmp, is_le}, BTreeMap.Range.range_contains}
use Rattle.std.specs.BTreeSet.{insert_key}
use Rattle.mm_kernel.specs.Segments.{Segment, lies_in}
use Rattle.mm_span.specs.Spans.{Span, AreSpans, IsWord}
use Rattle.mm_span.proofs.{Members.{in_first, in_rest, in_cases, none_in, all_at, all_of, in_filter, filter_in}, Runs.spans_alike}
use Rattle.mm_keep_text.specs.Parts.{AreAll, IsIn, covers}
use Rattle.mm_keep_text.proofs.Sets.{word_added, take_item, all_more}

-- 1. A segment.

next_block : (b u : ℕ) → b * u + u ≡ (b + 1) * u
next_block b u = grind arith

-- an address is in a segment if it is from its first address on, and before the first after it
pub in_short : (w base log : ℕ) → (lies_in w (base, log) ≡ true) ↔ ((base / 2 ^ log * 2 ^ log ≤ w) × (w < base / 2 ^ log * 2 ^ log + 2 ^ log))
in_short w base log = (
  λ h.
      let same : w / 2 ^ log ≡ base / 2 ^ log = eqb-true _ _ h in
      let lo = div-mul-le_self w (2 ^ log) in
      let hi = lt-div-mul-add {a = w} (pow_pos log) in
      (subst (λ q. q * 2 ^ log ≤ w) same lo, subst (λ q. w < q * 2 ^ log + 2 ^ log) same hi),
  λ h.
      let hi : w < (base / 2 ^ log + 1) * 2 ^ log = subst (λ v. w < v) (next_block (base / 2 ^ log) (2 ^ log)) h.1 in
      eq-eqb _ _ (div-eq_of_lt-le (2 ^ log) h.0 hi),
)

-- the same for words, of bounds that are numbers of 64 bits
pub in_bounds : (base log after : ℕ) → base < 2 ^ 64 → ((w : ℕ) → w < 2 ^ 54 → (w < after) ↔ (w < base / 2 ^ log * 2 ^ log + 2 ^ log))
    → (w : ℕ) → w < 2 ^ 54 → (lies_in w (base, log) ≡ true) ↔ ((base / 2 ^ log * 2 ^ log % 2 ^ 64 ≤ w) × (w < after))
in_bounds base log after small same w low = (
  λ h.
      let k = (in_short w base log).0 h in
      (subst (λ f. f ≤ w) (sym whole) k.0, (same w low).1 k.1),
  λ h. (in_short w base log).1 (subst (λ f. f ≤ w) whole h.0, (same w low).0 h.1),
)
  where
    whole : base / 2 ^ log * 2 ^ log % 2 ^ 64 ≡ base / 2 ^ log * 2 ^ log
    whole = let le = div-mul-le_self base (2 ^ log) in mod-eq_of_lt (omega (arith, le, small))

-- no word reaches the second block of a long segment
pub in_long : (w base log : ℕ) → 54 ≤ log → w < 2 ^ 54 → lies_in w (base, log) ≡ lies_in 0 (base, log)
in_long w base log long low =
    let less : w < 2 ^ log = lt_of_lt_of_le low (pow_mono long) in
    ap (λ q. q == base / 2 ^ log) (div-eq_of_lt less ∙ sym (div-eq_of_lt (pow_pos log)))

-- 2. The words of a range that are put into a set.

-- the set has what it had and the words that came, and some are left
pub record Covering (old all left now : List ℕ) : Type 0 where
  pub each : (w : ℕ) → (Contains now w ⊎ Contains left w) ↔ (Contains old w ⊎ Contains all w)

pub covering_begins : (old all : List ℕ) → Covering old all all old
covering_begins old all = record { each = λ w. (λ h. h, λ h. h) }

pub covering_more : (old all rest now : List ℕ) (word : ℕ) → Covering old all (word ∷ rest) now → Covering old all rest (insert_key nat_cmp now word)
covering_more old all rest now word h = record { each = λ w. (to w, from w) }
  where
    to : (w : ℕ) → Contains (insert_key nat_cmp now word) w ⊎ Contains rest w → Contains old w ⊎ Contains all w
    to w (inr later) = (h.each w).0 (inr (in_rest word rest w later))
    to w (inl there) = elim (((word_added now word).each w).0 there) [
      | inl before ↦ (h.each w).0 (inl before)
      | inr e ↦ (h.each w).0 (inr (subst (Contains (word ∷ rest)) e (in_first word rest)))
    ]

    from : (w : ℕ) → Contains old w ⊎ Contains all w → Contains (insert_key nat_cmp now word) w ⊎ Contains rest w
    from w k = elim ((h.each w).1 k) [
      | inl before ↦ inl (((word_added now word).each w).1 (inl before))
      | inr left ↦ elim (in_cases word rest w left) [
        | inl e ↦ inl (((word_added now word).each w).1 (inr e))
        | inr later ↦ inr later
      ]
    ]

-- the words from one on and before another
abbrev pub in_range : ℕ → ℕ → ℕ → Bool
in_range first after = range_contains nat_cmp (Included first) (Excluded after)

range_is : (first after w : ℕ) → (in_range first after w ≡ true) ↔ ((first ≤ w) × (w < after))
range_is first after w = (λ h. (grind (arith, nat_tests), grind (arith, nat_tests)), λ h. let a = h.0 in let b = h.1 in grind (arith, nat_tests))

-- what is covered by a segment, once no words are left
pub covering_ends : (old words left now : List ℕ) (part : Segment) (first after : ℕ) → AllByRecursion IsWord words
    → ((w : ℕ) → w < 2 ^ 54 → (lies_in w part ≡ true) ↔ ((first ≤ w) × (w < after))) → left ≡ []
    → Covering old (filter (in_range first after) words) left now → AreAll (λ w. Contains old w ⊎ IsIn words (part ∷ []) w) now
covering_ends old words left now part first after all bounds none h = record { each = λ w. (to w, from w) }
  where
    low : (w : ℕ) → Contains words w → w < 2 ^ 54
    low w there = let b = (all_at IsWord words w all there).1 in omega (arith, b)

    one : (w : ℕ) → lies_in w part ≡ true → covers (part ∷ []) w ≡ true
    one w e = ap (λ b. b || false) e

    back : (b : Bool) → (b || false) ≡ true → b ≡ true
    back true e = refl
    back false e = e

    to : (w : ℕ) → Contains now w → Contains old w ⊎ IsIn words (part ∷ []) w
    to w there = elim ((h.each w).0 (inl there)) [
      | inl before ↦ inl before
      | inr new ↦
          let k = filter_in (in_range first after) words w new in
          inr (record { word = k.0; covered = one w ((bounds w (low w k.0)).1 ((range_is first after w).0 k.1)) })
    ]

    from : (w : ℕ) → Contains old w ⊎ IsIn words (part ∷ []) w → Contains now w
    from w k = elim ((h.each w).1 (reach w k)) [
      | inl there ↦ there
      | inr later ↦ absurd (none_in w (subst (λ l. Contains l w) none later))
    ]
      where
        reach : (w : ℕ) → Contains old w ⊎ IsIn words (part ∷ []) w → Contains old w ⊎ Contains (filter (in_range first after) words) w
        reach w (inl before) = inl before
        reach w (inr i) =
            let e = back (lies_in w part) i.covered in
            inr (in_filter (in_range first after) words w i.word ((range_is first after w).1 ((bounds w (low w i.word)).0 e)))

-- 3. All segments.

either : (a b : Bool) → (a || b) ≡ true → (a ≡ true) ⊎ (b ≡ true)
either true b e = inl refl
either false b e = inr e

left_true : (a b : Bool) → a ≡ true → (a || b) ≡ true
left_true true b e = refl
left_true false b e = cc

right_true : (a b : Bool) → b ≡ true → (a || b) ≡ true
right_true true b e = refl
right_true false b e = e

pub in_none : (words : List ℕ) → AreAll (IsIn words []) []
in_none words = record { each = λ w. (λ there. absurd (none_in w there), λ i. let e = i.covered in cc) }

-- one segment more
pub in_more : (words : List ℕ) (parts : List Segment) (k : ℕ) (part : Segment) (mid new : List ℕ) → k < length parts → part ≡ get_or parts k part
    → AreAll (IsIn words (take k parts)) mid → AreAll (λ w. Contains mid w ⊎ IsIn words (part ∷ []) w) new
    → AreAll (IsIn words (take (k + 1) parts)) new
in_more words parts k part mid new lt is h more =
    all_more (IsIn words (take k parts)) (IsIn words (part ∷ [])) (IsIn words (take (k + 1) parts)) mid new
    (λ w i. record { word = i.word; covered = splits w ∙ left_true (covers (take k parts) w) (covers (part ∷ []) w) i.covered })
    (λ w i. record { word = i.word; covered = splits w ∙ right_true (covers (take k parts) w) (covers (part ∷ []) w) i.covered })
    (λ w i. elim (either (covers (take k parts) w) (covers (part ∷ []) w) (sym (splits w) ∙ i.covered)) [
      | inl before ↦ inl (record { word = i.word; covered = before })
      | inr here ↦ inr (record { word = i.word; covered = here })
    ])
    h more
  where
    splits : (w : ℕ) → covers (take (k + 1) parts) w ≡ (covers (take k parts) w || covers (part ∷ []) w)
    splits w = ap (λ l. covers l w) (take_item parts k part lt is) ∙ list_any-append (lies_in w) (take k parts) (part ∷ [])

pub in_words : (words : List ℕ) (parts : List Segment) (keys : List ℕ) → AllByRecursion IsWord words → AreAll (IsIn words parts) keys → AllByRecursion IsWord keys
in_words words parts keys all h = all_of IsWord keys (λ w there. all_at IsWord words w all ((h.each w).0 there).word)

pub covered_are : (words : List ℕ) (parts : List Segment) (k : ℕ) (keys : List ℕ) → length parts ≤ k → AreAll (IsIn words (take k parts)) keys
    → (spans : List Span) → AreSpans (Contains keys) spans → AreSpans (IsIn words parts) spans
covered_are words parts k keys le h spans are =
    let all = subst (λ l. AreAll (IsIn words l) keys) (take_all k parts le) h in
    spans_alike (Contains keys) (IsIn words parts) (λ w there. (all.each w).0 there) (λ w i. (all.each w).1 i) spans are
