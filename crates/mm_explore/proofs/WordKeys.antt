-- Words that are kept in order, each with its group.
use Rattle.std.proofs.Common.{◌≡◌, ◌⊎◌, inl, inr, ℕ, ◌<◌, ◌==◌, Bool, true, false, if◌then◌else◌, List, [], ◌∷◌}
use Rattle.std.proofs.Common.{◌++◌, length, take, replicate, slice_index_or, zero, suc, Option, Some, None, refl, sym, ap, ◌∙◌, subst, eqb-true, eq-eqb, append_assoc, append-nil}
use Rattle.std.proofs.lemmas.Map.{Keys.{sorted_head, sorted_tail}, Lookups.{exact_pairs, exact_unsigned}}
use Rattle.std.proofs.lemmas.List.Elements.{Contains-append_left, Contains-push, Contains-push_cases}
use Rattle.std.proofs.lemmas.Option.{IfSome_then}
use Rattle.std.proofs.lemmas.Grind.{flat_map-append}
use Rattle.std.specs.{Prelude.{Contains, IfSome}, List.{AllByRecursion, flat_map, Sorted.IsStrictlySortedBy}}
use Rattle.std.specs.declared.cmp.Ordering.{Ordering, TheVariants.{Less, Equal, Greater}}
use Rattle.std.specs.{Ordering.{match_ordering, nat_cmp, ordering_then, MatchOrdering}, Cmp.{nat_cmp_is, ranks}}
use Rattle.std.specs.{BTreeSet.insert_key, Option.option_to_list}
use Rattle.mm_span.specs.{Pairs.EachPair, Spans.IsWord}
use Rattle.mm_explore.specs.Words.{order, AreKept, IsWordKey, words_in, passed_words, step_words}
use Rattle.mm_explore.specs.Findings.{any_kind}
use Rattle.mm_span.proofs.Members.{none_in, in_first, in_rest, in_cases, all_at, all_of}
use Rattle.mm_word.specs.{declared.perm.Kind.Kind, Access.AccessValue}
use Rattle.mm_model.proofs.CoreRows.{each_get}
use Rattle.mm_model.specs.{declared.step.Step.Step, Counted.writes}

same_key : (a b : ℕ × ℕ) → order a b ≡ Equal → a ≡ b
same_key a b e = exact_pairs nat_cmp nat_cmp exact_unsigned exact_unsigned a b e

-- 1. A key more.

pub has_new : (keys : List (ℕ × ℕ)) (key : ℕ × ℕ) → Contains (insert_key order keys key) key
has_new [] key = in_first key []
has_new (k ∷ keys) key = by (has_new keys key) (order key k) refl
  where
    by : Contains (insert_key order keys key) key → (o : Ordering) → order key k ≡ o → Contains (match_ordering o (key ∷ k ∷ keys) (k ∷ keys) (k ∷ insert_key order keys key)) key
    by rest Less e = in_first key (k ∷ keys)
    by rest Equal e = subst (Contains (k ∷ keys)) (sym (same_key key k e)) (in_first k keys)
    by rest Greater e = in_rest k (insert_key order keys key) key rest

has_old : (keys : List (ℕ × ℕ)) (key x : ℕ × ℕ) → Contains keys x → Contains (insert_key order keys key) x
has_old [] key x h = absurd (none_in x h)
has_old (k ∷ keys) key x h = by (has_old keys key x) (order key k)
  where
    by : (Contains keys x → Contains (insert_key order keys key) x) → (o : Ordering) → Contains (match_ordering o (key ∷ k ∷ keys) (k ∷ keys) (k ∷ insert_key order keys key)) x
    by rest Less = in_rest key (k ∷ keys) x h
    by rest Equal = h
    by rest Greater = elim (in_cases k keys x h) [
      | inl e ↦ subst (Contains (k ∷ insert_key order keys key)) e (in_first k (insert_key order keys key))
      | inr later ↦ in_rest k (insert_key order keys key) x (rest later)
    ]

has_only : (keys : List (ℕ × ℕ)) (key x : ℕ × ℕ) → Contains (insert_key order keys key) x → Contains keys x ⊎ (key ≡ x)
has_only [] key x h = elim (in_cases key [] x h) [ inl e ↦ inr e | inr later ↦ inl later ]
has_only (k ∷ keys) key x h = by (has_only keys key x) (order key k) h
  where
    by : (Contains (insert_key order keys key) x → Contains keys x ⊎ (key ≡ x)) → (o : Ordering) → Contains (match_ordering o (key ∷ k ∷ keys) (k ∷ keys) (k ∷ insert_key order keys key)) x
        → Contains (k ∷ keys) x ⊎ (key ≡ x)
    by rest Less there = elim (in_cases key (k ∷ keys) x there) [ inl e ↦ inr e | inr later ↦ inl later ]
    by rest Equal there = inl there
    by rest Greater there = elim (in_cases k (insert_key order keys key) x there) [
      | inl e ↦ inl (subst (Contains (k ∷ keys)) e (in_first k keys))
      | inr later ↦ elim (rest later) [
        | inl old ↦ inl (in_rest k keys x old)
        | inr e ↦ inr e
      ]
    ]

pub kept_more : (words keys : List (ℕ × ℕ)) (key : ℕ × ℕ) → IsWordKey key → AreKept words keys → AreKept (words ++ key ∷ []) (insert_key order keys key)
kept_more words keys key word h = record {
  only = λ x there. elim (has_only keys key x there) [
    | inl old ↦ Contains-append_left words (key ∷ []) x (h.only x old)
    | inr e ↦ subst (Contains (words ++ key ∷ [])) e (Contains-push words key)
  ];
  each = λ x there. elim (Contains-push_cases words key x there) [
    | inl old ↦ has_old keys key x (h.each x old)
    | inr e ↦ subst (Contains (insert_key order keys key)) e (has_new keys key)
  ];
  aligned = all_of IsWordKey (insert_key order keys key) (λ x there. elim (has_only keys key x there) [
    | inl old ↦ all_at IsWordKey keys x h.aligned old
    | inr e ↦ subst IsWordKey e word
  ]);
}

-- a key that is kept already
pub kept_again : (words keys : List (ℕ × ℕ)) (key : ℕ × ℕ) → Contains keys key → AreKept words keys → AreKept (words ++ key ∷ []) keys
kept_again words keys key here h = record {
  only = λ x there. Contains-append_left words (key ∷ []) x (h.only x there);
  each = λ x there. elim (Contains-push_cases words key x there) [
    | inl old ↦ h.each x old
    | inr e ↦ subst (Contains keys) e here
  ];
  aligned = h.aligned;
}

-- 2. Keys that are remembered.

-- each place has one of the keys, or none
abbrev pub AreAmong : List (ℕ × ℕ) → List (Option (ℕ × ℕ)) → Type 0
AreAmong keys places = AllByRecursion (λ place. IfSome place (Contains keys)) places

pub among_more : (keys : List (ℕ × ℕ)) (key : ℕ × ℕ) (places : List (Option (ℕ × ℕ))) → AreAmong keys places → AreAmong (insert_key order keys key) places
among_more keys key [] all = tt
among_more keys key (place ∷ places) all = (IfSome_then place all.0 (has_old keys key), among_more keys key places all.1)

no_places : (keys : List (ℕ × ℕ)) (count : ℕ) → AreAmong keys (replicate count None)
no_places keys zero = tt
no_places keys (suc count) = (tt, no_places keys count)

pub among_filled : (keys : List (ℕ × ℕ)) (at count : ℕ) (places : List (Option (ℕ × ℕ))) → AreAmong keys places → AreAmong keys (take at places ++ replicate count None)
among_filled keys zero count places all = no_places keys count
among_filled keys (suc at) count [] all = no_places keys count
among_filled keys (suc at) count (place ∷ places) all = (all.0, among_filled keys at count places all.1)

pub among_at : (keys : List (ℕ × ℕ)) (places : List (Option (ℕ × ℕ))) (at : ℕ) (place : Option (ℕ × ℕ)) (key : ℕ × ℕ) → AreAmong keys places
    → at < length places → place ≡ slice_index_or places at place → place ≡ Some key → Contains keys key
among_at keys places at place key all within got is =
    subst (λ p. IfSome p (Contains keys)) (sym got ∙ is) (each_get (λ p. IfSome p (Contains keys)) places at place all within)

-- 3. The words of a group.

pub word_of_key : (group : ℕ) (keys : List (ℕ × ℕ)) (word : ℕ) → Contains keys (group, word) → Contains (words_in group keys) word
word_of_key group [] word h = absurd (none_in (group, word) h)
word_of_key group (key ∷ keys) word h = by (word_of_key group keys word) (key.0 == group) refl
  where
    by : (Contains keys (group, word) → Contains (words_in group keys) word) → (b : Bool) → (key.0 == group) ≡ b → Contains (if b then key.1 ∷ words_in group keys else words_in group keys) word
    by rest true e = elim (in_cases key keys (group, word) h) [
      | inl is ↦ subst (Contains (key.1 ∷ words_in group keys)) (ap (λ (x : ℕ × ℕ). x.1) is) (in_first key.1 (words_in group keys))
      | inr later ↦ in_rest key.1 (words_in group keys) word (rest later)
    ]
    by rest false e = elim (in_cases key keys (group, word) h) [
      | inl is ↦ let yes : (key.0 == group) ≡ true = eq-eqb key.0 group (ap (λ (x : ℕ × ℕ). x.0) is) in absurd (let no : false ≡ true = sym e ∙ yes in cc)
      | inr later ↦ rest later
    ]

pub key_of_word : (group : ℕ) (keys : List (ℕ × ℕ)) (word : ℕ) → Contains (words_in group keys) word → Contains keys (group, word)
key_of_word group [] word h = absurd (none_in word h)
key_of_word group (key ∷ keys) word h = by (key_of_word group keys word) (key.0 == group) refl h
  where
    by : (Contains (words_in group keys) word → Contains keys (group, word)) → (b : Bool) → (key.0 == group) ≡ b
        → Contains (if b then key.1 ∷ words_in group keys else words_in group keys) word → Contains (key ∷ keys) (group, word)
    by rest true e there = elim (in_cases key.1 (words_in group keys) word there) [
      | inl is ↦
          let same : key ≡ (group, word) = λ j. (eqb-true key.0 group e j, is j) in
          subst (Contains (key ∷ keys)) same (in_first key keys)
      | inr later ↦ in_rest key keys (group, word) (rest later)
    ]
    by rest false e there = in_rest key keys (group, word) (rest there)

pub words_whole : (group : ℕ) (keys : List (ℕ × ℕ)) → AllByRecursion IsWordKey keys → AllByRecursion IsWord (words_in group keys)
words_whole group keys h =
    all_of IsWord (words_in group keys) (λ w there. all_at IsWordKey keys (group, w) h (key_of_word group keys w there))

-- no keys are left after the words so far
pub words_so_far : (group : ℕ) (words : List ℕ) (left keys : List (ℕ × ℕ)) → left ≡ [] → words ++ words_in group left ≡ words_in group keys → words ≡ words_in group keys
words_so_far group words left keys none whole = sym (append-nil words) ∙ ap (λ l. words ++ words_in group l) (sym none) ∙ whole

less_word : (key : ℕ × ℕ) (group w : ℕ) → key.0 ≡ group → order key (group, w) ≡ Less → key.1 < w
less_word key group w same e =
    let first : nat_cmp key.0 group ≡ Equal = sym (nat_cmp_is key.0 group Equal same) in
    let second : nat_cmp key.1 w ≡ Less = sym (ap (λ o. ordering_then o (nat_cmp key.1 w)) first) ∙ e in
    subst (λ o. MatchOrdering o (key.1 < w) (key.1 ≡ w) (w < key.1)) second (ranks key.1 w)

pub words_up : (group : ℕ) (keys : List (ℕ × ℕ)) → IsStrictlySortedBy order keys → EachPair ◌<◌ (words_in group keys)
words_up group [] h = tt
words_up group (key ∷ keys) h = by (words_up group keys (sorted_tail order key keys h)) (key.0 == group) refl
  where
    by : EachPair ◌<◌ (words_in group keys) → (b : Bool) → (key.0 == group) ≡ b → EachPair ◌<◌ (if b then key.1 ∷ words_in group keys else words_in group keys)
    by rest true e = (
      all_of (λ w. key.1 < w) (words_in group keys) (λ w there.
          less_word key group w (eqb-true key.0 group e)
          (all_at (λ k. order key k ≡ Less) keys (group, w) (sorted_head order key keys h) (key_of_word group keys w there))),
      rest,
    )
    by rest false e = rest

-- 4. The words of a step.

pub passed_all : (group : ℕ) (a : AccessValue) (o : Option AccessValue) → o ≡ Some a → flat_map (passed_words any_kind group) (option_to_list o) ≡ (group, a.addr) ∷ []
passed_all group a o e = ap (λ o. flat_map (passed_words any_kind group) (option_to_list o)) e

pub passed_if : (group : ℕ) (a : AccessValue) (o : Option AccessValue) (b : Bool) → o ≡ Some a → writes a.kind ≡ b
    → flat_map (passed_words writes group) (option_to_list o) ≡ (if b then (group, a.addr) ∷ [] else [])
passed_if group a o b is kind =
    ap (λ o. flat_map (passed_words writes group) (option_to_list o)) is
    ∙ append-nil (if writes a.kind then (group, a.addr) ∷ [] else [])
    ∙ ap (λ (b : Bool). if b then (group, a.addr) ∷ [] else []) kind

pub step_joined : (passes : Kind → Bool) (group : ℕ) (kept : List (ℕ × ℕ)) (step : Step)
    → (kept ++ flat_map (passed_words passes group) (option_to_list step.fetched)) ++ flat_map (passed_words passes group) (option_to_list step.touched) ≡ kept ++ step_words passes group step
step_joined passes group kept step =
    let f = option_to_list step.fetched in
    let t = option_to_list step.touched in
    append_assoc kept (flat_map (passed_words passes group) f) (flat_map (passed_words passes group) t)
    ∙ ap (λ l. kept ++ l) (sym (flat_map-append (passed_words passes group) f t))

pub none_kept : (kept keys : List (ℕ × ℕ)) → AreKept kept keys → AreKept (kept ++ []) keys
none_kept kept keys h = subst (λ l. AreKept l keys) (sym (append-nil kept)) h
