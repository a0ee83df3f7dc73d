-- Ascending lists of pages: one after the other, with one more, and with one less.
use Rattle.std.proofs.Common.{◌≡◌, ◌≢◌, inl, inr, ℕ, zero, suc, ◌+◌, ◌<◌, ◌≤◌, Bool, true, false, not, cond, ◌&&◌, nat_eq, List, [], ◌∷◌, map, take, drop, length, insert, remove, slice_get, slice_index_or, Some, None, is_some}
use Rattle.std.proofs.Common.{refl, sym, ap, ◌∙◌, subst, arith, T, eq-eqb, eqb-true}
use Rattle.std.proofs.lemmas.{Bool.{ne_eqb, cases_eq, cases_order, Decides.nat_tests}, Cmp.nat_cmp_total, List.{drop_all, length-map, Sums.{common_prefix_len-drop_yes, common_prefix_len-drop_no}}, Option.{get_or_from_slice_get, slice_get_within}}
use Rattle.std.specs.{Prelude.◌==◌, List.{filter, common_prefix_len}, Cmp.unsigned_tied}
use Rattle.std.specs.{Ordering.{nat_cmp, is_lt}, declared.cmp.Ordering.{Ordering, TheVariants.{Less, Equal, Greater}}}
use Rattle.std.specs.FinMap.{find, put, is_sorted, Entries.{by_order, below_all, is_sorted-put}}
use Rattle.mm_word.specs.declared.word.Cell.{Cell}
use Rattle.mm_model.proofs.Memories.{find_put_other}

abbrev Pages : Type 0
Pages = List (ℕ × List Cell)

abbrev pub numbers : Pages → List ℕ
numbers pages = map (λ (e : ℕ × List Cell). e.0) pages

-- 1. Orders.

less_means : (k n : ℕ) → nat_cmp k n ≡ Less → k < n
less_means k n h = grind (arith, nat_tests)

equal_means : (k n : ℕ) → nat_cmp k n ≡ Equal → k ≡ n
equal_means k n h = grind (arith, nat_tests)

lt_means : (k n : ℕ) → T (is_lt (nat_cmp k n)) → k < n
lt_means k n h = by (nat_cmp k n) refl h
  where
    by : (o : Ordering) → nat_cmp k n ≡ o → T (is_lt o) → k < n
    by Less e h = less_means k n e
    by Equal e h = absurd h
    by Greater e h = absurd h

both_parts : (a b : Bool) → T (a && b) → T a × T b
both_parts true b h = (tt, h)
both_parts false b h = absurd h

find_first : (q : ℕ) (e : ℕ × List Cell) (es : Pages) → find nat_cmp q (e ∷ es) ≡ cond (nat_eq q e.0) (Some e.1) (find nat_cmp q es)
find_first q e es = ap (λ b. cond b (Some e.1) (find nat_cmp q es)) (unsigned_tied q e.0)

find_here : (q : ℕ) (e : ℕ × List Cell) (es : Pages) → q ≡ e.0 → find nat_cmp q (e ∷ es) ≡ Some e.1
find_here q e es same = find_first q e es ∙ ap (λ b. cond b (Some e.1) (find nat_cmp q es)) (eq-eqb q e.0 same)

pub find_later : (q : ℕ) (e : ℕ × List Cell) (es : Pages) → q ≢ e.0 → find nat_cmp q (e ∷ es) ≡ find nat_cmp q es
find_later q e es ne = find_first q e es ∙ ap (λ b. cond b (Some e.1) (find nat_cmp q es)) (ne_eqb q e.0 ne)

-- 2. One page after the other.

above : (k : ℕ) (es : Pages) → T (below_all nat_cmp k es) → (at : ℕ) (e : ℕ × List Cell) → slice_get es at ≡ Some e → k < e.0
above k [] h at e got = cc
above k (x ∷ es) h zero e got = let same : x ≡ e = cc in subst (λ (y : ℕ × List Cell). k < y.0) same (lt_means k x.0 (both_parts _ _ h).0)
above k (x ∷ es) h (suc at) e got = above k es (both_parts _ _ h).1 at e got

-- the pages up to one more: its number finds it, and each other what it found before
pub page_added : (es : Pages) → T (is_sorted nat_cmp es) → (at : ℕ) (e : ℕ × List Cell) → slice_get es at ≡ Some e
    → (find nat_cmp e.0 (take (suc at) es) ≡ Some e.1) × ((q : ℕ) → q ≢ e.0 → find nat_cmp q (take (suc at) es) ≡ find nat_cmp q (take at es))
page_added [] up at e got = cc
page_added (x ∷ es) up zero e got =
    let same : x ≡ e = cc in (
      ap (λ (y : ℕ × List Cell). find nat_cmp e.0 (y ∷ [])) same ∙ find_here e.0 e [] refl,
      λ q ne. ap (λ (y : ℕ × List Cell). find nat_cmp q (y ∷ [])) same ∙ find_later q e [] ne,
    )
page_added (x ∷ es) up (suc at) e got =
    let parts = both_parts _ _ up in
    let low = above x.0 es parts.0 at e got in
    let rest = page_added es parts.1 at e got in (
      find_later e.0 x (take (suc at) es) (λ same. omega (arith, low, same)) ∙ rest.0,
      λ q ne. find_first q x (take (suc at) es) ∙ ap (cond (nat_eq q x.0) (Some x.1)) (rest.1 q ne) ∙ sym (find_first q x (take at es)),
    )

-- 3. One page more, or less: the first difference of the numbers tells which.

abbrev pub first_other : List ℕ → List ℕ → ℕ
first_other was now = common_prefix_len nat_eq was now

-- a number comes in between others
pub record ComesIn (was now : List ℕ) (number : ℕ) : Type 0 where
  pub at : slice_get now (first_other was now) ≡ Some number
  pub list : insert was (first_other was now) number ≡ now
  pub long : length now ≡ suc (length was)

one_more : (n : ℕ) → 1 + n ≡ suc n
one_more n = omega arith

comes_later : (x number : ℕ) (was now : List ℕ) → ComesIn was now number → ComesIn (x ∷ was) (x ∷ now) number
comes_later x number was now h =
    let here : first_other (x ∷ was) (x ∷ now) ≡ suc (first_other was now) = ap (λ b. cond b (1 + first_other was now) 0) (eq-eqb x x refl) ∙ one_more (first_other was now) in
    let long = h.long in
    record {
      at = ap (slice_get (x ∷ now)) here ∙ h.at;
      list = ap (λ i. insert (x ∷ was) i number) here ∙ ap (λ l. x ∷ l) h.list;
      long = omega (arith, long);
    }

none_some : (cells : List Cell) → Some cells ≡ None → ⊥
none_some cells e = cc

pub comes_in : (es : Pages) (p : ℕ) (v : List Cell) → find nat_cmp p es ≡ None → ComesIn (numbers es) (numbers (put nat_cmp p v es)) p
comes_in [] p v none = record { at = refl; list = refl; long = refl }
comes_in (e ∷ es) p v none = by (nat_cmp p e.0) refl (λ ne. comes_in es p v (sym (find_later p e es ne) ∙ none))
  where
    by : (o : Ordering) → nat_cmp p e.0 ≡ o → (p ≢ e.0 → ComesIn (numbers es) (numbers (put nat_cmp p v es)) p)
        → ComesIn (numbers (e ∷ es)) (numbers (by_order o ((p, v) ∷ e ∷ es) ((e.0, v) ∷ es) (e ∷ put nat_cmp p v es))) p
    by Less is rest =
        let lt = less_means p e.0 is in
        let zero_is : first_other (numbers (e ∷ es)) (p ∷ numbers (e ∷ es)) ≡ 0 = ap (λ b. cond b (1 + first_other (numbers es) (numbers (e ∷ es))) 0) (ne_eqb e.0 p (λ same. omega (arith, lt, same))) in
        record {
          at = ap (slice_get (p ∷ numbers (e ∷ es))) zero_is;
          list = ap (λ i. insert (numbers (e ∷ es)) i p) zero_is;
          long = refl;
        }
    by Equal is rest = absurd (none_some e.1 (sym (find_here p e es (equal_means p e.0 is)) ∙ none))
    by Greater is rest = comes_later e.0 p (numbers es) (numbers (put nat_cmp p v es)) (rest (λ same. let other = is in let equal : nat_cmp p e.0 ≡ Equal = grind (arith, nat_tests) in cc))

-- a number goes out
pub record GoesOut (was now : List ℕ) (number : ℕ) : Type 0 where
  pub at : slice_get was (first_other was now) ≡ Some number
  pub list : remove was (first_other was now) ≡ now
  pub long : length was ≡ suc (length now)

goes_later : (x number : ℕ) (was now : List ℕ) → GoesOut was now number → GoesOut (x ∷ was) (x ∷ now) number
goes_later x number was now h =
    let here : first_other (x ∷ was) (x ∷ now) ≡ suc (first_other was now) = ap (λ b. cond b (1 + first_other was now) 0) (eq-eqb x x refl) ∙ one_more (first_other was now) in
    let long = h.long in
    record {
      at = ap (slice_get (x ∷ was)) here ∙ h.at;
      list = ap (λ i. remove (x ∷ was) i) here ∙ ap (λ l. x ∷ l) h.list;
      long = omega (arith, long);
    }

-- no page below all others is among them
none_there : (p : ℕ) (es : Pages) → T (below_all nat_cmp p es) → filter (λ (e : ℕ × List Cell). not (e.0 == p)) es ≡ es
none_there p [] h = refl
none_there p (e ∷ es) h =
    let parts = both_parts _ _ h in
    let lt = lt_means p e.0 parts.0 in
    let other : (e.0 == p) ≡ false = ne_eqb e.0 p (λ same. omega (arith, lt, same)) in
    ap (λ b. cond (not b) (e ∷ filter (λ (x : ℕ × List Cell). not (x.0 == p)) es) (filter (λ (x : ℕ × List Cell). not (x.0 == p)) es)) other
    ∙ ap (λ l. e ∷ l) (none_there p es parts.1)

first_zero : (p : ℕ) (es : Pages) → T (below_all nat_cmp p es) → first_other (p ∷ numbers es) (numbers es) ≡ 0
first_zero p [] h = refl
first_zero p (e ∷ es) h =
    let lt = lt_means p e.0 (both_parts _ _ h).0 in
    ap (λ b. cond b (1 + first_other (numbers (e ∷ es)) (numbers es)) 0) (ne_eqb p e.0 (λ same. omega (arith, lt, same)))

pub goes_out : (es : Pages) (p : ℕ) → T (is_sorted nat_cmp es) → is_some (find nat_cmp p es) ≡ true
    → GoesOut (numbers es) (numbers (filter (λ (e : ℕ × List Cell). not (e.0 == p)) es)) p
goes_out [] p up some = cc
goes_out (e ∷ es) p up some = by (e.0 == p) refl (λ ne. goes_out es p (both_parts _ _ up).1 (ap is_some (sym (find_later p e es (λ same. ne (sym same)))) ∙ some))
  where
    gone : Pages
    gone = filter (λ (x : ℕ × List Cell). not (x.0 == p)) es

    by : (b : Bool) → (e.0 == p) ≡ b → (e.0 ≢ p → GoesOut (numbers es) (numbers gone) p) → GoesOut (numbers (e ∷ es)) (numbers (cond (not b) (e ∷ gone) gone)) p
    by true is rest =
        let same : e.0 ≡ p = eqb-true e.0 p is in
        let low : T (below_all nat_cmp p es) = subst (λ n. T (below_all nat_cmp n es)) same (both_parts _ _ up).0 in
        let all = none_there p es low in
        let zero_is : first_other (numbers (e ∷ es)) (numbers gone) ≡ 0 = (λ j. first_other (same j ∷ numbers es) (numbers (all j))) ∙ first_zero p es low in
        record {
          at = ap (slice_get (numbers (e ∷ es))) zero_is ∙ ap Some same;
          list = ap (λ i. remove (numbers (e ∷ es)) i) zero_is ∙ ap numbers (sym all);
          long = ap (λ (l : Pages). suc (length (numbers l))) (sym all);
        }
    by false is rest = goes_later e.0 p (numbers es) (numbers gone) (rest (λ same. let own = eq-eqb e.0 p same in cc))

-- 4. A walk to the first difference.

abbrev pub IsAlikeTo : (was now : List ℕ) → ℕ → Type 0
IsAlikeTo was now at = first_other was now ≡ at + first_other (drop at was) (drop at now)

module _ (was now : List ℕ) (at n : ℕ) (alike : IsAlikeTo was now at) (within : at < length was) (got : slice_get now at ≡ Some n) where
  pub other_here : (n ≡ slice_index_or was at 0 → ⊥) → at ≡ first_other was now
  other_here other =
      let there = slice_get_within now at n got in
      let number = get_or_from_slice_get now at n 0 got in
      let none = common_prefix_len-drop_no nat_eq was now at 0 0 within there (ne_eqb (slice_index_or was at 0) (slice_index_or now at 0) (λ same. other (sym number ∙ sym same))) in
      omega (arith, alike, none)

  pub same_here : n ≡ slice_index_or was at 0 → IsAlikeTo was now (at + 1)
  same_here same =
      let there = slice_get_within now at n got in
      let number = get_or_from_slice_get now at n 0 got in
      let one = common_prefix_len-drop_yes nat_eq was now at 0 0 within there (eq-eqb (slice_index_or was at 0) (slice_index_or now at 0) (sym same ∙ sym number)) in
      omega (arith, alike, one)

nothing_more : (xs : List ℕ) → first_other xs [] ≡ 0
nothing_more [] = refl
nothing_more (x ∷ xs) = refl

pub all_walked : (was now : List ℕ) (at : ℕ) → IsAlikeTo was now at → length now ≤ at → at ≡ first_other was now
all_walked was now at alike end =
    let none = ap (λ l. first_other (drop at was) l) (drop_all at now end) ∙ nothing_more (drop at was) in
    omega (arith, alike, none)

-- 5. As many pages, and more.

found_above : (k : ℕ) (es : Pages) → T (below_all nat_cmp k es) → (q : ℕ) → is_some (find nat_cmp q es) ≡ true → k < q
found_above k [] low q some = cc
found_above k (e ∷ es) low q some = elim (cases_eq q e.0) [
  | inl same ↦ let lt = lt_means k e.0 (both_parts _ _ low).0 in omega (arith, same, lt)
  | inr other ↦ found_above k es (both_parts _ _ low).1 q (ap is_some (sym (find_later q e es other)) ∙ some)
]

pub fewer : (es fs : Pages) → T (is_sorted nat_cmp es) → T (is_sorted nat_cmp fs)
    → ((q : ℕ) → is_some (find nat_cmp q es) ≡ true → is_some (find nat_cmp q fs) ≡ true) → length es ≤ length fs
fewer [] fs up rise all = omega arith
fewer (e ∷ es) [] up rise all = let none = all e.0 (ap is_some (find_here e.0 e es refl)) in cc
fewer (e ∷ es) (f ∷ fs) up rise all =
    let tail : T (below_all nat_cmp e.0 es) × T (is_sorted nat_cmp es) = both_parts _ _ up in
    let behind : T (below_all nat_cmp f.0 fs) × T (is_sorted nat_cmp fs) = both_parts _ _ rise in
    let in_rest : (q : ℕ) → q ≢ f.0 → is_some (find nat_cmp q (e ∷ es)) ≡ true → is_some (find nat_cmp q fs) ≡ true =
    λ q ne some. ap is_some (sym (find_later q f fs ne)) ∙ all q some in
    elim (cases_order e.0 f.0) [
      | inl same ↦
          let rest = fewer es fs tail.1 behind.1 (λ q some.
          let lt = found_above e.0 es tail.0 q some in
          in_rest q (λ equal. omega (arith, lt, equal, same)) (ap is_some (find_later q e es (λ equal. omega (arith, lt, equal))) ∙ some)) in
          omega (arith, rest)
      | inr (inl less) ↦
          let there = in_rest e.0 (λ equal. omega (arith, less, equal)) (ap is_some (find_here e.0 e es refl)) in
          let lt = found_above f.0 fs behind.0 e.0 there in
          absurd (omega (arith, less, lt))
      | inr (inr more) ↦
          let rest = fewer (e ∷ es) fs up behind.1 (λ q some.
          let low : e.0 ≤ q = elim (cases_eq q e.0) [
            | inl same ↦ omega (arith, same)
            | inr other ↦ let lt = found_above e.0 es tail.0 q (ap is_some (sym (find_later q e es other)) ∙ some) in omega (arith, lt)
          ] in
          in_rest q (λ equal. omega (arith, more, low, equal)) some) in
          omega (arith, rest)
    ]

-- one that is among these and not among those
pub fewer_by_one : (es fs : Pages) (p : ℕ) → T (is_sorted nat_cmp es) → T (is_sorted nat_cmp fs) → find nat_cmp p es ≡ None → is_some (find nat_cmp p fs) ≡ true
    → ((q : ℕ) → is_some (find nat_cmp q es) ≡ true → is_some (find nat_cmp q fs) ≡ true) → length es < length fs
fewer_by_one es fs p up rise none some all =
    let with_it = put nat_cmp p [] es in
    let long = (comes_in es p [] none).long in
    let count = length-map es (λ (e : ℕ × List Cell). e.0) in
    let more = length-map with_it (λ (e : ℕ × List Cell). e.0) in
    let le = fewer with_it fs (is_sorted-put nat_cmp nat_cmp_total p [] es up) rise (λ q is. elim (cases_eq q p) [
      | inl same ↦ ap (λ n. is_some (find nat_cmp n fs)) same ∙ some
      | inr other ↦ all q (ap is_some (sym (find_put_other es p [] q other)) ∙ is)
    ]) in
    omega (arith, long, count, more, le)
