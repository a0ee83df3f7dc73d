-- The entries of the buffer, and their pages.
use Rattle.std.proofs.Common.{◌≡◌, ℕ, zero, suc, ◌+◌, ◌<◌, ◌≤◌, ◌==◌, Bool, true, false, cond, if◌then◌else◌, List, []}
use Rattle.std.proofs.Common.{◌∷◌, take, drop, length, get_or, set, ◌++◌, inl, inr, Option, None, Some, is_some, nat_lt}
use Rattle.std.proofs.Common.{refl, sym, ap, subst, arith, ◌∙◌, eqb-true, eq-eqb}
use Rattle.std.proofs.lemmas.{Bool.{cases_lt, Decides.nat_tests}, Grind.drop_more_same}
use Rattle.std.proofs.lemmas.List.{take-map, take_at, take_more, take_more_set, get_or-drop, drop-set-lt, set_split}
use Rattle.std.proofs.lemmas.List.{append_assoc, length_push, get_or_default}
use Rattle.std.proofs.lemmas.List.{Quantifiers.position-Some, Sums.fails_before_first}
use Rattle.std.specs.List.{AllByRecursion, remove, refill, position, position_or_len}
use Rattle.mm_model.specs.Counted.{has, without}
use Rattle.mm_vmem.specs.{Stands.{IsDistinct, moved}, declared.tlb.Entry.Entry}
use Rattle.mm_vmem.specs.Entries.{pages_in, frame_in, entries_without, after_look_up, AreEntries}
use Rattle.mm_vmem.proofs.Recents.{distinct_moved}

-- 1. The pages of what is left.

without_head : (p : ℕ) (e : Entry) (es : List Entry) (b : Bool) → pages_in (entries_without p es) ≡ without p (pages_in es)
    → pages_in (if b then entries_without p es else e ∷ entries_without p es) ≡ (if b then without p (pages_in es) else e.page ∷ without p (pages_in es))
without_head p e es true rest = rest
without_head p e es false rest = ap (λ (xs : List ℕ). e.page ∷ xs) rest

pub pages_without : (p : ℕ) (es : List Entry) → pages_in (entries_without p es) ≡ without p (pages_in es)
pages_without p [] = refl
pages_without p (e ∷ es) = without_head p e es (p == e.page) (pages_without p es)

-- the pages move as the buffer of pages does
pub pages_entered : (e : Entry) (es : List Entry) → pages_in (after_look_up e es) ≡ moved e.page (pages_in es)
pages_entered e es =
    sym (take-map (λ (x : Entry). x.page) 16 (e ∷ entries_without e.page es)) ∙ ap (λ (xs : List ℕ). take 16 (e.page ∷ xs)) (pages_without e.page es)

pub entries_entered : (e : Entry) (es : List Entry) → AreEntries es → AreEntries (after_look_up e es)
entries_entered e es are = record {
  distinct = subst IsDistinct (sym (pages_entered e es)) (distinct_moved e.page (pages_in es) are.distinct);
  few = few_moved_entries 16 (e ∷ entries_without e.page es);
}
  where
    few_moved_entries : (n : ℕ) (xs : List Entry) → length (take n xs) ≤ n
    few_moved_entries zero xs = omega arith
    few_moved_entries (suc n) [] = omega arith
    few_moved_entries (suc n) (x ∷ xs) = omega (arith, few_moved_entries n xs)

-- 2. What holds of each entry holds of those that are left.

module _ (P : Entry → Type 0) where
  either_each : (e : Entry) (es : List Entry) (b : Bool) → P e → AllByRecursion P es → AllByRecursion P (if b then es else e ∷ es)
  either_each e es true here rest = rest
  either_each e es false here rest = (here, rest)

  without_each : (p : ℕ) (es : List Entry) → AllByRecursion P es → AllByRecursion P (entries_without p es)
  without_each p [] all = tt
  without_each p (e ∷ es) all = either_each e (entries_without p es) (p == e.page) all.0 (without_each p es all.1)

  take_each : (n : ℕ) (es : List Entry) → AllByRecursion P es → AllByRecursion P (take n es)
  take_each zero es all = tt
  take_each (suc n) [] all = tt
  take_each (suc n) (e ∷ es) all = (all.0, take_each n es all.1)

  pub entered_each : (e : Entry) (es : List Entry) → AllByRecursion P es → P e → AllByRecursion P (after_look_up e es)
  entered_each e es all here = take_each 16 (e ∷ entries_without e.page es) (here, without_each e.page es all)

-- 3. The frame of a page.

pub flip_test : (p q : ℕ) → (p == q) ≡ (q == p)
flip_test p q = grind (arith, nat_tests)

-- where each entry has the frame that g says, so has the page that is found
pub frame_right : (g : ℕ → Option ℕ) (page f : ℕ) (es : List Entry) → AllByRecursion (λ e. g e.page ≡ Some e.frame) es → frame_in page es ≡ Some f → g page ≡ Some f
frame_right g page f [] all is = cc
frame_right g page f (e ∷ es) all is = by (λ at. frame_right g page f es all.1 at) (e.page == page) refl is
  where
    by : (frame_in page es ≡ Some f → g page ≡ Some f) → (b : Bool) → (e.page == page) ≡ b → (if b then Some e.frame else frame_in page es) ≡ Some f → g page ≡ Some f
    by later true same at = ap g (sym (eqb-true e.page page same)) ∙ all.0 ∙ at
    by later false other at = later at

some_head : (page : ℕ) (e : Entry) (es : List Entry) (b : Bool) → is_some (frame_in page es) ≡ has page (pages_in es)
    → is_some (if b then Some e.frame else frame_in page es) ≡ (if b then true else has page (pages_in es))
some_head page e es true rest = refl
some_head page e es false rest = rest

-- a frame is found exactly where the page is there
pub frame_found : (page : ℕ) (es : List Entry) → is_some (frame_in page es) ≡ has page (pages_in es)
frame_found page [] = refl
frame_found page (e ∷ es) =
    some_head page e es (e.page == page) (frame_found page es) ∙ ap (λ (b : Bool). if b then true else has page (pages_in es)) (flip_test e.page page)

-- 4. The place of a page.

-- the first entry of a page is here
pub record IsFirst (page i : ℕ) (es : List Entry) : Type 0 where
  pub in_range : i < length es
  pub at : (d : Entry) → ((get_or es i d).page == page) ≡ true
  pub before : (k : ℕ) (d : Entry) → k < i → ((get_or es k d).page == page) ≡ false

abbrev pub no_entry : Entry
no_entry = record { page = 0; frame = 0 }

pub first_place : (page i : ℕ) (es : List Entry) → position (λ e. e.page == page) es ≡ Some i → IsFirst page i es
first_place page i es is = record {
  in_range = (position-Some (λ (e : Entry). e.page == page) es i no_entry is).0;
  at = λ d. (position-Some (λ (e : Entry). e.page == page) es i d is).1;
  before = λ k d lt. (position-Some (λ (e : Entry). e.page == page) es i d is).2 k lt;
}

later_first : (page i : ℕ) (e : Entry) (es : List Entry) → IsFirst page (suc i) (e ∷ es) → IsFirst page i es
later_first page i e es first = record { in_range = omega (arith, first.in_range); at = λ d. first.at d; before = λ k d lt. first.before (suc k) d (omega (arith, lt)) }

past_end : (n m : ℕ) → cond (nat_lt n m) (Some n) None ≡ None → m ≤ n
past_end n m is = by (nat_lt n m) refl is
  where
    by : (b : Bool) → nat_lt n m ≡ b → cond b (Some n) None ≡ None → m ≤ n
    by true lt at = cc
    by false ge at = grind (arith, nat_tests, ge)

pub absent_entries : (page : ℕ) (es : List Entry) → ((k : ℕ) (d : Entry) → k < length es → ((get_or es k d).page == page) ≡ false) → has page (pages_in es) ≡ false
absent_entries page [] none = refl
absent_entries page (e ∷ es) none =
    ap (λ (b : Bool). if b then true else has page (pages_in es)) (flip_test page e.page ∙ none 0 no_entry (omega arith))
    ∙ absent_entries page es (λ k d lt. none (suc k) d (omega (arith, lt)))

pub no_place : (page : ℕ) (es : List Entry) → position (λ e. e.page == page) es ≡ None → has page (pages_in es) ≡ false
no_place page es is =
    let test : Entry → Bool = λ e. e.page == page in
    let all : length es ≤ position_or_len test es = past_end (position_or_len test es) (length es) is in
    absent_entries page es (λ k d lt. fails_before_first test es k d (omega (arith, lt, all)))

pub frame_first : (page i : ℕ) (es : List Entry) (d : Entry) → IsFirst page i es → frame_in page es ≡ Some (get_or es i d).frame
frame_first page i [] d first = absurd (omega (arith, first.in_range))
frame_first page zero (e ∷ es) d first = ap (λ (b : Bool). if b then Some e.frame else frame_in page es) (first.at no_entry)
frame_first page (suc i) (e ∷ es) d first =
    ap (λ (b : Bool). if b then Some e.frame else frame_in page es) (first.before 0 no_entry (omega arith)) ∙ frame_first page i es d (later_first page i e es first)

pub has_first : (page i : ℕ) (es : List Entry) → IsFirst page i es → has page (pages_in es) ≡ true
has_first page i es first = sym (frame_found page es) ∙ ap is_some (frame_first page i es no_entry first)

pub none_of : (o : Option ℕ) → is_some o ≡ false → o ≡ None
none_of None h = refl
none_of (Some x) h = cc

pub no_frame : (page : ℕ) (es : List Entry) → position (λ e. e.page == page) es ≡ None → frame_in page es ≡ None
no_frame page es is = none_of (frame_in page es) (frame_found page es ∙ no_place page es is)

-- 5. What is left of the entries.

absent_head : (page : ℕ) (e : Entry) (es : List Entry) (b : Bool) → (has page (pages_in es) ≡ false → entries_without page es ≡ es)
    → (if b then true else has page (pages_in es)) ≡ false → (if b then entries_without page es else e ∷ entries_without page es) ≡ e ∷ es
absent_head page e es true rest h = cc
absent_head page e es false rest h = ap (λ (xs : List Entry). e ∷ xs) (rest h)

absent_left : (page : ℕ) (es : List Entry) → has page (pages_in es) ≡ false → entries_without page es ≡ es
absent_left page [] h = refl
absent_left page (e ∷ es) h = absent_head page e es (page == e.page) (absent_left page es) h

removed_left : (page i : ℕ) (es : List Entry) → IsDistinct (pages_in es) → IsFirst page i es → remove es i ≡ entries_without page es
removed_left page i [] distinct first = absurd (omega (arith, first.in_range))
removed_left page zero (e ∷ es) distinct first =
    let same : e.page ≡ page = eqb-true e.page page (first.at no_entry) in
    sym (absent_left page es (subst (λ (p : ℕ). has p (pages_in es) ≡ false) same distinct.0))
    ∙ sym (ap (λ (b : Bool). if b then entries_without page es else e ∷ entries_without page es) (flip_test page e.page ∙ first.at no_entry))
removed_left page (suc i) (e ∷ es) distinct first =
    ap (λ (xs : List Entry). e ∷ xs) (removed_left page i es distinct.1 (later_first page i e es first))
    ∙ sym (ap (λ (b : Bool). if b then entries_without page es else e ∷ entries_without page es) (flip_test page e.page ∙ first.before 0 no_entry (omega arith)))

take_whole : (n : ℕ) (es : List Entry) → length es ≤ n → take n es ≡ es
take_whole zero [] le = refl
take_whole zero (e ∷ es) le = absurd (omega (arith, le))
take_whole (suc n) [] le = refl
take_whole (suc n) (e ∷ es) le = ap (λ (xs : List Entry). e ∷ xs) (take_whole n es (omega (arith, le)))

-- 6. Entries that move down, one after the other, while the first ones wait at the front.

module _ (first carried : Entry) (old now : List Entry) (i : ℕ) (within : i < length now) (whole : i < length old) (front : take i now ++ carried ∷ [] ≡ first ∷ take i old)
    (rest : drop i now ≡ drop i old) where
  -- the entry that comes next has not moved
  pub next_is : (d : Entry) → get_or now i d ≡ get_or old i d
  next_is d =
      let here : i + 0 ≡ i = omega arith in
      ap (λ n. get_or now n d) (sym here) ∙ sym (get_or-drop i now 0 d) ∙ ap (λ xs. get_or xs 0 d) rest ∙ get_or-drop i old 0 d ∙ ap (λ n. get_or old n d) here

  pub moves_on : (d : Entry) → take (i + 1) (set now i carried) ++ get_or now i d ∷ [] ≡ first ∷ take (i + 1) old
  moves_on d =
      ap (λ xs. xs ++ get_or now i d ∷ []) (take_more_set now i carried within ∙ front)
      ∙ ap (λ (e : Entry). first ∷ (take i old ++ e ∷ [])) (next_is d)
      ∙ ap (λ xs. first ∷ xs) (sym (take_more old i d whole))

  pub rest_stays : drop (i + 1) (set now i carried) ≡ drop (i + 1) old
  rest_stays = drop-set-lt (i + 1) now i carried (omega arith) ∙ drop_more_same now old i rest

  -- the old entry of the page is gone
  pub moved_down : IsDistinct (pages_in old) → IsFirst first.page i old → set now i carried ≡ first ∷ entries_without first.page old
  moved_down distinct its =
      let next : i + 1 ≡ suc i = omega arith in
      let behind : drop (suc i) now ≡ drop (suc i) old = subst (λ n. drop n now ≡ drop n old) next (drop_more_same now old i rest) in
      set_split now i carried within
      ∙ sym (append_assoc (take i now) (carried ∷ []) (drop (suc i) now))
      ∙ ap (λ xs. xs ++ drop (suc i) now) front
      ∙ ap (λ xs. first ∷ (take i old ++ xs)) behind
      ∙ ap (λ xs. first ∷ xs) (removed_left first.page i old distinct its)

  default_page : (d : Entry) → (get_or now i no_entry).page ≡ (get_or old i d).page
  default_page d = ap (λ (e : Entry). e.page) (get_or_default now i no_entry d within ∙ next_is d)

  pub its_first : ((k : ℕ) (d : Entry) → k < i → ((get_or old k d).page == first.page) ≡ false) → (get_or now i no_entry).page ≡ first.page → IsFirst first.page i old
  its_first before same = record { in_range = whole; at = λ d. eq-eqb (get_or old i d).page first.page (sym (default_page d) ∙ same); before = before }

  pub not_here : ((get_or now i no_entry).page ≡ first.page → ⊥) → (d : Entry) → ((get_or old i d).page == first.page) ≡ false
  not_here other d = let e = default_page d in grind (arith, nat_tests, other, e)

-- no entry of the page so far
pub none_more : (page i : ℕ) (old : List Entry) → ((k : ℕ) (d : Entry) → k < i → ((get_or old k d).page == page) ≡ false) → ((d : Entry) → ((get_or old i d).page == page) ≡ false)
    → (k : ℕ) (d : Entry) → k < i + 1 → ((get_or old k d).page == page) ≡ false
none_more page i old before here k d lt = elim (cases_lt k i) [
  | inl less ↦ before k d less
  | inr more ↦ (let same : k ≡ i = omega (arith, lt, more) in ap (λ n. (get_or old n d).page == page) same ∙ here d)
]

-- a list that was written through is what was written
pub refilled : (xs ws : List Entry) → length ws ≡ length xs → refill (length xs) xs ws ≡ ws
refilled xs ws e = take_at ws (drop (length ws) xs) (length xs) e

-- 7. The buffer after a look-up.

module _ (e : Entry) (old : List Entry) (few : length old ≤ 16) where
  -- its page was there
  pub after_found : (new : List Entry) → length new ≡ length old → new ≡ e ∷ entries_without e.page old → new ≡ after_look_up e old
  after_found new long is = sym (take_whole 16 new (omega (arith, long, few))) ∙ ap (take 16) is

  -- it was not, and the last one has no room
  pub after_full : (last : Entry) (new : List Entry) → has e.page (pages_in old) ≡ false → length new ≡ 16 → new ++ last ∷ [] ≡ e ∷ old → new ≡ after_look_up e old
  after_full last new absent full is =
      sym (take_at new (last ∷ []) 16 full) ∙ ap (take 16) (is ∙ ap (λ xs. e ∷ xs) (sym (absent_left e.page old absent)))

  -- or has room
  pub after_room : (last : Entry) (new : List Entry) → has e.page (pages_in old) ≡ false → length new < 16 → new ++ last ∷ [] ≡ e ∷ old → new ++ last ∷ [] ≡ after_look_up e old
  after_room last new absent room is =
      sym (take_whole 16 (new ++ last ∷ []) (omega (arith, room, length_push new last))) ∙ ap (take 16) (is ∙ ap (λ xs. e ∷ xs) (sym (absent_left e.page old absent)))
