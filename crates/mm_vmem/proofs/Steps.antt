-- One more use.
use Rattle.std.proofs.Common.{◌≡◌, ◌≢◌, ℕ, zero, suc, ◌+◌, ◌<◌, ◌==◌, Bool, true, false, not, ◌&&◌, ◌||◌, if◌then◌else◌}
use Rattle.std.proofs.Common.{List, [], ◌∷◌, ◌++◌, reverse, take, set, Option, None, Some, slice_get, is_some, refl}
use Rattle.std.proofs.Common.{sym, ap, subst, arith, ◌∙◌, ◌⊎◌, inl, inr}
use Rattle.std.proofs.lemmas.{Bool.{cases_eq, ne_eqb, Decides.nat_tests}, List.reverse-append}
use Rattle.std.specs.Prelude.{slice_set}
use Rattle.mm_word.specs.declared.perm.Kind.{Kind}
use Rattle.mm_model.specs.{Uses.{Use, Accessed, Removed, accesses-append}, declared.counts.Counts.Counts}
use Rattle.mm_model.specs.Counted.{latest, written, recent, numbers, page_of_block, block_of, line_of, outside_page}
use Rattle.mm_model.specs.Counted.{has, distinct, is_block, is_hit, given_back, written_back, looked_up, look_ups}
use Rattle.mm_model.specs.{Counted.{buffer_hits, buffer_misses, page_of_old, writes}, Flags.one_if}
use Rattle.mm_vmem.specs.Stands.{LineState, state_with, line_after, line_without, Stands, moved, flat_line, state_at}
use Rattle.mm_vmem.specs.Stands.{state_has, back_of, next_state, sought, after_looks, found_in, missed_in, next_numbers}
use Rattle.mm_vmem.{specs.Stands.lines_without, proofs.Recents.move_first}

snoc : (us : List Use) (u : Use) → u ∷ reverse us ≡ reverse (us ++ u ∷ [])
snoc us u = sym (reverse-append us (u ∷ []))

self_test : (p : ℕ) → (p == p) ≡ true
self_test p = grind (arith, nat_tests)

is_tag_of : (o : Option ℕ) (w : Bool) (b : ℕ) → is_block o b ≡ state_has (state_with o w) b
is_tag_of None w b = refl
is_tag_of (Some x) w b = refl

back_of_tag : (o : Option ℕ) (w : Bool) (b : ℕ) → given_back o w b ≡ back_of (state_with o w) b
back_of_tag None w b = refl
back_of_tag (Some x) w b = refl

next_of_tag : (o : Option ℕ) (w d : Bool) (b : ℕ) → state_with (Some b) (d || (is_block o b && w)) ≡ next_state (state_with o w) b d
next_of_tag None w d b = refl
next_of_tag (Some x) w d b = refl

-- the line of the access
line_here : (us : List Use) (kind : Kind) (addr : ℕ) (done : Bool) →
    line_after (line_of (block_of addr)) (Accessed kind addr true done ∷ us) ≡ next_state (line_after (line_of (block_of addr)) us) (block_of addr) (writes kind && done)
line_here us kind addr done =
    ap (λ (t : Bool). state_with (if t then Some (block_of addr) else latest (line_of (block_of addr)) us)
    (if t then (writes kind && done) || (is_hit (block_of addr) us && written (line_of (block_of addr)) us) else written (line_of (block_of addr)) us)) (self_test (line_of (block_of addr)))
    ∙ next_of_tag (latest (line_of (block_of addr)) us) (written (line_of (block_of addr)) us) (writes kind && done) (block_of addr)

-- the other lines
line_there : (i : ℕ) (us : List Use) (kind : Kind) (addr : ℕ) (done : Bool) → line_of (block_of addr) ≢ i → line_after i (Accessed kind addr true done ∷ us) ≡ line_after i us
line_there i us kind addr done other =
    ap (λ (t : Bool). state_with (if t then Some (block_of addr) else latest i us) (if t then (writes kind && done) || (is_hit (block_of addr) us && written i us) else written i us))
    (ne_eqb (line_of (block_of addr)) i other)

get_here : {A : Type 0} (xs : List A) (i : ℕ) (c d : A) → slice_get xs i ≡ Some d → slice_get (set xs i c) i ≡ Some c
get_here [] i c d is = cc
get_here (x ∷ xs) zero c d is = refl
get_here (x ∷ xs) (suc i) c d is = get_here xs i c d is

get_other : {A : Type 0} (xs : List A) (i j : ℕ) (c : A) → i ≢ j → slice_get (set xs i c) j ≡ slice_get xs j
get_other [] i j c other = refl
get_other (x ∷ xs) zero zero c other = absurd (other refl)
get_other (x ∷ xs) zero (suc j) c other = refl
get_other (x ∷ xs) (suc i) zero c other = refl
get_other (x ∷ xs) (suc i) (suc j) c other = get_other xs i j c (λ same. other (ap suc same))

abbrev LinesAre : List (Option LineState) → List Use → Type 0
LinesAre lines us = (i : ℕ) → i < 64 → slice_get lines i ≡ Some (line_after i us)

pub tag_is : (lines : List (Option LineState)) (us : List Use) (b : ℕ) → LinesAre lines us → state_at lines (line_of b) ≡ line_after (line_of b) us
tag_is lines us b are = ap flat_line (are (line_of b) (omega arith))

abbrev next_line : List (Option LineState) → Kind → ℕ → Bool → Option LineState
next_line lines kind addr done = next_state (state_at lines (line_of (block_of addr))) (block_of addr) (writes kind && done)

abbrev next_lines : List (Option LineState) → Kind → ℕ → Bool → List (Option LineState)
next_lines lines kind addr done = slice_set lines (line_of (block_of addr)) (next_line lines kind addr done)

next_here : (lines : List (Option LineState)) (us : List Use) (kind : Kind) (addr : ℕ) (done : Bool) → LinesAre lines us →
    slice_get (next_lines lines kind addr done) (line_of (block_of addr)) ≡ Some (line_after (line_of (block_of addr)) (Accessed kind addr true done ∷ us))
next_here lines us kind addr done are =
    get_here lines (line_of (block_of addr)) (next_line lines kind addr done) _ (are (line_of (block_of addr)) (omega arith))
    ∙ ap (λ (t : Option LineState). Some (next_state t (block_of addr) (writes kind && done))) (tag_is lines us (block_of addr) are)
    ∙ ap (λ (t : Option LineState). Some t) (sym (line_here us kind addr done))

lines_next : (lines new : List (Option LineState)) (us : List Use) (kind : Kind) (addr : ℕ) (done : Bool) → LinesAre lines us →
    new ≡ next_lines lines kind addr done → LinesAre new (Accessed kind addr true done ∷ us)
lines_next lines new us kind addr done are is i small = ap (λ (xs : List (Option LineState)). slice_get xs i) is ∙ by_case (cases_eq (line_of (block_of addr)) i)
  where
    by_case : (line_of (block_of addr) ≡ i) ⊎ (line_of (block_of addr) ≢ i) → slice_get (next_lines lines kind addr done) i ≡ Some (line_after i (Accessed kind addr true done ∷ us))
    by_case (inl same) = subst (λ (j : ℕ). slice_get (next_lines lines kind addr done) j ≡ Some (line_after j (Accessed kind addr true done ∷ us))) same (next_here lines us kind addr done are)
    by_case (inr other) = get_other lines (line_of (block_of addr)) i (next_line lines kind addr done) other ∙ are i small
        ∙ ap (λ (t : Option LineState). Some t) (sym (line_there i us kind addr done other))

-- what is looked up
back_same : (us : List Use) (b : ℕ) → written_back b us ≡ back_of (line_after (line_of b) us) b
back_same us b = back_of_tag (latest (line_of b) us) (written (line_of b) us) b

hit_same : (us : List Use) (b : ℕ) → is_hit b us ≡ state_has (line_after (line_of b) us) b
hit_same us b = is_tag_of (latest (line_of b) us) (written (line_of b) us) b

sought_same : (us : List Use) (b : ℕ) → looked_up b us ≡ sought (line_after (line_of b) us) b
sought_same us b =
    ap (λ (t : Bool). if t then [] else page_of_block b ∷ page_of_old (written_back b us)) (hit_same us b)
    ∙ ap (λ (o : Option ℕ). if state_has (line_after (line_of b) us) b then [] else page_of_block b ∷ page_of_old o) (back_same us b)

buffer_next : (ps ls buffer : List ℕ) → buffer ≡ take 16 (distinct ls) → after_looks ps buffer ≡ take 16 (distinct (ps ++ ls))
buffer_next [] ls buffer is = is
buffer_next (p ∷ ps) ls buffer is = ap (moved p) (buffer_next ps ls buffer is) ∙ move_first p (ps ++ ls)

found_next : (ps ls buffer : List ℕ) → buffer ≡ take 16 (distinct ls) → found_in ps buffer ≡ buffer_hits ps ls
found_next [] ls buffer is = refl
found_next (p ∷ ps) ls buffer is =
    ap (λ (n : ℕ). n + one_if (has p (after_looks ps buffer))) (found_next ps ls buffer is)
    ∙ ap (λ (xs : List ℕ). buffer_hits ps ls + one_if (has p xs)) (buffer_next ps ls buffer is)

missed_next : (ps ls buffer : List ℕ) → buffer ≡ take 16 (distinct ls) → missed_in ps buffer ≡ buffer_misses ps ls
missed_next [] ls buffer is = refl
missed_next (p ∷ ps) ls buffer is =
    ap (λ (n : ℕ). n + one_if (not (has p (after_looks ps buffer)))) (missed_next ps ls buffer is)
    ∙ ap (λ (xs : List ℕ). buffer_misses ps ls + one_if (not (has p xs))) (buffer_next ps ls buffer is)

numbers_next : (us : List Use) (kind : Kind) (addr : ℕ) (done : Bool) (buffer : List ℕ) → buffer ≡ take 16 (recent us) →
    next_numbers (line_after (line_of (block_of addr)) us) (block_of addr) buffer (numbers us) ≡ numbers (Accessed kind addr true done ∷ us)
numbers_next us kind addr done buffer is =
    let b : ℕ = block_of addr in
    let hit : one_if (state_has (line_after (line_of b) us) b) ≡ one_if (is_hit b us) = ap one_if (sym (hit_same us b)) in
    let miss : one_if (not (state_has (line_after (line_of b) us) b)) ≡ one_if (not (is_hit b us)) = ap (λ (t : Bool). one_if (not t)) (sym (hit_same us b)) in
    let back : one_if (is_some (back_of (line_after (line_of b) us) b)) ≡ one_if (is_some (written_back b us)) = ap (λ (o : Option ℕ). one_if (is_some o)) (sym (back_same us b)) in
    let found : found_in (sought (line_after (line_of b) us) b) buffer ≡ buffer_hits (looked_up b us) (look_ups us) =
    ap (λ (ps : List ℕ). found_in ps buffer) (sym (sought_same us b)) ∙ found_next (looked_up b us) (look_ups us) buffer is in
    let missed : missed_in (sought (line_after (line_of b) us) b) buffer ≡ buffer_misses (looked_up b us) (look_ups us) =
    ap (λ (ps : List ℕ). missed_in ps buffer) (sym (sought_same us b)) ∙ missed_next (looked_up b us) (look_ups us) buffer is in
    λ j. record {
      hits = (numbers us).hits + hit j;
      misses = (numbers us).misses + miss j;
      writebacks = (numbers us).writebacks + back j;
      tlb_hits = (numbers us).tlb_hits + found j;
      tlb_misses = (numbers us).tlb_misses + missed j;
      reads = (numbers us).reads + miss j;
      writes = (numbers us).writes + back j;
    }

-- one more access that found its page
pub stands_counted : (uses more : ℕ) (lines new : List (Option LineState)) (buffer after : List ℕ) (n m : Counts) (us : List Use) (kind : Kind) (addr : ℕ) (done : Bool) →
    more ≡ uses + 1 →
    new ≡ slice_set lines (line_of (block_of addr)) (next_state (state_at lines (line_of (block_of addr))) (block_of addr) (writes kind && done)) →
    after ≡ after_looks (sought (state_at lines (line_of (block_of addr))) (block_of addr)) buffer →
    m ≡ next_numbers (state_at lines (line_of (block_of addr))) (block_of addr) buffer n →
    Stands uses lines buffer n us → Stands more new after m (us ++ Accessed kind addr true done ∷ [])
stands_counted uses more lines new buffer after n m us kind addr done one_more new_is after_is m_is old =
    let b : ℕ = block_of addr in
    let tag : state_at lines (line_of b) ≡ line_after (line_of b) (reverse us) = tag_is lines (reverse us) b old.lines_are in
    let at_end : Accessed kind addr true done ∷ reverse us ≡ reverse (us ++ Accessed kind addr true done ∷ []) = snoc us (Accessed kind addr true done) in
    record {
      count = omega (arith, one_more, accesses-append us (Accessed kind addr true done ∷ []), old.count);
      lines_are = subst (λ (vs : List Use). LinesAre new vs) at_end (lines_next lines new (reverse us) kind addr done old.lines_are new_is);
      buffer_is = after_is
          ∙ ap (λ (t : Option LineState). after_looks (sought t b) buffer) tag
          ∙ ap (λ (ps : List ℕ). after_looks ps buffer) (sym (sought_same (reverse us) b))
          ∙ buffer_next (looked_up b (reverse us)) (look_ups (reverse us)) buffer old.buffer_is
          ∙ ap (λ (vs : List Use). take 16 (recent vs)) at_end;
      numbers_are = m_is
          ∙ ap (λ (t : Option LineState). next_numbers t b buffer n) tag
          ∙ ap (λ (k : Counts). next_numbers (line_after (line_of b) (reverse us)) b buffer k) old.numbers_are
          ∙ numbers_next (reverse us) kind addr done buffer old.buffer_is
          ∙ ap numbers at_end;
    }

-- one more that found none
pub stands_no_page : (uses more : ℕ) (lines : List (Option LineState)) (buffer : List ℕ) (n : Counts) (us : List Use) (kind : Kind) (addr : ℕ) (done : Bool) →
    more ≡ uses + 1 → Stands uses lines buffer n us → Stands more lines buffer n (us ++ Accessed kind addr false done ∷ [])
stands_no_page uses more lines buffer n us kind addr done one_more old =
    let at_end : Accessed kind addr false done ∷ reverse us ≡ reverse (us ++ Accessed kind addr false done ∷ []) = snoc us (Accessed kind addr false done) in
    record {
      count = omega (arith, one_more, accesses-append us (Accessed kind addr false done ∷ []), old.count);
      lines_are = subst (λ (vs : List Use). LinesAre lines vs) at_end old.lines_are;
      buffer_is = old.buffer_is ∙ ap (λ (vs : List Use). take 16 (recent vs)) at_end;
      numbers_are = old.numbers_are ∙ ap numbers at_end;
    }

without_tag : (page : ℕ) (o : Option ℕ) (w : Bool) → line_without page (state_with o w) ≡ state_with (outside_page page o) w
without_tag page None w = refl
without_tag page (Some x) w = by (page_of_block x == page)
  where
    by : (t : Bool) → (if t then None else state_with (Some x) w) ≡ state_with (if t then None else Some x) w
    by true = refl
    by false = refl

get_without : (page : ℕ) (lines : List (Option LineState)) (i : ℕ) (t : Option LineState) → slice_get lines i ≡ Some t → slice_get (lines_without page lines) i ≡ Some (line_without page t)
get_without page [] i t is = cc
get_without page (x ∷ xs) zero t is = ap (λ (o : Option (Option LineState)). Some (line_without page (flat_line o))) is
get_without page (x ∷ xs) (suc i) t is = get_without page xs i t is

-- a page that is removed
pub stands_removed : (uses : ℕ) (lines new : List (Option LineState)) (buffer after : List ℕ) (n : Counts) (us : List Use) (page : ℕ) →
    new ≡ lines_without page lines → after ≡ [] → Stands uses lines buffer n us → Stands uses new after n (us ++ Removed page ∷ [])
stands_removed uses lines new buffer after n us page new_is after_is old =
    let at_end : Removed page ∷ reverse us ≡ reverse (us ++ Removed page ∷ []) = snoc us (Removed page) in
    record {
      count = omega (arith, accesses-append us (Removed page ∷ []), old.count);
      lines_are = subst (λ (vs : List Use). LinesAre new vs) at_end (λ i small.
          ap (λ (xs : List (Option LineState)). slice_get xs i) new_is
          ∙ get_without page lines i _ (old.lines_are i small)
          ∙ ap (λ (t : Option LineState). Some t) (without_tag page (latest i (reverse us)) (written i (reverse us))));
      buffer_is = after_is ∙ ap (λ (vs : List Use). take 16 (recent vs)) at_end;
      numbers_are = old.numbers_are ∙ ap numbers at_end;
    }

-- the line of a write that was done
written_here : (us : List Use) (kind : Kind) (addr : ℕ) → writes kind ≡ true →
    line_after (line_of (block_of addr)) (Accessed kind addr true true ∷ us) ≡ Some (record { block = block_of addr; dirty = true })
written_here us kind addr w = line_here us kind addr true ∙ by (line_after (line_of (block_of addr)) us) (writes kind) w
  where
    by : (t : Option LineState) (b : Bool) → b ≡ true → next_state t (block_of addr) (b && true) ≡ Some (record { block = block_of addr; dirty = true })
    by None true h = refl
    by (Some t) true h = refl
    by t false h = cc

-- an access that was counted as one that wrote nothing did write
pub stands_marked : (uses : ℕ) (lines new : List (Option LineState)) (buffer : List ℕ) (n : Counts) (us : List Use) (kind : Kind) (addr : ℕ) → writes kind ≡ true →
    new ≡ slice_set lines (line_of (block_of addr)) (Some (record { block = block_of addr; dirty = true })) →
    Stands uses lines buffer n (us ++ Accessed kind addr true false ∷ []) → Stands uses new buffer n (us ++ Accessed kind addr true true ∷ [])
stands_marked uses lines new buffer n us kind addr w new_is old =
    let was : reverse (us ++ Accessed kind addr true false ∷ []) ≡ Accessed kind addr true false ∷ reverse us = reverse-append us (Accessed kind addr true false ∷ []) in
    let at_end : Accessed kind addr true true ∷ reverse us ≡ reverse (us ++ Accessed kind addr true true ∷ []) = snoc us (Accessed kind addr true true) in
    record {
      count = omega (arith, accesses-append us (Accessed kind addr true true ∷ []), accesses-append us (Accessed kind addr true false ∷ []), old.count);
      lines_are = subst (λ (vs : List Use). LinesAre new vs) at_end (marked (reverse us) (subst (λ (vs : List Use). LinesAre lines vs) was old.lines_are));
      buffer_is = old.buffer_is ∙ ap (λ (vs : List Use). take 16 (recent vs)) was ∙ ap (λ (vs : List Use). take 16 (recent vs)) at_end;
      numbers_are = old.numbers_are ∙ ap numbers was ∙ ap numbers at_end;
    }
  where
    marked : (vs : List Use) → LinesAre lines (Accessed kind addr true false ∷ vs) → LinesAre new (Accessed kind addr true true ∷ vs)
    marked vs are i small = ap (λ (xs : List (Option LineState)). slice_get xs i) new_is ∙ by_case (cases_eq (line_of (block_of addr)) i)
      where
        by_case : (line_of (block_of addr) ≡ i) ⊎ (line_of (block_of addr) ≢ i)
            → slice_get (slice_set lines (line_of (block_of addr)) (Some (record { block = block_of addr; dirty = true }))) i ≡ Some (line_after i (Accessed kind addr true true ∷ vs))
        by_case (inl same) = subst (λ (j : ℕ). slice_get (slice_set lines (line_of (block_of addr)) (Some (record { block = block_of addr; dirty = true }))) j ≡ Some
            (line_after j (Accessed kind addr true true ∷ vs))) same
            (get_here lines (line_of (block_of addr)) (Some (record { block = block_of addr; dirty = true })) _ (are (line_of (block_of addr)) (omega arith))
            ∙ ap (λ (t : Option LineState). Some t) (sym (written_here vs kind addr w)))
        by_case (inr other) = get_other lines (line_of (block_of addr)) i (Some (record { block = block_of addr; dirty = true })) other ∙ are i small
            ∙ ap (λ (t : Option LineState). Some t) (line_there i vs kind addr false other ∙ sym (line_there i vs kind addr true other))

-- before any use
pub stands_none : (lines : List (Option LineState)) (buffer : List ℕ) (n : Counts) → ((i : ℕ) → i < 64 → slice_get lines i ≡ Some None) → buffer ≡ [] →
    n ≡ record { hits = 0; misses = 0; writebacks = 0; tlb_hits = 0; tlb_misses = 0; reads = 0; writes = 0 } → Stands 0 lines buffer n []
stands_none lines buffer n empty buffer_is n_is = record { count = refl; lines_are = empty; buffer_is = buffer_is; numbers_are = n_is }
