-- The kept words of pages, and the words that threads fetch.
use Rattle.std.proofs.Common.{◌≡◌, ◌⊎◌, inl, inr, ℕ, ◌+◌, ◌*◌, ◌<◌, Bool, true, false, if◌then◌else◌, List, [], ◌∷◌, ◌++◌}
use Rattle.std.proofs.Common.{length, take, get_or, Option, Some, None, is_some, refl, sym, ap, ◌∙◌, subst, arith, eqb-true, append-nil}
use Rattle.std.proofs.lemmas.Bool.{cases_lt}
use Rattle.std.specs.{Prelude.Contains, List.{AllByRecursion, filter}, Ordering.{nat_cmp, eq_by_cmp}, Cmp.unsigned_tied}
use Rattle.std.specs.{FinMap.find, BTreeSet.insert_key}
use Rattle.mm_word.specs.declared.word.Cell.{Cell}
use Rattle.mm_model.specs.{Memory.{cell_at, page_of, place_of, IsPaged}, Image.Image}
use Rattle.mm_model.proofs.Memories.{aligned, page_of_cell, page_whole}
use Rattle.mm_kernel.specs.{Segments.{Segment, is_kept}, declared.thread.Thread.Thread, Derived.Fetches}
use Rattle.mm_span.specs.Spans.{Span, AreSpans, IsWord}
use Rattle.mm_span.proofs.{Members.{in_first, in_rest, all_at, all_of, in_filter, filter_in}, Runs.spans_alike}
use Rattle.mm_keep_text.specs.Parts.{AreAll, IsHeld, IsHeldIn, InPages, SomeFetches}
use Rattle.mm_keep_text.proofs.Uses.{one_fetch}
use Rattle.mm_keep_text.proofs.Sets.{word_added, all_as, all_then, all_more, take_item, got_old, got_new, got_cases}

-- 1. Kept words.

found_page : (pages : List (ℕ × List Cell)) (q : ℕ) (cells : List Cell) → find nat_cmp q pages ≡ Some cells → Contains pages (q, cells)
found_page [] q cells h = cc
found_page (p ∷ ps) q cells h = at (eq_by_cmp nat_cmp q p.0) refl h (found_page ps q cells)
  where
    at : (b : Bool) → eq_by_cmp nat_cmp q p.0 ≡ b → (if b then Some p.1 else find nat_cmp q ps) ≡ Some cells
        → (find nat_cmp q ps ≡ Some cells → Contains ps (q, cells)) → Contains (p ∷ ps) (q, cells)
    at true e f later =
        let same : q ≡ p.0 = eqb-true q p.0 (sym (unsigned_tied q p.0) ∙ e) in
        let is : p.1 ≡ cells = cc in
        let pair : p ≡ (q, cells) = λ i. (sym same i, is i) in
        subst (Contains (p ∷ ps)) pair (in_first p ps)
    at false e f later = in_rest p ps (q, cells) (later f)

module _ (i : Image) (kept : List Segment) where
  pub held_by : (w : ℕ) (o : Option Cell) → o ≡ cell_at i.memory w → is_some o ≡ true → is_kept kept w ≡ true → IsHeld i kept w
  held_by w None e some own = cc
  held_by w (Some c) e some own = record { cell = c; at = sym e; of_kept = own }

  -- a word that is added
  pub held_added : (old : List ℕ) (w : ℕ) → IsHeld i kept w → AreAll (λ x. Contains old x ⊎ ((w ≡ x) × IsHeld i kept x)) (insert_key nat_cmp old w)
  held_added old w h =
      all_as (λ x. Contains old x ⊎ (w ≡ x)) (λ x. Contains old x ⊎ ((w ≡ x) × IsHeld i kept x)) (insert_key nat_cmp old w)
      (λ x k. elim k [ inl there ↦ inl there | inr e ↦ inr (e, subst (IsHeld i kept) e h) ])
      (λ x k. elim k [ inl there ↦ inl there | inr own ↦ inr own.0 ])
      (word_added old w)

  -- one place more
  pub place_more : (old mid new : List ℕ) (page k : ℕ) → AreAll (λ x. Contains old x ⊎ IsHeldIn i kept page k x) mid
      → AreAll (λ x. Contains mid x ⊎ ((page * 4096 + 8 * k ≡ x) × IsHeld i kept x)) new
      → AreAll (λ x. Contains old x ⊎ IsHeldIn i kept page (k + 1) x) new
  place_more old mid new page k h more =
      all_then (IsHeldIn i kept page k) (λ x. (page * 4096 + 8 * k ≡ x) × IsHeld i kept x) (IsHeldIn i kept page (k + 1)) old mid new
      (λ x p. record { place = p.place; low = let low = p.low in omega (arith, low); at = p.at; held = p.held })
      (λ x q. record { place = k; low = omega arith; at = q.0; held = q.1 })
      (λ x r. elim (cases_lt r.place k) [
        | inl less ↦ inl (record { place = r.place; low = less; at = r.at; held = r.held })
        | inr not_less ↦
            let low = r.low in
            let same : r.place ≡ k = omega (arith, low, not_less) in
            inr (ap (λ n. page * 4096 + 8 * n) (sym same) ∙ r.at, r.held)
      ])
      h more

  -- one page more
  pub page_more : (pages : List (ℕ × List Cell)) (n : ℕ) (page : ℕ × List Cell) (mid new : List ℕ) → n < length pages → page ≡ get_or pages n page
      → AreAll (InPages i kept (take n pages)) mid → AreAll (λ x. Contains mid x ⊎ IsHeldIn i kept page.0 512 x) new
      → AreAll (InPages i kept (take (n + 1) pages)) new
  page_more pages n page mid new inside at h more =
      let is = take_item pages n page inside at in
      all_more (InPages i kept (take n pages)) (IsHeldIn i kept page.0 512) (InPages i kept (take (n + 1) pages)) mid new
      (λ x p. record { page = p.page; inside = got_old (take n pages) (take (n + 1) pages) page is p.page p.inside; held = p.held })
      (λ x q. record { page = page; inside = got_new (take n pages) (take (n + 1) pages) page is; held = q })
      (λ x r. elim (got_cases (take n pages) (take (n + 1) pages) page is r.page r.inside) [
        | inl before ↦ inl (record { page = r.page; inside = before; held = r.held })
        | inr e ↦ inr (subst (λ (p : ℕ × List Cell). IsHeldIn i kept p.0 512 x) (sym e) r.held)
      ])
      h more

  in_pages : (w : ℕ) → IsHeld i kept w → InPages i kept i.memory.pages w
  in_pages w h =
      let even = aligned i.memory w h.cell h.at in
      let found = page_of_cell i.memory w h.cell h.at in
      record {
        page = (page_of w, found.0);
        inside = found_page i.memory.pages (page_of w) found.0 found.1;
        held = record { place = place_of w; low = omega (arith, even); at = omega (arith, even); held = h };
      }

  -- the words of all pages are all kept words
  pub held_all : (keys : List ℕ) → AreAll (InPages i kept i.memory.pages) keys → AreAll (IsHeld i kept) keys
  held_all keys h = all_as (InPages i kept i.memory.pages) (IsHeld i kept) keys (λ w p. p.held.held) in_pages h

  pub held_words : IsPaged i.memory → (keys : List ℕ) → AreAll (IsHeld i kept) keys → AllByRecursion IsWord keys
  held_words paged keys all = all_of IsWord keys (λ w there.
      let h = (all.each w).0 there in
      let found = page_of_cell i.memory w h.cell h.at in
      let low = (page_whole i.memory paged (page_of w) found.0 found.1).number in
      (aligned i.memory w h.cell h.at, omega (arith, low)))

-- 2. Fetched words.

pub fetch_added : (t : Thread) (old : List ℕ) (w : ℕ) → Fetches t w → AreAll (λ x. Contains old x ⊎ Fetches t x) (insert_key nat_cmp old w)
fetch_added t old w f =
    all_as (λ x. Contains old x ⊎ (w ≡ x)) (λ x. Contains old x ⊎ Fetches t x) (insert_key nat_cmp old w)
    (λ x k. elim k [ inl there ↦ inl there | inr e ↦ inr (subst (Fetches t) e f) ])
    (λ x k. elim k [ inl there ↦ inl there | inr g ↦ inr (one_fetch t w x f g) ])
    (word_added old w)

pub words_added : (old : List ℕ) (w : ℕ) → IsWord w → AllByRecursion IsWord old → AllByRecursion IsWord (insert_key nat_cmp old w)
words_added old w h all = all_of IsWord (insert_key nat_cmp old w) (λ x there. elim (((word_added old w).each x).0 there) [
  | inl before ↦ all_at IsWord old x all before
  | inr e ↦ subst IsWord e h
])

-- one thread more
pub fetches_more : (ts more : List Thread) (t : Thread) (mid new : List ℕ) → more ≡ ts ++ t ∷ []
    → AreAll (SomeFetches ts) mid → AreAll (λ x. Contains mid x ⊎ Fetches t x) new → AreAll (SomeFetches more) new
fetches_more ts more t mid new is h k =
    all_more (SomeFetches ts) (Fetches t) (SomeFetches more) mid new
    (λ x p. record { thread = p.thread; inside = got_old ts more t is p.thread p.inside; fetches = p.fetches })
    (λ x q. record { thread = t; inside = got_new ts more t is; fetches = q })
    (λ x r. elim (got_cases ts more t is r.thread r.inside) [
      | inl before ↦ inl (record { thread = r.thread; inside = before; fetches = r.fetches })
      | inr e ↦ inr (subst (λ u. Fetches u x) (sym e) r.fetches)
    ])
    h k
