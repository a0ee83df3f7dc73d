-- The pages of some groups.
use Rattle.std.proofs.Common.{◌≡◌, ℕ, zero, suc, ◌+◌, ◌*◌, ◌%◌, ◌^◌, ◌<◌, ◌≤◌, ◌↔◌, inl, inr, Bool, true, false, cond}
use Rattle.std.proofs.Common.{◌&&◌, ◌||◌, List, [], ◌∷◌, ◌++◌, map, length, slice_get, get_or, take, length-take}
use Rattle.std.proofs.Common.{Option, Some, None, is_some, refl, sym, ap, ◌∙◌, subst, arith, T, eqb-true}
use Rattle.std.proofs.lemmas.{Bool.{both_ways, cases_Bool, false_from_ne_true}, List.{take_more, map-append}}
use Rattle.std.specs.{Prelude.IsTrue, List.{AllByRecursion, filter}, Option.option_map}
use Rattle.std.specs.{Ordering.{nat_cmp, eq_by_cmp, is_lt}, Cmp.unsigned_tied}
use Rattle.std.specs.FinMap.{find, is_sorted, nat_cmp-IsAntisymmetric}
use Rattle.std.specs.FinMap.Entries.{below_all, find-where_key, is_sorted-where_key}
use Rattle.mm_word.specs.{declared.word.Cell.Cell, Word.IsWord}
use Rattle.mm_model.specs.Memory.{Memory, cell_at, cell_in, page_at, page_of, place_of, is_mapped, zero_cell, IsPage}
use Rattle.mm_model.specs.{Memory.IsPaged, Slot.Slot, Image.Image, Groups.own_slots, Spelling.{HoldsWords, IsImage}}
use Rattle.mm_model.specs.{Reach.Entries.All, Worlds.{Touchable, Extracts}}
use Rattle.mm_model.proofs.Filters.{filter_last_in, filter_last_out}
use Rattle.mm_model.proofs.Memories.{cell_at-aligned, cell_at-unaligned, word_or_none, page_whole, truth, place_within}
use Rattle.mm_image.specs.Images.{image_from}
use Rattle.mm_audit.specs.Own.{kept_cell, kept_cells, some_word, has_word, kept_pages}

-- 1. Whether a word of a page passes.

module _ (passes : ℕ → Bool) where
  pub some_then : (count w k : ℕ) → k < count → passes (w + 8 * k) ≡ true → some_word passes count w ≡ true
  some_then zero w k lt e = absurd (omega arith)
  some_then (suc count) w zero lt e = first (passes w) (ap passes (let same : w ≡ w + 8 * 0 = omega arith in same) ∙ e)
    where
      first : (b : Bool) → b ≡ true → (b || some_word passes count (w + 8)) ≡ true
      first true t = refl
      first false t = cc
  some_then (suc count) w (suc k) lt e = rest (passes w) (some_then count (w + 8) k (omega arith) (ap passes (let same : w + 8 + 8 * k ≡ w + 8 * suc k = omega arith in same) ∙ e))
    where
      rest : (b : Bool) → some_word passes count (w + 8) ≡ true → (b || some_word passes count (w + 8)) ≡ true
      rest true t = refl
      rest false t = t

  pub record SomeAt (count w : ℕ) : Type 0 where
    pub at : ℕ
    pub small : at < count
    pub passing : passes (w + 8 * at) ≡ true

  pub then_some : (count w : ℕ) → some_word passes count w ≡ true → SomeAt count w
  then_some zero w e = cc
  then_some (suc count) w e = by (passes w) refl e (then_some count (w + 8))
    where
      by : (b : Bool) → passes w ≡ b → (b || some_word passes count (w + 8)) ≡ true → (some_word passes count (w + 8) ≡ true → SomeAt count (w + 8)) → SomeAt (suc count) w
      by true t x later = record { at = 0; small = omega arith; passing = ap passes (let same : w + 8 * 0 ≡ w = omega arith in same) ∙ t }
      by false f x later =
          let r = later x in
          record { at = suc r.at; small = (let lt = r.small in omega arith); passing = ap passes (let same : w + 8 * suc r.at ≡ w + 8 + 8 * r.at = omega arith in same) ∙ r.passing }

  pub some_none : (count w : ℕ) → ((k : ℕ) → k < count → passes (w + 8 * k) ≡ false) → some_word passes count w ≡ false
  some_none count w f = false_from_ne_true (some_word passes count w) (λ t. let x = then_some count w t in both_ways (passes (w + 8 * x.at)) (f x.at x.small) x.passing)

  pub has_then : (page k : ℕ) → k < 512 → passes (page * 4096 + 8 * k) ≡ true → has_word passes page ≡ true
  unfolding has_word
  has_then page k lt e = some_then 512 (page * 4096) k lt e

  pub then_has : (page : ℕ) → has_word passes page ≡ true → SomeAt 512 (page * 4096)
  unfolding has_word
  then_has page e = then_some 512 (page * 4096) e

  pub has_none : (page : ℕ) → ((k : ℕ) → k < 512 → passes (page * 4096 + 8 * k) ≡ false) → has_word passes page ≡ false
  unfolding has_word
  has_none page f = some_none 512 (page * 4096) f

  -- 2. Cells.

  pub kept_length : (w : ℕ) (cells : List Cell) → length (kept_cells passes w cells) ≡ length cells
  kept_length w [] = refl
  kept_length w (cell ∷ cells) = ap suc (kept_length (w + 8) cells)

  pub kept_get : (w : ℕ) (cells : List Cell) (k : ℕ) → slice_get (kept_cells passes w cells) k ≡ option_map (kept_cell (passes (w + 8 * k))) (slice_get cells k)
  kept_get w [] k = refl
  kept_get w (cell ∷ cells) zero = ap (λ v. Some (kept_cell (passes v) cell)) (let same : w ≡ w + 8 * 0 = omega arith in same)
  kept_get w (cell ∷ cells) (suc k) = kept_get (w + 8) cells k ∙ ap (λ v. option_map (kept_cell (passes v)) (slice_get cells k)) (let same : w + 8 + 8 * k ≡ w + 8 * suc k = omega arith in same)

  -- one cell more
  pub kept_last : (w : ℕ) (cells : List Cell) (cell : Cell) → kept_cells passes w (cells ++ cell ∷ []) ≡ kept_cells passes w cells ++ kept_cell (passes (w + 8 * length cells)) cell ∷ []
  kept_last w [] cell = ap (λ v. kept_cell (passes v) cell ∷ []) (let same : w ≡ w + 8 * 0 = omega arith in same)
  kept_last w (c ∷ cells) cell =
      ap (λ l. kept_cell (passes w) c ∷ l)
      (kept_last (w + 8) cells cell ∙ ap (λ v. kept_cells passes (w + 8) cells ++ kept_cell (passes v) cell ∷ [])
      (let same : w + 8 + 8 * length cells ≡ w + 8 * length (c ∷ cells) = omega arith in same))

  pub kept_more : (w : ℕ) (cells : List Cell) (k : ℕ) (cell : Cell) → k < length cells → cell ≡ get_or cells k cell
      → kept_cells passes w (take (k + 1) cells) ≡ kept_cells passes w (take k cells) ++ kept_cell (passes (w + 8 * k))
      cell ∷ []
  kept_more w cells k cell lt is =
      ap (kept_cells passes w) (take_more cells k cell lt ∙ ap (λ v. take k cells ++ v ∷ []) (sym is)) ∙ kept_last w (take k cells) cell
      ∙ ap (λ n. kept_cells passes w (take k cells) ++ kept_cell (passes (w + 8 * n)) cell ∷ []) (let e : length (take k cells) ≡ k = simp length-take (omega arith) in e)

  kept_word : (b : Bool) (cell : Cell) → IsWord cell.word → IsWord (kept_cell b cell).word
  kept_word true cell h = h
  kept_word false cell h = omega arith

  kept_words : (w : ℕ) (cells : List Cell) → AllByRecursion (λ (c : Cell). IsWord c.word) cells → AllByRecursion (λ (c : Cell). IsWord c.word) (kept_cells passes w cells)
  kept_words w [] h = tt
  kept_words w (cell ∷ cells) h = (kept_word (passes w) cell h.0, kept_words (w + 8) cells h.1)

  -- 3. Pages.

  abbrev cut : ℕ × List Cell → ℕ × List Cell
  cut page = (page.0, kept_cells passes (page.0 * 4096) page.1)

  abbrev held : List (ℕ × List Cell) → List (ℕ × List Cell)
  held pages = filter (λ page. has_word passes page.0) pages

  cut_below : (x : ℕ) (pages : List (ℕ × List Cell)) → below_all nat_cmp x (map cut pages) ≡ below_all nat_cmp x pages
  cut_below x [] = refl
  cut_below x (page ∷ pages) = ap (λ b. is_lt (nat_cmp x page.0) && b) (cut_below x pages)

  cut_sorted : (pages : List (ℕ × List Cell)) → is_sorted nat_cmp (map cut pages) ≡ is_sorted nat_cmp pages
  cut_sorted [] = refl
  cut_sorted (page ∷ pages) = both_sides (below_all nat_cmp page.0 (map cut pages)) (below_all nat_cmp page.0 pages)
      (is_sorted nat_cmp (map cut pages)) (is_sorted nat_cmp pages) (cut_below page.0 pages) (cut_sorted pages)
    where
      both_sides : (a b p q : Bool) → a ≡ b → p ≡ q → (a && p) ≡ (b && q)
      both_sides a b p q e f = ap (λ v. v && p) e ∙ ap (λ v. b && v) f

  kept_rises : (pages : List (ℕ × List Cell)) → IsTrue (is_sorted nat_cmp pages) → IsTrue (is_sorted nat_cmp (kept_pages passes pages))
  kept_rises pages h = cut_sorted (held pages) ∙ truth (is_sorted nat_cmp (held pages)) (is_sorted-where_key nat_cmp (has_word passes) pages (subst T (sym h) tt))

  kept_each : (P Q : ℕ × List Cell → Type 0) → ((page : ℕ × List Cell) → P page → Q (cut page)) → (pages : List (ℕ × List Cell)) → AllByRecursion P pages → AllByRecursion Q (kept_pages passes pages)
  kept_each P Q f [] h = tt
  kept_each P Q f (page ∷ pages) h =
      elim (has_word passes page.0) as (λ b. AllByRecursion Q (map cut (cond b (page ∷ held pages) (held pages)))) [
        | true ↦ (f page h.0, kept_each P Q f pages h.1)
        | false ↦ kept_each P Q f pages h.1
      ]

  kept_count : (pages : List (ℕ × List Cell)) → length (kept_pages passes pages) ≤ length pages
  kept_count [] = omega arith
  kept_count (page ∷ pages) =
      let rest = kept_count pages in
      elim (has_word passes page.0) as (λ b. length (map cut (cond b (page ∷ held pages) (held pages))) ≤ suc (length pages)) [ true ↦ omega arith | false ↦ omega arith ]

  pub kept_paged : (m : Memory) → IsPaged m → IsPaged (record { pages = kept_pages passes m.pages; frames = m.frames })
  kept_paged m h = record {
    pages = record {
      rising = kept_rises m.pages h.pages.rising;
      whole = kept_each IsPage IsPage (λ page x. record { number = x.number; cells = kept_length (page.0 * 4096) page.1 ∙ x.cells }) m.pages h.pages.whole;
    };
    fitting = let fewer = kept_count m.pages in let fit = h.fitting in omega arith;
  }

  pub kept_holds : (pages : List (ℕ × List Cell)) → AllByRecursion HoldsWords pages → AllByRecursion HoldsWords (kept_pages passes pages)
  kept_holds pages h = kept_each HoldsWords HoldsWords (λ page x. kept_words (page.0 * 4096) page.1 x) pages h

  -- one page more
  pub kept_page_in : (pages : List (ℕ × List Cell)) (page : ℕ × List Cell) → has_word passes page.0 ≡ true
      → kept_pages passes (pages ++ page ∷ []) ≡ kept_pages passes pages ++ (
        page.0,
        kept_cells passes (page.0 * 4096)
            page.1,
      ) ∷ []
  kept_page_in pages page e = ap (map cut) (filter_last_in (λ (p : ℕ × List Cell). has_word passes p.0) pages page e) ∙ map-append cut (held pages) (page ∷ [])

  pub kept_page_out : (pages : List (ℕ × List Cell)) (page : ℕ × List Cell) → has_word passes page.0 ≡ false → kept_pages passes (pages ++ page ∷ []) ≡ kept_pages passes pages
  kept_page_out pages page e = ap (map cut) (filter_last_out (λ (p : ℕ × List Cell). has_word passes p.0) pages page e)

  find_cut : (pages : List (ℕ × List Cell)) (q : ℕ) → find nat_cmp q (map cut pages) ≡ option_map (kept_cells passes (q * 4096)) (find nat_cmp q pages)
  find_cut [] q = refl
  find_cut (page ∷ pages) q = by (eq_by_cmp nat_cmp q page.0) refl (find_cut pages q)
    where
      by : (b : Bool) → eq_by_cmp nat_cmp q page.0 ≡ b → find nat_cmp q (map cut pages) ≡ option_map (kept_cells passes (q * 4096)) (find nat_cmp q pages)
          → cond b (Some (kept_cells passes (page.0 * 4096) page.1)) (find nat_cmp q (map cut pages)) ≡ option_map (kept_cells passes (q * 4096)) (cond b (Some page.1) (find nat_cmp q pages))
      by true e r = ap (λ n. Some (kept_cells passes (n * 4096) page.1)) (sym (eqb-true q page.0 (sym (unsigned_tied q page.0) ∙ e)))
      by false e r = r

  -- a page is there where it was there with a word that passes
  pub find_kept : (pages : List (ℕ × List Cell)) (q : ℕ) → find nat_cmp q (kept_pages passes pages) ≡ option_map (kept_cells passes (q * 4096)) (cond (has_word passes q) (find nat_cmp q pages) None)
  find_kept pages q = find_cut (held pages) q ∙ ap (option_map (kept_cells passes (q * 4096)))
      (find-where_key nat_cmp (has_word passes) q (λ x e. ap (has_word passes) (sym (nat_cmp-IsAntisymmetric q x e)))
      pages)

-- 4. The image.

word_is : (w : ℕ) → w % 8 ≡ 0 → page_of w * 4096 + 8 * place_of w ≡ w
word_is w a = omega arith

of_page : (q k : ℕ) → k < 512 → (page_of (q * 4096 + 8 * k) ≡ q) × ((q * 4096 + 8 * k) % 8 ≡ 0)
of_page q k lt = (omega arith, omega arith)

module _ (i : Image) (img : IsImage i) (c : ℕ → Bool) (passes : ℕ → Bool) (small : (w : ℕ) → Touchable i All c w → w < 2 ^ 54)
    (says : (w : ℕ) → w % 8 ≡ 0 → w < 2 ^ 54 → (passes w ≡ true) ↔ Touchable i All c w) where
  abbrev pub cut_image : Image
  cut_image = image_from i.version i.split (own_slots c i.slots) (kept_pages passes i.memory.pages) i.memory.frames

  abbrev now : Memory
  now = record { pages = kept_pages passes i.memory.pages; frames = i.memory.frames }

  touch_passes : (w : ℕ) → Touchable i All c w → passes w ≡ true
  touch_passes w t = (says w t.touches.loads.word (small w t)).1 t

  touch_held : (w : ℕ) → Touchable i All c w → has_word passes (page_of w) ≡ true
  touch_held w t = has_then passes (page_of w) (place_of w) (place_within w) (ap passes (word_is w t.touches.loads.word) ∙ touch_passes w t)

  number_small : (q : ℕ) → is_mapped i.memory q ≡ true → q < 2 ^ 42
  number_small q h = by (page_at i.memory q) refl h
    where
      by : (o : Option (List Cell)) → page_at i.memory q ≡ o → is_some o ≡ true → q < 2 ^ 42
      by None e x = cc
      by (Some cells) e x = (page_whole i.memory img.paged q cells e).number

  kept : (w : ℕ) → Touchable i All c w → is_mapped i.memory (page_of w) ≡ true → is_mapped now (page_of w) ≡ true
  kept w t m = ap is_some (find_kept passes i.memory.pages (page_of w)
      ∙ ap (λ b. option_map (kept_cells passes (page_of w * 4096)) (cond b (find nat_cmp (page_of w) i.memory.pages)
      None)) (touch_held w t))
      ∙ same (find nat_cmp (page_of w) i.memory.pages) m
    where
      same : (o : Option (List Cell)) → is_some o ≡ true → is_some (option_map (kept_cells passes (page_of w * 4096)) o) ≡ true
      same None e = cc
      same (Some cells) e = refl

  -- a page that is there was there, and has a word that passes
  was : (q : ℕ) → is_mapped now q ≡ true → (is_mapped i.memory q ≡ true) × (has_word passes q ≡ true)
  was q h = by (has_word passes q) refl (find nat_cmp q i.memory.pages) refl (sym (ap is_some (find_kept passes i.memory.pages q)) ∙ h)
    where
      by : (b : Bool) → has_word passes q ≡ b → (o : Option (List Cell)) → find nat_cmp q i.memory.pages ≡ o
          → is_some (option_map (kept_cells passes (q * 4096)) (cond b (find nat_cmp q i.memory.pages) None)) ≡ true
          → (is_mapped i.memory q ≡ true) × (has_word passes q ≡ true)
      by false e o p x = cc
      by true e None p x = absurd (both_ways _ (ap (λ v. is_some (option_map (kept_cells passes (q * 4096)) v)) p) x)
      by true e (Some cells) p x = (ap is_some p, e)

  only : (q : ℕ) → is_mapped now q ≡ true → (is_mapped i.memory q ≡ true) × ((w : ℕ) × Touchable i All c w × (page_of w ≡ q))
  only q h =
      let x = was q h in
      let at = then_has passes q x.1 in
      let place = of_page q at.at at.small in
      let low = number_small q x.0 in
      let lt = at.small in
      (x.0, (q * 4096 + 8 * at.at, (says (q * 4096 + 8 * at.at) place.1 (omega arith)).0 at.passing, place.0))

  abbrev got : Bool → Bool → Option (List Cell) → ℕ → Option Cell
  got has keep o place = option_map (kept_cell keep) (cell_in (cond has o None) place)

  got_is : (w : ℕ) → w % 8 ≡ 0 → cell_at now w ≡ got (has_word passes (page_of w)) (passes w) (page_at i.memory (page_of w)) (place_of w)
  got_is w a = cell_at-aligned now w a ∙ ap (λ o. cell_in o (place_of w)) (find_kept passes i.memory.pages (page_of w)) ∙ by (cond (has_word passes (page_of w)) (page_at i.memory (page_of w)) None)
    where
      by : (o : Option (List Cell)) → cell_in (option_map (kept_cells passes (page_of w * 4096)) o) (place_of w) ≡ option_map (kept_cell (passes w)) (cell_in o (place_of w))
      by None = refl
      by (Some cells) = kept_get passes (page_of w * 4096) cells (place_of w) ∙ ap (λ v. option_map (kept_cell (passes v)) (slice_get cells (place_of w))) (word_is w a)

  all_kept : (o : Option Cell) → option_map (kept_cell true) o ≡ o
  all_kept None = refl
  all_kept (Some cell) = refl

  cells : (w : ℕ) → Touchable i All c w → cell_at now w ≡ cell_at i.memory w
  cells w t =
      let a = t.touches.loads.word in
      got_is w a ∙ ap (λ b. got b (passes w) (page_at i.memory (page_of w)) (place_of w)) (touch_held w t) ∙ ap (λ b. got true b (page_at i.memory (page_of w)) (place_of w)) (touch_passes w t)
      ∙ all_kept (cell_in (page_at i.memory (page_of w)) (place_of w)) ∙ sym (cell_at-aligned i.memory w a)

  page_there : (w : ℕ) (cell : Cell) → w % 8 ≡ 0 → cell_at now w ≡ Some cell → is_mapped now (page_of w) ≡ true
  page_there w cell a e = by (page_at now (page_of w)) refl (sym (cell_at-aligned now w a) ∙ e)
    where
      by : (o : Option (List Cell)) → page_at now (page_of w) ≡ o → cell_in o (place_of w) ≡ Some cell → is_mapped now (page_of w) ≡ true
      by None p x = cc
      by (Some cells) p x = ap is_some p

  others : (w : ℕ) (cell : Cell) → ¬ Touchable i All c w → cell_at now w ≡ Some cell → cell ≡ zero_cell
  others w cell out e = elim (word_or_none w) [
    | inr ne ↦ absurd (let none = cell_at-unaligned now w ne in let no_way : ◌≡◌ {A = Option Cell} (Some cell) None = sym e ∙ none in cc)
    | inl a ↦
        let low = number_small (page_of w) (was (page_of w) (page_there w cell a e)).0 in
        let lt : w < 2 ^ 54 = omega arith in
        elim (cases_Bool (passes w)) [
          | inl t ↦ absurd (out ((says w a lt).0 t))
          | inr f ↦ zeroed (cell_in (cond (has_word passes (page_of w)) (page_at i.memory (page_of w)) None) (place_of w))
              (sym (got_is w a ∙ ap (λ b. got (has_word passes (page_of w)) b (page_at i.memory (page_of w)) (place_of w)) f) ∙ e)
        ]
  ]
    where
      zeroed : (o : Option Cell) → option_map (kept_cell false) o ≡ Some cell → cell ≡ zero_cell
      zeroed None h = cc
      zeroed (Some x) h = cc

  pub extracts : Extracts i c cut_image
  extracts = record {
    version = refl;
    mode = refl;
    slots = refl;
    frames = refl;
    paged = kept_paged passes i.memory img.paged;
    kept = kept;
    only = only;
    cells = cells;
    others = others;
  }

-- the image of equal parts
pub same_image : {version version' frames frames' : ℕ} {split split' : Bool} {slots slots' : List Slot}
    {pages pages' : List (ℕ × List Cell)} → version ≡ version' → split ≡ split' → slots ≡ slots' → pages ≡ pages'
    → frames ≡ frames'
    → image_from version split slots pages frames ≡ image_from version' split' slots' pages' frames'
same_image a b c d e j = image_from (a j) (b j) (c j) (d j) (e j)
