-- What the cells of pages give is what each cell of memory gives.
use Rattle.std.proofs.Common.{◌≡◌, ℕ, zero, suc, ◌+◌, ◌*◌, ◌%◌, ◌^◌, ◌<◌, ◌≤◌, inl, inr, Bool, true, false, if◌then◌else◌, List, [], ◌∷◌, ◌++◌}
use Rattle.std.proofs.Common.{length, take, get_or, slice_get, Option, Some, None, refl, sym, ap, ◌∙◌, subst, arith, append_assoc, append-nil}
use Rattle.std.proofs.lemmas.List.{take_more, length-take-le}
use Rattle.std.proofs.lemmas.List.Elements.{Contains-append_left, Contains-append_right, Contains-append_cases}
use Rattle.std.proofs.lemmas.List.Elements.{All-from_recursion, All-contains}
use Rattle.std.specs.{List.{Contains}, Ordering.nat_cmp, FinMap.find}
use Rattle.mm_word.specs.declared.word.Cell.{Cell}
use Rattle.mm_model.specs.Memory.{Memory, cell_at, cell_in, page_at, page_of, place_of, IsPage, IsPaged}
use Rattle.mm_model.specs.Image.{Image}
use Rattle.mm_model.proofs.Memories.{cell_at-aligned, cell_at-unaligned, word_or_none}
use Rattle.mm_image.proofs.SortedEntries.{rises, find-at}
use Rattle.mm_graph.proofs.Cells.{found_page, in_flat_map, from_flat_map, Rises}
use Rattle.mm_graph.proofs.KeyLists.{contains_here, contains_rest}
use Rattle.mm_graph.specs.{declared.{canonical_ptr.CanonicalPtr.CanonicalPtr, found.Found.Found}, Found.found_at}
use Rattle.mm_graph.specs.Nodes.{IsAscending, found_word}
use Rattle.mm_kernel.specs.Segments.{Segment, is_kept, is_fixed}
use Rattle.mm_kernel.specs.{declared.form.Form.Form, Derived.{HasFirst, first_form}}
use Rattle.mm_hold.specs.Finding.{cells_with, page_with, pages_with, cell_found, cell_first, held_word}
use Rattle.mm_hold.proofs.Listing.{if_in, in_if, only_in}
use Rattle.mm_span.proofs.Members.{in_first}

module _ {A : Type 0} (f : ℕ → Cell → List A) where
  -- 1. One page.

  in_cells : (w : ℕ) (cells : List Cell) (k : ℕ) (c : Cell) (x : A) → slice_get cells k ≡ Some c → Contains (f (w + 8 * k) c) x → Contains (cells_with f w cells) x
  in_cells w [] k c x at h = cc
  in_cells w (y ∷ ys) zero c x at h =
      let same : y ≡ c = cc in
      let word : w + 8 * 0 ≡ w = omega arith in
      Contains-append_left (f w y) (cells_with f (w + 8) ys) x (subst (λ (v : Cell). Contains (f w v) x) (sym same) (subst (λ v. Contains (f v c) x) word h))
  in_cells w (y ∷ ys) (suc k) c x at h =
      let word : w + 8 * suc k ≡ w + 8 + 8 * k = omega arith in
      Contains-append_right (f w y) (cells_with f (w + 8) ys) x (in_cells (w + 8) ys k c x at (subst (λ v. Contains (f v c) x) word h))

  record CellAt (w : ℕ) (cells : List Cell) (x : A) : Type 0 where
    place : ℕ
    cell : Cell
    at : slice_get cells place ≡ Some cell
    has : Contains (f (w + 8 * place) cell) x

  from_cells : (w : ℕ) (cells : List Cell) (x : A) → Contains (cells_with f w cells) x → CellAt w cells x
  from_cells w [] x m = absurd (let lt = m.1 in omega arith)
  from_cells w (y ∷ ys) x m = elim (Contains-append_cases (f w y) (cells_with f (w + 8) ys) x m) [
    | inl here ↦
        let word : w ≡ w + 8 * 0 = omega arith in
        record { place = 0; cell = y; at = refl; has = subst (λ v. Contains (f v y) x) word here }
    | inr later ↦
        let r = from_cells (w + 8) ys x later in
        let word : w + 8 + 8 * r.place ≡ w + 8 * suc r.place = omega arith in
        record { place = suc r.place; cell = r.cell; at = r.at; has = subst (λ v. Contains (f v r.cell) x) word r.has }
  ]

  get_small : (cells : List Cell) (k : ℕ) (c : Cell) → slice_get cells k ≡ Some c → k < length cells
  get_small [] k c h = cc
  get_small (x ∷ xs) zero c h = omega arith
  get_small (x ∷ xs) (suc k) c h = let lt = get_small xs k c h in omega arith

  cells_push : (w : ℕ) (xs : List Cell) (c : Cell) → cells_with f w (xs ++ c ∷ []) ≡ cells_with f w xs ++ f (w + 8 * length xs) c
  cells_push w [] c =
      let word : w ≡ w + 8 * 0 = omega arith in
      append-nil (f w c) ∙ ap (λ v. f v c) word
  cells_push w (y ∷ ys) c =
      let word : w + 8 + 8 * length ys ≡ w + 8 * length (y ∷ ys) = omega arith in
      ap (λ l. f w y ++ l) (cells_push (w + 8) ys c ∙ ap (λ v. cells_with f (w + 8) ys ++ f v c) word)
      ∙ sym (append_assoc (f w y) (cells_with f (w + 8) ys) (f (w + 8 * length (y ∷ ys)) c))

  -- with the next cell
  pub cells_put : (w k : ℕ) (cells : List Cell) (c : Cell) (old now new : List A) → k < length cells → c ≡ get_or cells k c
      → now ≡ old ++ cells_with f w (take k cells) → new ≡ now ++ f (w + 8 * k) c → new ≡ old ++ cells_with f w (take (k + 1) cells)
  cells_put w k cells c old now new lt e was is =
      let more = take_more cells k c lt ∙ ap (λ (v : Cell). take k cells ++ v ∷ []) (sym e) in
      let long : length (take k cells) ≡ k = length-take-le k cells (omega arith) in
      let all : cells_with f w (take (k + 1) cells) ≡ cells_with f w (take k cells) ++ f (w + 8 * k) c =
      ap (cells_with f w) more ∙ cells_push w (take k cells) c ∙ ap (λ n. cells_with f w (take k cells) ++ f (w + 8 * n) c) long in
      is ∙ ap (λ l. l ++ f (w + 8 * k) c) was ∙ append_assoc old (cells_with f w (take k cells)) (f (w + 8 * k) c) ∙ ap (λ l. old ++ l) (sym all)

  -- 2. All pages.

  -- the cell that gives an element
  pub record Given (m : Memory) (x : A) : Type 0 where
    pub word : ℕ
    pub cell : Cell
    pub aligned : word % 8 ≡ 0
    pub small : word < 2 ^ 54
    pub at : cell_at m word ≡ Some cell
    pub has : Contains (f word cell) x

  module _ (m : Memory) (paged : IsPaged m) where
    page_whole : (p : ℕ × List Cell) → Contains m.pages p → IsPage p
    page_whole p h = All-contains IsPage m.pages p (All-from_recursion IsPage m.pages paged.pages.whole) h

    pub given_there : (w : ℕ) (c : Cell) (x : A) → cell_at m w ≡ Some c → Contains (f w c) x → Contains (pages_with f m.pages) x
    given_there w c x at h = elim (word_or_none w) [
      | inr no_word ↦ let none = cell_at-unaligned m w no_word in cc
      | inl aligned ↦ go aligned (page_at m (page_of w)) refl (sym (cell_at-aligned m w aligned) ∙ at)
    ]
      where
        go : w % 8 ≡ 0 → (o : Option (List Cell)) → page_at m (page_of w) ≡ o → cell_in o (place_of w) ≡ Some c → Contains (pages_with f m.pages) x
        go aligned None e is = cc
        go aligned (Some cells) e is =
            let word : w ≡ page_of w * 4096 + 8 * place_of w = omega arith in
            in_flat_map (page_with f) m.pages (page_of w, cells) x (found_page m.pages (page_of w) cells e)
            (in_cells (page_of w * 4096) cells (place_of w) c x is (subst (λ v. Contains (f v c) x) word h))

    pub given_from : (x : A) → Contains (pages_with f m.pages) x → Given m x
    given_from x h =
        let p = from_flat_map (page_with f) m.pages x h in
        let r = from_cells (p.from.0 * 4096) p.from.1 x p.part in
        let whole = page_whole p.from p.is_in in
        let lt = get_small p.from.1 r.place r.cell r.at in
        let number = whole.number in
        let many = whole.cells in
        let word = p.from.0 * 4096 + 8 * r.place in
        let small : r.place < 512 = omega arith in
        let aligned : (p.from.0 * 4096 + 8 * r.place) % 8 ≡ 0 = omega arith in
        let page : page_of (p.from.0 * 4096 + 8 * r.place) ≡ p.from.0 = omega arith in
        let place : place_of (p.from.0 * 4096 + 8 * r.place) ≡ r.place = omega arith in
        let q = p.is_in in
        let is : (get_or m.pages q.0 p.from).0 ≡ p.from.0 = ap (λ (v : ℕ × List Cell). v.0) q.2 in
        let found : find nat_cmp p.from.0 m.pages ≡ Some p.from.1 = find-at m.pages q.0 p.from.0 p.from paged.pages.rising q.1 is ∙ ap (λ (v : ℕ × List Cell). Some v.1) q.2 in
        record {
          word = p.from.0 * 4096 + 8 * r.place;
          cell = r.cell;
          aligned = aligned;
          small = omega arith;
          at = cell_at-aligned m (p.from.0 * 4096 + 8 * r.place) aligned ∙ ap (λ v. cell_in (page_at m v) (place_of (p.from.0 * 4096 + 8 * r.place))) page
              ∙ ap (λ o. cell_in o (place_of (p.from.0 * 4096 + 8 * r.place))) found ∙ ap (slice_get p.from.1) place ∙ r.at;
          has = r.has;
        }

-- 3. The forms that kept words have from the start.

pub first_is : (i : Image) (kept : List Segment) → IsPaged i.memory → (w : ℕ) (form : Form)
    → (Contains (pages_with (cell_first i kept) i.memory.pages) (w, form) → HasFirst i kept w form) × (HasFirst i kept w form → Contains (pages_with (cell_first i kept) i.memory.pages) (w, form))
first_is i kept paged w form = (
  λ h.
      let g = given_from (cell_first i kept) i.memory paged (w, form) h in
      let own = first_form (is_fixed i g.word) g.cell.word in
      let r = if_in {X = ℕ × Form} (is_kept kept g.word) ((g.word, own) ∷ []) (w, form) g.has in
      let same = only_in {X = ℕ × Form} (g.word, own) (w, form) r.1 in
      let found : HasFirst i kept g.word own = record { cell = g.cell; at = g.at; of_kept = r.0; first = refl } in
      subst (λ (e : ℕ × Form). HasFirst i kept e.0 e.1) same found,
  λ h.
      let own = first_form (is_fixed i w) h.cell.word in
      let here : Contains {X = ℕ × Form} ((w, own) ∷ []) (w, form) = subst (λ (g : Form). Contains {X = ℕ × Form} ((w, own) ∷ []) (w, g)) h.first (in_first {X = ℕ × Form} (w, own) []) in
      given_there (cell_first i kept) i.memory paged w h.cell (w, form) h.at (in_if {X = ℕ × Form} (is_kept kept w) ((w, own) ∷ []) (w, form) h.of_kept here),
)

-- 4. Ascending words.

rises_higher : (lo hi : ℕ) (xs : List Found) → lo ≤ hi → Rises hi xs → Rises lo xs
rises_higher lo hi [] le h = tt
rises_higher lo hi (x ∷ xs) le h = (let a = h.0 in omega arith, h.1)

module _ (kept : List Segment) where
  rises_cell : (w lo : ℕ) (c : Cell) (rest : List Found) → lo ≤ w → Rises (w + 8) rest → Rises lo (cell_found kept w c ++ rest)
  rises_cell w lo c rest le h = by (is_kept kept w)
    where
      at : (o : Option CanonicalPtr) → Rises lo (found_at w o ++ rest)
      at None = rises_higher lo (w + 8) rest (omega arith) h
      at (Some key) = (le, rises_higher (w + 1) (w + 8) rest (omega arith) h)

      by : (b : Bool) → Rises lo ((if b then [] else found_at w (held_word kept c.word)) ++ rest)
      by true = rises_higher lo (w + 8) rest (omega arith) h
      by false = at (held_word kept c.word)

  rises_cells : (w lo : ℕ) (cells : List Cell) (rest : List Found) → lo ≤ w → Rises (w + 8 * length cells) rest → Rises lo (cells_with (cell_found kept) w cells ++ rest)
  rises_cells w lo [] rest le h = rises_higher lo (w + 8 * 0) rest (omega arith) h
  rises_cells w lo (x ∷ xs) rest le h =
      let same : w + 8 * length (x ∷ xs) ≡ w + 8 + 8 * length xs = omega arith in
      subst (Rises lo) (sym (append_assoc (cell_found kept w x) (cells_with (cell_found kept) (w + 8) xs) rest))
      (rises_cell w lo x (cells_with (cell_found kept) (w + 8) xs ++ rest) le (rises_cells (w + 8) (w + 8) xs rest (omega arith) (subst (λ v. Rises v rest) same h)))

  rises_pages : (pages : List (ℕ × List Cell)) (lo : ℕ) → ((k : ℕ) (d : ℕ × List Cell) → k < length pages → lo ≤ (get_or pages k d).0)
      → ((i j : ℕ) (d : ℕ × List Cell) → i < j → j < length pages → (get_or pages i d).0 < (get_or pages j d).0)
      → ((p : ℕ × List Cell) → Contains pages p → length p.1 ≡ 512) → Rises (lo * 4096) (pages_with (cell_found kept) pages)
  rises_pages [] lo low rise whole = tt
  rises_pages (p ∷ ps) lo low rise whole =
      let first = low 0 p (omega arith) in
      let many = whole p (contains_here p ps) in
      let later = rises_pages ps (p.0 + 1) (λ k d lt. let up = rise 0 (suc k) d (omega arith) (omega arith) in omega
      arith) (λ i j d lt small. rise (suc i) (suc j) d (omega arith) (omega arith))
      (λ q m. whole q (contains_rest p q ps m)) in
      let same : (p.0 + 1) * 4096 ≡ p.0 * 4096 + 8 * length p.1 = omega arith in
      rises_cells (p.0 * 4096) (lo * 4096) p.1 (pages_with (cell_found kept) ps) (omega arith) (subst (λ v. Rises v (pages_with (cell_found kept) ps)) same later)

  rises_at : (lo : ℕ) (xs : List Found) (k : ℕ) → Rises lo xs → k < length xs → lo ≤ found_word xs k
  rises_at lo [] k h lt = absurd (omega arith)
  rises_at lo (x ∷ xs) zero h lt = h.0
  rises_at lo (x ∷ xs) (suc k) h lt = let up = rises_at (x.word + 1) xs k h.1 (omega arith) in let first = h.0 in omega arith

  rises_both : (lo : ℕ) (xs : List Found) (i j : ℕ) → Rises lo xs → i < j → j < length xs → found_word xs i < found_word xs j
  rises_both lo [] i j h lt small = absurd (omega arith)
  rises_both lo (x ∷ xs) i zero h lt small = absurd (omega arith)
  rises_both lo (x ∷ xs) zero (suc j) h lt small = let up = rises_at (x.word + 1) xs j h.1 (omega arith) in omega arith
  rises_both lo (x ∷ xs) (suc i) (suc j) h lt small = rises_both (x.word + 1) xs i j h.1 (omega arith) (omega arith)

  pub found_ascends : (m : Memory) → IsPaged m → IsAscending (pages_with (cell_found kept) m.pages)
  found_ascends m paged = record {
    rise = λ i j lt small. rises_both 0 (pages_with (cell_found kept) m.pages) i j
        (rises_pages m.pages 0 (λ k d l. omega arith) (λ a b d l s. rises m.pages a b d paged.pages.rising l s)
        (λ p h. (page_whole (cell_found kept) m paged p h).cells)) lt small;
  }
