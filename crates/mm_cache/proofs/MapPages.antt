-- A page that is mapped under the lines, or removed with its lines, and the start with no lines.
use Rattle.std.proofs.Common.{◌<◌, ◌^◌, ◌≡◌, ◌≢◌, ℕ, zero, suc, ◌/◌, ◌==◌, ◌&&◌, not, nat_lt, is_some, Bool, true}
use Rattle.std.proofs.Common.{false, if◌then◌else◌, List, [], ◌∷◌, length, replicate, Option, None, Some, option_map}
use Rattle.std.proofs.{Common.{refl, sym, ap, arith, ◌∙◌, inl, inr}, lemmas.Bool.{cases_eq, Decides.nat_tests}}
use Rattle.std.specs.Prelude.{map}
use Rattle.mm_word.specs.declared.word.Cell.{Cell}
use Rattle.mm_model.specs.Memory.{Memory, page_at, is_mapped, can_map, cell_in, map_page, unmap_page, zero_page}
use Rattle.mm_model.specs.{Memory.IsPaged, Counted.page_of_block}
use Rattle.mm_model.proofs.Memories.{page_at-map_same, page_at-map_other, page_at-unmap_same, page_at-unmap_other}
use Rattle.mm_model.proofs.Memories.{map_frames, map_paged, unmap_frames, unmap_pages, unmap_paged, can_map-facts}
use Rattle.mm_mem.specs.Blocks.{block_of_page}
use Rattle.mm_cache.specs.declared.line.CacheLine.{CacheLine}
use Rattle.mm_cache.specs.Lines.{flat_line, line_in, line_without, without_page, AreLines}
use Rattle.mm_cache.specs.{Over.{over_cell, lay, over, Holds, LieOver}, Laws.{Cover, PagesAreOver, EmptyLinesAreOver}}
use Rattle.mm_cache.proofs.Placed.{empty_or_there, line_empty, lines_empty}
use Rattle.mm_cache.proofs.Laid.{Rises, put_rises, same_cells, over_frames, over_rises, over_count, over_paged}
use Rattle.mm_cache.proofs.Laid.{mapped_over, seen, cell_over, hidden}

-- pages that are mapped, or not

module _ (m : Memory) (p : ℕ) where
  map_rises : Rises m → Rises (map_page m p)
  unfolding map_page
  map_rises rises = put_rises p zero_page m.pages rises

  mapped_same : (k : ℕ) → k ≡ p → is_mapped (map_page m p) k ≡ true
  mapped_same k same = ap (λ (x : ℕ). is_mapped (map_page m p) x) same ∙ ap is_some (page_at-map_same m p)

  mapped_other : (k : ℕ) → k ≢ p → is_mapped (map_page m p) k ≡ is_mapped m k
  mapped_other k other = ap is_some (page_at-map_other m p k other)

  unmapped_same : (k : ℕ) → k ≡ p → page_at (unmap_page m p) k ≡ None
  unmapped_same k same = ap (λ (x : ℕ). page_at (unmap_page m p) x) same ∙ page_at-unmap_same m p

-- a line whose block stays has its page and its cells
held_still : (m n : Memory) (l : CacheLine) → page_at n (page_of_block l.block) ≡ page_at m (page_of_block l.block) → Holds m l → Holds n l
held_still m n l same holds = record {
  mapped = ap is_some same ∙ holds.mapped;
  clean = λ clean. ap (λ (o : Option (List Cell)). block_of_page o l.block) same ∙ holds.clean clean;
}

-- a page is mapped

module _ (m : Memory) (ls : List (Option CacheLine)) (p : ℕ) (lie : LieOver ls m) (unmapped : is_mapped m p ≡ false) where
  -- no line has a block of it
  elsewhere : (i : ℕ) (l : CacheLine) → line_in ls i ≡ Some l → page_of_block l.block ≢ p
  elsewhere i l is same = clash (is_mapped m p) (ap (λ (k : ℕ). is_mapped m k) (sym same) ∙ (lie i l is).mapped) unmapped
    where
      clash : (b : Bool) → b ≡ true → b ≡ false → ⊥
      clash b is not_ = cc

  bare : (k j : ℕ) (o : Option CacheLine) → k ≡ p → ((x : CacheLine) → o ≡ Some x → page_of_block x.block ≢ p) → (c : Option Cell) → option_map (over_cell o k j) c ≡ c
  bare k j o same none None = refl
  bare k j None same none (Some c) = refl
  bare k j (Some x) same none (Some c) = ap (λ (d : Cell). Some d) (hidden x k j c (λ here. none x refl (here ∙ same)))

  map_cells : (k j : ℕ) → cell_over ls k j (cell_in (page_at (map_page m p) k) j) ≡ cell_in (page_at (map_page (over m ls) p) k) j
  map_cells k j = elim (cases_eq k p) [
    | inl same ↦
        bare k j (line_in ls (j / 8)) same (λ x is. elsewhere (j / 8) x is) (cell_in (page_at (map_page m p) k) j)
        ∙ ap (λ (x : ℕ). cell_in (page_at (map_page m p) x) j) same
        ∙ ap (λ (o : Option (List Cell)). cell_in o j) (page_at-map_same m p ∙ sym (page_at-map_same (over m ls) p))
        ∙ ap (λ (x : ℕ). cell_in (page_at (map_page (over m ls) p) x) j) (sym same)
    | inr other ↦
        ap (λ (o : Option (List Cell)). cell_over ls k j (cell_in o j)) (page_at-map_other m p k other)
        ∙ sym (seen m ls k j)
        ∙ ap (λ (o : Option (List Cell)). cell_in o j) (sym (page_at-map_other (over m ls) p k other))
  ]

  map_mapped : (k : ℕ) → is_mapped (map_page m p) k ≡ is_mapped (map_page (over m ls) p) k
  map_mapped k = elim (cases_eq k p) [
    | inl same ↦ mapped_same m p k same ∙ sym (mapped_same (over m ls) p k same)
    | inr other ↦ mapped_other m p k other ∙ sym (mapped_over m ls k) ∙ sym (mapped_other (over m ls) p k other)
  ]

pub map_over : (m : Memory) (ls : List (Option CacheLine)) (p : ℕ) → Cover ls m → is_mapped m p ≡ false → over (map_page m p) ls ≡ map_page (over m ls) p
map_over m ls p cover unmapped = same_cells _ _
    (over_rises (map_page m p) ls (map_rises m p cover.paged.pages.rising))
    (map_rises (over m ls) p (over_rises m ls cover.paged.pages.rising))
    (over_frames (map_page m p) ls ∙ map_frames m p ∙ sym (map_frames (over m ls) p ∙ over_frames m ls))
    (λ k. mapped_over (map_page m p) ls k ∙ map_mapped m ls p cover.lie unmapped k)
    (λ k j. seen (map_page m p) ls k j ∙ map_cells m ls p cover.lie unmapped k j)

pub map_cover : (m : Memory) (ls : List (Option CacheLine)) (p : ℕ) → Cover ls m → can_map m p ≡ true → p < 2 ^ 42 → Cover ls (map_page m p)
map_cover m ls p cover can small = record {
  lines = cover.lines;
  paged = map_paged m p cover.paged can small;
  lie = λ i l is. held_still m (map_page m p) l (page_at-map_other m p (page_of_block l.block) (elsewhere m ls p cover.lie (can_map-facts m p can).0 i l is)) (cover.lie i l is);
}

-- a page is removed

line_in_without : (p : ℕ) (ls : List (Option CacheLine)) (i : ℕ) → line_in (without_page p ls) i ≡ line_without p (line_in ls i)
line_in_without p [] i = refl
line_in_without p (x ∷ xs) zero = by x
  where
    by : (o : Option CacheLine) → flat_line (Some (line_without p o)) ≡ line_without p o
    by None = refl
    by (Some l) = refl
line_in_without p (x ∷ xs) (suc i) = line_in_without p xs i

without_by : (l x : CacheLine) (p : ℕ) (b : Bool) → (page_of_block x.block == p) ≡ b → (if b then None else Some x) ≡ Some l → (x ≡ l) × (page_of_block x.block ≢ p)
without_by l x p true t is = cc
without_by l x p false t is = (cc, grind (arith, nat_tests, t))

-- a line that stays is of another page
stays : (l : CacheLine) (p : ℕ) (o : Option CacheLine) → line_without p o ≡ Some l → (o ≡ Some l) × (page_of_block l.block ≢ p)
stays l p None is = cc
stays l p (Some x) is =
    let both = without_by l x p (page_of_block x.block == p) refl is in
    (ap (λ (y : CacheLine). Some y) both.0, λ same. both.1 (ap (λ (y : CacheLine). page_of_block y.block) both.0 ∙ same))

pub line_stays : (ls : List (Option CacheLine)) (p i : ℕ) (l : CacheLine) → line_in (without_page p ls) i ≡ Some l → (line_in ls i ≡ Some l) × (page_of_block l.block ≢ p)
line_stays ls p i l is = stays l p (line_in ls i) (sym (line_in_without p ls i) ∙ is)

length_without : (p : ℕ) (ls : List (Option CacheLine)) → length (without_page p ls) ≡ length ls
length_without p [] = refl
length_without p (x ∷ xs) = ap suc (length_without p xs)

pub lines_without : (ls : List (Option CacheLine)) (p : ℕ) → AreLines ls → AreLines (without_page p ls)
lines_without ls p lines = record {
  many = length_without p ls ∙ lines.many;
  placed = λ i l is. lines.placed i l (line_stays ls p i l is).0;
  whole = λ i l is. lines.whole i l (line_stays ls p i l is).0;
}

-- of another page the lines that go show nothing
without_shown : (p k j : ℕ) (o : Option CacheLine) → k ≢ p → (c : Option Cell) → option_map (over_cell (line_without p o) k j) c ≡ option_map (over_cell o k j) c
without_shown p k j o other None = refl
without_shown p k j None other (Some c) = refl
without_shown p k j (Some l) other (Some c) = by (page_of_block l.block == p) refl
  where
    by : (b : Bool) → (page_of_block l.block == p) ≡ b → option_map (over_cell (if b then None else Some l) k j) (Some c) ≡ option_map (over_cell (Some l) k j) (Some c)
    by false t = refl
    by true t = ap (λ (d : Cell). Some d) (sym (hidden l k j c (λ here. other (grind (arith, nat_tests, t, here)))))

module _ (m : Memory) (ls : List (Option CacheLine)) (p : ℕ) where
  unmap_cells : (k j : ℕ) → cell_over (without_page p ls) k j (cell_in (page_at (unmap_page m p) k) j) ≡ cell_in (page_at (unmap_page (over m ls) p) k) j
  unmap_cells k j = elim (cases_eq k p) [
    | inl same ↦
        ap (λ (o : Option (List Cell)). cell_over (without_page p ls) k j (cell_in o j)) (unmapped_same m p k same)
        ∙ ap (λ (o : Option (List Cell)). cell_in o j) (sym (unmapped_same (over m ls) p k same))
    | inr other ↦
        ap (λ (o : Option (List Cell)). cell_over (without_page p ls) k j (cell_in o j)) (page_at-unmap_other m p k other)
        ∙ ap (λ (o : Option CacheLine). option_map (over_cell o k j) (cell_in (page_at m k) j)) (line_in_without p ls (j / 8))
        ∙ without_shown p k j (line_in ls (j / 8)) other (cell_in (page_at m k) j)
        ∙ sym (seen m ls k j)
        ∙ ap (λ (o : Option (List Cell)). cell_in o j) (sym (page_at-unmap_other (over m ls) p k other))
  ]

  unmap_mapped : (k : ℕ) → is_mapped (unmap_page m p) k ≡ is_mapped (unmap_page (over m ls) p) k
  unmap_mapped k = elim (cases_eq k p) [
    | inl same ↦ ap is_some (unmapped_same m p k same ∙ sym (unmapped_same (over m ls) p k same))
    | inr other ↦ ap is_some (page_at-unmap_other m p k other) ∙ sym (mapped_over m ls k) ∙ ap is_some (sym (page_at-unmap_other (over m ls) p k other))
  ]

pub unmap_over : (m : Memory) (ls : List (Option CacheLine)) (p : ℕ) → Cover ls m → over (unmap_page m p) (without_page p ls) ≡ unmap_page (over m ls) p
unmap_over m ls p cover = same_cells _ _
    (over_rises (unmap_page m p) (without_page p ls) (unmap_pages m p cover.paged.pages).rising)
    (unmap_pages (over m ls) p (over_paged m ls cover.paged).pages).rising
    (over_frames (unmap_page m p) (without_page p ls) ∙ unmap_frames m p ∙ sym (unmap_frames (over m ls) p ∙ over_frames m ls))
    (λ k. mapped_over (unmap_page m p) (without_page p ls) k ∙ unmap_mapped m ls p k)
    (λ k j. seen (unmap_page m p) (without_page p ls) k j ∙ unmap_cells m ls p k j)

pub unmap_cover : (m : Memory) (ls : List (Option CacheLine)) (p : ℕ) → Cover ls m → Cover (without_page p ls) (unmap_page m p)
unmap_cover m ls p cover = record {
  lines = lines_without ls p cover.lines;
  paged = unmap_paged m p cover.paged;
  lie = λ i l is. let old = line_stays ls p i l is in held_still m (unmap_page m p) l (page_at-unmap_other m p (page_of_block l.block) old.1) (cover.lie i l old.0);
}

pub can_map_over : (m : Memory) (ls : List (Option CacheLine)) (p : ℕ) → can_map (over m ls) p ≡ can_map m p
unfolding can_map
can_map_over m ls p =
    ap (λ (b : Bool). not b && nat_lt (length (over m ls).pages) (over m ls).frames) (mapped_over m ls p)
    ∙ ap (λ (n : ℕ). not (is_mapped m p) && nat_lt n (over m ls).frames) (over_count m ls)
    ∙ ap (λ (n : ℕ). not (is_mapped m p) && nat_lt (length m.pages) n) (over_frames m ls)

pub pages_are_over : PagesAreOver
pages_are_over = record { map = map_over; map_cover = map_cover; unmap = unmap_over; unmap_cover = unmap_cover; mapped = mapped_over; can_map = can_map_over }

-- no line yet

lay_empty : (k n : ℕ) (cells : List Cell) → lay (replicate 64 None) k n cells ≡ cells
lay_empty k n [] = refl
lay_empty k n (c ∷ cells) =
    let head : over_cell (line_in (replicate 64 None) (n / 8)) k n c ≡ c = ap (λ (o : Option CacheLine). over_cell o k n c) (line_empty 64 (n / 8)) in
    let rest = lay_empty k (suc n) cells in
    λ i. head i ∷ rest i

pages_empty : (es : List (ℕ × List Cell)) → map (λ e. (e.0, lay (replicate 64 None) e.0 0 e.1)) es ≡ es
pages_empty [] = refl
pages_empty (e ∷ es) =
    let cells = lay_empty e.0 0 e.1 in
    let rest = pages_empty es in
    λ i. (e.0, cells i) ∷ rest i

pub empty_over : (m : Memory) → over m (replicate 64 None) ≡ m
unfolding over
empty_over m = λ i. record m { pages = pages_empty m.pages i }

pub empty_cover : (m : Memory) → IsPaged m → Cover (replicate 64 None) m
empty_cover m paged = record {
  lines = lines_empty;
  paged = paged;
  lie = λ i l is. absurd (empty_or_there (line_in (replicate 64 None) i) l (line_empty 64 i) is);
}

pub empty_lines_are_over : EmptyLinesAreOver
empty_lines_are_over = record { map = empty_over; cover = empty_cover }
