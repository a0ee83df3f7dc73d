-- What is told of a memory after what a turn can do to it, and that these lines make the later memory.
use Rattle.std.proofs.Common.{◌≡◌, ◌≢◌, ℕ, zero, suc, ◌+◌, ◌*◌, ◌<◌, inl, inr, Bool, true, false, cond, not, nat_eq}
use Rattle.std.proofs.Common.{if◌then◌else◌, List, [], ◌∷◌, ◌++◌, map, slice_get, slice_set, Option, Some, None}
use Rattle.std.proofs.Common.{is_some, refl, sym, ap, ◌∙◌, subst, arith, T, eq-eqb, append-nil}
use Rattle.std.proofs.lemmas.{Cmp.nat_cmp_total, Bool.{cases_eq, ne_eqb, Decides.nat_tests}}
use Rattle.std.specs.{List.{AllByRecursion, filter, flat_map}, Ordering.nat_cmp}
use Rattle.std.specs.declared.cmp.Ordering.{Ordering, TheVariants.{Less, Equal, Greater}}
use Rattle.std.specs.FinMap.{find, put, is_sorted, nat_cmp-IsAntisymmetric, Entries.{by_order, below_all, same_entries}}
use Rattle.std.specs.Cmp.{unsigned_tied}
use Rattle.mm_word.specs.{declared.word.{Cell.Cell, Pre.Pre}, Access.AccessValue, Word.IsWord}
use Rattle.mm_model.specs.Memory.{Memory, page_at, page_of, place_of, is_mapped, cell_at, cell_in, put_in, put_cell}
use Rattle.mm_model.specs.Memory.{map_page, unmap_page, zero_page, ArePages}
use Rattle.mm_model.specs.{Ask.{Ask, Ask.{Reach, MapPage, UnmapPage}}, Spelling.HoldsWords}
use Rattle.mm_model.specs.Report.{same_cell, changes_from}
use Rattle.mm_model.proofs.CoreRows.{each_map, each_both}
use Rattle.mm_model.proofs.Memories.{cell_at-aligned, aligned, page_of_cell, page_at-put_same, page_at-put_other}
use Rattle.mm_model.proofs.Memories.{page_at-map_other, page_at-unmap_same, page_at-unmap_other, put_frames, put_pages}
use Rattle.mm_model.proofs.{Memories.cell_at-put_same, EffectWords.page_words, Sames.{cell_self, cells_same}}
use Rattle.mm_log.specs.Lines.{Line, Line.{Maps, Removes, Sets}}
use Rattle.mm_log.specs.Changes.{pages_mapped, pages_removed, cells_changed, cells_changed_in}
use Rattle.mm_thread.proofs.Rows.{MemoryMove}
use Rattle.mm_log.proofs.Runs.{flat_none, run_on}

-- 1. Pages that rise.

below_rest : (e : ℕ × List Cell) (es : List (ℕ × List Cell)) → T (is_sorted nat_cmp (e ∷ es)) → T (below_all nat_cmp e.0 es)
below_rest e es sorted = grind arith

sorted_rest : (e : ℕ × List Cell) (es : List (ℕ × List Cell)) → T (is_sorted nat_cmp (e ∷ es)) → T (is_sorted nat_cmp es)
sorted_rest e es sorted = grind arith

head_below : (k : ℕ) (x : ℕ × List Cell) (es : List (ℕ × List Cell)) → T (below_all nat_cmp k (x ∷ es)) → (k < x.0) × T (below_all nat_cmp k es)
head_below k x es h = (grind (arith, nat_tests), grind (arith, nat_tests))

all_below : (k : ℕ) (es : List (ℕ × List Cell)) → T (below_all nat_cmp k es) → AllByRecursion (λ (e : ℕ × List Cell). k < e.0) es
all_below k [] h = tt
all_below k (e ∷ es) h = let first = head_below k e es h in (first.0, all_below k es first.1)

find_here : (e : ℕ × List Cell) (es : List (ℕ × List Cell)) (q : ℕ) → q ≡ e.0 → find nat_cmp q (e ∷ es) ≡ Some e.1
find_here e es q is = ap (λ b. cond b (Some e.1) (find nat_cmp q es)) (unsigned_tied q e.0 ∙ eq-eqb q e.0 is)

find_later : (e : ℕ × List Cell) (es : List (ℕ × List Cell)) (q : ℕ) → q ≢ e.0 → find nat_cmp q (e ∷ es) ≡ find nat_cmp q es
find_later e es q ne = ap (λ b. cond b (Some e.1) (find nat_cmp q es)) (unsigned_tied q e.0 ∙ ne_eqb q e.0 ne)

-- each page is found at its number
each_found : (es : List (ℕ × List Cell)) → T (is_sorted nat_cmp es) → AllByRecursion (λ (e : ℕ × List Cell). find nat_cmp e.0 es ≡ Some e.1) es
each_found [] sorted = tt
each_found (e ∷ es) sorted = (
  find_here e es e.0 refl,
  each_both (λ (x : ℕ × List Cell). e.0 < x.0) (λ (x : ℕ × List Cell). find nat_cmp x.0 es ≡ Some x.1) (λ (x : ℕ × List Cell). find nat_cmp x.0 (e ∷ es) ≡ Some x.1)
      (λ x lt found. let ne : x.0 ≢ e.0 = omega arith in find_later e es x.0 ne ∙ found) es
      (all_below e.0 es (below_rest e es sorted)) (each_found es (sorted_rest e es sorted)),
)

module _ (P : ℕ × List Cell → Type 0) where
  each_put : (k : ℕ) (v : List Cell) (es : List (ℕ × List Cell)) → P (k, v) → AllByRecursion P es → AllByRecursion P (put nat_cmp k v es)
  each_put k v [] new old = (new, tt)
  each_put k v (e ∷ es) new old = by (nat_cmp k e.0) refl (each_put k v es new old.1)
    where
      by : (o : Ordering) → nat_cmp k e.0 ≡ o → AllByRecursion P (put nat_cmp k v es) → AllByRecursion P (by_order o ((k, v) ∷ e ∷ es) ((e.0, v) ∷ es) (e ∷ put nat_cmp k v es))
      by Less is rest = (new, old)
      by Equal is rest = (subst (λ n. P (n, v)) (nat_cmp-IsAntisymmetric k e.0 is) new, old.1)
      by Greater is rest = (old.0, rest)

  each_left : (p : ℕ × List Cell → Bool) (es : List (ℕ × List Cell)) → AllByRecursion P es → AllByRecursion P (filter p es)
  each_left p [] h = tt
  each_left p (e ∷ es) h = elim (p e) as (λ b. AllByRecursion P (cond b (e ∷ filter p es) (filter p es))) [ true ↦ (h.0, each_left p es h.1) | false ↦ each_left p es h.1 ]

module _ (f : ℕ × List Cell → List Line) where
  -- where nothing is told of the pages before, what is told of the page that is put
  flat_put : (k : ℕ) (v : List Cell) (es : List (ℕ × List Cell)) → AllByRecursion (λ (e : ℕ × List Cell). f e ≡ []) es → flat_map f (put nat_cmp k v es) ≡ f (k, v)
  flat_put k v [] h = append-nil (f (k, v))
  flat_put k v (e ∷ es) h = by (nat_cmp k e.0) refl (flat_put k v es h.1)
    where
      by : (o : Ordering) → nat_cmp k e.0 ≡ o → flat_map f (put nat_cmp k v es) ≡ f (k, v) → flat_map f (by_order o ((k, v) ∷ e ∷ es) ((e.0, v) ∷ es) (e ∷ put nat_cmp k v es)) ≡ f (k, v)
      by Less is rest = ap (λ l. f (k, v) ++ l) (flat_none f (e ∷ es) h) ∙ append-nil (f (k, v))
      by Equal is rest = ap (λ l. f (e.0, v) ++ l) (flat_none f es h.1) ∙ append-nil (f (e.0, v)) ∙ ap (λ n. f (n, v)) (sym (nat_cmp-IsAntisymmetric k e.0 is))
      by Greater is rest = ap (λ l. l ++ flat_map f (put nat_cmp k v es)) h.0 ∙ rest

  -- where it is told of one page alone, that
  flat_one : (es : List (ℕ × List Cell)) → T (is_sorted nat_cmp es) → (k : ℕ) (v : List Cell) → find nat_cmp k es ≡ Some
      v → AllByRecursion (λ (e : ℕ × List Cell). e.0 ≢ k → f e ≡ []) es → flat_map f es ≡ f (k, v)
  flat_one [] sorted k v found h = cc
  flat_one (e ∷ es) sorted k v found h = elim (cases_eq k e.0) [
    | inl is ↦
        let two : ◌≡◌ {A = Option (List Cell)} (Some e.1) (Some v) = sym (find_here e es k is) ∙ found in
        let same : e.1 ≡ v = cc in
        ap (λ l. f e ++ l)
        (flat_none f es
        (each_both (λ (x : ℕ × List Cell). e.0 < x.0) (λ (x : ℕ × List Cell). x.0 ≢ k → f x ≡ [])
        (λ (x : ℕ × List Cell). f x ≡ []) (λ x lt none. let ne : x.0 ≢ k = omega arith in none ne) es
        (all_below e.0 es (below_rest e es sorted)) h.1))
        ∙ append-nil (f e)
        ∙ ap (λ n. f (n, e.1)) (sym is)
        ∙ ap (λ c. f (k, c)) same
    | inr ne ↦
        ap (λ l. l ++ flat_map f es) (h.0 (λ s. ne (sym s)))
        ∙ flat_one es (sorted_rest e es sorted) k v (sym (find_later e es k ne) ∙ found) h.1
  ]

-- 2. The cells of one page.

cells_self : (w : ℕ) (cells : List Cell) → changes_from w cells cells ≡ []
cells_self w [] = refl
cells_self w (c ∷ cells) = ap (λ b. (if b then [] else (w, c) ∷ []) ++ changes_from (w + 8) cells cells) (cell_self c) ∙ cells_self (w + 8) cells

cells_set : (w : ℕ) (cells : List Cell) (i : ℕ) (c old : Cell) → slice_get cells i ≡ Some old → changes_from w (slice_set cells i c) cells ≡ (if same_cell c old then [] else (w + 8 * i, c) ∷ [])
cells_set w [] i c old at = cc
cells_set w (x ∷ cells) zero c old at =
    let same : x ≡ old = cc in
    let here : w ≡ w + 8 * 0 = omega arith in
    ap (λ l. (if same_cell c x then [] else (w, c) ∷ []) ++ l) (cells_self (w + 8) cells)
    ∙ append-nil (if same_cell c x then [] else (w, c) ∷ [])
    ∙ ap (λ y. if same_cell c y then [] else (w, c) ∷ []) same
    ∙ ap (λ n. if same_cell c old then [] else (n, c) ∷ []) here
cells_set w (x ∷ cells) (suc i) c old at =
    let there : w + 8 + 8 * i ≡ w + 8 * suc i = omega arith in
    ap (λ b. (if b then [] else (w, x) ∷ []) ++ changes_from (w + 8) (slice_set cells i c) cells) (cell_self x)
    ∙ cells_set (w + 8) cells i c old at
    ∙ ap (λ n. if same_cell c old then [] else (n, c) ∷ []) there

told_cell : (b : Bool) (w : ℕ) (c : Cell) → map (λ (x : ℕ × Cell). Sets x.0 x.1) (if b then [] else (w, c) ∷ []) ≡ (if b then [] else Sets w c ∷ [])
told_cell true w c = refl
told_cell false w c = refl

-- 3. What is told of a memory.

pub data MemoryTold (m : Memory) (asked : Ask) (later : Memory) : Type 0 where
  nothing : later ≡ m → pages_mapped m later ≡ [] → pages_removed m later ≡ [] → cells_changed m later ≡ [] → MemoryTold m asked later
  cell : (a : AccessValue) (pre : Pre) (old c : Cell) → asked ≡ Reach a pre → cell_at m a.addr ≡ Some old → later ≡ put_cell m a.addr c → pages_mapped m later ≡ [] → pages_removed m later ≡ []
      → cells_changed m later ≡ (if same_cell c old then [] else Sets a.addr c ∷ []) → MemoryTold m asked later
  mapped : (p : ℕ) → asked ≡ MapPage p → is_mapped m p ≡ false → later ≡ map_page m p → pages_mapped m later ≡ Maps p ∷
      [] → pages_removed m later ≡ [] → cells_changed m later ≡ [] → MemoryTold m asked later
  removed : (p : ℕ) → asked ≡ UnmapPage p → is_mapped m p ≡ true → later ≡ unmap_page m p → pages_mapped m later ≡ []
      → pages_removed m later ≡ Removes p ∷ [] → cells_changed m later ≡ [] → MemoryTold m asked later

module _ (m : Memory) (pages : ArePages m.pages) where
  sorted : T (is_sorted nat_cmp m.pages)
  sorted = subst T (sym pages.rising) tt

  found : AllByRecursion (λ (e : ℕ × List Cell). page_at m e.0 ≡ Some e.1) m.pages
  found = each_found m.pages sorted

  -- what is told of a page by whether it is mapped in a memory
  abbrev unless_mapped : Memory → (ℕ → Line) → ℕ × List Cell → List Line
  unless_mapped x line page = if is_mapped x page.0 then [] else line page.0 ∷ []

  mapped_not : (x : Memory) (line : ℕ → Line) (p : ℕ) (cells : List Cell) → page_at x p ≡ Some cells → (if is_mapped x p then [] else line p ∷ []) ≡ []
  mapped_not x line p cells is = ap (λ (o : Option (List Cell)). if is_some o then [] else line p ∷ []) is

  old_mapped : AllByRecursion (λ (e : ℕ × List Cell). unless_mapped m Maps e ≡ []) m.pages
  old_mapped = each_map (λ (e : ℕ × List Cell). page_at m e.0 ≡ Some e.1) (λ (e : ℕ × List Cell). unless_mapped m Maps e ≡ []) (λ e is. mapped_not m Maps e.0 e.1 is) m.pages found

  old_cells : AllByRecursion (λ (e : ℕ × List Cell). cells_changed_in (page_at m e.0) e ≡ []) m.pages
  old_cells =
      each_map (λ (e : ℕ × List Cell). page_at m e.0 ≡ Some e.1) (λ (e : ℕ × List Cell). cells_changed_in (page_at m e.0) e ≡ [])
      (λ e is. ap (λ o. cells_changed_in o e) is ∙ ap (map (λ (x : ℕ × Cell). Sets x.0 x.1)) (cells_self (e.0 * 4096) e.1)) m.pages found

  stays_told : (asked : Ask) → MemoryTold m asked m
  stays_told asked =
      MemoryTold.nothing refl (flat_none (unless_mapped m Maps) m.pages old_mapped)
      (flat_none (unless_mapped m Removes) m.pages (each_map (λ (e : ℕ × List Cell). page_at m e.0 ≡ Some e.1)
      (λ (e : ℕ × List Cell). unless_mapped m Removes e ≡ []) (λ e is. mapped_not m Removes e.0 e.1 is) m.pages
      found))
      (flat_none (λ (e : ℕ × List Cell). cells_changed_in (page_at m e.0) e) m.pages old_cells)

  -- a page that is mapped in both is not told of
  removed_not : (later : Memory) → AllByRecursion (λ (e : ℕ × List Cell). is_mapped later e.0 ≡ true) m.pages → pages_removed m later ≡ []
  removed_not later h = flat_none (unless_mapped later Removes) m.pages
      (each_map (λ (e : ℕ × List Cell). is_mapped later e.0 ≡ true) (λ (e : ℕ × List Cell). unless_mapped later Removes
      e ≡ []) (λ e is. ap (λ b. if b then [] else Removes e.0 ∷ []) is) m.pages h)

  module _ (a : AccessValue) (pre : Pre) (old c : Cell) (at : cell_at m a.addr ≡ Some old) where
    w : ℕ
    w = a.addr

    page : (cells : List Cell) × (page_at m (page_of a.addr) ≡ Some cells)
    page = page_of_cell m a.addr old at

    here : slice_get page.0 (place_of a.addr) ≡ Some old
    here = sym (cell_at-aligned m a.addr (aligned m a.addr old at) ∙ ap (λ o. cell_in o (place_of a.addr)) page.1) ∙ at

    word : page_of a.addr * 4096 + 8 * place_of a.addr ≡ a.addr
    word = let even = aligned m a.addr old at in omega arith

    put_is : (put_cell m a.addr c).pages ≡ put nat_cmp (page_of a.addr) (slice_set page.0 (place_of a.addr) c) m.pages
    unfolding put_cell
    put_is = ap (λ o. (put_in m o a.addr c).pages) page.1

    still_mapped : AllByRecursion (λ (e : ℕ × List Cell). is_mapped (put_cell m a.addr c) e.0 ≡ true) m.pages
    still_mapped =
        each_map (λ (e : ℕ × List Cell). page_at m e.0 ≡ Some e.1) (λ (e : ℕ × List Cell). is_mapped (put_cell m a.addr c) e.0 ≡ true)
        (λ e is. elim (cases_eq e.0 (page_of a.addr)) [
          | inl same ↦ ap (λ q. is_mapped (put_cell m a.addr c) q) same ∙ ap is_some (page_at-put_same m a.addr c page.0 page.1)
          | inr ne ↦ ap is_some (page_at-put_other m a.addr c e.0 ne ∙ is)
        ]) m.pages found

    put_told : (asked : Ask) → asked ≡ Reach a pre → MemoryTold m asked (put_cell m a.addr c)
    put_told asked is =
        MemoryTold.cell a pre old c is at refl
        (ap (flat_map (unless_mapped m Maps)) put_is
        ∙ flat_none (unless_mapped m Maps) (put nat_cmp (page_of a.addr) (slice_set page.0 (place_of a.addr) c) m.pages)
        (each_put (λ (e : ℕ × List Cell). unless_mapped m Maps e ≡ []) (page_of a.addr) (slice_set page.0 (place_of a.addr) c) m.pages (mapped_not m Maps (page_of a.addr) page.0 page.1) old_mapped))
        (removed_not (put_cell m a.addr c) still_mapped)
        (ap (flat_map (λ (e : ℕ × List Cell). cells_changed_in (page_at m e.0) e)) put_is
        ∙ flat_put (λ (e : ℕ × List Cell). cells_changed_in (page_at m e.0) e) (page_of a.addr) (slice_set page.0 (place_of a.addr) c) m.pages old_cells
        ∙ ap (λ o. cells_changed_in o (page_of a.addr, slice_set page.0 (place_of a.addr) c)) page.1
        ∙ ap (map (λ (x : ℕ × Cell). Sets x.0 x.1)) (cells_set (page_of a.addr * 4096) page.0 (place_of a.addr) c old here)
        ∙ told_cell (same_cell c old) (page_of a.addr * 4096 + 8 * place_of a.addr) c
        ∙ ap (λ n. if same_cell c old then [] else Sets n c ∷ []) word)

  map_told : (asked : Ask) (p : ℕ) → asked ≡ MapPage p → is_mapped m p ≡ false → MemoryTold m asked (map_page m p)
  unfolding map_page
  map_told asked p is free =
      let absent : page_at m p ≡ None = none (page_at m p) free in
      MemoryTold.mapped p is free refl
      (flat_put (unless_mapped m Maps) p zero_page m.pages old_mapped ∙ ap (λ b. if b then [] else Maps p ∷ []) free)
      (removed_not (map_page m p)
      (each_map (λ (e : ℕ × List Cell). page_at m e.0 ≡ Some e.1) (λ (e : ℕ × List Cell). is_mapped (map_page m p) e.0 ≡ true)
      (λ e at. ap is_some (page_at-map_other m p e.0 (λ same. some_not e.1 (sym at ∙ ap (page_at m) same ∙ absent)) ∙ at)) m.pages found))
      (flat_put (λ (e : ℕ × List Cell). cells_changed_in (page_at m e.0) e) p zero_page m.pages old_cells ∙ ap (λ o. cells_changed_in o (p, zero_page)) absent)
    where
      none : (o : Option (List Cell)) → is_some o ≡ false → o ≡ None
      none None e = refl
      none (Some x) e = cc

      some_not : (x : List Cell) → ◌≡◌ {A = Option (List Cell)} (Some x) None → ⊥
      some_not x e = cc

  unmap_told : (asked : Ask) (p : ℕ) → asked ≡ UnmapPage p → is_mapped m p ≡ true → MemoryTold m asked (unmap_page m p)
  unfolding unmap_page
  unmap_told asked p is there = by (page_at m p) refl
    where
      gone : is_mapped (unmap_page m p) p ≡ false
      gone = ap is_some (page_at-unmap_same m p)

      by : (o : Option (List Cell)) → page_at m p ≡ o → MemoryTold m asked (unmap_page m p)
      by None at = cc (ap is_some at, there)
      by (Some cells) at =
          MemoryTold.removed p is there refl
          (flat_none (unless_mapped m Maps) (unmap_page m p).pages (each_left (λ (e : ℕ × List Cell). unless_mapped m Maps e ≡ []) (λ e. not (nat_eq e.0 p)) m.pages old_mapped))
          (flat_one (unless_mapped (unmap_page m p) Removes) m.pages sorted p cells at
          (each_map (λ (e : ℕ × List Cell). page_at m e.0 ≡ Some e.1) (λ (e : ℕ × List Cell). e.0 ≢ p → unless_mapped (unmap_page m p) Removes e ≡ [])
          (λ e stands ne. mapped_not (unmap_page m p) Removes e.0 e.1 (page_at-unmap_other m p e.0 ne ∙ stands)) m.pages found)
          ∙ ap (λ b. if b then [] else Removes p ∷ []) gone)
          (flat_none (λ (e : ℕ × List Cell). cells_changed_in (page_at m e.0) e) (unmap_page m p).pages
          (each_left (λ (e : ℕ × List Cell). cells_changed_in (page_at m e.0) e ≡ []) (λ e. not (nat_eq e.0 p))
          m.pages old_cells))

  pub memory_told : (asked : Ask) (later : Memory) → MemoryMove m asked later → MemoryTold m asked later
  memory_told asked later (MemoryMove.stays is) = subst (MemoryTold m asked) (sym is) (stays_told asked)
  memory_told asked later (MemoryMove.writes a pre old c is at made) = subst (MemoryTold m asked) (sym made) (put_told a pre old c at asked is)
  memory_told asked later (MemoryMove.maps_page p is free made) = subst (MemoryTold m asked) (sym made) (map_told asked p is free)
  memory_told asked later (MemoryMove.removes_page p is there made) = subst (MemoryTold m asked) (sym made) (unmap_told asked p is there)

-- 4. The lines make the later memory.

abbrev pub memory_line : Line → Memory → Memory
memory_line (Maps p) m = map_page m p
memory_line (Removes p) m = unmap_page m p
memory_line (Sets w c) m = put_cell m w c
memory_line _ m = m

abbrev pub memory_lines : Memory → Memory → List Line
memory_lines m later = pages_mapped m later ++ pages_removed m later ++ cells_changed m later

set_again : (cells : List Cell) (i : ℕ) (c : Cell) → slice_get cells i ≡ Some c → slice_set cells i c ≡ cells
set_again [] i c at = cc
set_again (x ∷ cells) zero c at = let same : x ≡ c = cc in ap (λ (y : Cell). y ∷ cells) (sym same)
set_again (x ∷ cells) (suc i) c at = ap (λ l. x ∷ l) (set_again cells i c at)

-- a cell that is put where it stands changes nothing
put_again : (m : Memory) → ArePages m.pages → (w : ℕ) (c : Cell) → cell_at m w ≡ Some c → put_cell m w c ≡ m
put_again m pages w c at =
    let page = page_of_cell m w c at in
    let here : slice_get page.0 (place_of w) ≡ Some c = sym (cell_at-aligned m w (aligned m w c at) ∙ ap (λ o. cell_in o (place_of w)) page.1) ∙ at in
    let later = put_pages m w c pages in
    let same : (put_cell m w c).pages ≡ m.pages =
    same_entries nat_cmp nat_cmp_total nat_cmp-IsAntisymmetric (put_cell m w c).pages m.pages (subst T (sym later.rising) tt) (subst T (sym pages.rising) tt)
    (λ q. elim (cases_eq q (page_of w)) [
      | inl e ↦ ap (page_at (put_cell m w c)) e ∙ page_at-put_same m w c page.0 page.1 ∙ ap (λ (l : List Cell). Some l) (set_again page.0 (place_of w) c here) ∙ sym (ap (page_at m) e ∙ page.1)
      | inr ne ↦ page_at-put_other m w c q ne
    ]) in
    let frames = put_frames m w c in
    λ i. record { pages = same i; frames = frames i }

-- the word of a cell fits
cell_word : (m : Memory) → AllByRecursion HoldsWords m.pages → (w : ℕ) (c : Cell) → cell_at m w ≡ Some c → IsWord c.word
cell_word m h w c at =
    let page = page_of_cell m w c at in
    let here : slice_get page.0 (place_of w) ≡ Some c = sym (cell_at-aligned m w (aligned m w c at) ∙ ap (λ o. cell_in o (place_of w)) page.1) ∙ at in
    among page.0 (place_of w) here (page_words m.pages (page_of w) page.0 h page.1)
  where
    among : (cells : List Cell) (i : ℕ) → slice_get cells i ≡ Some c → AllByRecursion (λ (x : Cell). IsWord x.word) cells → IsWord c.word
    among [] i at h = cc
    among (x ∷ cells) zero at h = let same : x ≡ c = cc in subst (λ (y : Cell). IsWord y.word) same h.0
    among (x ∷ cells) (suc i) at h = among cells i at h.1

pub memory_made : (m : Memory) → ArePages m.pages → AllByRecursion HoldsWords m.pages → (later : Memory) → AllByRecursion HoldsWords later.pages → (asked : Ask) → MemoryTold m asked later
    → run_on memory_line (memory_lines m later) m ≡ later
memory_made m pages words later after asked (MemoryTold.nothing is a b c) = ap
    (λ l. run_on memory_line (l ++ pages_removed m later ++ cells_changed m later) m) a
    ∙ ap (λ l. run_on memory_line (l ++ cells_changed m later) m) b ∙ ap (λ l. run_on memory_line l m) c ∙ sym is
memory_made m pages words later after asked (MemoryTold.mapped p is free made a b c) = ap
    (λ l. run_on memory_line (l ++ pages_removed m later ++ cells_changed m later) m) a
    ∙ ap (λ l. run_on memory_line (l ++ cells_changed m later) (map_page m p)) b
    ∙ ap (λ l. run_on memory_line l (map_page m p)) c ∙ sym made
memory_made m pages words later after asked (MemoryTold.removed p is there made a b c) = ap
    (λ l. run_on memory_line (l ++ pages_removed m later ++ cells_changed m later) m) a
    ∙ ap (λ l. run_on memory_line (l ++ cells_changed m later) m) b ∙ ap (λ l. run_on memory_line l (unmap_page m p)) c
    ∙ sym made
memory_made m pages words later after asked (MemoryTold.cell a pre old c is at made x y z) =
    ap (λ l. run_on memory_line (l ++ pages_removed m later ++ cells_changed m later) m) x ∙ ap (λ l. run_on memory_line (l ++ cells_changed m later) m) y ∙ ap (λ l. run_on memory_line l m) z
    ∙ by (same_cell c old) refl
  where
    new : cell_at later a.addr ≡ Some c
    new = ap (λ (v : Memory). cell_at v a.addr) made ∙ cell_at-put_same m a.addr c old at

    by : (b : Bool) → same_cell c old ≡ b → run_on memory_line (if b then [] else Sets a.addr c ∷ []) m ≡ later
    by true e =
        let same : c ≡ old = cells_same c old (cell_word later after a.addr c new) (cell_word m words a.addr old at) e in
        sym (made ∙ ap (put_cell m a.addr) same ∙ put_again m pages a.addr old at)
    by false e = sym made
