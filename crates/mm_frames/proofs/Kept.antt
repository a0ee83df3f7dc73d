-- What each call keeps of frames.
use Rattle.std.proofs.Common.{◌≡◌, ℕ, ◌+◌, ◌*◌, ◌^◌, ◌<◌, ◌≤◌, true, false, not, ◌&&◌, ◌==◌, nat_lt, List, [], ◌∷◌}
use Rattle.std.proofs.Common.{◌++◌, length, get_or, None, Some, is_some, refl, sym, ap, subst, ◌∙◌, arith, IsTrue}
use Rattle.std.proofs.Common.{Result, Ok, Err, IfOk, IfErr}
use Rattle.std.proofs.lemmas.List.{length-set, length-append, Edits.{length-insert, length-remove}}
use Rattle.std.proofs.lemmas.Bool.Decides.{nat_tests}
use Rattle.std.specs.{Result.{result_ok, result_err}, List.{insert, remove, filter}, Ordering.nat_cmp}
use Rattle.std.specs.FinMap.{is_sorted, find}
use Rattle.mm_word.specs.declared.word.Cell.{Cell}
use Rattle.mm_model.specs.{Flags.one_if, Memory.{Memory, IsPaged, is_mapped, can_map, zero_page}}
use Rattle.mm_model.proofs.Memories.{map_paged, unmap_paged}
use Rattle.mm_mem.specs.Places.{IsAt, IsGap}
use Rattle.mm_mem.proofs.Places.{held, found_at, absent_in_gap, insert_in_gap, remove_at}
use Rattle.mm_mem.proofs.{Flats.{cannot_map_full as full_refuses}, Blocks.put_block_paged}
use Rattle.mm_frames.specs.Framed.{Framed, IsFramed, IsOccupied, frame_of, memory_of, seated, without, written, times}
use Rattle.mm_frames.specs.Framed.{rows_with}
use Rattle.mm_frames.proofs.Counts.{times_push, with_insert, with_remove, one_if_same}
use Rattle.mm_frames.proofs.Framed.{frames_are, pages_length, has_frame_is_mapped, memory_of-read, memory_of-seated}
use Rattle.mm_frames.proofs.Framed.{memory_of-without, memory_of-written, rows_rise, one_page, frame_in_range}
use Rattle.mm_frames.proofs.Framed.{free_has_no_row, free_in_range}

-- 1. What a search among the rows says of a page.

pub gap_from : (page : ℕ) (rows : List (ℕ × ℕ)) (r : Result ℕ ℕ) → None ≡ result_ok r → IfErr r (IsGap page rows) → find nat_cmp page rows ≡ None
gap_from page rows (Ok i) none gap = cc
gap_from page rows (Err i) none gap = absent_in_gap page rows i gap

pub place_from : (page : ℕ) (rows : List (ℕ × ℕ)) (r : Result ℕ ℕ) (i : ℕ) → Some i ≡ result_ok r → IfOk r (IsAt page rows) → IsAt page rows i
place_from page rows (Ok j) i some at = let same : j ≡ i = cc in subst (IsAt page rows) same at
place_from page rows (Err j) i some at = cc

pub gap_place_from : (page : ℕ) (rows : List (ℕ × ℕ)) (r : Result ℕ ℕ) (i : ℕ) → Some i ≡ result_err r → IfErr r (IsGap page rows) → IsGap page rows i
gap_place_from page rows (Ok j) i some gap = cc
gap_place_from page rows (Err j) i some gap = let same : j ≡ i = cc in subst (IsGap page rows) same gap

pub mapped_from : (f : Framed) (page : ℕ) (r : Result ℕ ℕ) → IsTrue (is_sorted nat_cmp f.rows) → None ≡ result_err r → IfOk r (IsAt page f.rows) → is_mapped (memory_of f) page ≡ true
mapped_from f page (Ok i) sorted none at = sym (has_frame_is_mapped f page) ∙ ap is_some (found_at page f.rows i (held _ sorted) at (0, 0))
mapped_from f page (Err i) sorted none at = cc

pub frame_at : (f : Framed) (page i : ℕ) (row : ℕ × ℕ) → IsTrue (is_sorted nat_cmp f.rows) → IsAt page f.rows i → row ≡ get_or f.rows i row → frame_of f page ≡ Some row.1
frame_at f page i row sorted at is = found_at page f.rows i (held _ sorted) at row ∙ ap (λ (r : ℕ × ℕ). Some r.1) (sym is)

pub is_mapped_at : (f : Framed) (page i : ℕ) → IsTrue (is_sorted nat_cmp f.rows) → IsAt page f.rows i → is_mapped (memory_of f) page ≡ true
is_mapped_at f page i sorted at = sym (has_frame_is_mapped f page) ∙ ap is_some (found_at page f.rows i (held _ sorted) at (0, 0))

pub not_mapped_in : (f : Framed) (page i : ℕ) → IsGap page f.rows i → is_mapped (memory_of f) page ≡ false
not_mapped_in f page i gap = sym (has_frame_is_mapped f page) ∙ ap is_some (absent_in_gap page f.rows i gap)

pub cannot_map_mapped : (m : Memory) (page : ℕ) → is_mapped m page ≡ true → can_map m page ≡ false
unfolding can_map
cannot_map_mapped m page h = ap (λ b. not b && nat_lt (length m.pages) m.frames) h

can_map_free : (m : Memory) (page : ℕ) → is_mapped m page ≡ false → nat_lt (length m.pages) m.frames ≡ true → can_map m page ≡ true
unfolding can_map
can_map_free m page h room = ap (λ b. not b && nat_lt (length m.pages) m.frames) h ∙ room

pub can_map_in : (f : Framed) (page i : ℕ) → IsGap page f.rows i → length f.rows < length f.cells → can_map (memory_of f) page ≡ true
can_map_in f page i gap room =
    let fewer : nat_lt (length f.rows) (length f.cells) ≡ true = grind (arith, nat_tests) in
    can_map_free (memory_of f) page (not_mapped_in f page i gap)
    (ap (λ n. nat_lt n (memory_of f).frames) (pages_length f) ∙ ap (nat_lt (length f.rows)) (frames_are f) ∙ fewer)

pub cannot_map_full : (f : Framed) (page : ℕ) → length f.cells ≤ length f.rows → can_map (memory_of f) page ≡ false
cannot_map_full f page full = full_refuses (memory_of f) page (omega (arith, full, pages_length f, frames_are f))

without_rows : (page : ℕ) (rows : List (ℕ × ℕ)) → find nat_cmp page rows ≡ None → rows ≡ filter (λ e. not (e.0 == page)) rows
without_rows page [] none = refl
without_rows page (row ∷ rows) none = grind (arith, nat_tests, none, without_rows page rows)

-- a page that is not there is removed by nothing
pub without_absent : (f : Framed) (page i : ℕ) → IsGap page f.rows i → f ≡ without f page
without_absent f page i gap = ap (λ rows. record f { rows = rows }) (without_rows page f.rows (absent_in_gap page f.rows i gap))

-- 2. What is kept.

pub kept_read : (f : Framed) (free : List ℕ) (count : ℕ) → IsFramed f free → IsFramed (record f { reads = count }) free
kept_read f free count h = record {
  paged = subst IsPaged (sym (memory_of-read f count)) h.paged;
  small = h.small;
  counted = h.counted;
  once = h.once;
}

pub kept_without : (f : Framed) (free : List ℕ) (page i : ℕ) (row : ℕ × ℕ) → IsFramed f free → IsAt page f.rows i → row ≡ get_or f.rows i row → IsFramed (without f page) (free ++ row.1 ∷ [])
kept_without f free page i row h at is =
    let removed : remove f.rows i ≡ (without f page).rows = remove_at page f.rows i (held _ (rows_rise f free h)) at in
    let fewer : length (without f page).rows + 1 ≡ length f.rows = ap (λ rows. length rows + 1) (sym removed) ∙ length-remove f.rows i at.in_range in
    record {
      paged = subst IsPaged (sym (memory_of-without f page)) (unmap_paged (memory_of f) page h.paged);
      small = h.small;
      counted = omega (arith, fewer, h.counted, length-append free (row.1 ∷ []));
      once = λ frame.
          let left : rows_with frame (without f page).rows + one_if (frame == row.1) ≡ rows_with frame f.rows =
          ap (λ rows. rows_with frame rows + one_if (frame == row.1)) (sym removed)
          ∙ ap (λ (r : ℕ × ℕ). rows_with frame (remove f.rows i) + one_if (frame == r.1)) is
          ∙ with_remove frame f.rows i row at.in_range in
          omega (arith, left, h.once frame, times_push frame row.1 free);
    }

pub kept_seated : (f : Framed) (rest : List ℕ) (page frame i : ℕ) → IsFramed f (rest ++ frame ∷ []) → IsGap page f.rows i → page < 2 ^ 42 → IsFramed (seated f page frame) rest
kept_seated f rest page frame i h gap small =
    let free : List ℕ = rest ++ frame ∷ [] in
    let stands : 1 ≤ times frame free = omega (arith, times_push frame frame rest, one_if_same frame) in
    let long : length free ≡ length rest + 1 = length-append rest (frame ∷ []) in
    let placed : insert f.rows i (page, frame) ≡ (seated f page frame).rows = insert_in_gap page frame f.rows i gap in
    let more : length (seated f page frame).rows ≡ length f.rows + 1 = ap length (sym placed) ∙ length-insert f.rows i (page, frame) gap.in_range in
    let same = length-set f.cells frame zero_page in
    record {
      paged = subst IsPaged (sym (memory_of-seated f page frame (free_in_range f free h frame stands) (free_has_no_row f free h frame stands)))
          (map_paged (memory_of f) page h.paged (can_map_in f page i gap (omega (arith, long, h.counted))) small);
      small = omega (arith, same, h.small);
      counted = omega (arith, more, same, long, h.counted);
      once = λ n.
          let added : rows_with n (seated f page frame).rows ≡ rows_with n f.rows + one_if (n == frame) = ap (rows_with n) (sym placed) ∙ with_insert n (page, frame) f.rows i in
          omega (arith, added, h.once n, times_push n frame rest) ∙ ap (λ k. one_if (nat_lt n k)) (sym same);
    }

pub kept_written : (f : Framed) (free : List ℕ) (frame block_index : ℕ) (new : List Cell) → IsFramed f free → IsOccupied f frame → block_index < 64 → length new ≡ 8
    → IsFramed (written f frame block_index new) free
kept_written f free frame block_index new h occupied within eight =
    let page = occupied.page in
    let same = length-set f.cells frame _ in
    record {
      paged = subst IsPaged (sym (memory_of-written f page frame block_index new (rows_rise f free h) occupied.is (frame_in_range f free h page frame occupied.is) (one_page f free h frame) within))
          (put_block_paged (memory_of f) (page * 64 + block_index) new h.paged eight);
      small = omega (arith, same, h.small);
      counted = h.counted ∙ sym same;
      once = λ n. h.once n ∙ ap (λ k. one_if (nat_lt n k)) (sym same);
    }
