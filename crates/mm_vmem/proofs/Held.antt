-- What a cached memory holds while its parts change.
use Rattle.std.proofs.Common.{◌≡◌, ℕ, zero, suc, ◌+◌, ◌-◌, ◌*◌, ◌/◌, ◌%◌, ◌<◌, ◌≤◌, Bool, true, false, if◌then◌else◌}
use Rattle.std.proofs.Common.{List, [], ◌∷◌, length, Option, None, Some, is_some, refl, sym, ap, subst, arith, ◌∙◌}
use Rattle.std.{proofs.Common.eq-eqb, specs.{Prelude.slice_set, List.AllByRecursion, Ordering.nat_cmp, FinMap.find}}
use Rattle.mm_word.specs.declared.word.Cell.{Cell}
use Rattle.mm_model.specs.{Memory.{Memory, is_mapped}, declared.counts.Counts.Counts}
use Rattle.mm_model.specs.Counted.{line_of, page_of_block, page_of_old}
use Rattle.mm_mem.specs.Blocks.{block_in, block_of_page, block_at, put_block, place_of_block}
use Rattle.mm_frames.specs.Framed.{Framed, frame_of, memory_of, cells_in, written}
use Rattle.mm_frames.proofs.Framed.{page_in_frame, has_frame_is_mapped, frame_of-written, memory_of-read}
use Rattle.mm_cache.specs.{declared.line.CacheLine.CacheLine, Lines.{line_in, is_in, hits, dirty_in, filled, emptied}}
use Rattle.mm_cache.specs.{Over.over, Laws.Cover}
use Rattle.mm_cache.proofs.{Placed.{line_emptied, line_set_same}, FillLines.{fills_are_over, clean_lines_go}}
use Rattle.mm_cache.proofs.WriteBack.{lines_are_written_back}
use Rattle.mm_vmem.specs.declared.tlb.Entry.{Entry}
use Rattle.mm_vmem.specs.Stands.{state_at, state_has, sought, after_looks, moved, next_numbers}
use Rattle.mm_vmem.specs.Entries.{pages_in, after_look_up}
use Rattle.mm_vmem.specs.Cached.{Cached, IsCached, AreFew, meaning, line_states, old_block, looked, gone_back}
use Rattle.mm_vmem.proofs.Entries.{entered_each, pages_entered}
use Rattle.mm_vmem.proofs.LineStates.{back_given, same_counts, tags_filled, tag_hits, sought_missing, numbers_missing}

-- 1. Entries that are right.

abbrev pub AreRight : Framed → List Entry → Type 0
AreRight f es = AllByRecursion (λ e. frame_of f e.page ≡ Some e.frame) es

pub right_entered : (f : Framed) (e : Entry) (es new : List Entry) → AreRight f es → frame_of f e.page ≡ Some e.frame → new ≡ after_look_up e es → AreRight f new
right_entered f e es new right here is = subst (λ (xs : List Entry). AreRight f xs) (sym is) (entered_each (λ (x : Entry). frame_of f x.page ≡ Some x.frame) e es right here)

-- other frames, in which each page has the frame that it had
pub right_along : (f g : Framed) (es : List Entry) → ((page : ℕ) → frame_of g page ≡ frame_of f page) → AreRight f es → AreRight g es
right_along f g [] same right = tt
right_along f g (e ∷ es) same right = (same e.page ∙ right.0, right_along f g es same right.1)

-- 2. Lines that go.

-- a line that has to go back is that line
pub dirty_line : (o : Option CacheLine) (l : CacheLine) → dirty_in o ≡ Some l → o ≡ Some l
dirty_line None l is = cc
dirty_line (Some x) l is = by x.dirty is
  where
    by : (d : Bool) → (if d then Some x else None) ≡ Some l → Some x ≡ Some l
    by true at = at
    by false at = cc

-- a line with nothing to go back is empty or clean
pub clean_line : (m : Memory) (ls : List (Option CacheLine)) (i : ℕ) → Cover ls m → dirty_in (line_in ls i) ≡ None → over m (emptied ls i) ≡ over m ls
clean_line m ls i cover none = by (line_in ls i) refl none
  where
    clean : (l : CacheLine) (d : Bool) → l.dirty ≡ d → if◌then◌else◌ {A = Option CacheLine} d (Some l) None ≡ None → l.dirty ≡ false
    clean l true dirty at = cc
    clean l false dirty at = dirty

    by : (o : Option CacheLine) → line_in ls i ≡ o → dirty_in o ≡ None → over m (emptied ls i) ≡ over m ls
    by None empty at = ap (over m) (emptied_same ls i empty)
      where
        emptied_same : (xs : List (Option CacheLine)) (j : ℕ) → line_in xs j ≡ None → emptied xs j ≡ xs
        emptied_same [] j h = refl
        emptied_same (x ∷ xs) zero h = ap (λ (o : Option CacheLine). o ∷ xs) (sym h)
        emptied_same (x ∷ xs) (suc j) h = ap (λ (ys : List (Option CacheLine)). x ∷ ys) (emptied_same xs j h)
    by (Some l) there at = clean_lines_go.map m ls i l cover there (clean l l.dirty refl at)

-- the page of a block that is in a line has a frame
pub line_has_frame : (f : Framed) (ls : List (Option CacheLine)) (i : ℕ) (l : CacheLine) → Cover ls (memory_of f) → line_in ls i ≡ Some l → frame_of f (page_of_block l.block) ≡ None → ⊥
line_has_frame f ls i l cover there none =
    let mapped : is_mapped (memory_of f) (page_of_block l.block) ≡ true = (cover.lie i l there).mapped in
    let has : is_some (frame_of f (page_of_block l.block)) ≡ true = has_frame_is_mapped f (page_of_block l.block) ∙ mapped in
    let no : is_some (frame_of f (page_of_block l.block)) ≡ false = ap is_some none in
    cc

-- a line that goes back to its frame
pub line_back : (f g : Framed) (ls : List (Option CacheLine)) (i : ℕ) (v : CacheLine) → Cover ls (memory_of f) → dirty_in (line_in ls i) ≡ Some v
    → memory_of g ≡ put_block (memory_of f) v.block v.cells
    → over (memory_of g) (emptied ls i) ≡ over (memory_of f) ls
line_back f g ls i v cover is back =
    ap (λ (m : Memory). over m (emptied ls i)) back ∙ lines_are_written_back.map (memory_of f) ls i v cover (dirty_line (line_in ls i) v is)

pub line_back_cover : (f g : Framed) (ls : List (Option CacheLine)) (i : ℕ) (v : CacheLine) → Cover ls (memory_of f) → dirty_in (line_in ls i) ≡ Some v
    → memory_of g ≡ put_block (memory_of f) v.block v.cells
    → Cover (emptied ls i) (memory_of g)
line_back_cover f g ls i v cover is back =
    subst (λ (m : Memory). Cover (emptied ls i) m) (sym back) (lines_are_written_back.cover (memory_of f) ls i v cover (dirty_line (line_in ls i) v is))

-- 3. A block that comes.

-- it is read from the frame of its page
pub block_in_frame : (f : Framed) (block frame : ℕ) → frame_of f (page_of_block block) ≡ Some frame → block_at (memory_of f) block ≡ Some (block_in (cells_in f frame) (place_of_block block))
block_in_frame f block frame at = ap (λ (o : Option (List Cell)). block_of_page o block) (page_in_frame f (page_of_block block) frame at)

-- 4. The line of a block that is not there is emptied.

module _ (old now : Cached) (block : ℕ) (held : IsCached old) (reads : old.frames.reads ≡ old.numbers.reads) (writes : old.frames.writes ≡ old.numbers.writes) (view : old ≡ now)
    (absent : hits now.lines block ≡ false) where
  absent_before : hits old.lines block ≡ false
  absent_before = ap (λ (m : Cached). hits m.lines block) view ∙ absent

  -- nothing goes back
  module _ (lines : List (Option CacheLine)) (lines_are : lines ≡ emptied old.lines (line_of block)) (none : dirty_in (line_in old.lines (line_of block)) ≡ None) where
    no_old_block : old_block old block ≡ None
    no_old_block = back_given old.lines block None absent_before (sym none)

    pub room_meaning : meaning (record old { lines = lines }) ≡ meaning now
    unfolding meaning
    room_meaning = ap (over (memory_of old.frames)) lines_are ∙ clean_line (memory_of old.frames) old.lines (line_of block) held.cover none ∙ ap meaning view

    pub room_entries : pages_in old.entries ≡ after_looks (page_of_old (old_block now block)) (pages_in now.entries)
    room_entries =
        subst (λ (m : Cached). pages_in old.entries ≡ after_looks (page_of_old (old_block m block)) (pages_in m.entries)) view
        (ap (λ (o : Option ℕ). after_looks (page_of_old o) (pages_in old.entries)) (sym no_old_block))

    pub room_numbers : old.numbers ≡ gone_back (old_block now block) (pages_in now.entries) now.numbers
    room_numbers =
        subst (λ (m : Cached). old.numbers ≡ gone_back (old_block m block) (pages_in m.entries) m.numbers) view
        (ap (λ (o : Option ℕ). gone_back o (pages_in old.entries) old.numbers) (sym no_old_block))

  -- a block goes back
  module _ (lines : List (Option CacheLine)) (lines_are : lines ≡ emptied old.lines (line_of block)) (v : CacheLine) (is : dirty_in (line_in old.lines (line_of block)) ≡ Some v)
      (frame : ℕ) (at : frame_of old.frames (v.block / 64) ≡ Some frame) (mid : Cached)
      (mid_is : mid ≡ record {
        frames = old.frames;
        lines = lines;
        entries = after_look_up (record { page = v.block / 64; frame = frame }) old.entries;
        uses = old.uses;
        numbers = looked (v.block / 64) (pages_in old.entries) (record old.numbers { writebacks = old.numbers.writebacks + 1 });
      })
      (g : Framed) (after : g ≡ written mid.frames frame (v.block % 64) v.cells)
      (memory : (page : ℕ) → frame_of mid.frames page ≡ Some frame → memory_of g ≡ put_block (memory_of mid.frames) (page * 64 + v.block % 64) v.cells) where
    its_block : old_block old block ≡ Some v.block
    its_block = back_given old.lines block (Some v) absent_before (sym is)

    same_frames : mid.frames ≡ old.frames
    same_frames = ap (λ (m : Cached). m.frames) mid_is

    back : memory_of g ≡ put_block (memory_of old.frames) v.block v.cells
    back =
        memory (v.block / 64) (ap (λ (f : Framed). frame_of f (v.block / 64)) same_frames ∙ at)
        ∙ ap (λ (f : Framed). put_block (memory_of f) (v.block / 64 * 64 + v.block % 64) v.cells) same_frames
        ∙ ap (λ (b : ℕ). put_block (memory_of old.frames) b v.cells) (omega arith)

    mid_lines : mid.lines ≡ emptied old.lines (line_of block)
    mid_lines = ap (λ (m : Cached). m.lines) mid_is ∙ lines_are

    g_reads : g.reads ≡ old.numbers.reads
    g_reads = ap (λ (f : Framed). f.reads) after ∙ ap (λ (f : Framed). f.reads) same_frames ∙ reads

    g_writes : g.writes ≡ old.numbers.writes + 1
    g_writes = ap (λ (f : Framed). f.writes) after ∙ ap (λ (f : Framed). f.writes + 1) same_frames ∙ ap (λ (n : ℕ). n + 1) writes

    pub back_held : IsCached mid → now.numbers.writes < now.uses → IsCached (record mid { frames = g; numbers = record mid.numbers { reads = g.reads; writes = g.writes } })
    back_held kept room = record {
      cover = subst (λ (ls : List (Option CacheLine)). Cover ls (memory_of g)) (sym mid_lines) (line_back_cover old.frames g old.lines (line_of block) v held.cover is back);
      right = right_along mid.frames g mid.entries (λ (q : ℕ). ap (λ (f : Framed). frame_of f q) after ∙ frame_of-written mid.frames frame (v.block % 64) v.cells q) kept.right;
      few =
          let few = kept.few in
          let fewer : old.numbers.writes < old.uses = subst (λ (m : Cached). m.numbers.writes < m.uses) (sym view) room in
          let before = held.few.reads in
          let uses : mid.uses ≡ old.uses = ap (λ (m : Cached). m.uses) mid_is in
          record { accesses = few.accesses; writebacks = few.writebacks; look_ups = few.look_ups; reads = omega (arith, g_reads, uses, before); writes = omega (arith, g_writes, uses, fewer) };
    }

    pub back_meaning : meaning (record mid { frames = g; numbers = record mid.numbers { reads = g.reads; writes = g.writes } }) ≡ meaning now
    unfolding meaning
    back_meaning = ap (over (memory_of g)) mid_lines ∙ line_back old.frames g old.lines (line_of block) v held.cover is back ∙ ap meaning view

    pub back_entries : pages_in mid.entries ≡ after_looks (page_of_old (old_block now block)) (pages_in now.entries)
    back_entries =
        subst (λ (m : Cached). pages_in mid.entries ≡ after_looks (page_of_old (old_block m block)) (pages_in m.entries)) view
        (ap (λ (m : Cached). pages_in m.entries) mid_is
        ∙ pages_entered (record { page = v.block / 64; frame = frame }) old.entries
        ∙ ap (λ (o : Option ℕ). after_looks (page_of_old o) (pages_in old.entries)) (sym its_block))

    pub back_numbers : record mid.numbers { reads = g.reads; writes = g.writes } ≡ gone_back (old_block now block) (pages_in now.entries) now.numbers
    back_numbers =
        subst (λ (m : Cached). record mid.numbers { reads = g.reads; writes = g.writes } ≡ gone_back (old_block m block) (pages_in m.entries) m.numbers) view
        (same_counts (record mid.numbers { reads = g.reads; writes = g.writes }) (gone_back (Some v.block) (pages_in old.entries) old.numbers)
        (ap (λ (m : Cached). m.numbers.hits) mid_is) (ap (λ (m : Cached). m.numbers.misses) mid_is) (ap (λ (m : Cached). m.numbers.writebacks) mid_is)
        (ap (λ (m : Cached). m.numbers.tlb_hits) mid_is) (ap (λ (m : Cached). m.numbers.tlb_misses) mid_is)
        g_reads g_writes
        ∙ ap (λ (o : Option ℕ). gone_back o (pages_in old.entries) old.numbers) (sym its_block))

-- 5. A block comes into its line.

gone_back_reads : (o : Option ℕ) (buffer : List ℕ) (n : Counts) → (gone_back o buffer n).reads ≡ n.reads
gone_back_reads None buffer n = refl
gone_back_reads (Some x) buffer n = refl

frame_by_rows : (f g : Framed) (page : ℕ) → g.rows ≡ f.rows → frame_of g page ≡ frame_of f page
frame_by_rows f g page same = ap (λ (rows : List (ℕ × ℕ)). find nat_cmp page rows) same

-- `now` before it, `begun` with the miss counted, `roomy` with its line empty, `mid` after its page was looked up
module _ (now begun roomy mid : Cached) (block frame : ℕ)
    (begun_is : begun ≡ record now { numbers = record now.numbers { misses = now.numbers.misses + 1 } })
    (absent : hits now.lines block ≡ false) (at : frame_of now.frames (page_of_block block) ≡ Some frame)
    (roomy_lines : roomy.lines ≡ emptied begun.lines (line_of block)) (roomy_meaning : meaning roomy ≡ meaning begun) (roomy_rows : roomy.frames.rows ≡ begun.frames.rows)
    (roomy_uses : roomy.uses ≡ begun.uses)
    (roomy_entries : pages_in roomy.entries ≡ after_looks (page_of_old (old_block begun block)) (pages_in begun.entries))
    (roomy_numbers : roomy.numbers ≡ gone_back (old_block begun block) (pages_in begun.entries) begun.numbers)
    (mid_is : mid ≡ record roomy {
      entries = after_look_up (record { page = page_of_block block; frame = frame }) roomy.entries;
      numbers = looked (page_of_block block)
          (pages_in roomy.entries) roomy.numbers;
    })
    (mid_reads : mid.frames.reads ≡ mid.numbers.reads) (mid_writes : mid.frames.writes ≡ mid.numbers.writes)
    (g : Framed) (g_is : g ≡ record mid.frames { reads = mid.frames.reads + 1 })
    (cells : List Cell) (cells_are : cells ≡ block_in (cells_in mid.frames frame) (place_of_block block))
    (lines : List (Option CacheLine)) (lines_are : lines ≡ filled mid.lines block cells) where
  abbrev ended : Cached
  ended = record mid { frames = g; lines = lines; numbers = record mid.numbers { reads = g.reads; writes = g.writes } }

  mid_lines_are : mid.lines ≡ emptied now.lines (line_of block)
  mid_lines_are = ap (λ (m : Cached). m.lines) mid_is ∙ roomy_lines ∙ ap (λ (m : Cached). emptied m.lines (line_of block)) begun_is

  mid_empty : line_in mid.lines (line_of block) ≡ None
  mid_empty = ap (λ (ls : List (Option CacheLine)). line_in ls (line_of block)) mid_lines_are ∙ line_emptied now.lines (line_of block)

  mid_rows : mid.frames.rows ≡ now.frames.rows
  mid_rows = ap (λ (m : Cached). m.frames.rows) mid_is ∙ roomy_rows ∙ ap (λ (m : Cached). m.frames.rows) begun_is

  block_there : block_at (memory_of mid.frames) block ≡ Some cells
  block_there = block_in_frame mid.frames block frame (frame_by_rows now.frames mid.frames (page_of_block block) mid_rows ∙ at) ∙ ap (λ (xs : List Cell). Some xs) (sym cells_are)

  same_memory : memory_of g ≡ memory_of mid.frames
  same_memory = ap memory_of g_is ∙ memory_of-read mid.frames (mid.frames.reads + 1)

  mid_uses : mid.uses ≡ now.uses
  mid_uses = ap (λ (m : Cached). m.uses) mid_is ∙ roomy_uses ∙ ap (λ (m : Cached). m.uses) begun_is

  one_read : g.reads ≡ now.numbers.reads + 1
  one_read =
      ap (λ (f : Framed). f.reads) g_is
      ∙ ap (λ (n : ℕ). n + 1) (mid_reads ∙ ap (λ (m : Cached). m.numbers.reads) mid_is ∙ ap (λ (n : Counts). n.reads) roomy_numbers
      ∙ gone_back_reads (old_block begun block) (pages_in begun.entries) begun.numbers ∙ ap (λ (m : Cached). m.numbers.reads) begun_is)

  same_writes : g.writes ≡ mid.numbers.writes
  same_writes = ap (λ (f : Framed). f.writes) g_is ∙ mid_writes

  pub bring_held : IsCached mid → AreFew now.numbers (now.uses - 1) → 0 < now.uses → IsCached ended
  bring_held kept few some = record {
    cover = subst (λ (m : Memory). Cover lines m) (sym same_memory) (subst (λ (ls : List (Option CacheLine)). Cover ls (memory_of mid.frames)) (sym lines_are)
        (fills_are_over.cover (memory_of mid.frames) mid.lines block cells kept.cover mid_empty block_there));
    right = right_along mid.frames g mid.entries (λ (q : ℕ). frame_by_rows mid.frames g q (ap (λ (f : Framed). f.rows) g_is)) kept.right;
    few =
        let was = kept.few in
        let reads = few.reads in
        let writes : mid.numbers.writes ≤ mid.uses = kept.few.writes in
        record { accesses = was.accesses; writebacks = was.writebacks; look_ups = was.look_ups; reads = omega (arith, one_read, mid_uses, reads, some); writes = omega (arith, same_writes, writes) };
  }

  pub bring_meaning : IsCached mid → meaning ended ≡ meaning now
  unfolding meaning
  bring_meaning kept =
      ap (λ (m : Memory). over m lines) same_memory
      ∙ ap (over (memory_of mid.frames)) lines_are
      ∙ fills_are_over.map (memory_of mid.frames) mid.lines block cells kept.cover mid_empty block_there
      ∙ ap (λ (m : Cached). over (memory_of m.frames) m.lines) mid_is
      ∙ roomy_meaning
      ∙ ap (λ (m : Cached). over (memory_of m.frames) m.lines) begun_is

  pub bring_there : IsCached mid → hits lines block ≡ true
  bring_there kept =
      let many : length mid.lines ≡ 64 = kept.cover.lines.many in
      ap (λ (ls : List (Option CacheLine)). hits ls block) lines_are
      ∙ ap (λ (o : Option CacheLine). is_in o block) (line_set_same mid.lines (line_of block) (Some (record { block = block; dirty = false; cells = cells })) (omega (arith, many)))
      ∙ eq-eqb block block refl

  pub bring_lines : line_states lines ≡ slice_set (line_states now.lines) (line_of block) (Some (record { block = block; dirty = false }))
  bring_lines = tags_filled now.lines mid.lines lines block cells mid_lines_are lines_are

  missing : state_has (state_at (line_states now.lines) (line_of block)) block ≡ false
  missing = tag_hits now.lines block ∙ absent

  roomy_pages : pages_in roomy.entries ≡ after_looks (page_of_old (old_block now block)) (pages_in now.entries)
  roomy_pages = roomy_entries ∙ ap (λ (m : Cached). after_looks (page_of_old (old_block m block)) (pages_in m.entries)) begun_is

  pub bring_entries : pages_in mid.entries ≡ after_looks (sought (state_at (line_states now.lines) (line_of block)) block) (pages_in now.entries)
  bring_entries =
      ap (λ (m : Cached). pages_in m.entries) mid_is
      ∙ pages_entered (record { page = page_of_block block; frame = frame }) roomy.entries
      ∙ ap (moved (page_of_block block)) roomy_pages
      ∙ ap (λ (ps : List ℕ). after_looks ps (pages_in now.entries)) (sym (sought_missing (state_at (line_states now.lines) (line_of block)) block missing))

  pub bring_numbers : ended.numbers ≡ next_numbers (state_at (line_states now.lines) (line_of block)) block (pages_in now.entries) now.numbers
  bring_numbers =
      same_counts ended.numbers (record (looked (page_of_block block) (pages_in roomy.entries) roomy.numbers) { reads = now.numbers.reads + 1 })
      (ap (λ (m : Cached). m.numbers.hits) mid_is) (ap (λ (m : Cached). m.numbers.misses) mid_is) (ap (λ (m : Cached). m.numbers.writebacks) mid_is)
      (ap (λ (m : Cached). m.numbers.tlb_hits) mid_is) (ap (λ (m : Cached). m.numbers.tlb_misses) mid_is)
      one_read (same_writes ∙ ap (λ (m : Cached). m.numbers.writes) mid_is)
      ∙ ap (λ (n : Counts). record (looked (page_of_block block) (pages_in roomy.entries) n) { reads = now.numbers.reads + 1 })
      (roomy_numbers ∙ ap (λ (m : Cached). gone_back (old_block m block) (pages_in m.entries) m.numbers) begun_is)
      ∙ ap (λ (ps : List ℕ). record (looked (page_of_block block) ps (gone_back (old_block now block) (pages_in now.entries) (record now.numbers { misses = now.numbers.misses + 1 })))
      { reads = now.numbers.reads + 1 }) roomy_pages
      ∙ numbers_missing (state_at (line_states now.lines) (line_of block)) block (pages_in now.entries) now.numbers missing
