-- The line_states of lines, and what an access makes of them.
use Rattle.std.proofs.Common.{◌≡◌, ℕ, zero, suc, ◌+◌, ◌<◌, ◌/◌, ◌%◌, ◌==◌, Bool, true, false, not, ◌&&◌, ◌||◌}
use Rattle.std.proofs.Common.{if◌then◌else◌, List, [], ◌∷◌, replicate, Option, None, Some, is_some, slice_get, refl}
use Rattle.std.{proofs.Common.{sym, ap, arith, ◌∙◌, eqb-true}, specs.Prelude.slice_set}
use Rattle.mm_word.specs.declared.word.Cell.{Cell}
use Rattle.mm_model.specs.{declared.counts.Counts.Counts, Flags.one_if}
use Rattle.mm_model.specs.Counted.{block_of, line_of, page_of_block, page_of_old}
use Rattle.mm_cache.specs.declared.line.CacheLine.{CacheLine}
use Rattle.mm_cache.specs.Lines.{line_in, is_in, hits, dirty_in, line_with, with_cell, filled, emptied, without_page}
use Rattle.mm_cache.{specs.Lines.line_without as line_left}
use Rattle.mm_vmem.specs.Stands.{LineState, state_at, state_has, next_state, back_of, sought, after_looks, found_in}
use Rattle.mm_vmem.specs.Stands.{missed_in, next_numbers, lines_without, line_without}
use Rattle.mm_vmem.specs.Cached.{line_state, line_states, looked, gone_back}

-- 1. The line_states of changed lines.

pub line_at_tags : (ls : List (Option CacheLine)) (i : ℕ) → state_at (line_states ls) i ≡ line_state (line_in ls i)
line_at_tags [] i = refl
line_at_tags (x ∷ xs) zero = refl
line_at_tags (x ∷ xs) (suc i) = line_at_tags xs i

pub tags_set : (ls : List (Option CacheLine)) (i : ℕ) (o : Option CacheLine) → line_states (slice_set ls i o) ≡ slice_set (line_states ls) i (line_state o)
tags_set [] i o = refl
tags_set (x ∷ xs) zero o = refl
tags_set (x ∷ xs) (suc i) o = ap (λ (ts : List (Option LineState)). line_state x ∷ ts) (tags_set xs i o)

left_or_gone : (l : CacheLine) (b : Bool) → line_state (if b then None else Some l) ≡ (if b then None else line_state (Some l))
left_or_gone l true = refl
left_or_gone l false = refl

tag_left : (page : ℕ) (o : Option CacheLine) → line_state (line_left page o) ≡ line_without page (line_state o)
tag_left page None = refl
tag_left page (Some l) = left_or_gone l (page_of_block l.block == page)

pub tags_without : (page : ℕ) (ls : List (Option CacheLine)) → line_states (without_page page ls) ≡ lines_without page (line_states ls)
tags_without page [] = refl
tags_without page (x ∷ xs) =
    ap (λ (ts : List (Option LineState)). line_state (line_left page x) ∷ ts) (tags_without page xs) ∙ ap (λ (t : Option LineState). t ∷ lines_without page (line_states xs)) (tag_left page x)

pub tags_empty : (n i : ℕ) → i < n → slice_get (line_states (replicate n None)) i ≡ Some None
tags_empty zero i lt = absurd (omega (arith, lt))
tags_empty (suc n) zero lt = refl
tags_empty (suc n) (suc i) lt = tags_empty n i (omega (arith, lt))

set_line_at : (ts : List (Option LineState)) (i : ℕ) → slice_set ts i (state_at ts i) ≡ ts
set_line_at [] i = refl
set_line_at (x ∷ xs) zero = refl
set_line_at (x ∷ xs) (suc i) = ap (λ (ys : List (Option LineState)). x ∷ ys) (set_line_at xs i)

set_twice : (ts : List (Option LineState)) (i : ℕ) (o p : Option LineState) → slice_set (slice_set ts i o) i p ≡ slice_set ts i p
set_twice [] i o p = refl
set_twice (x ∷ xs) zero o p = refl
set_twice (x ∷ xs) (suc i) o p = ap (λ (ys : List (Option LineState)). x ∷ ys) (set_twice xs i o p)

-- an empty line that is filled
pub tags_filled : (ls mid new : List (Option CacheLine)) (b : ℕ) (cells : List Cell) → mid ≡ emptied ls (line_of b) → new ≡ filled mid b cells
    → line_states new ≡ slice_set (line_states ls) (line_of b) (Some (record { block = b; dirty = false }))
tags_filled ls mid new b cells mid_is new_is =
    ap line_states (new_is ∙ ap (λ (xs : List (Option CacheLine)). filled xs b cells) mid_is)
    ∙ tags_set (emptied ls (line_of b)) (line_of b) (Some (record { block = b; dirty = false; cells = cells }))
    ∙ ap (λ (ts : List (Option LineState)). slice_set ts (line_of b) (Some (record { block = b; dirty = false }))) (tags_set ls (line_of b) None)
    ∙ set_twice (line_states ls) (line_of b) None (Some (record { block = b; dirty = false }))

tag_marked : (o : Option CacheLine) (word : ℕ) (c : Cell) → is_in o (block_of word) ≡ true → line_state (line_with o word c) ≡ Some (record { block = block_of word; dirty = true })
tag_marked None word c h = cc
tag_marked (Some l) word c h = by (l.block == block_of word) h
  where
    by : (b : Bool) → b ≡ true → line_state (if b then Some (record { block = l.block; dirty = true; cells = slice_set l.cells (word % 64 / 8) c }) else Some l) ≡ Some
        (record { block = block_of word; dirty = true })
    by true t = ap (λ (x : ℕ). let t : Option LineState = Some (record { block = x; dirty = true }) in t) (eqb-true l.block (block_of word) h)
    by false t = cc

-- a line that is written
pub tags_written : (ls new : List (Option CacheLine)) (word : ℕ) (c : Cell) → new ≡ with_cell ls word c → hits ls (block_of word) ≡ true
    → line_states new ≡ slice_set (line_states ls) (line_of (block_of word)) (Some (record { block = block_of word; dirty = true }))
tags_written ls new word c is hit =
    ap line_states is ∙ tags_set ls (line_of (block_of word)) (line_with (line_in ls (line_of (block_of word))) word c)
    ∙ ap (λ (t : Option LineState). slice_set (line_states ls) (line_of (block_of word)) t) (tag_marked (line_in ls (line_of (block_of word))) word c hit)

-- 2. Hits and misses.

tag_in : (o : Option CacheLine) (b : ℕ) → state_has (line_state o) b ≡ is_in o b
tag_in None b = refl
tag_in (Some l) b = refl

pub tag_hits : (ls : List (Option CacheLine)) (b : ℕ) → state_has (state_at (line_states ls) (line_of b)) b ≡ hits ls b
tag_hits ls b = ap (λ (t : Option LineState). state_has t b) (line_at_tags ls (line_of b)) ∙ tag_in (line_in ls (line_of b)) b

abbrev pub block_of_line : Option CacheLine → Option ℕ
block_of_line None = None
block_of_line (Some l) = Some l.block

given_or_kept : (l : CacheLine) (d : Bool) → (if d then Some l.block else None) ≡ block_of_line (if d then Some l else None)
given_or_kept l true = refl
given_or_kept l false = refl

back_is : (o : Option CacheLine) (b : ℕ) → is_in o b ≡ false → back_of (line_state o) b ≡ block_of_line (dirty_in o)
back_is None b h = refl
back_is (Some l) b h = ap (λ (t : Bool). if t then None else (if l.dirty then Some l.block else None)) h ∙ given_or_kept l l.dirty

-- what a line gives back for a block that it does not have
pub back_given : (ls : List (Option CacheLine)) (b : ℕ) (r : Option CacheLine) → hits ls b ≡ false → r ≡ dirty_in (line_in ls (line_of b))
    → back_of (state_at (line_states ls) (line_of b)) b ≡ block_of_line r
back_given ls b r absent is =
    ap (λ (t : Option LineState). back_of t b) (line_at_tags ls (line_of b)) ∙ back_is (line_in ls (line_of b)) b absent ∙ ap block_of_line (sym is)

pub same_counts : (a b : Counts) → a.hits ≡ b.hits → a.misses ≡ b.misses → a.writebacks ≡ b.writebacks → a.tlb_hits ≡ b.tlb_hits → a.tlb_misses ≡ b.tlb_misses → a.reads ≡ b.reads → a.writes ≡ b.writes
    → a ≡ b
same_counts a b h m w th tm r ws = λ i. record { hits = h i; misses = m i; writebacks = w i; tlb_hits = th i; tlb_misses = tm i; reads = r i; writes = ws i }

module _ (t : Option LineState) (b : ℕ) (absent : state_has t b ≡ false) where
  pub sought_missing : sought t b ≡ page_of_block b ∷ page_of_old (back_of t b)
  sought_missing = ap (λ (h : Bool). if h then [] else page_of_block b ∷ page_of_old (back_of t b)) absent

  -- the line of a block that was not there, and is not written
  pub tag_brought : (w : Bool) → w ≡ false → next_state t b w ≡ Some (record { block = b; dirty = false })
  tag_brought w nothing = by t absent
    where
      by : (o : Option LineState) → state_has o b ≡ false → next_state o b w ≡ Some (record { block = b; dirty = false })
      by None h = ap (λ (x : Bool). let o : Option LineState = Some (record { block = b; dirty = x || false }) in o) nothing
      by (Some o) h =
          ap (λ (x : Bool). let p : Option LineState = Some (record { block = b; dirty = x || (o.block == b && o.dirty) }) in p) nothing
          ∙ ap (λ (x : Bool). let p : Option LineState = Some (record { block = b; dirty = x && o.dirty }) in p) h

numbers_by : (o : Option ℕ) (p : ℕ) (buffer : List ℕ) (n : Counts) → record
    (looked p (after_looks (page_of_old o) buffer) (gone_back o buffer (record n { misses = n.misses + 1 }))) { reads = n.reads + 1 } ≡ record {
      hits = n.hits + 0;
      misses = n.misses + 1;
      writebacks = n.writebacks + one_if (is_some o);
      tlb_hits = n.tlb_hits + found_in (p ∷ page_of_old o) buffer;
      tlb_misses = n.tlb_misses + missed_in (p ∷ page_of_old o) buffer;
      reads = n.reads + 1;
      writes = n.writes + one_if (is_some o);
    }
numbers_by None p buffer n = same_counts _ _ (omega arith) refl (omega arith) (omega arith) (omega arith) refl (omega arith)
numbers_by (Some x) p buffer n = same_counts _ _ (omega arith) refl refl (omega arith) (omega arith) refl refl

-- the numbers of a miss
pub numbers_missing : (t : Option LineState) (b : ℕ) (buffer : List ℕ) (n : Counts) → state_has t b ≡ false →
    record (looked (page_of_block b) (after_looks (page_of_old (back_of t b)) buffer) (gone_back (back_of t b) buffer (record n { misses = n.misses + 1 }))) { reads = n.reads + 1 }
    ≡ next_numbers t b buffer n
numbers_missing t b buffer n absent =
    numbers_by (back_of t b) (page_of_block b) buffer n ∙ sym (same_counts (next_numbers t b buffer n) _
    (ap (λ (h : Bool). n.hits + one_if h) absent) (ap (λ (h : Bool). n.misses + one_if (not h)) absent) refl
    (ap (λ (ps : List ℕ). n.tlb_hits + found_in ps buffer) (sought_missing t b absent)) (ap (λ (ps : List ℕ). n.tlb_misses + missed_in ps buffer) (sought_missing t b absent))
    (ap (λ (h : Bool). n.reads + one_if (not h)) absent) refl)

-- 3. A hit changes no tag, no buffer, and one number.

module _ (t : Option LineState) (b : ℕ) (there : state_has t b ≡ true) where
  tag_kept : (w : Bool) → w ≡ false → next_state t b w ≡ t
  tag_kept w nothing = by t there
    where
      by : (o : Option LineState) → state_has o b ≡ true → next_state o b w ≡ o
      by None h = cc
      by (Some o) h =
          ap (λ (x : Bool). let p : Option LineState = Some (record { block = b; dirty = x || (o.block == b && o.dirty) }) in p) nothing
          ∙ ap (λ (x : Bool). let p : Option LineState = Some (record { block = b; dirty = x && o.dirty }) in p) h
          ∙ ap (λ (x : ℕ). let p : Option LineState = Some (record { block = x; dirty = o.dirty }) in p) (sym (eqb-true o.block b h))

  none_back : back_of t b ≡ None
  none_back = by t there
    where
      by : (o : Option LineState) → state_has o b ≡ true → back_of o b ≡ None
      by None h = refl
      by (Some o) h = ap (λ (x : Bool). if x then None else (if o.dirty then Some o.block else None)) h

  pub sought_there : sought t b ≡ []
  sought_there = ap (λ (h : Bool). if h then [] else page_of_block b ∷ page_of_old (back_of t b)) there

  pub numbers_there : (buffer : List ℕ) (n : Counts) → record n { hits = n.hits + 1 } ≡ next_numbers t b buffer n
  numbers_there buffer n = sym (same_counts (next_numbers t b buffer n) (record n { hits = n.hits + 1 })
      (ap (λ (h : Bool). n.hits + one_if h) there) (ap (λ (h : Bool). n.misses + one_if (not h)) there ∙ zero_more n.misses)
      (ap (λ (o : Option ℕ). n.writebacks + one_if (is_some o)) none_back ∙ zero_more n.writebacks)
      (ap (λ (ps : List ℕ). n.tlb_hits + found_in ps buffer) sought_there ∙ zero_more n.tlb_hits) (ap (λ (ps : List ℕ). n.tlb_misses + missed_in ps buffer) sought_there ∙ zero_more n.tlb_misses)
      (ap (λ (h : Bool). n.reads + one_if (not h)) there ∙ zero_more n.reads) (ap (λ (o : Option ℕ). n.writes + one_if (is_some o)) none_back ∙ zero_more n.writes))
    where
      zero_more : (x : ℕ) → x + 0 ≡ x
      zero_more x = omega arith

pub lines_there : (ts : List (Option LineState)) (b : ℕ) (w : Bool) → state_has (state_at ts (line_of b)) b ≡ true → w ≡ false
    → ts ≡ slice_set ts (line_of b) (next_state (state_at ts (line_of b)) b w)
lines_there ts b w there nothing = sym (ap (λ (t : Option LineState). slice_set ts (line_of b) t) (tag_kept (state_at ts (line_of b)) b there w nothing) ∙ set_line_at ts (line_of b))
