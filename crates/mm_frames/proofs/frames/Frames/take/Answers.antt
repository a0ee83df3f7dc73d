use Rattle.std.proofs.Common.{◌≡◌, ◌≤◌, ℕ, List, [], ◌∷◌, IsTrue, true, false, is_some, length, set, IfOk, IfErr, sym}
use Rattle.std.proofs.{Common.{ap, subst, ◌∙◌, arith}, lemmas.List.length-append}
use Rattle.std.specs.{Ordering.nat_cmp, FinMap.is_sorted}
use Rattle.mm_word.specs.declared.word.Cell.{Cell}
use Rattle.mm_model.specs.Memory.{can_map}
use Rattle.mm_mem.specs.{Answers.after_map, Places.{IsAt, IsGap}}
use Rattle.mm_mem.proofs.{Places.insert_in_gap, Flats.{map_refused, map_done}}
use Rattle.mm_frames.specs.Framed.{Framed, IsFramed, IsFree, memory_of, seated, times}
use Rattle.mm_frames.proofs.Counts.{last_stands}
use Rattle.mm_frames.proofs.Framed.{rows_rise, memory_of-seated, free_in_range, free_has_no_row, free_is_free}
use Rattle.mm_frames.proofs.Kept.{mapped_from, gap_place_from, cannot_map_mapped, cannot_map_full, can_map_in}
use Rattle.mm_frames.proofs.Kept.{kept_seated}
use Rattle.mm_frames.proofs.frames.Frames.take.Goals as goal

pub search-requires : goal.search-requires
search-requires c = subst (λ (rows : List (ℕ × ℕ)). IsTrue (is_sorted nat_cmp rows)) (sym c.deref.ensures.value) (rows_rise _ _ c.self.invariant.framed)

-- 1. It is mapped already.

again : (c : goal.After-from_residual) → can_map (memory_of c.args.self.now) c.args.page ≡ false
again c =
    let f : Framed = record { rows = c.self.inside.rows.items; cells = c.self.inside.frames.items; reads = c.self.inside.reads; writes = c.self.inside.writes } in
    let at = subst (λ (rows : List (ℕ × ℕ)). IfOk c.search.result (IsAt c.args.page rows)) c.deref.ensures.value c.search.ensures.found in
    sym (ap (λ (f : Framed). can_map (memory_of f) c.args.page) c.self.view_is)
    ∙ cannot_map_mapped (memory_of f) c.args.page (mapped_from f c.args.page c.search.result (rows_rise f _ c.self.invariant.framed) c.in_err-i.ensures.value at)

pub returns-in_err-i-clause-answer : goal.returns-in_err-i-clause-answer
returns-in_err-i-clause-answer c = ap is_some c.from_residual.ensures ∙ sym (again c)

pub returns-in_err-i-clause-memory : goal.returns-in_err-i-clause-memory
returns-in_err-i-clause-memory c = map_refused (memory_of c.args.self.now) c.args.page (again c)

-- 2. No frame is free.

full : (c : goal.After-from_residual-in_err-frame) → can_map (memory_of (record {
  rows = c.self.inside.rows.items;
  cells = c.self.inside.frames.items;
  reads = c.self.inside.reads;
  writes = c.self.inside.writes;
})) c.args.page ≡ false
full c = cannot_map_full (record { rows = c.self.inside.rows.items; cells = c.self.inside.frames.items; reads = c.self.inside.reads; writes = c.self.inside.writes }) c.args.page
    (omega (arith, c.self.invariant.framed.counted, c.in_err-frame.ensures.cases.0, c.self.inside.free.ok.0))

pub returns-in_err-frame-clause-answer : goal.returns-in_err-frame-clause-answer
returns-in_err-frame-clause-answer c = ap is_some c.from_residual-in_err-frame.ensures ∙ sym (full c) ∙ ap (λ (f : Framed). can_map (memory_of f) c.args.page) c.self.view_is

pub returns-in_err-frame-clause-memory : goal.returns-in_err-frame-clause-memory
returns-in_err-frame-clause-memory c = map_refused (memory_of (record {
  rows = c.self.inside.rows.items;
  cells = c.self.inside.frames.items;
  reads = c.self.inside.reads;
  writes = c.self.inside.writes;
})) c.args.page (full c) ∙ ap (λ (f : Framed). after_map (memory_of f) c.args.page) c.self.view_is

-- 3. A frame is free.

pub index_mut-requires : goal.index_mut-requires
index_mut-requires c =
    let stands = subst (λ (free : List ℕ). 1 ≤ times c.in_ok-frame.frame free) (sym c.in_ok-frame.ensures.items) (last_stands c.in_ok-frame.frame c.pop.new.self.items) in
    omega (arith, free_in_range _ _ c.self.invariant.framed c.in_ok-frame.frame stands, c.self.inside.frames.ok.0)

gap : (c : goal.In-Ok) → IsGap c.args.page c.self.inside.rows.items c.in_ok-i.i
gap c = gap_place_from c.args.page c.self.inside.rows.items c.search.result c.in_ok-i.i c.in_ok-i.ensures.value
    (subst (λ (rows : List (ℕ × ℕ)). IfErr c.search.result (IsGap c.args.page rows)) c.deref.ensures.value c.search.ensures.absent)

stands : (c : goal.In-Ok) → 1 ≤ times c.in_ok-frame.frame c.self.inside.free.items
stands c = subst (λ (free : List ℕ). 1 ≤ times c.in_ok-frame.frame free) (sym c.in_ok-frame.ensures.items) (last_stands c.in_ok-frame.frame c.pop.new.self.items)

can : (c : goal.In-Ok) → can_map (memory_of (record { rows = c.self.inside.rows.items; cells = c.self.inside.frames.items; reads = c.self.inside.reads; writes = c.self.inside.writes })) c.args.page
    ≡ true
can c =
    let free = ap length c.in_ok-frame.ensures.items ∙ length-append c.pop.new.self.items (c.in_ok-frame.frame ∷ []) in
    can_map_in (record { rows = c.self.inside.rows.items; cells = c.self.inside.frames.items; reads = c.self.inside.reads; writes = c.self.inside.writes }) c.args.page c.in_ok-i.i (gap c)
    (omega (arith, c.self.invariant.framed.counted, free))

after : (c : goal.In-Ok) → record (record { rows = c.self.inside.rows.items; cells = c.self.inside.frames.items; reads = c.self.inside.reads; writes = c.self.inside.writes })
    { rows = c.insert.new.self.items; cells = set c.self.inside.frames.items c.in_ok-frame.frame c.clear.new.self } ≡ seated
    (record { rows = c.self.inside.rows.items; cells = c.self.inside.frames.items; reads = c.self.inside.reads; writes = c.self.inside.writes }) c.args.page c.in_ok-frame.frame
after c =
    let f : Framed = record { rows = c.self.inside.rows.items; cells = c.self.inside.frames.items; reads = c.self.inside.reads; writes = c.self.inside.writes } in
    let rows = c.in-Ok.ensures.items ∙ insert_in_gap c.args.page c.in_ok-frame.frame f.rows c.in_ok-i.i (gap c) in
    ap (λ (rows : List (ℕ × ℕ)). record f { rows = rows; cells = set f.cells c.in_ok-frame.frame c.clear.new.self }) rows
    ∙ ap (λ (cells : List Cell). record (seated f c.args.page c.in_ok-frame.frame) { cells = set f.cells c.in_ok-frame.frame cells }) c.clear.ensures

pub invariant_of-self-2 : goal.invariant_of-self-2
invariant_of-self-2 c =
    let f : Framed = record { rows = c.self.inside.rows.items; cells = c.self.inside.frames.items; reads = c.self.inside.reads; writes = c.self.inside.writes } in
    let kept = subst (IsFramed f) c.in_ok-frame.ensures.items c.self.invariant.framed in
    record {
      framed = subst (λ (f : Framed). IsFramed f c.pop.new.self.items) (sym (after c)) (kept_seated f c.pop.new.self.items c.args.page c.in_ok-frame.frame c.in_ok-i.i kept (gap c) c.requires);
      rows_fit = omega (arith, c.self.invariant.rows_fit, c.in-Ok.ensures.capacity);
      free_fit = omega (arith, c.self.invariant.free_fit, c.in_ok-frame.ensures.capacity);
    }

pub returns-clause-answer : goal.returns-clause-answer
returns-clause-answer c = sym (can c) ∙ ap (λ (f : Framed). can_map (memory_of f) c.args.page) c.self.view_is

pub returns-clause-free : goal.returns-clause-free
returns-clause-free c = subst (λ (f : Framed). IsFree f c.in_ok-frame.frame) c.self.view_is (free_is_free _ _ c.self.invariant.framed c.in_ok-frame.frame (stands c))

pub returns-clause-after : goal.returns-clause-after
returns-clause-after c = after c ∙ ap (λ (f : Framed). seated f c.args.page c.in_ok-frame.frame) c.self.view_is

pub returns-clause-memory : goal.returns-clause-memory
returns-clause-memory c =
    let f : Framed = record { rows = c.self.inside.rows.items; cells = c.self.inside.frames.items; reads = c.self.inside.reads; writes = c.self.inside.writes } in
    let free : List ℕ = c.self.inside.free.items in
    ap memory_of (after c)
    ∙ memory_of-seated f c.args.page c.in_ok-frame.frame (free_in_range f free c.self.invariant.framed c.in_ok-frame.frame (stands c))
    (free_has_no_row f free c.self.invariant.framed c.in_ok-frame.frame (stands c))
    ∙ map_done (memory_of f) c.args.page (can c)
    ∙ ap (λ (f : Framed). after_map (memory_of f) c.args.page) c.self.view_is
