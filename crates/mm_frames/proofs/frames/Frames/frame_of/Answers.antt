use Rattle.std.proofs.Common.{ℕ, List, IsTrue, Some, IfOk, IfErr, sym, ap, subst, ◌∙◌}
use Rattle.std.specs.{Ordering.nat_cmp, FinMap.is_sorted}
use Rattle.mm_mem.specs.Places.{IsAt, IsGap}
use Rattle.mm_frames.{specs.Framed.{Framed, frame_of}, proofs.{Framed.rows_rise, Kept.{frame_at, gap_from, place_from}}}
use Rattle.mm_frames.proofs.frames.Frames.frame_of.Goals as goal

pub search-requires : goal.search-requires
search-requires c = subst (λ (rows : List (ℕ × ℕ)). IsTrue (is_sorted nat_cmp rows)) (sym c.deref.ensures.value) (rows_rise _ _ c.self.invariant.framed)

-- the page is in no row
pub returns-in_err-i : goal.returns-in_err-i
returns-in_err-i c =
    let rows = c.self.inside.rows.items in
    let gap = subst (λ (rows : List (ℕ × ℕ)). IfErr c.search.result (IsGap c.args.page rows)) c.deref.ensures.value c.search.ensures.absent in
    c.from_residual.ensures ∙ sym (gap_from c.args.page rows c.search.result c.in_err-i.ensures.value gap) ∙ ap (λ (f : Framed). frame_of f c.args.page) c.self.view_is

-- it is in this row
pub returns : goal.returns
returns c =
    let rows = c.self.inside.rows.items in
    let found = subst (λ (rows : List (ℕ × ℕ)). IfOk c.search.result (IsAt c.args.page rows)) c.deref.ensures.value c.search.ensures.found in
    let at = place_from c.args.page rows c.search.result c.in_ok-i.i c.in_ok-i.ensures.value found in
    let row = c.index.result.now in
    ap (λ (r : ℕ × ℕ). Some r.1) c.behind-self.view_is
    ∙ sym (frame_at (record { rows = c.self.inside.rows.items; cells = c.self.inside.frames.items; reads = c.self.inside.reads; writes = c.self.inside.writes }) c.args.page c.in_ok-i.i row
    (rows_rise _ _ c.self.invariant.framed) at c.index.ensures)
    ∙ ap (λ (f : Framed). frame_of f c.args.page) c.self.view_is
