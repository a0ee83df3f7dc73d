use Rattle.std.proofs.Common.{◌<◌, ℕ, map, length, Some, refl, sym, ap, ◌∙◌, arith, slice_get}
use Rattle.std.{proofs.lemmas.Option.{slice_get-map, slice_get_read}, specs.Option.option_map}
use Rattle.mm_frames.specs.Framed.{Framed, memory_of, cells_in}
use Rattle.mm_frames.proofs.{Framed.{pages_are, pages_length}, Rows.numbers_paired}
use Rattle.mm_frames.proofs.frames.Frames.page_at.Goals as goal

within : (c : goal.After-self) → c.args.i < length c.self.inside.rows.items
within c =
    let long = ap (λ (f : Framed). length (memory_of f).pages) c.self.view_is in
    omega (arith, c.requires, long, pages_length (record { rows = c.self.inside.rows.items; cells = c.self.inside.frames.items; reads = c.self.inside.reads; writes = c.self.inside.writes }))

pub index-requires : goal.index-requires
index-requires c = omega (arith, within c, c.self.inside.rows.ok.0)

pub returns : goal.returns
returns c =
    let f : Framed = record { rows = c.self.inside.rows.items; cells = c.self.inside.frames.items; reads = c.self.inside.reads; writes = c.self.inside.writes } in
    sym (ap (λ (f : Framed). slice_get (map (λ e. e.0) (memory_of f).pages) c.args.i) c.self.view_is)
    ∙ ap (λ ns. slice_get ns c.args.i) (ap (map (λ e. e.0)) (pages_are f) ∙ numbers_paired (cells_in f) f.rows)
    ∙ slice_get-map (λ (e : ℕ × ℕ). e.0) f.rows c.args.i
    ∙ ap (option_map (λ (e : ℕ × ℕ). e.0)) (slice_get_read f.rows (length f.rows) c.args.i c.index.result.now refl
    (omega (arith, c.requires, pages_length f, ap (λ (f : Framed). length (memory_of f).pages) c.self.view_is)) c.index.ensures)
    ∙ sym (ap (λ (r : ℕ × ℕ). Some r.0) c.behind-self.view_is)
