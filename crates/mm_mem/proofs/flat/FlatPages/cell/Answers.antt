use Rattle.std.proofs.Common.{sym, ap, subst, ◌∙◌, slice_get}
use Rattle.mm_model.specs.Memory.{Memory, page_of, cell_at}
use Rattle.mm_mem.{specs.Places.IsAt, proofs.Flats.{flat, cell_here}}
use Rattle.mm_mem.proofs.flat.FlatPages.cell.Goals as goal

pub returns : goal.returns
returns c =
    let m = flat c.self.inside.pages.items c.self.inside.frames in
    let here = subst (λ (n : Memory). IsAt (page_of c.args.word) n.pages c.args.i) (sym c.self.view_is) c.requires.here in
    let read = sym (ap (slice_get c.index.result.now.1) c.place_of.ensures.place) ∙ c.cell.ensures in
    sym (ap (λ n. cell_at n c.args.word) c.self.view_is)
    ∙ cell_here m c.args.word c.args.i c.index.result.now c.cell.result c.self.invariant.paged here c.index.ensures c.requires.aligned read
