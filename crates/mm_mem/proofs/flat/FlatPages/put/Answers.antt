use Rattle.std.proofs.Common.{sym, ap, subst, ◌∙◌, ℕ, set, slice_set, ◌≡◌}
use Rattle.mm_model.{specs.Memory.{Memory, page_of, put_cell}, proofs.Memories.put_paged}
use Rattle.mm_mem.{specs.Places.IsAt, proofs.Flats.{flat, put_here, same_paged}}
use Rattle.mm_mem.proofs.flat.FlatPages.put.Goals as goal

made : (c : goal.After-self-1) → flat (set c.self.inside.pages.items c.args.i c.put.new.self) c.self.inside.frames ≡ put_cell
    (flat c.self.inside.pages.items c.self.inside.frames) c.args.word c.args.cell
made c =
    let m = flat c.self.inside.pages.items c.self.inside.frames in
    let e = c.index_mut-frame.result.now in
    let here = subst (λ (n : Memory). IsAt (page_of c.args.word) n.pages c.args.i) (sym c.self.view_is) c.requires in
    let written = c.put.ensures ∙ ap (λ (k : ℕ). (e.0, slice_set e.1 k c.args.cell)) c.place_of.ensures.place in
    put_here m c.args.word c.args.i e c.put.new.self c.args.cell c.self.invariant.paged here c.index_mut-frame.ensures.value written

pub invariant_of-self : goal.invariant_of-self
invariant_of-self c = record {
  paged = same_paged (put_cell (flat c.self.inside.pages.items c.self.inside.frames) c.args.word c.args.cell) _ (made c) (put_paged _ c.args.word c.args.cell c.self.invariant.paged);
  small = c.self.invariant.small;
  counted = c.self.invariant.counted;
  pages_fit = c.self.invariant.pages_fit;
  free_fit = c.self.invariant.free_fit;
}

pub returns : goal.returns
returns c = made c ∙ ap (λ m. put_cell m c.args.word c.args.cell) c.self.view_is
