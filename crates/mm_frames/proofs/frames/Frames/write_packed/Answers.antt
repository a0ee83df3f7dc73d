use Rattle.std.proofs.{Common.{◌≡◌, ℕ, ◌+◌, ◌*◌, List, [], sym, ap, subst, ◌∙◌, arith, set}, lemmas.List.get_or_default}
use Rattle.mm_word.specs.declared.word.Cell.{Cell}
use Rattle.mm_frames.specs.Framed.{Framed, IsFramed, IsOccupied, frame_of, memory_of, written}
use Rattle.mm_frames.proofs.Framed.{occupied_in_range, rows_rise, frame_in_range, one_page, memory_of-written}
use Rattle.mm_frames.proofs.Kept.{kept_written}
use Rattle.mm_mem.specs.Blocks.{with_block, put_block}
use Rattle.mm_frames.proofs.frames.Frames.write_packed.Goals as goal

pub index_mut-requires : goal.index_mut-requires
index_mut-requires c =
    let here = subst (λ (f : Framed). IsOccupied f c.args.frame) (sym c.self.view_is) c.requires.occupied in
    omega (arith, occupied_in_range _ _ c.self.invariant.framed c.args.frame here, c.self.inside.frames.ok.0)

-- the frame after the write
after : (c : goal.After-self-2-1) → record (record { rows = c.self.inside.rows.items; cells = c.self.inside.frames.items; reads = c.self.inside.reads; writes = c.self.inside.writes })
    { cells = set c.self.inside.frames.items c.args.frame c.put.new.self; writes = c.self.inside.writes + 1 } ≡ written
    (record { rows = c.self.inside.rows.items; cells = c.self.inside.frames.items; reads = c.self.inside.reads; writes = c.self.inside.writes }) c.args.frame c.args.block c.args.cells.now
after c =
    let f : Framed = record { rows = c.self.inside.rows.items; cells = c.self.inside.frames.items; reads = c.self.inside.reads; writes = c.self.inside.writes } in
    let within = occupied_in_range _ _ c.self.invariant.framed c.args.frame (subst (λ (f : Framed). IsOccupied f c.args.frame) (sym c.self.view_is) c.requires.occupied) in
    let old = c.index_mut.ensures.value ∙ get_or_default f.cells c.args.frame c.index_mut.result.now [] within in
    ap (λ (cells : List Cell). record f { cells = set f.cells c.args.frame cells; writes = f.writes + 1 })
    (c.put.ensures.cells ∙ ap (λ (cells : List Cell). with_block cells c.args.block c.args.cells.now) old)

pub invariant_of-self : goal.invariant_of-self
invariant_of-self c =
    let f : Framed = record { rows = c.self.inside.rows.items; cells = c.self.inside.frames.items; reads = c.self.inside.reads; writes = c.self.inside.writes } in
    let here = subst (λ (f : Framed). IsOccupied f c.args.frame) (sym c.self.view_is) c.requires.occupied in
    record {
      framed = subst (λ (f : Framed). IsFramed f c.self.inside.free.items) (sym (after c))
          (kept_written f c.self.inside.free.items c.args.frame c.args.block c.args.cells.now c.self.invariant.framed here c.requires.in_page c.requires.whole);
      rows_fit = c.self.invariant.rows_fit;
      free_fit = c.self.invariant.free_fit;
    }

pub returns-clause-memory : goal.returns-clause-memory
returns-clause-memory c = λ page found.
    let f : Framed = record { rows = c.self.inside.rows.items; cells = c.self.inside.frames.items; reads = c.self.inside.reads; writes = c.self.inside.writes } in
    let free : List ℕ = c.self.inside.free.items in
    let here = ap (λ (f : Framed). frame_of f page) c.self.view_is ∙ found in
    let kept = c.self.invariant.framed in
    ap memory_of (after c)
    ∙ memory_of-written f page c.args.frame c.args.block c.args.cells.now (rows_rise f free kept) here (frame_in_range f free kept page c.args.frame here)
    (one_page f free kept c.args.frame) c.requires.in_page
    ∙ ap (λ (f : Framed). put_block (memory_of f) (page * 64 + c.args.block) c.args.cells.now) c.self.view_is
