use Rattle.std.proofs.{Common.{◌+◌, List, [], sym, ap, subst, ◌∙◌, arith}, lemmas.List.get_or_default}
use Rattle.mm_word.specs.declared.word.Cell.{Cell}
use Rattle.mm_frames.{specs.Framed.{Framed, IsOccupied, cells_in}, proofs.{Framed.occupied_in_range, Kept.kept_read}}
use Rattle.mm_mem.specs.Blocks.{block_in}
use Rattle.mm_frames.proofs.frames.Frames.read_packed.Goals as goal

pub index-requires : goal.index-requires
index-requires c =
    let here = subst (λ (f : Framed). IsOccupied f c.args.frame) (sym c.self.view_is) c.requires.occupied in
    omega (arith, occupied_in_range _ _ c.self.invariant.framed c.args.frame here, c.self.inside.frames.ok.0)

pub invariant_of-self : goal.invariant_of-self
invariant_of-self c = record {
  framed = kept_read _ _ (c.self.inside.reads + 1) c.self.invariant.framed;
  rows_fit = c.self.invariant.rows_fit;
  free_fit = c.self.invariant.free_fit;
}

pub returns-clause-cells : goal.returns-clause-cells
returns-clause-cells c =
    let within = occupied_in_range _ _ c.self.invariant.framed c.args.frame (subst (λ (f : Framed). IsOccupied f c.args.frame) (sym c.self.view_is) c.requires.occupied) in
    let cells = c.index.ensures ∙ get_or_default c.self.inside.frames.items c.args.frame c.index.result.now [] within in
    c.block.ensures.block ∙ ap (λ (cells : List Cell). block_in cells c.args.block) cells ∙ ap (λ (f : Framed). block_in (cells_in f c.args.frame) c.args.block) c.self.view_is
