use Rattle.std.proofs.{Common.{◌≡◌, length, sym, ◌∙◌, arith}, lemmas.List.{get_or_default, same_lists}}
use Rattle.mm_model.specs.Memory.{zero_cell}
use Rattle.mm_mem.proofs.block.Block.cells.Goals as goal

pub returns : goal.returns
returns c =
    let l = c.loop-index in
    let whole : length c.args.self.now ≡ 8 = l.invariant.whole (omega (arith, c.loop-index-test.false)) in
    same_lists l.cells c.args.self.now (l.invariant.long ∙ sym whole) (λ i d lt.
    get_or_default l.cells i d zero_cell lt
    ∙ l.invariant.copied i (omega (arith, lt, l.invariant.long, c.loop-index-test.false))
    ∙ get_or_default c.args.self.now i zero_cell d (omega (arith, lt, l.invariant.long, whole)))
