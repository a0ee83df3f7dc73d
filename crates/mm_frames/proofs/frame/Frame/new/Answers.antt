use Rattle.std.proofs.Common.{◌≡◌, List, replicate, rules, ap, ◌∙◌}
use Rattle.mm_word.specs.declared.word.Cell.{Cell}
use Rattle.mm_model.specs.Memory.{zero_cell}
use Rattle.mm_frames.{specs.Cells.cells_of, proofs.Cells.zero_frame}
use Rattle.mm_frames.proofs.frame.Frame.new.Goals as goal

all_zero : (c : goal.In_ok-blocks) → c.in_ok-blocks.blocks.items ≡ replicate 64 (replicate 8 zero_cell)
all_zero c =
    c.in_ok-blocks.ensures.items_if_clones_equal (λ y h. search rules)
    ∙ ap (λ (block : List Cell). replicate 64 block) c.zeros.ensures

pub returns : goal.returns
returns c = ap cells_of (all_zero c) ∙ zero_frame
