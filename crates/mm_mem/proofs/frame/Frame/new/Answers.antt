use Rattle.std.proofs.Common.{rules, ap, List}
use Rattle.mm_word.specs.declared.word.Cell.{Cell}
use Rattle.mm_mem.proofs.frame.Frame.new.Goals as goal

pub returns : goal.returns
returns c = ap (λ (cells : List Cell). (0, cells)) (c.in_ok-cells.ensures.items_if_clones_equal (λ y h. search rules))
