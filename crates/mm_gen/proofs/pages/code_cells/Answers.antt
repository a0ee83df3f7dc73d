use Rattle.std.proofs.{Common.{◌++◌, List, map, replicate, ap, ◌∙◌, arith}, lemmas.List.take_all}
use Rattle.mm_word.specs.declared.word.Cell.{Cell}
use Rattle.mm_isa.specs.{Table.spelling, declared.instr.Instr.Instr}
use Rattle.mm_model.specs.Memory.{zero_cell}
use Rattle.mm_gen.specs.Generated.{full_cell, loop, code_cells}
use Rattle.mm_gen.proofs.pages.code_cells.Goals as goal

pub returns : goal.returns
unfolding code_cells
returns c =
    c.in_ok-push_zeros.ensures
    ∙ ap (λ (cells : List Cell). cells ++ replicate 507 zero_cell)
    (c.loop-instruction.invariant ∙ ap (map (λ (i : Instr). full_cell (spelling i))) (take_all c.loop-instruction.instruction-index loop (omega arith)))
