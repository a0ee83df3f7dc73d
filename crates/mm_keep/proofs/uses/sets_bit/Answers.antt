use Rattle.std.proofs.Common.{◌≡◌, ◌↔◌, true, Some, None, sym, subst}
use Rattle.mm_model.specs.{Memory.cell_at, Turn.instr_in}
use Rattle.mm_kernel.specs.Uses.{SetsBit}
use Rattle.mm_keep.proofs.Fetching.{none_sets, no_page_sets, no_instr_sets, instr_sets}
use Rattle.mm_keep.proofs.uses.sets_bit.Goals as goal

pub returns-in-None : goal.returns-in-None
returns-in-None c = none_sets c.args.kernel.now.image c.args.t.now c.in-None.ensures.exact

pub returns-in-None-cell : goal.returns-in-None-cell
returns-in-None-cell c =
    let i = c.args.kernel.now.image in
    let none : cell_at i.memory c.in-Some.word ≡ None = cc c.in-None-cell.ensures in
    no_page_sets i c.args.t.now c.in-Some.word c.in-Some.ensures.exact none

pub returns-in-None-instruction : goal.returns-in-None-instruction
returns-in-None-instruction c =
    let i = c.args.kernel.now.image in
    let cell = c.in-Some-cell.cell in
    let at : cell_at i.memory c.in-Some.word ≡ Some cell = cc c.in-Some-cell.ensures in
    let none : instr_in cell.word ≡ None = cc c.in-None-instruction.ensures in
    no_instr_sets i c.args.t.now c.in-Some.word c.in-Some.ensures.exact cell at none

pub returns-in-Some-instruction : goal.returns-in-Some-instruction
returns-in-Some-instruction c =
    let i = c.args.kernel.now.image in
    let cell = c.in-Some-cell.cell in
    let instr = c.in-Some-instruction.instr in
    let at : cell_at i.memory c.in-Some.word ≡ Some cell = cc c.in-Some-cell.ensures in
    let is : instr_in cell.word ≡ Some instr = cc c.in-Some-instruction.ensures in
    subst (λ b. (b ≡ true) ↔ SetsBit i c.args.t.now) (sym c.is_setting.ensures)
    (instr_sets i c.args.t.now c.in-Some.word c.in-Some.ensures.exact cell at instr is)
