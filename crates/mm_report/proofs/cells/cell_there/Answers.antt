use Rattle.std.{proofs.Common.{◌∙◌, ap, Option}, specs.Option.unwrap_or}
use Rattle.mm_word.specs.declared.word.Cell.{Cell}
use Rattle.mm_model.specs.Memory.{zero_cell}
use Rattle.mm_mem.proofs.PagePlaces.{cell_there}
use Rattle.mm_report.proofs.cells.cell_there.Goals as goal

pub returns : goal.returns
returns g c =
    c.unwrap_or.ensures
    ∙ ap (λ (o : Option Cell). unwrap_or o zero_cell)
    (c.peek.ensures ∙ cell_there (g.M.Memory.meaning c.args.mem.now) c.args.number c.args.index c.requires.paged c.requires.mapped c.requires.index)
