use Rattle.std.proofs.Common.{subst}
use Rattle.mm_model.specs.Memory.{zero_cell}
use Rattle.mm_pairs.{specs.Named.HaveOneName, proofs.Inserts.{have_one_name, same_pair}}
use Rattle.mm_config.{specs.Forms.{cell_from, IsCellForm}, proofs.CellForms.{one_form, not_zero}}
use Rattle.mm_config.proofs.cells.Cells.apart.Goals as goal

pub returns : goal.returns
returns c =
    subst (HaveOneName zero_cell) c.self.view_is
    (have_one_name same_pair cell_from zero_cell IsCellForm one_form not_zero c.self.inside.cells.keys c.self.invariant c.len-count.ensures.unique)
