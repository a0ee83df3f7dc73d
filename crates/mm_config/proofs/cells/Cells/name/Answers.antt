use Rattle.std.proofs.Common.{◌+◌, sym, ap, subst}
use Rattle.mm_model.specs.Memory.{zero_cell}
use Rattle.mm_pairs.{specs.Named.IsNameOf, proofs.Inserts.{is_named, same_pair, is_same}}
use Rattle.mm_config.specs.Forms.{cell_from, IsCellForm}
use Rattle.mm_config.proofs.cells.Cells.name.Goals as goal

pub returns-clause-name : goal.returns-clause-name
returns-clause-name c =
    let form = c.form_of-bits.result in
    let now = c.insert_full.new.self.keys in
    subst (IsNameOf zero_cell _ (c.in_ok-at.at + 1)) c.form_of-bits.ensures.again
    (is_named same_pair cell_from zero_cell IsCellForm c.self.inside.cells.keys now form c.in_ok-at.ensures.keys
    (λ l e. ap cell_from (sym (is_same form l e))) c.in_ok-at.at c.in_ok-at.ensures.stored)
