use Rattle.std.proofs.Common.{ap, sym, subst, ◌∙◌, replicate}
use Rattle.mm_model.specs.Memory.{zero_cell}
use Rattle.mm_config.{specs.Naming.AreCells, proofs.Noted.zero_cells}
use Rattle.mm_config.proofs.pages.name_page.Goals as goal

pub returns-then-are_zeros-clause-tree : goal.returns-then-are_zeros-clause-tree
returns-then-are_zeros-clause-tree c =
    subst (AreCells c.args.store.now 9 0) (sym (c.are_zeros.ensures c.if-are_zeros.true ∙ ap (λ n. replicate n zero_cell) c.requires)) (zero_cells c.args.store.now)
