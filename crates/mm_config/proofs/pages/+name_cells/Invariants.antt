use Rattle.mm_config.proofs.pages.+name_cells.Given as goal

abbrev pub decreases-name_cells : goal.decreases-name_cells
decreases-name_cells l = l.depth
