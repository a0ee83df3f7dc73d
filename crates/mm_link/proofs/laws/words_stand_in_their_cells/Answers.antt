use Rattle.mm_link.proofs.Worded.{words_stand_in_their_cells, other_cells_are_zero}
use Rattle.mm_link.proofs.laws.words_stand_in_their_cells.Goals as goal

pub returns-clause-words : goal.returns-clause-words
returns-clause-words c = words_stand_in_their_cells

pub returns-clause-others : goal.returns-clause-others
returns-clause-others c = other_cells_are_zero
