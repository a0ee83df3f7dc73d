use Rattle.mm_cache.proofs.{ReadCells.reads_are_over, WriteCells.writes_are_over}
use Rattle.mm_cache.proofs.laws.cells_are_over.Goals as goal

pub returns-clause-reads : goal.returns-clause-reads
returns-clause-reads c = reads_are_over

pub returns-clause-writes : goal.returns-clause-writes
returns-clause-writes c = writes_are_over
