use Rattle.mm_mem.proofs.Kept.{one_bit, one_cell, accesses_keep_pages}
use Rattle.mm_mem.proofs.laws.accesses_change_one_cell.Goals as goal

pub returns : goal.returns
returns c = record { load = one_bit; store = one_cell; pages = accesses_keep_pages }
