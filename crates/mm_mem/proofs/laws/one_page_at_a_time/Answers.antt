use Rattle.mm_mem.proofs.Kept.{one_page_mapped, one_page_removed}
use Rattle.mm_mem.proofs.laws.one_page_at_a_time.Goals as goal

pub returns : goal.returns
returns c = record { map = one_page_mapped; unmap = one_page_removed }
