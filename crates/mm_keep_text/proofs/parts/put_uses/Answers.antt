use Rattle.std.proofs.Common.{◌∙◌}
use Rattle.mm_keep_text.proofs.Sets.{then_ok}
use Rattle.mm_keep_text.proofs.parts.put_uses.Goals as goal

pub put_reads-requires : goal.put_reads-requires
put_reads-requires c = c.as_slice-list.ensures ∙ c.outcomes-all.ensures

pub put_writes-requires : goal.put_writes-requires
put_writes-requires c = c.as_slice-list.ensures ∙ c.outcomes-all.ensures

pub returns-clause-reads : goal.returns-clause-reads
returns-clause-reads c = then_ok c.put_writes.result (λ wrote. c.in_ok-put_reads.ensures) c.put_writes.ensures
