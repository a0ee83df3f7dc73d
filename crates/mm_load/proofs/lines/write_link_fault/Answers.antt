use Rattle.mm_text.proofs.Appending.{appends_then, buffered_writes}
use Rattle.mm_load.proofs.lines.write_link_fault.Goals as goal

pub returns : goal.returns
returns g c =
    rw (← c.number.ensures)
    (buffered_writes c.new-text.ensures (appends_then (appends_then c.put.ensures c.put_named.ensures) c.put_bytes.ensures) c.finish.ensures)
