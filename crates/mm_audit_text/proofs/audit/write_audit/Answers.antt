use Rattle.mm_text.proofs.Appending.{buffered_writes}
use Rattle.mm_audit_text.proofs.audit.write_audit.Goals as goal

pub returns : goal.returns
returns g c =
    let (whole, wrote, is) = c.put_groups.ensures in
    (whole, buffered_writes c.new-text.ensures wrote c.finish.ensures, is)
