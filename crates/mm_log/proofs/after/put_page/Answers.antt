use Rattle.mm_text.proofs.Appending.{appends_then, appends_same}
use Rattle.mm_log.proofs.Told.{page_text}
use Rattle.mm_log.proofs.after.put_page.Goals as goal

pub returns : goal.returns
returns g c = appends_same (appends_then c.put_mapped.ensures c.put_removed.ensures) (page_text c.args.page c.args.was c.args.now)
