use Rattle.mm_keep_text.proofs.{Sets.then_ok, Uses.writes_all}
use Rattle.mm_keep_text.proofs.parts.put_writes.Goals as goal

pub returns : goal.returns
returns c =
    let o = c.origin_numbers-origin.result in
    then_ok c.put_stores.result
    (writes_all c.args.kernel.now.image c.args.kernel.now.kept c.args.t.now c.args.all.now c.requires o c.origin_numbers-origin.ensures.is
    c.origin_numbers-origin.ensures.again c.args.uses.now.keys c.put_settings.new.uses.keys c.put_stores.new.uses.keys c.in_ok-put_settings.ensures)
    c.put_stores.ensures
