use Rattle.mm_keep_text.proofs.{Sets.then_ok, Uses.reads_all}
use Rattle.mm_keep_text.proofs.parts.put_reads.Goals as goal

pub returns : goal.returns
returns c =
    let o = c.origin_numbers-origin.result in
    then_ok c.put_loads.result
    (reads_all c.args.kernel.now.image c.args.kernel.now.kept c.args.t.now c.args.all.now c.requires o c.origin_numbers-origin.ensures.is
    c.origin_numbers-origin.ensures.again c.args.uses.now.keys c.put_fetch.new.uses.keys c.put_loads.new.uses.keys c.in_ok-put_fetch.ensures)
    c.put_loads.ensures
