use Rattle.mm_why.proofs.Growing.{adds}
use Rattle.mm_why.proofs.lines.add.Goals as goal

pub returns : goal.returns
returns c = adds c.args.lines.now.items c.args.line c.push.new.lines.items c.in_ok-place.place c.in_ok-place.ensures.items c.in_ok-place.ensures.place c.requires
