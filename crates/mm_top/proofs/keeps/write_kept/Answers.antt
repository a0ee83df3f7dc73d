use Rattle.mm_top.proofs.Reported.{ends_written}
use Rattle.mm_top.proofs.keeps.write_kept.Goals as goal

pub returns : goal.returns
returns g c =
    let (text, wrote, tells) = c.write_keeps.ensures in
    ends_written _ _ _ text (tells c.args.image.now c.args.kept.now c.args.threads c.in_ok-found.ensures.is) _ _ c.ended.ensures wrote
