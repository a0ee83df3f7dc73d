use Rattle.mm_cli.proofs.GroupWords.{is_last}
use Rattle.mm_cli.proofs.groups.is_above.Goals as goal

pub returns-in-Some : goal.returns-in-Some
returns-in-Some c = is_last c.args.groups.now c.args.group c.in-Some.last.now c.requires c.in-Some.ensures.value
