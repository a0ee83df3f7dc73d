use Rattle.std.proofs.Common.{◌≤◌, length}
use Rattle.mm_cli.proofs.GroupWords.{GroupsRead}
use Rattle.mm_cli.proofs.groups.read_groups.Given as goal

-- the groups before the commas were read
abbrev pub invariant-loop-at : goal.invariant-loop-at
invariant-loop-at l = record { short : length l.rest ≤ length l.text; read : GroupsRead l.text l.rest l.groups.items }

abbrev pub decreases-loop-at : goal.decreases-loop-at
decreases-loop-at l = length l.rest
