use Rattle.std.proofs.Common.{◌-◌, length, take, drop, arith}
use Rattle.mm_text.proofs.Appending.{appends_more, appends_then, appends_same}
use Rattle.mm_audit_text.{specs.Parts.further, proofs.Presence.all_numbers}
use Rattle.mm_audit_text.proofs.lines.put_numbers.Goals as goal

pub loop-group-preserved : goal.loop-group-preserved
loop-group-preserved g c =
    appends_more further (take (length c.args.groups.now - 1) (drop 1 c.args.groups.now)) c.loop-group.group-index 0 c.loop-group-test.true c.loop-group.invariant c.put.ensures

pub returns : goal.returns
returns g c =
    appends_same (appends_then c.put_piece.ensures c.loop-group.invariant)
    (all_numbers c.args.groups.now c.loop-group.group-index c.in-len1-up.len_at_least (omega (arith, c.loop-group-test.false)))
