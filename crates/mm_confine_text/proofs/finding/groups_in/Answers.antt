use Rattle.std.{proofs.Common.{[], sym, subst, arith, take}, specs.List.{filter, range_with_len}}
use Rattle.mm_model.specs.Groups.{has_group}
use Rattle.mm_audit_text.proofs.Presence.{one_more, all_present}
use Rattle.mm_confine_text.specs.Found.{AreGroups, if_present}
use Rattle.mm_confine_text.proofs.Listing.{none_put, more_put}
use Rattle.mm_confine_text.proofs.finding.groups_in.Goals as goal

pub loop-number-init : goal.loop-number-init
loop-number-init c = subst (AreGroups _ _ []) (sym c.new-groups.ensures.items) (none_put _ _)

pub loop-number-preserved : goal.loop-number-preserved
loop-number-preserved c =
    let i = c.args.kernel.now.image in
    let kept = c.args.kernel.now.kept in
    let n = c.loop-number.number in
    subst (λ gs. AreGroups i kept gs c.put_group.new.groups.items) (sym (one_more (has_group i.slots) n (omega arith)))
    (more_put i kept (filter (has_group i.slots) (take n (range_with_len 0 64))) (if_present (has_group i.slots n) n) c.loop-number.groups.items c.put_group.new.groups.items c.loop-number.invariant c.in_ok-put_group.ensures)

pub returns : goal.returns
returns c =
    let i = c.args.kernel.now.image in
    subst (λ gs. AreGroups i c.args.kernel.now.kept gs c.loop-number.groups.items) (all_present i c.loop-number.number (omega arith)) c.loop-number.invariant
