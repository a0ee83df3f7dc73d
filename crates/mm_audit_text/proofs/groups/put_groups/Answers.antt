use Rattle.std.{proofs.Common.{rules, ◌++◌, [], subst, sym, arith, take}, specs.List.{filter, range_with_len}}
use Rattle.mm_model.specs.Groups.{has_group}
use Rattle.mm_text.proofs.Appending.{appends_then}
use Rattle.mm_audit_text.specs.Parts.{IsPart, if_present}
use Rattle.mm_audit_text.proofs.Presence.{nothing_yet, then_part, one_more, all_present}
use Rattle.mm_audit_text.proofs.groups.put_groups.Goals as goal

pub loop-group-init : goal.loop-group-init
loop-group-init g c = ([], search rules, λ surveys. nothing_yet c.args.img.now c.args.apart)

pub loop-group-preserved : goal.loop-group-preserved
loop-group-preserved g c =
    let i = c.args.img.now in
    let n = c.loop-group.group in
    let (whole, wrote, is) = c.loop-group.invariant in
    let (part, then, more) = c.put_present.ensures in (
      whole ++ part,
      appends_then wrote then,
      λ surveys.
          subst (λ gs. IsPart i c.args.apart gs (whole ++ part)) (sym (one_more (has_group i.slots) n (omega arith)))
          (then_part i c.args.apart (filter (has_group i.slots) (take n (range_with_len 0 64))) (if_present (has_group i.slots n) n) whole part (is surveys) (more surveys)),
    )

pub returns : goal.returns
returns g c =
    let i = c.args.img.now in
    let (whole, wrote, is) = c.loop-group.invariant in
    (whole, wrote, λ surveys. subst (λ gs. IsPart i c.args.apart gs whole) (all_present i c.loop-group.group (omega arith)) (is surveys))
