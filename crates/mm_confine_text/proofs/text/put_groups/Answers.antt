use Rattle.std.proofs.Common.{rules, ◌++◌, [], subst}
use Rattle.std.proofs.lemmas.List.{take_all}
use Rattle.mm_text.proofs.Appending.{appends_then}
use Rattle.mm_confine_text.specs.{Found.numbers_of, Told.{GroupTexts, GroupTexts.no_group}}
use Rattle.mm_confine_text.proofs.Texts.{one_more, own_slots}
use Rattle.mm_confine_text.proofs.text.put_groups.Goals as goal

pub loop-group-init : goal.loop-group-init
loop-group-init g c = ([], search rules, λ i kept parties are own. no_group)

pub loop-group-preserved : goal.loop-group-preserved
loop-group-preserved g c =
    let (whole, wrote, texts) = c.loop-group.invariant in
    let (own, then, is) = c.put_group.ensures in
    let groups = c.args.groups.now in
    let n = c.loop-group.group-index in
    let one = c.group-item.result in (
      whole ++ own,
      appends_then wrote then,
      λ i kept parties are all.
          one_more i kept groups n one whole own c.loop-group-test.true c.group-item.is (texts i kept parties are all)
          (is i kept parties are (own_slots i kept groups n one c.loop-group-test.true c.group-item.is all)),
    )

pub returns : goal.returns
returns g c =
    let (whole, wrote, texts) = c.loop-group.invariant in (
      whole,
      wrote,
      λ i kept parties are all. subst (λ gs. GroupTexts i kept (numbers_of gs) whole) (take_all c.loop-group.group-index c.args.groups.now c.loop-group-test.false) (texts i kept parties are all),
    )
