use Rattle.std.proofs.Common.{refl, sym, arith}
use Rattle.mm_cli.proofs.ItemLists.{is_comma, none_read, position_inside, read_more, rest_short}
use Rattle.mm_cli.proofs.GroupWords.{no_more, no_last, last_group}
use Rattle.mm_cli.proofs.groups.read_groups.Goals as goal

pub loop-at-init : goal.loop-at-init
loop-at-init c = record { short = omega arith; read = none_read c.new-groups.ensures }

pub push_group-requires : goal.push_group-requires
push_group-requires c = c.loop-at.invariant.read.items

pub loop-at-preserved : goal.loop-at-preserved
loop-at-preserved c =
    let (g, follows, written, more) = c.in_ok-push_group.ensures.some refl in
    record {
      short = rest_short c.args.text.now c.loop-at.rest.now c.in-Some.at _ c.loop-at.invariant.short;
      read = read_more c.loop-at.invariant.read (sym c.in-Some.ensures) refl follows written more refl;
    }

pub overflow_add-rest : goal.overflow_add-rest
overflow_add-rest c = let inside = position_inside is_comma c.loop-at.rest.now c.in-Some.at (sym c.in-Some.ensures) in omega arith

pub returns-in_err-push_group : goal.returns-in_err-push_group
returns-in_err-push_group c =
    rw c.from_residual.ensures
    (no_more c.args.text.now c.loop-at.rest.now _ c.loop-at.groups.items c.in-Some.at c.loop-at.invariant.read (sym c.in-Some.ensures) refl (c.in_err-push_group.ensures.none refl))

pub returns-in_err-push_group-2 : goal.returns-in_err-push_group-2
returns-in_err-push_group-2 c =
    rw c.from_residual-in_err-push_group-2.ensures
    (no_last c.args.text.now c.loop-at.rest.now c.loop-at.groups.items c.loop-at.invariant.read (sym c.in_default.ensures) (c.in_err-push_group-2.ensures.none refl))

pub returns : goal.returns
returns c =
    let (g, follows, written, more) = c.in_ok-push_group-2.ensures.some refl in
    last_group c.args.text.now c.loop-at.rest.now c.loop-at.groups.items c.push_group-2.new.groups.items g c.loop-at.invariant.read (sym c.in_default.ensures) follows written more
