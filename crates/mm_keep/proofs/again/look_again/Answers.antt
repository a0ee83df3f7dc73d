use Rattle.std.proofs.Common.{◌∙◌, subst}
use Rattle.std.specs.List.{flat_map}
use Rattle.mm_keep.specs.Searching.{Derives, follows_from}
use Rattle.mm_keep.proofs.{Loops.get_in, Rounds.{derives_none, derives_all, outcome_more, looked_again}}
use Rattle.mm_keep.proofs.again.look_again.Goals as goal

pub loop-outcome-init : goal.loop-outcome-init
loop-outcome-init c =
    derives_none c.args.kernel.now.image c.args.kernel.now.kept c.args.tables.now

pub loop-outcome-preserved : goal.loop-outcome-preserved
loop-outcome-preserved c =
    let l = c.loop-outcome in
    let a = c.args.tables.now in
    let t = c.thread-t.result in
    outcome_more c.args.kernel.now.image c.args.kernel.now.kept t c.as_slice-outcome-items.result.now l.outcome-index c.outcome-item.result a l.tables c.follow_again.new.tables
    (get_in a.threads c.args.at t c.thread-t.ensures) (c.as_slice-outcome-items.ensures ∙ c.outcomes-all.ensures)
    c.loop-outcome-test.true c.outcome-item.is l.invariant c.in_ok-follow_again.ensures

pub returns : goal.returns
returns c =
    let l = c.loop-outcome in
    let a = c.args.tables.now in
    let t = c.thread-t.result in
    let all = derives_all c.args.kernel.now.image c.args.kernel.now.kept (follows_from c.args.kernel.now.image c.args.kernel.now.kept a t) c.as_slice-outcome-items.result.now l.outcome-index a l.tables c.loop-outcome-test.false l.invariant in
    looked_again c.args.kernel.now.image c.args.kernel.now.kept t c.args.at a l.tables c.thread-t.ensures
    (subst (λ os. Derives c.args.kernel.now.image c.args.kernel.now.kept (flat_map (follows_from c.args.kernel.now.image c.args.kernel.now.kept a t) os) a l.tables) (c.as_slice-outcome-items.ensures ∙ c.outcomes-all.ensures) all)
