use Rattle.std.proofs.Common.{[]}
use Rattle.std.proofs.{lemmas.Map.Iter.{rest_more, rest_all}}
use Rattle.std.specs.Map.Iter.{deref_pair}
use Rattle.mm_explore.specs.{Finds.outcome_found, Noting.IsKeptEnd, Outcomes.count_of}
use Rattle.mm_explore.proofs.LeftOver.{left_next, left_more, left_none}
use Rattle.mm_explore.proofs.outcomes.list_outcomes.Goals as goal

pub outcome-requires-clause-end : goal.outcome-requires-clause-end
outcome-requires-clause-end c =
    let i = c.args.img.now in
    let list = c.args.found.now in
    let all = c.requires.ends.0 in
    let some = c.requires.ends.1 in
    let tally = c.in-Some.tally.now in
    let now = rest_more deref_pair c.loop-tally.tally-iterator c.next.new.self c.next.result (c.in-Some.field-0-0, c.in-Some.tally) c.in-Some.is c.next.ensures.steps in
    let next = left_next (λ e entry. IsKeptEnd i list all e entry.0.items entry.1) (λ e. outcome_found i (count_of all e.outcome) e.outcome e.schedule) some
    [] c.loop-tally.outcomes.items
    c.loop-tally.tally-iterator c.next.new.self (c.in-Some.field-0-0.now, tally) now (c.loop-tally.invariant.left all some c.requires.ends.2) in
    (all, next.a, c.in-Some.field-0-0.now.items, next.stands)

pub loop-tally-preserved : goal.loop-tally-preserved
loop-tally-preserved c = record {
  kept = c.in_ok-outcome.ensures.kept;
  left = λ all some zip.
      let i = c.args.img.now in
      let list = c.args.found.now in
      let tally = c.in-Some.tally.now in
      let now = rest_more deref_pair c.loop-tally.tally-iterator c.next.new.self c.next.result (c.in-Some.field-0-0, c.in-Some.tally) c.in-Some.is c.next.ensures.steps in
      left_more (λ e entry. IsKeptEnd i list all e entry.0.items entry.1) (λ e. outcome_found i (count_of all e.outcome) e.outcome e.schedule) some
      [] c.loop-tally.outcomes.items c.push.new.self.items
      c.in_ok-outcome.outcome (c.in-Some.field-0-0.now, tally) c.loop-tally.tally-iterator c.next.new.self now c.in_ok-push.ensures.items
      (λ e k. c.in_ok-outcome.ensures.outcome all e c.in-Some.field-0-0.now.items k)
      (c.loop-tally.invariant.left all some zip);
}

pub returns : goal.returns
returns c = λ all some zip.
    let i = c.args.img.now in
    let list = c.args.found.now in
    let none = rest_all deref_pair c.loop-tally.tally-iterator c.next.new.self c.next.result c.in-None.is c.next.ensures.steps in
    left_none (λ e entry. IsKeptEnd i list all e entry.0.items entry.1) (λ e. outcome_found i (count_of all e.outcome) e.outcome e.schedule) some [] c.loop-tally.outcomes.items
    c.loop-tally.tally-iterator none (c.loop-tally.invariant.left all some zip)
