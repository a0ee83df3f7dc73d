use Rattle.std.proofs.Common.{[], ◌≡◌}
use Rattle.std.{proofs.lemmas.Map.Iter.{rest_all, rest_more}, specs.{List.filter, Map.Iter.deref}}
use Rattle.mm_hold.proofs.Passes.{users_more, users_all, of_word}
use Rattle.mm_hold.proofs.passing.users.Goals as goal

pub loop-used-preserved : goal.loop-used-preserved
loop-used-preserved c =
    let i = c.args.kernel.now.image in
    let kept = c.args.kernel.now.kept in
    let keys = c.args.keys.now in
    let m = c.args.marks.now in
    let l = c.loop-used in
    let is = rest_more deref l.used-iterator c.next.new.self c.next.result c.in-Some.used c.in-Some.is c.next.ensures.steps in
    users_more i kept keys m (filter (of_word i kept keys m c.args.word) c.args.uses.now.keys) l.used-iterator c.next.new.self c.in-Some.used.now l.parties c.running.result c.and-parties.result is
    l.invariant c.running.ensures c.and-parties.ensures

pub returns : goal.returns
returns c =
    let l = c.loop-used in
    let none : l.used-iterator ≡ [] = rest_all deref l.used-iterator c.next.new.self c.next.result c.in-None.is c.next.ensures.steps in
    users_all c.args.kernel.now.image c.args.kernel.now.kept c.args.keys.now c.args.marks.now c.args.uses.now.keys l.used-iterator c.args.word l.parties none l.invariant
