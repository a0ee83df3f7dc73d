use Rattle.std.proofs.Common.{[], ◌≡◌, ◌<◌, ◌^◌, ℕ, subst}
use Rattle.std.{proofs.lemmas.Map.Iter.{rest_all, rest_more}, specs.{List.AllByRecursion, Map.Iter.deref}}
use Rattle.mm_hold.proofs.Passes.{among_more, among_all}
use Rattle.mm_hold.proofs.passing.share_inside.Goals as goal

pub users-to-requires-clause-small : goal.users-to-requires-clause-small
users-to-requires-clause-small c =
    let l = c.loop-stored in
    let is = rest_more deref l.stored-iterator c.next.new.self c.next.result c.in-Some.stored c.in-Some.is c.next.ensures.steps in
    (subst (AllByRecursion (λ (u : ℕ × (ℕ × ℕ)). u.0 < 2 ^ 63)) is l.invariant.left).0

pub loop-stored-preserved : goal.loop-stored-preserved
loop-stored-preserved c =
    let l = c.loop-stored in
    let k = c.args.conduct.now in
    let is = rest_more deref l.stored-iterator c.next.new.self c.next.result c.in-Some.stored c.in-Some.is c.next.ensures.steps in
    record {
      so_far = among_more c.args.kernel.now.image c.args.kernel.now.kept c.args.keys.now c.args.marks.now k.stored.keys l.stored-iterator c.next.new.self k.loaded.keys c.in-Some.stored.now
          c.running-from.result c.users-to.result c.args.sharing.now l.sharing c.share.new.self is l.invariant.so_far c.running-from.ensures c.users-to.ensures c.share.ensures;
      left = (subst (AllByRecursion (λ (u : ℕ × (ℕ × ℕ)). u.0 < 2 ^ 63)) is l.invariant.left).1;
    }

pub returns : goal.returns
returns c =
    let l = c.loop-stored in
    let k = c.args.conduct.now in
    let none : l.stored-iterator ≡ [] = rest_all deref l.stored-iterator c.next.new.self c.next.result c.in-None.is c.next.ensures.steps in
    among_all c.args.kernel.now.image c.args.kernel.now.kept c.args.keys.now c.args.marks.now k.stored.keys l.stored-iterator k.loaded.keys c.args.sharing.now l.sharing none l.invariant.so_far
