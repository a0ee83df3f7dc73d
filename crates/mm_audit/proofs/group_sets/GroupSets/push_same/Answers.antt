use Rattle.mm_audit.proofs.SharedSets.{same_set, all_there}
use Rattle.mm_audit.proofs.group_sets.GroupSets.push_same.Goals as goal

pub invariant_of-self-2 : goal.invariant_of-self-2
invariant_of-self-2 c =
    let s = c.self.inside in (
      all_there s.sets.items s.places.items c.args.self.now c.self.view_is c.args.group c.index-place.result.now c.requires c.index-place.ensures c.push.new.self.items
          c.in_ok-push.ensures.items c.self.invariant.0,
      c.self.invariant.1,
    )

pub returns : goal.returns
returns c =
    let s = c.self.inside in
    same_set s.sets.items s.places.items c.args.self.now c.self.view_is c.args.group c.index-place.result.now c.requires c.index-place.ensures c.push.new.self.items
    c.in_ok-push.ensures.items
