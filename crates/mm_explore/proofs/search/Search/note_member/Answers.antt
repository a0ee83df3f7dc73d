use Rattle.std.proofs.Common.{◌≡◌, ◌+◌, take, sym, subst}
use Rattle.std.{proofs.lemmas.Bool.both_ways, specs.List.AllByRecursion}
use Rattle.mm_endless.specs.Graphs.{children}
use Rattle.mm_explore.specs.Searching.{AreSetsSeen}
use Rattle.mm_explore.proofs.{BusySets.{member_none, member_final, member_first, member_other, first_low}, Notes.more_ok, Steps.{can_differ, are_apart}}
use Rattle.mm_explore.proofs.search.Search.note_member.Goals as goal

pub differing-requires : goal.differing-requires
differing-requires c =
    let r = c.requires in
    let s = c.args.self.now in
    let low = first_low c.args.img.now s r.come r.all c.args.at r.inside c.args.sets.now r.sets c.in-Some.first c.in-Some.ensures in
    can_differ c.args.img.now s.found s.configs r.come.kept c.in-Some.first c.args.at low r.inside

pub returns-in-None : goal.returns-in-None
returns-in-None c =
    let r = c.requires in
    member_none c.args.img.now c.args.self.now r.come r.all c.args.at r.inside c.args.sets.now r.sets c.args.busy.now.entries r.seen c.in-None.ensures

pub returns-in_ok-slots-in-Some : goal.returns-in_ok-slots-in-Some
returns-in_ok-slots-in-Some c =
    let r = c.requires in
    let list = c.args.self.now.found in
    more_ok c.add.result
    (λ is. subst (AreSetsSeen c.args.img.now list (take (c.args.at + 1) list)) (sym is)
    (member_other c.args.img.now c.args.self.now r.come r.all c.args.at r.inside c.args.sets.now r.sets c.args.busy.now.entries r.seen c.in-Some.first c.in-Some.ensures
    c.if-first-at.true c.in_ok-slots-in-Some.slots
    (are_apart c.args.img.now list r.come.image c.in-Some.first c.args.at
    (first_low c.args.img.now c.args.self.now r.come r.all c.args.at r.inside c.args.sets.now r.sets c.in-Some.first c.in-Some.ensures) r.inside
    r.come.kept.machine c.in_ok-slots-in-Some.slots (c.in_ok-slots-in-Some.ensures c.args.img.now _ r.come.kept.stands))))
    c.add.ensures

pub returns-in-Some-2 : goal.returns-in-Some-2
returns-in-Some-2 c =
    let r = c.requires in
    let f = c.in-Some.first in
    let stay = subst (AllByRecursion (λ child. child ≡ f)) c.children.ensures (c.stays.ensures.0 c.if-stays.true) in
    member_final c.args.img.now c.args.self.now r.come r.all c.args.at r.inside c.args.sets.now r.sets c.args.busy.now.entries r.seen f c.if-first-at.false stay

pub returns-in-Some-3 : goal.returns-in-Some-3
returns-in-Some-3 c =
    let r = c.requires in
    let g = c.args.self.now.graph in
    let list = c.args.self.now.found in
    let f = c.in-Some.first in
    let turns = λ (stay : AllByRecursion (λ child. child ≡ f) (children g c.args.at)).
    both_ways c.stays.result c.if-stays.false (c.stays.ensures.1
    (subst (AllByRecursion (λ child. child ≡ f)) (sym c.children.ensures) stay)) in
    more_ok c.add-in-Some-3.result
    (λ is. subst (AreSetsSeen c.args.img.now list (take (c.args.at + 1) list)) (sym is)
    (member_first c.args.img.now c.args.self.now r.come r.all c.args.at r.inside c.args.sets.now r.sets c.args.busy.now.entries r.seen f c.in-Some.ensures c.if-first-at.false turns))
    c.add-in-Some-3.ensures
