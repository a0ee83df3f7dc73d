use Rattle.mm_why.proofs.Deciding.{context, giver, not_granted}
use Rattle.mm_why.proofs.answer.why.Goals as goal

pub returns-in_default : goal.returns-in_default
returns-in_default c =
    let shared = rw c.deref.ensures.value at c.in_ok-rounds.ensures in
    let are = rw c.deref-2.ensures.value at c.owners_in-owners.ensures in
    not_granted c.args.image.now c.in_ok-graph.graph c.in_ok-graph.ensures c.in_ok-marks.marks.items c.in_ok-marks.ensures c.in_ok-rounds.rounds shared c.owners_in-owners.result c.args.how c.args.word
    c.args.group are c.in_default.ensures

pub derivation-requires-clause-context : goal.derivation-requires-clause-context
derivation-requires-clause-context c =
    let shared = rw c.deref.ensures.value at c.in_ok-rounds.ensures in
    context c.args.image.now c.in_ok-graph.graph c.in_ok-graph.ensures c.in_ok-marks.marks.items c.in_ok-marks.ensures c.in_ok-rounds.rounds shared

pub derivation-requires-clause-source : goal.derivation-requires-clause-source
derivation-requires-clause-source c =
    let shared = rw c.deref.ensures.value at c.in_ok-rounds.ensures in
    let are = rw c.deref-2.ensures.value at c.owners_in-owners.ensures in
    giver c.args.image.now c.in_ok-graph.graph c.in_ok-graph.ensures c.in_ok-marks.marks.items c.in_ok-marks.ensures c.in_ok-rounds.rounds shared c.owners_in-owners.result c.args.how c.args.word
    c.args.group are c.in-Some.source c.in-Some.ensures
