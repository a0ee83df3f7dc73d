use Rattle.std.proofs.lemmas.Result.{IfOk-weaker}
use Rattle.mm_pairs.{specs.Named.IsNameOf, proofs.Names.{name_stays, grown_twice}}
use Rattle.mm_config.proofs.names.Names.rest.Goals as goal

pub returns-clause-rest : goal.returns-clause-rest
returns-clause-rest c =
    let n = c.args.self.now in
    let first = c.join.new.self in
    let second = c.join-2.new.self in
    let third = c.join-3.new.self in
    let two = c.in_ok-two.two in
    let others = c.in_ok-others.others in
    IfOk-weaker c.join-3.result (λ rest. IsNameOf (0, 0) third rest (others, n.pages)) _
    (λ rest all. record {
      two = two;
      others = others;
      events = name_stays (0, 0) first third (grown_twice first second third c.join-2.ensures.grown c.join-3.ensures.grown) two (n.queues, n.outputs) c.in_ok-two.ensures.name;
      depth = name_stays (0, 0) second third c.join-3.ensures.grown others (two, n.height) c.in_ok-others.ensures.name;
      all = all;
    })
    c.join-3.ensures.name
