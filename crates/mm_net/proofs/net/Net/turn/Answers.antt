use Rattle.std.proofs.Common.{refl, ap, ◌∙◌, arith, length-set}
use Rattle.mm_machine.{proofs.Rounds.after_cycles, specs.Machine.state_of}
use Rattle.mm_model.specs.State.{State}
use Rattle.mm_net.proofs.{Finding.{node_found, no_node}, Stepping.{turn_steps, no_turn, idle_tick, turned_tick}}
use Rattle.mm_net.proofs.{NetKeeping.{within_set, nodes_wired}, IdleSteps.some_turn}
use Rattle.mm_net.proofs.net.Net.turn.Goals as goal

pub returns-in_default-clause-step : goal.returns-in_default-clause-step
returns-in_default-clause-step g c =
    no_turn _ _ c.args.node c.args.slot (no_node c.args.self.now c.args.node _ c.get_mut.ensures.variant.1 c.in_default.is) refl refl refl refl

pub cycle-step-requires : goal.cycle-step-requires
cycle-step-requires g c =
    let net = c.args.self.now in
    let m = c.in-Some.node.now in
    let here = node_found net c.args.node _ _ m c.get_mut.ensures.variant.0 c.in-Some.is c.in-Some.ensures.value in
    omega (arith, net.within.cycles c.args.node m here, c.requires)

pub invariant_of-self-2 : goal.invariant_of-self-2
invariant_of-self-2 g c =
    let net = c.args.self.now in
    let m = c.in-Some.node.now in
    let here = node_found net c.args.node _ _ m c.get_mut.ensures.variant.0 c.in-Some.is c.in-Some.ensures.value in
    let cycles = ap (λ (s : State). s.cycles) c.cycle-step.ensures.state ∙ after_cycles (state_of m) c.args.slot in
    record {
      some = omega (arith, length-set net.nodes.items c.args.node c.cycle-step.new.self, net.some);
      most = omega (arith, length-set net.nodes.items c.args.node c.cycle-step.new.self, net.most);
      few = net.few;
      small = net.small;
      within = within_set net.steps net.nodes.items c.args.node m c.cycle-step.new.self here (omega (arith, cycles)) (omega (arith, c.cycle-step.ensures.ports)) net.within;
      wired = nodes_wired net c.args.node c.cycle-step.new.self;
    }

pub returns-in-Idle-clause-step : goal.returns-in-Idle-clause-step
returns-in-Idle-clause-step g c =
    let net = c.args.self.now in
    let m = c.in-Some.node.now in
    let here = node_found net c.args.node _ _ m c.get_mut.ensures.variant.0 c.in-Some.is c.in-Some.ensures.value in
    turn_steps _ _ c.args.node c.args.slot _ m c.cycle-step.new.self here refl refl refl refl c.cycle-step.ensures.state c.cycle-step.ensures.takes
    (idle_tick _ _ c.cycle-step.ensures.step c.in-Idle.is)

pub returns-in_default-tick-clause-step : goal.returns-in_default-tick-clause-step
returns-in_default-tick-clause-step g c =
    let net = c.args.self.now in
    let m = c.in-Some.node.now in
    let here = node_found net c.args.node _ _ m c.get_mut.ensures.variant.0 c.in-Some.is c.in-Some.ensures.value in
    turn_steps _ _ c.args.node c.args.slot _ m c.cycle-step.new.self here refl refl refl refl c.cycle-step.ensures.state c.cycle-step.ensures.takes
    (turned_tick _ _ c.cycle-step.ensures.step c.in_default-tick.not-Idle)

pub returns-in_default-tick-clause-idle : goal.returns-in_default-tick-clause-idle
returns-in_default-tick-clause-idle g c =
    let net = c.args.self.now in
    let m = c.in-Some.node.now in
    some_turn net.nodes.items c.args.node c.args.slot m c.cycle-step.result (node_found net c.args.node _ _ m c.get_mut.ensures.variant.0 c.in-Some.is c.in-Some.ensures.value)
    c.in_default-tick.not-Idle c.cycle-step.ensures.idle
