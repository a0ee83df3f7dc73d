use Rattle.std.proofs.Common.{◌≡◌, ℕ, Some, None, refl, sym, ap, ◌∙◌, arith, length-set}
use Rattle.mm_model.specs.Memory.{cell_at}
use Rattle.mm_machine.specs.Machine.{state_of}
use Rattle.mm_net.specs.Nets.{bits_in, with_sent, sent_tick}
use Rattle.mm_net.proofs.{ListPlaces.map_at, Finding.{wire_found, no_wire, from_inside, node_at}}
use Rattle.mm_net.proofs.{Stepping.{carried_by, sends, no_send}, NetKeeping.{take_within, both_wired, room_left}}
use Rattle.mm_net.proofs.Carrying.{took, took_nothing, neither}
use Rattle.mm_net.proofs.net.Net.send.Goals as goal

pub returns-in_default : goal.returns-in_default
returns-in_default g c = no_send _ _ c.args.link (no_wire c.args.self.now c.args.link _ c.get_mut.ensures.variant.1 c.in_default.is) refl refl refl refl

pub index_mut-node-requires : goal.index_mut-node-requires
index_mut-node-requires g c =
    let net = c.args.self.now in
    let w = c.in-Some.wire.now in
    let wire = wire_found net c.args.link _ _ w c.get_mut.ensures.variant.0 c.in-Some.is c.in-Some.ensures.value in
    omega (arith, net.nodes.ok.0, from_inside net c.args.link w c.link.result wire c.link.ensures)

pub port_take-requires-clause-few : goal.port_take-requires-clause-few
port_take-requires-clause-few g c =
    let net = c.args.self.now in
    let w = c.in-Some.wire.now in
    let m = c.index_mut-node.result.now in
    let wire = wire_found net c.args.link _ _ w c.get_mut.ensures.variant.0 c.in-Some.is c.in-Some.ensures.value in
    let here = node_at net c.link.result.from m (from_inside net c.args.link w c.link.result wire c.link.ensures) c.index_mut-node.ensures.value in
    omega (arith, net.within.ports c.link.result.from m here, c.requires.few)

pub push-requires-clause-room : goal.push-requires-clause-room
push-requires-clause-room g c =
    let net = c.args.self.now in
    let w = c.in-Some.wire.now in
    let wire = wire_found net c.args.link _ _ w c.get_mut.ensures.variant.0 c.in-Some.is c.in-Some.ensures.value in
    room_left _ c.args.link net.room w.room w.carried (map_at carried_by net.wires.items c.args.link (Some w) wire) c.requires.room (net.wired.room c.args.link w wire)

pub push-requires-clause-few : goal.push-requires-clause-few
push-requires-clause-few g c =
    let net = c.args.self.now in
    let w = c.in-Some.wire.now in
    let wire = wire_found net c.args.link _ _ w c.get_mut.ensures.variant.0 c.in-Some.is c.in-Some.ensures.value in
    room_left _ c.args.link net.room 1000000 w.carried (map_at carried_by net.wires.items c.args.link (Some w) wire) c.requires.room net.small

pub invariant_of-self-in-Value : goal.invariant_of-self-in-Value
invariant_of-self-in-Value g c =
    let net = c.args.self.now in
    let w = c.in-Some.wire.now in
    let n = c.link.result.from in
    let m = c.index_mut-node.result.now in
    let m' = c.port_take.new.self in
    let wire = wire_found net c.args.link _ _ w c.get_mut.ensures.variant.0 c.in-Some.is c.in-Some.ensures.value in
    let here = node_at net n m (from_inside net c.args.link w c.link.result wire c.link.ensures) c.index_mut-node.ensures.value in
    record {
      some = omega (arith, length-set net.nodes.items n m', net.some);
      most = omega (arith, length-set net.nodes.items n m', net.most);
      few = omega (arith, length-set net.wires.items c.args.link c.push.new.self, net.few);
      small = net.small;
      within = take_within net n c.taking.result.now.addr m m' here c.port_take.ensures.state c.port_take.ensures.ports;
      wired = both_wired net n m' c.args.link w c.push.new.self wire c.push.ensures.link c.push.ensures.room;
    }

pub invariant_of-self-in-NotReady : goal.invariant_of-self-in-NotReady
invariant_of-self-in-NotReady g c =
    let net = c.args.self.now in
    let w = c.in-Some.wire.now in
    let n = c.link.result.from in
    let m = c.index_mut-node.result.now in
    let m' = c.port_take.new.self in
    let wire = wire_found net c.args.link _ _ w c.get_mut.ensures.variant.0 c.in-Some.is c.in-Some.ensures.value in
    let here = node_at net n m (from_inside net c.args.link w c.link.result wire c.link.ensures) c.index_mut-node.ensures.value in
    record {
      some = omega (arith, length-set net.nodes.items n m', net.some);
      most = omega (arith, length-set net.nodes.items n m', net.most);
      few = omega (arith, length-set net.wires.items c.args.link w, net.few);
      small = net.small;
      within = take_within net n c.taking.result.now.addr m m' here c.port_take.ensures.state c.port_take.ensures.ports;
      wired = both_wired net n m' c.args.link w w wire refl (omega arith);
    }

pub returns-in-Value : goal.returns-in-Value
returns-in-Value g c =
    let net = c.args.self.now in
    let w = c.in-Some.wire.now in
    let m = c.index_mut-node.result.now in
    let cell = cell_at (state_of m).memory c.taking.result.now.addr in
    let wire = wire_found net c.args.link _ _ w c.get_mut.ensures.variant.0 c.in-Some.is c.in-Some.ensures.value in
    let here = node_at net c.link.result.from m (from_inside net c.args.link w c.link.result wire c.link.ensures) c.index_mut-node.ensures.value in
    let bits : Some c.bits-bits.result ≡ bits_in cell =
    ap (λ (x : ℕ). Some x) c.bits-bits.ensures.value ∙ sym (took cell c.in-Value.word (sym c.port_take.ensures.answer ∙ c.in-Value.is)) in
    sends _ _ c.args.link _ w c.push.new.self c.link.result m c.port_take.new.self c.taking.result.now c.link.ensures wire here refl refl refl refl c.taking.ensures
    c.port_take.ensures.state c.port_take.ensures.takes c.push.ensures.link (c.push.ensures.carried ∙ ap (with_sent w.carried) bits) (ap sent_tick bits)

pub returns-in-NotReady : goal.returns-in-NotReady
returns-in-NotReady g c =
    let net = c.args.self.now in
    let w = c.in-Some.wire.now in
    let m = c.index_mut-node.result.now in
    let cell = cell_at (state_of m).memory c.taking.result.now.addr in
    let wire = wire_found net c.args.link _ _ w c.get_mut.ensures.variant.0 c.in-Some.is c.in-Some.ensures.value in
    let here = node_at net c.link.result.from m (from_inside net c.args.link w c.link.result wire c.link.ensures) c.index_mut-node.ensures.value in
    let bits : None ≡ bits_in cell = sym (took_nothing cell c.port_take.result (sym c.port_take.ensures.answer) (neither c.port_take.result c.in-NotReady.is)) in
    sends _ _ c.args.link _ w w c.link.result m c.port_take.new.self c.taking.result.now c.link.ensures wire here refl refl refl refl c.taking.ensures
    c.port_take.ensures.state c.port_take.ensures.takes refl (ap (with_sent w.carried) bits) (ap sent_tick bits)
