use Rattle.std.proofs.Common.{◌≡◌, true, false, refl, sym, ap, ◌∙◌, arith, length-set}
use Rattle.mm_model.specs.Memory.{cell_at}
use Rattle.mm_machine.specs.Machine.{state_of}
use Rattle.mm_net.specs.Nets.{is_free, with_arrived, arrived_tick}
use Rattle.mm_net.proofs.{ListPlaces.set_found, Finding.{wire_found, no_wire, to_inside, node_at}}
use Rattle.mm_net.proofs.{Stepping.{carries, no_carry, not_due}, NetKeeping.{put_within, both_wired}}
use Rattle.mm_net.proofs.Carrying.{some_left, put, put_nothing, not_done}
use Rattle.mm_net.proofs.net.Net.carry.Goals as goal

pub returns-in_default : goal.returns-in_default
returns-in_default g c = no_carry _ _ c.args.link c.args.number (no_wire c.args.self.now c.args.link _ c.get_mut.ensures.variant.1 c.in_default.is) refl refl refl refl

pub returns-in_default-due : goal.returns-in_default-due
returns-in_default-due g c =
    let net = c.args.self.now in
    let w = c.in-Some.wire.now in
    let wire = wire_found net c.args.link _ _ w c.get_mut.ensures.variant.0 c.in-Some.is c.in-Some.ensures.value in
    not_due _ _ c.args.link c.args.number w wire (sym c.due.ensures ∙ c.in_default-due.is) refl (set_found net.wires.items c.args.link w wire) refl refl

pub index_mut-node-requires : goal.index_mut-node-requires
index_mut-node-requires g c =
    let net = c.args.self.now in
    let w = c.in-Some.wire.now in
    let wire = wire_found net c.args.link _ _ w c.get_mut.ensures.variant.0 c.in-Some.is c.in-Some.ensures.value in
    omega (arith, net.nodes.ok.0, to_inside net c.args.link w c.link.result wire c.link.ensures)

pub port_put-requires-clause-few : goal.port_put-requires-clause-few
port_put-requires-clause-few g c =
    let net = c.args.self.now in
    let w = c.in-Some.wire.now in
    let m = c.index_mut-node.result.now in
    let wire = wire_found net c.args.link _ _ w c.get_mut.ensures.variant.0 c.in-Some.is c.in-Some.ensures.value in
    let here = node_at net c.link.result.to m (to_inside net c.args.link w c.link.result wire c.link.ensures) c.index_mut-node.ensures.value in
    omega (arith, net.within.ports c.link.result.to m here, c.requires)

pub count_arrival-requires : goal.count_arrival-requires
count_arrival-requires g c = some_left c.in-Some.wire.now.carried c.args.number c.in-Some-due.bits (sym c.due.ensures ∙ c.in-Some-due.is)

pub invariant_of-self-in-Done : goal.invariant_of-self-in-Done
invariant_of-self-in-Done g c =
    let net = c.args.self.now in
    let w = c.in-Some.wire.now in
    let n = c.link.result.to in
    let m = c.index_mut-node.result.now in
    let m' = c.port_put.new.self in
    let wire = wire_found net c.args.link _ _ w c.get_mut.ensures.variant.0 c.in-Some.is c.in-Some.ensures.value in
    let here = node_at net n m (to_inside net c.args.link w c.link.result wire c.link.ensures) c.index_mut-node.ensures.value in
    record {
      some = omega (arith, length-set net.nodes.items n m', net.some);
      most = omega (arith, length-set net.nodes.items n m', net.most);
      few = omega (arith, length-set net.wires.items c.args.link c.count_arrival.new.self, net.few);
      small = net.small;
      within = put_within net n c.putting.result.now.addr c.in-Some-due.bits m m' here c.port_put.ensures.state c.port_put.ensures.ports;
      wired = both_wired net n m' c.args.link w c.count_arrival.new.self wire c.count_arrival.ensures.link (omega (arith, c.count_arrival.ensures.room));
    }

pub invariant_of-self-in-NotReady : goal.invariant_of-self-in-NotReady
invariant_of-self-in-NotReady g c =
    let net = c.args.self.now in
    let w = c.in-Some.wire.now in
    let n = c.link.result.to in
    let m = c.index_mut-node.result.now in
    let m' = c.port_put.new.self in
    let wire = wire_found net c.args.link _ _ w c.get_mut.ensures.variant.0 c.in-Some.is c.in-Some.ensures.value in
    let here = node_at net n m (to_inside net c.args.link w c.link.result wire c.link.ensures) c.index_mut-node.ensures.value in
    record {
      some = omega (arith, length-set net.nodes.items n m', net.some);
      most = omega (arith, length-set net.nodes.items n m', net.most);
      few = omega (arith, length-set net.wires.items c.args.link w, net.few);
      small = net.small;
      within = put_within net n c.putting.result.now.addr c.in-Some-due.bits m m' here c.port_put.ensures.state c.port_put.ensures.ports;
      wired = both_wired net n m' c.args.link w w wire refl (omega arith);
    }

pub returns-in-Done : goal.returns-in-Done
returns-in-Done g c =
    let net = c.args.self.now in
    let w = c.in-Some.wire.now in
    let bits = c.in-Some-due.bits in
    let m = c.index_mut-node.result.now in
    let cell = cell_at (state_of m).memory c.putting.result.now.addr in
    let wire = wire_found net c.args.link _ _ w c.get_mut.ensures.variant.0 c.in-Some.is c.in-Some.ensures.value in
    let here = node_at net c.link.result.to m (to_inside net c.args.link w c.link.result wire c.link.ensures) c.index_mut-node.ensures.value in
    let is_due = sym c.due.ensures ∙ c.in-Some-due.is in
    let free : true ≡ is_free cell = sym (put cell (sym c.port_put.ensures.answer ∙ c.in-Done.is)) in
    carries _ _ c.args.link c.args.number bits _ w c.count_arrival.new.self c.link.result m c.port_put.new.self c.putting.result.now c.link.ensures wire is_due here refl refl refl refl
    c.putting.ensures c.port_put.ensures.state c.port_put.ensures.takes c.count_arrival.ensures.link
    (c.count_arrival.ensures.carried c.args.number bits is_due ∙ ap (with_arrived w.carried bits) free) (ap (arrived_tick bits) free)

pub returns-in-NotReady : goal.returns-in-NotReady
returns-in-NotReady g c =
    let net = c.args.self.now in
    let w = c.in-Some.wire.now in
    let bits = c.in-Some-due.bits in
    let m = c.index_mut-node.result.now in
    let cell = cell_at (state_of m).memory c.putting.result.now.addr in
    let wire = wire_found net c.args.link _ _ w c.get_mut.ensures.variant.0 c.in-Some.is c.in-Some.ensures.value in
    let here = node_at net c.link.result.to m (to_inside net c.args.link w c.link.result wire c.link.ensures) c.index_mut-node.ensures.value in
    let is_due = sym c.due.ensures ∙ c.in-Some-due.is in
    let taken : false ≡ is_free cell = sym (put_nothing cell c.port_put.result (sym c.port_put.ensures.answer) (not_done c.port_put.result c.in-NotReady.is)) in
    carries _ _ c.args.link c.args.number bits _ w w c.link.result m c.port_put.new.self c.putting.result.now c.link.ensures wire is_due here refl refl refl refl
    c.putting.ensures c.port_put.ensures.state c.port_put.ensures.takes refl (ap (with_arrived w.carried bits) taken) (ap (arrived_tick bits) taken)
