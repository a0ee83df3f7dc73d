use Rattle.std.proofs.Common.{ap, map}
use Rattle.mm_thread.specs.Revisions.{queue_in_place, extension}
use Rattle.mm_config.proofs.PutSlots.{reaches, revise_so, stands_so}
use Rattle.mm_config.proofs.configs.Configs.put_slots.Goals as goal

pub read_slots-requires : goal.read_slots-requires
read_slots-requires c = reaches c.args.self.now c.args.slots c.apart.ensures c.requires

pub revise-requires : goal.revise-requires
revise-requires c =
    let m =
    revise_so c.args.self.now c.args.slots c.apart.ensures c.requires c.read_slots.new.self c.in_ok-changed.changed c.in_ok-changed.ensures
    (record { queues = c.clear.new.self; outputs = c.clear-2.new.self }) (ap (map queue_in_place) c.clear.ensures.items) (ap (map extension) c.clear-2.ensures.items)
    c.deref.result.now c.deref.ensures.value in
    record { whole = m.whole; same = m.same; few = m.few; queues = m.queues; outputs = m.outputs }

pub returns : goal.returns
returns c = λ h.
    stands_so c.args.self.now c.args.slots c.apart.ensures h c.read_slots.new.self c.in_ok-changed.changed c.in_ok-changed.ensures
    (record { queues = c.clear.new.self; outputs = c.clear-2.new.self }) (ap (map queue_in_place) c.clear.ensures.items) (ap (map extension) c.clear-2.ensures.items)
    c.deref.result.now c.deref.ensures.value c.revise.new.self c.revise.ensures
