use Rattle.std.proofs.Common.{map, ap}
use Rattle.mm_model.specs.Fits.{identity_of}
use Rattle.mm_config.proofs.Standing.{reaches_still, may_revise, has_put}
use Rattle.mm_config.proofs.configs.Configs.put_core.Goals as goal

pub read_queues-requires : goal.read_queues-requires
read_queues-requires c =
    let r = c.requires in
    let one = c.in_ok-changed.ensures r in
    reaches_still c.args.wanted.now c.args.self.now c.read_slots.new.self r one.others one.room

pub read_outputs-requires : goal.read_outputs-requires
read_outputs-requires c =
    let r = c.requires in
    let w = c.args.wanted.now in
    let c1 = c.read_slots.new.self in
    let one = c.in_ok-changed.ensures r in
    let r1 = reaches_still w c.args.self.now c1 r one.others one.room in
    let two = c.in_ok-read_queues.ensures r1 in
    reaches_still w c1 c.read_queues.new.self r1 two.others (ap (λ s. map identity_of s.items) two.room)

pub revise-requires : goal.revise-requires
revise-requires c =
    let m =
    may_revise c.args.wanted.now c.args.self.now c.read_slots.new.self c.read_queues.new.self c.read_outputs.new.self c.in_ok-changed.changed c.in_ok-changed.ensures c.in_ok-read_queues.ensures
    c.in_ok-read_outputs.ensures c.requires c.deref.result.now c.deref.ensures.value in
    record { whole = m.whole; same = m.same; few = m.few; queues = m.queues; outputs = m.outputs }

pub returns : goal.returns
returns c = λ r.
    has_put c.args.wanted.now c.args.self.now c.read_slots.new.self c.read_queues.new.self c.read_outputs.new.self c.in_ok-changed.changed c.in_ok-changed.ensures c.in_ok-read_queues.ensures
    c.in_ok-read_outputs.ensures r c.deref.result.now c.deref.ensures.value c.revise.new.self c.revise.ensures
