use Rattle.std.proofs.Common.{ap}
use Rattle.circular_buffer.specs.Buffer.{Buffer}
use Rattle.mm_debug.specs.Shown.{session_of}
use Rattle.mm_save.proofs.{Recalled.{begins_with, point_here}, RecalledStands.begins_recalls}
use Rattle.mm_save.proofs.recorder.Recorder.new.Goals as goal

pub invariant_of-result : goal.invariant_of-result
invariant_of-result g c =
    let s = session_of c.args.session in
    record {
      within = rw c.in_ok-ring.ensures (begins_with s c.in_ok-start.start c.args.session.machine.valid c.in_ok-start.ensures.point c.in_ok-start.ensures.fits c.requires);
      size = ap (λ (b : Buffer _). b.capacity) c.in_ok-ring.ensures;
    }

pub returns-clause-first : goal.returns-clause-first
returns-clause-first g c = point_here (session_of c.args.session) c.in_ok-start.start c.args.session.machine.valid c.in_ok-start.ensures.point

pub returns-clause-stands : goal.returns-clause-stands
returns-clause-stands g c i stands = begins_recalls i (session_of c.args.session) c.in_ok-start.start c.in_ok-ring.ring.items c.args.session.machine.valid c.in_ok-start.ensures.point stands
