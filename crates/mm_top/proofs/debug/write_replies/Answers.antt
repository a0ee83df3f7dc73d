use Rattle.std.proofs.Common.{refl, ap, ◌∙◌}
use Rattle.mm_debug.specs.Session.{total_of}
use Rattle.mm_top.proofs.Reported.{start_cycles, replied, ends_written}
use Rattle.mm_top.proofs.debug.write_replies.Goals as goal

pub new-session-requires : goal.new-session-requires
new-session-requires g c = start_cycles _ _ c.in_ok-machine.ensures.stands

pub new-requires : goal.new-requires
new-requires g c = ap total_of c.new-session.ensures.session ∙ start_cycles _ _ c.in_ok-machine.ensures.stands

pub returns : goal.returns
returns g c =
    ends_written _ _ _ _ refl _ _ c.ended.ensures
    (replied c.args.order c.args.lines.now c.args.image.now c.in_ok-machine.machine _ _ _ c.in_ok-machine.ensures.stands c.new-session.ensures.session
    c.in_ok-recorder.ensures.first c.in_ok-recorder.ensures.session c.lines.ensures.replies)
