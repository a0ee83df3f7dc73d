use Rattle.std.proofs.Common.{refl}
use Rattle.mm_debug.specs.{Session.answer_to, Shown.session_of}
use Rattle.mm_debug.proofs.session.SessionLineHandler.handle_line.Goals as goal

pub returns : goal.returns
returns g c = record {
  text = (answer_to (session_of c.args.self.now) c.args.line.now).reply;
  appends = c.put_line.ensures.reply;
  holds = record { reply = refl; session = c.put_line.ensures.session; go = c.put_line.ensures.go };
}
