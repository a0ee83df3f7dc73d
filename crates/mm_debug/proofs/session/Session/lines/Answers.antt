use Rattle.std.proofs.Common.{sym, subst}
use Rattle.mm_text.proofs.Appending.{appends_same, buffered_writes}
use Rattle.mm_debug.specs.{Commands.lines_of, Shown.session_of, Standing.StandsFor}
use Rattle.mm_debug.proofs.{Standing.dialogue_stands, Going.{input_goes, sessions_said}}
use Rattle.mm_debug.proofs.session.Session.lines.Goals as goal

pub returns-clause-session : goal.returns-clause-session
returns-clause-session g c = (sessions_said c.handle_lines.ensures.holds).session

pub returns-clause-replies : goal.returns-clause-replies
returns-clause-replies g c =
    buffered_writes c.new-replies.ensures
    (appends_same c.handle_lines.ensures.appends (sessions_said c.handle_lines.ensures.holds).text)
    c.finish.ensures

pub returns-clause-stands : goal.returns-clause-stands
returns-clause-stands g c = λ i stands.
    subst (StandsFor i) (sym (sessions_said c.handle_lines.ensures.holds).session)
    (dialogue_stands i (session_of c.args.self.now) (lines_of c.args.input.now) stands)

pub returns-clause-fits : goal.returns-clause-fits
returns-clause-fits g c =
    input_goes c.args.self.now c.handle_lines.new.handler c.args.input.now (sessions_said c.handle_lines.ensures.holds).session
