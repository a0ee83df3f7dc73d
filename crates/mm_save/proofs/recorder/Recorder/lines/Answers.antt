use Rattle.mm_text.proofs.Appending.{appends_same, buffered_writes}
use Rattle.mm_save.proofs.LinesHandled.{replies_are, first_stays, stands_still, kept_are}
use Rattle.mm_save.proofs.recorder.Recorder.lines.Goals as goal

pub returns-clause-session : goal.returns-clause-session
returns-clause-session g c = (replies_are c.handle_lines.ensures.holds).session

pub returns-clause-first : goal.returns-clause-first
returns-clause-first g c = first_stays c.handle_lines.ensures.holds

pub returns-clause-kept : goal.returns-clause-kept
returns-clause-kept g c = kept_are c.handle_lines.ensures.holds

pub returns-clause-replies : goal.returns-clause-replies
returns-clause-replies g c =
    buffered_writes c.new-replies.ensures
    (appends_same c.handle_lines.ensures.appends (replies_are c.handle_lines.ensures.holds).text)
    c.finish.ensures

pub returns-clause-stands : goal.returns-clause-stands
returns-clause-stands g c i recalls = stands_still i c.handle_lines.ensures.holds recalls
