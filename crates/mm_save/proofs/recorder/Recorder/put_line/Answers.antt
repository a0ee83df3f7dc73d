use Rattle.std.{proofs.Common.{◌≡◌, None, sym, ap, ◌∙◌, subst}, specs.Prelude.min}
use Rattle.mm_text.proofs.Appending.{appends_same}
use Rattle.mm_debug.specs.{Commands.command_of, Session.{Session, Answer, total_of}, Shown.session_of}
use Rattle.mm_save.specs.{Recorder.{began_at, back_of}, Recorded.Remembers}
use Rattle.mm_save.proofs.Recalled.{answer_remembers}
use Rattle.mm_save.proofs.Backing.{StaysSo, plainly, plain_first, plain_recalls, back_session, back_reply, back_more}
use Rattle.mm_save.proofs.Backing.{back_lowers}
use Rattle.mm_save.proofs.recorder.Recorder.put_line.{Given.Over, Goals.{After-keep, After-min-count}}
use Rattle.mm_save.proofs.recorder.Recorder.put_line.Goals as goal

stays : (g : Over) (c : After-keep g)
    → StaysSo (session_of c.keep.new.self.session) (session_of c.args.self.now.session) c.keep.new.self.start (began_at (session_of c.args.self.now.session) c.args.self.now.start)
stays g c = record { session = c.keep.ensures.session; began = c.keep.ensures.first }

-- a line of the session
pub invariant_of-self : goal.invariant_of-self
invariant_of-self g c =
    let k = c.keep.new.self in
    record {
      within = subst (λ (t : Session). Remembers t k.start k.ring.items) (sym c.put_line.ensures.session)
          (answer_remembers (session_of k.session) (command_of c.args.line.now) k.start k.ring.items k.session.machine.valid k.within);
      size = k.size;
    }

pub returns-in-None-clause-session : goal.returns-in-None-clause-session
returns-in-None-clause-session g c =
    c.put_line.ensures.session ∙ ap (λ (a : Answer). a.session) (plainly _ _ _ _ (stays g (goal.at.returns-in-None-clause-session g c).After-keep) c.args.line.now c.in-None.ensures)

pub returns-in-None-clause-first : goal.returns-in-None-clause-first
returns-in-None-clause-first g c = plain_first _ _ _ _ (stays g (goal.at.returns-in-None-clause-first g c).After-keep) c.args.line.now _ c.put_line.ensures.session

pub returns-in-None-clause-reply : goal.returns-in-None-clause-reply
returns-in-None-clause-reply g c =
    appends_same c.put_line.ensures.reply
    (ap (λ (a : Answer). a.reply) (plainly _ _ _ _ (stays g (goal.at.returns-in-None-clause-reply g c).After-keep) c.args.line.now c.in-None.ensures))

pub returns-in-None-clause-go : goal.returns-in-None-clause-go
returns-in-None-clause-go g c = c.put_line.ensures.go ∙ ap (λ (a : Answer). a.go) (plainly _ _ _ _ (stays g (goal.at.returns-in-None-clause-go g c).After-keep) c.args.line.now c.in-None.ensures)

-- which is no `back N`
pub returns-in-None-clause-total : goal.returns-in-None-clause-total
returns-in-None-clause-total g c n is = let none : None ≡ back_of c.args.line.now = c.in-None.ensures in cc

pub returns-in-None-clause-stands : goal.returns-in-None-clause-stands
returns-in-None-clause-stands g c i recalls =
    plain_recalls _ _ _ _ (stays g (goal.at.returns-in-None-clause-stands g c).After-keep) c.args.line.now i _ _ c.put_line.ensures.session
    recalls.session recalls.first

-- `back N`
least : (g : Over) (c : After-min-count g) → c.min-count.result ≡ min c.in-Some.asked (total_of (session_of c.keep.new.self.session))
least g c = c.min-count.ensures ∙ ap (min c.in-Some.asked) c.total.ensures.total

pub returns-in-Some-clause-session : goal.returns-in-Some-clause-session
returns-in-Some-clause-session g c =
    back_session _ _ _ _ (stays g (goal.at.returns-in-Some-clause-session g c).After-keep) c.args.line.now c.in-Some.asked _ c.in-Some.ensures
    (least g (goal.at.returns-in-Some-clause-session g c).After-min-count) _ c.go_back.ensures.session

pub returns-in-Some-clause-reply : goal.returns-in-Some-clause-reply
returns-in-Some-clause-reply g c =
    appends_same c.put_back.ensures
    (back_reply _ _ _ _ (stays g (goal.at.returns-in-Some-clause-reply g c).After-keep) c.args.line.now c.in-Some.asked _ c.in-Some.ensures
    (least g (goal.at.returns-in-Some-clause-reply g c).After-min-count) _ (c.total-in-Some.ensures.total ∙ c.go_back.ensures.total))

pub returns-in-Some-clause-go : goal.returns-in-Some-clause-go
returns-in-Some-clause-go g c =
    back_more _ _ _ _ (stays g (goal.at.returns-in-Some-clause-go g c).After-keep) c.args.line.now c.in-Some.asked _ c.in-Some.ensures
    (least g (goal.at.returns-in-Some-clause-go g c).After-min-count)

pub returns-in-Some-clause-total : goal.returns-in-Some-clause-total
returns-in-Some-clause-total g c n is =
    back_lowers _ _ _ _ (stays g (goal.at.returns-in-Some-clause-total g c).After-keep) c.args.line.now c.in-Some.asked _ c.in-Some.ensures
    (least g (goal.at.returns-in-Some-clause-total g c).After-min-count) _ c.go_back.ensures.total n is
