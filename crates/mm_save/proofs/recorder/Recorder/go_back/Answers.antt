use Rattle.std.proofs.Common.{◌-◌, ◌≤◌, sym, ap₂, subst}
use Rattle.mm_debug.specs.{Shown.session_of, Standing.total_at}
use Rattle.mm_save.proofs.Backing.{WentBack, on_way_at, early_at, went, went_home}
use Rattle.mm_save.proofs.recorder.Recorder.go_back.{Given.Over, Goals.{After-step, After-step-in-None}}
use Rattle.mm_save.proofs.recorder.Recorder.go_back.Goals as goal

-- it went to a state of the ring
kept : (g : Over) (c : After-step g) → WentBack (session_of c.args.self.now.session) c.args.self.now.start c.args.self.now.ring.items c.args.count (session_of c.step.new.self)
kept g c =
    let self = c.args.self.now in
    let s = session_of self.session in
    let q = c.in-Some-get.point.now in
    let is = sym c.in-Some-get.ensures in
    went s self.start q self.ring.items c.args.count _ (session_of c.go.new.self) (session_of c.step.new.self) self.within
    (on_way_at s self.start self.ring.items self.within c.in-Some.at q is)
    (subst (λ n. total_at q ≤ n - c.args.count) c.total.ensures.total (early_at self.ring.items c.in-Some.at _ q is c.in-Some.ensures))
    c.go.ensures.session c.step.ensures (ap₂ (λ a b. a - c.args.count - b) c.total.ensures.total c.total-in-Some-get.ensures) c.go.new.self.machine.valid c.go.ensures.fits

-- or to the start
home : (g : Over) (c : After-step-in-None g) → WentBack (session_of c.args.self.now.session) c.args.self.now.start c.args.self.now.ring.items c.args.count (session_of c.step-in-None.new.self)
home g c =
    let self = c.args.self.now in
    let s = session_of self.session in
    went_home s self.start self.ring.items c.args.count _ (session_of c.go-in-None.new.self) (session_of c.step-in-None.new.self) self.within
    c.go-in-None.ensures.session c.step-in-None.ensures (ap₂ (λ a b. a - c.args.count - b) c.total.ensures.total c.total-in-None.ensures) c.go-in-None.new.self.machine.valid c.go-in-None.ensures.fits

pub invariant_of-self-in-Some-get : goal.invariant_of-self-in-Some-get
invariant_of-self-in-Some-get g c = record { within = (kept g c).remembers; size = c.args.self.now.size }

pub returns-in-Some-get-clause-session : goal.returns-in-Some-get-clause-session
returns-in-Some-get-clause-session g c = (kept g (goal.at.returns-in-Some-get-clause-session g c).After-step).session

pub returns-in-Some-get-clause-total : goal.returns-in-Some-get-clause-total
returns-in-Some-get-clause-total g c = (kept g (goal.at.returns-in-Some-get-clause-total g c).After-step).total

pub returns-in-Some-get-clause-first : goal.returns-in-Some-get-clause-first
returns-in-Some-get-clause-first g c = (kept g (goal.at.returns-in-Some-get-clause-first g c).After-step).first

pub returns-in-Some-get-clause-stands : goal.returns-in-Some-get-clause-stands
returns-in-Some-get-clause-stands g c i recalls = (kept g (goal.at.returns-in-Some-get-clause-stands g c).After-step).stands i _ recalls

pub invariant_of-self-in-None : goal.invariant_of-self-in-None
invariant_of-self-in-None g c = record { within = (home g c).remembers; size = c.args.self.now.size }

pub returns-in-None-clause-session : goal.returns-in-None-clause-session
returns-in-None-clause-session g c = (home g (goal.at.returns-in-None-clause-session g c).After-step-in-None).session

pub returns-in-None-clause-total : goal.returns-in-None-clause-total
returns-in-None-clause-total g c = (home g (goal.at.returns-in-None-clause-total g c).After-step-in-None).total

pub returns-in-None-clause-first : goal.returns-in-None-clause-first
returns-in-None-clause-first g c = (home g (goal.at.returns-in-None-clause-first g c).After-step-in-None).first

pub returns-in-None-clause-stands : goal.returns-in-None-clause-stands
returns-in-None-clause-stands g c i recalls = (home g (goal.at.returns-in-None-clause-stands g c).After-step-in-None).stands i _ recalls
