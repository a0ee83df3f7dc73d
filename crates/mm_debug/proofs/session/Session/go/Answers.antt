use Rattle.std.proofs.Common.{◌≡◌, sym, subst}
use Rattle.mm_machine.specs.Machine.{state_of}
use Rattle.mm_debug.specs.{Session.Session, Shown.session_of, Standing.{Point, PointStandsFor, CanGo}}
use Rattle.mm_debug.proofs.Points.{gone_stands}
use Rattle.mm_debug.proofs.session.Session.go.Goals as goal

pub returns-clause-stands : goal.returns-clause-stands
returns-clause-stands g c i stands point =
    let s : Session = session_of c.args.self.now in
    let p : Point = record { snapshot = c.p.inside.snapshot; last = c.p.inside.robin } in
    let is : c.args.p.now ≡ p = sym c.p.view_is in
    let can = subst (CanGo s) is c.requires in
    gone_stands i s p
    (state_of c.restore.new.self) c.restore.ensures.state c.restore.ensures.shown c.args.self.now.machine.valid c.restore.new.self.valid can.restore
    stands (subst (PointStandsFor i s.order) is point)
