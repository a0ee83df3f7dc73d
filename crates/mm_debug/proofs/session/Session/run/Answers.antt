use Rattle.std.proofs.{Common.{◌≡◌, ◌+◌, ◌-◌, true, false, ◌&&◌, None, Some, sym, ap, ◌∙◌, arith}, lemmas.Bool.and_left}
use Rattle.mm_debug.specs.{Session.{Session, stops_before, stopped, run_from}, Shown.session_of}
use Rattle.mm_debug.proofs.Runs.{run_begins, run_over, run_ends, run_breaks, run_watches, run_goes, passes_later}
use Rattle.mm_debug.proofs.Runs.{seen_after}
use Rattle.mm_debug.proofs.session.Session.run.Goals.{else-begun-via-then-begun+else-stops_before}
use Rattle.mm_debug.proofs.session.Session.run.Goals.{else-begun-via-else-begun}
use Rattle.mm_debug.specs.declared.stop.StopReason.TheVariants as stop
use Rattle.mm_debug.proofs.session.Session.run.Goals as goal

pub loop-init : goal.loop-init
loop-init g c = run_begins (session_of c.args.self.now) c.cycles-counter.result c.cycles-counter.ensures

pub returns-in_default : goal.returns-in_default
returns-in_default g c = c.loop.invariant ∙ run_ends c.loop.begun (session_of c.loop.self) (1000000 - c.loop.counter) c.in_default.ensures

pub returns-then-stops_before : goal.returns-then-stops_before
returns-then-stops_before g c =
    let s = session_of c.loop.self in
    c.loop.invariant
    ∙ run_breaks c.loop.begun s c.in-Some.item (1000000 - c.loop.counter) (1000000 - (c.loop.counter + 1)) c.in-Some.ensures (omega arith)
    c.if-begun.true c.if-stops_before.ensures

pub returns-in-Some-watched : goal.returns-in-Some-watched
returns-in-Some-watched g c =
    let s = session_of c.loop.self in
    let item = c.in-Some.item in
    let stops = stops_before s item in
    let passes : (c.loop.begun && stops) ≡ false = elim c.else-begun.branch [
      | else-begun-via-then-begun+else-stops_before w ↦ passes_later c.loop.begun stops w.if-begun.true w.if-stops_before.ensures
      | else-begun-via-else-begun w ↦ and_left c.loop.begun stops w.if-begun.false
    ] in
    c.loop.invariant
    ∙ run_watches c.loop.begun s item (1000000 - c.loop.counter) (1000000 - (c.loop.counter + 1)) c.in-Some.ensures (omega arith)
    c.in-Some-watched.word passes
    (seen_after s (session_of c.issue-step.new.self) item c.issue-step.result (Some c.in-Some-watched.word) c.issue-step.ensures.session c.issue-step.ensures.step
    c.in-Some-watched.ensures)
    ∙ ap (λ (t : Session). stopped t (stop.Watch c.in-Some-watched.word)) (sym c.issue-step.ensures.session)

pub loop-preserved : goal.loop-preserved
loop-preserved g c =
    let s = session_of c.loop.self in
    let item = c.in-Some.item in
    let stops = stops_before s item in
    let less = 1000000 - (c.loop.counter + 1) in
    let passes : (c.loop.begun && stops) ≡ false = elim c.else-begun.branch [
      | else-begun-via-then-begun+else-stops_before w ↦ passes_later c.loop.begun stops w.if-begun.true w.if-stops_before.ensures
      | else-begun-via-else-begun w ↦ and_left c.loop.begun stops w.if-begun.false
    ] in
    c.loop.invariant
    ∙ run_goes c.loop.begun s item (1000000 - c.loop.counter) less c.in-Some.ensures (omega arith) passes
    (seen_after s (session_of c.issue-step.new.self) item c.issue-step.result None c.issue-step.ensures.session c.issue-step.ensures.step c.in_default-watched.ensures)
    ∙ ap (λ (t : Session). run_from true t less) (sym c.issue-step.ensures.session)

pub returns : goal.returns
returns g c = c.loop.invariant ∙ run_over c.loop.begun (session_of c.loop.self) (1000000 - c.loop.counter) (omega arith)
