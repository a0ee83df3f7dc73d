use Rattle.std.proofs.Common.{◌≡◌, ◌-◌}
use Rattle.mm_debug.specs.{Session.{run_from, ran}, Shown.session_of}
use Rattle.mm_debug.proofs.session.Session.run.Given as goal

-- the run from here stops where the whole of it does
abbrev pub invariant-loop : goal.invariant-loop
invariant-loop g l = ran (session_of l.initial.self) ≡ run_from l.begun (session_of l.self) (1000000 - l.counter)
