use Rattle.std.proofs.Common.{◌≡◌, ◌-◌}
use Rattle.mm_debug.specs.{Session.stepped, Shown.session_of}
use Rattle.mm_debug.proofs.session.Session.step.Given as goal

-- the cycles that are left lead where all of them do
abbrev pub invariant-loop : goal.invariant-loop
invariant-loop g l = stepped (session_of l.initial.self) l.count ≡ stepped (session_of l.self) (l.count - l.counter)
