use Rattle.std.{proofs.Common.{◌≡◌, ◌+◌, ◌-◌, ◌<◌, ◌≤◌, ◌^◌, length}, specs.Prelude.IfSome}
use Rattle.mm_machine.{specs.Machine.{state_of, ports_used}, proofs.Issuing.{IsAt, IsWatched}}
use Rattle.mm_machine.proofs.machine.Machine.issue.Given as goal

-- the count of cycles that were issued, and where the loop is
abbrev pub invariant-loop-at : goal.invariant-loop-at
invariant-loop-at g l = record {
  cycles : (state_of l.self).cycles + (length l.items + l.count - l.at) ≤ 2 ^ 32;
  slot : IfSome l.last (λ n. n < 64);
  issued : IsAt l.initial.self l.self l.items l.fn.previous l.count l.at l.last;
  watched : IsWatched g.W.Watch.tells g.W.Watch.looks l.initial.watch l.initial.self l.items l.count l.at l.watch;
  ports : ports_used l.self ≡ ports_used l.initial.self;
}
