use Rattle.std.proofs.Common.{◌≡◌, ℕ, ◌+◌, ◌≤◌, drop, Some}
use Rattle.mm_checkpoint.specs.Checkpoints.{event_of, place_in}
use Rattle.mm_checkpoint.proofs.writing.event_of.Given as goal

-- what is sought in all events is sought in those that are left
abbrev pub invariant-loop-queue : goal.invariant-loop-queue
invariant-loop-queue l = record {
  few : l.place ≤ l.queue-index;
  event : event_of l.events l.number ≡ event_of (drop l.queue-index l.events) l.number;
  place : (h : ℕ) → l.handler ≡ Some h → place_in l.events h l.number ≡ l.place + place_in (drop l.queue-index l.events) h l.number;
}
