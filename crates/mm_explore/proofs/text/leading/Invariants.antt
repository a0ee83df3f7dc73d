use Rattle.std.{proofs.Common.{◌≡◌, ◌==◌, ◌+◌, drop}, specs.List.prefix_len}
use Rattle.mm_explore.proofs.text.leading.Given as goal

abbrev pub invariant-loop-at : goal.invariant-loop-at
invariant-loop-at l = l.at + prefix_len (λ x. x == l.item) (drop l.at l.items) ≡ prefix_len (λ x. x == l.item) l.items
