use Rattle.std.proofs.Common.{◌≡◌, ℕ, length, None}
use Rattle.mm_why.specs.Works.{search_at}
use Rattle.mm_why.proofs.work.no_searches.Given as goal

abbrev pub invariant-loop-group : goal.invariant-loop-group
invariant-loop-group l = (length l.searches.items ≡ l.group) × ((h : ℕ) → search_at l.searches.items h ≡ None)
