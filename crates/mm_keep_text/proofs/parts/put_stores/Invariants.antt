use Rattle.std.{proofs.Common.{◌≡◌, ◌⊎◌, take}, specs.Prelude.Contains}
use Rattle.mm_keep_text.specs.Parts.{AreAll, Use, SomeIs, IsStore}
use Rattle.mm_keep_text.proofs.parts.put_stores.Given as goal

abbrev pub invariant-loop-outcome : goal.invariant-loop-outcome
invariant-loop-outcome l =
    AreAll (λ (u : Use). Contains l.fn.uses.keys u ⊎ ((u.0 ≡ l.origin) × SomeIs IsStore (take l.outcome-index l.outcomes) u.1)) l.uses.keys
