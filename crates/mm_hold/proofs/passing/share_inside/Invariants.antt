use Rattle.std.proofs.Common.{◌⊎◌, ◌↔◌, ◌<◌, ◌^◌, ℕ}
use Rattle.std.specs.List.{AllByRecursion}
use Rattle.mm_confine.specs.declared.party.Party.{Party}
use Rattle.mm_hold.specs.Parties.{Shares}
use Rattle.mm_hold.proofs.Passes.{PassesAmong}
use Rattle.mm_hold.proofs.passing.share_inside.Given as goal

abbrev pub invariant-loop-stored : goal.invariant-loop-stored
invariant-loop-stored l = record {
  so_far : (y x : Party) → (Shares l.sharing y x ⊎ PassesAmong l.kernel.image l.kernel.kept l.keys l.marks l.stored-iterator l.conduct.loaded.keys y x)
      ↔ (Shares l.fn.sharing y x ⊎ PassesAmong l.kernel.image l.kernel.kept l.keys l.marks l.conduct.stored.keys l.conduct.loaded.keys y x);
  left : AllByRecursion (λ (u : ℕ × (ℕ × ℕ)). u.0 < 2 ^ 63) l.stored-iterator;
}
