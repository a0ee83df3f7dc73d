-- One mark at a key.
use Rattle.std.specs.Prelude.{◌≡◌, ℕ, ◌<◌, ◌⊎◌, List, length}
use Rattle.mm_flow.specs.Flow.{Has}
use Rattle.mm_graph.specs.{declared.{canonical_ptr.CanonicalPtr.CanonicalPtr, seed.Seed.Seed}, Key.key_at}

-- the group of the seed was marked at its key
pub record IsMark (keys : List CanonicalPtr) (s : Seed) (old new : List ℕ) : Type 0 where
  pub len : length new ≡ length old
  pub only : (k g : ℕ) → Has new k g → Has old k g ⊎ ((g < 64) × (s ≡ record { group = g; key = key_at keys k }))
  pub keeps : (k g : ℕ) → Has old k g → Has new k g
  pub each : (k : ℕ) → k < length keys → s.group < 64 → key_at keys k ≡ s.key → Has new k s.group
