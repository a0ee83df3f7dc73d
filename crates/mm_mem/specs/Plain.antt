-- The value of a plain memory.
use Rattle.std.specs.Prelude.{ℕ}
use Rattle.mm_model.specs.Memory.{Memory}

-- a plain memory, as contracts see it
pub record Plain : Type 0 where
  pub memory : Memory
  -- the count of accesses that were made
  pub uses : ℕ
