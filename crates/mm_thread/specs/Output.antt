-- The output of a group.
use Rattle.std.specs.Prelude.{ℕ, List}

pub record Output : Type 0 where
  pub group : ℕ
  -- the bytes, oldest first
  pub bytes : List ℕ
