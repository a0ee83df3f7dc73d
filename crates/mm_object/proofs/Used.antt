-- Which externals are targets, in a table.
use Rattle.std.proofs.{Common.{ℕ, Bool, false, List, [], ◌++◌, replicate, append-nil}, lemmas.List.get_or-replicate}
use Rattle.mm_object.specs.{declared.target.Target.Target, Fits.HoldsUses}

pub none_yet : (segments : ℕ) → HoldsUses (replicate 1024 false) segments []
none_yet segments i below = get_or-replicate 1024 i false false below

-- no target more
pub no_more : (used : List Bool) (segments : ℕ) (before : List Target) → HoldsUses used segments before → HoldsUses used segments (before ++ [])
no_more used segments before holds = rw append-nil holds
