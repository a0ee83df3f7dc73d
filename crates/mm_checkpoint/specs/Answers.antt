-- The answers of a reader of checkpoints.
use Rattle.std.specs.Prelude.{◌≡◌, ℕ}
use Rattle.mm_checkpoint.specs.declared.fault.SaveError.{SaveError, TheVariants.{Fault, NoMemory}}

-- the error is a fault at this place, unless memory ran out
abbrev pub FailsAt : ℕ → SaveError → Type 0
FailsAt offset (Fault at) = at ≡ offset
FailsAt offset NoMemory = Unit {0}
