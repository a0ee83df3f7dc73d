-- The parts that are copied of a state.
use Rattle.std.specs.{Prelude.{◌≡◌, ℕ, ◌<◌, true, List}, List.{AllByRecursion, Sorted.IsStrictlyIncreasing}}
use Rattle.mm_word.specs.declared.word.Cell.{Cell}
use Rattle.mm_model.specs.{Memory.{Memory, page_at}, Slot.Slot, State.Core, Groups.has_group, Report.cells_or_zero}
use Rattle.mm_thread.specs.Output.{Output}
use Rattle.mm_machine.specs.Snapshot.{groups_of, has_output, IsOutputOf}

-- the cells of a page; zeros if it is not mapped
abbrev pub cells_of : Memory → ℕ → List Cell
cells_of m number = cells_or_zero (page_at m number)

-- the outputs of the groups below `n` that have a slot
pub record OutputsBelow (core : Core) (slots : List Slot) (n : ℕ) (outputs : List Output) : Type 0 where
  pub rising : IsStrictlyIncreasing (groups_of outputs)
  pub low : AllByRecursion (λ (o : Output). o.group < n) outputs
  pub used : AllByRecursion (λ (o : Output). has_group slots o.group ≡ true) outputs
  pub shown : (g : ℕ) → g < n → has_group slots g ≡ true → has_output outputs g ≡ true
  pub said : AllByRecursion (IsOutputOf core) outputs
