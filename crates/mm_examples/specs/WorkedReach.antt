-- Worked examples of what groups can touch and write.
use Rattle.std.specs.Prelude.{ℕ, ◌==◌}
use Rattle.mm_model.specs.{Reach.{CanTouch, CanWrite, Entries.All}, Worlds.Apart}
use Rattle.mm_examples.specs.Images.{two_groups, one_pointer_too_many}

-- 1. Two groups that run the same code.

-- the first group can touch the first word of its code
abbrev pub TouchesItsCode : Type 0
TouchesItsCode = CanTouch two_groups All 0 0x100000

-- no group can write any word
abbrev pub NoGroupWrites : Type 0
NoGroupWrites = (g w : ℕ) → ¬ CanWrite two_groups All g w

-- the first group cannot write the code
abbrev pub WritesNoCode : Type 0
WritesNoCode = ¬ CanWrite two_groups All 0 0x100000

-- the first group stands apart from the second
abbrev pub TwoGroupsStandApart : Type 0
TwoGroupsStandApart = Apart two_groups All (λ g. g == 0)

-- 2. The second group may store where the first one can load.

-- the first group can write all that the second can, since the second may pass its pointer on
abbrev pub BothCanWrite : Type 0
BothCanWrite = CanWrite one_pointer_too_many All 0 0x100018 × CanWrite one_pointer_too_many All 1 0x100018

-- neither group stands apart from the other
abbrev pub NeitherStandsApart : Type 0
NeitherStandsApart = (¬ Apart one_pointer_too_many All (λ g. g == 0)) × (¬ Apart one_pointer_too_many All (λ g. g == 1))
