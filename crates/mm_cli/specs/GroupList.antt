-- Lists of groups as the command line writes them.
use Rattle.std.specs.{Prelude.{ℕ, ◌<◌, ◌≤◌, List, length}, List.AllByRecursion}
use Rattle.mm_cli.specs.ItemList.{InOrder, AreInOrder, Follows}

abbrev pub IsGroup : ℕ → Type 0
IsGroup g = g < 64

abbrev pub IsBelow : ℕ → ℕ → Type 0
IsBelow g h = g < h

-- one or more groups, each below those after it
pub record AreGroups (groups : List ℕ) : Type 0 where
  pub some : 1 ≤ length groups
  pub ascending : InOrder IsBelow groups
  pub few : AllByRecursion IsGroup groups

-- the groups that were read so far
abbrev pub AreFirstGroups : List ℕ → Type 0
AreFirstGroups groups = AreInOrder IsBelow IsGroup groups

-- a group after those that were read so far
abbrev pub IsNextGroup : List ℕ → ℕ → Type 0
IsNextGroup groups g = Follows IsBelow IsGroup groups g
