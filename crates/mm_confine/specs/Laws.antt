-- A kernel that keeps its segments confines each group, and grants nothing of its own.
use Rattle.std.specs.{Prelude.{ℕ, List}, List.AllByRecursion}
use Rattle.mm_word.specs.{declared.word.Word.TheVariants.Ptr, Pointer.Pointer}
use Rattle.mm_model.specs.{Image.{Image, start}, Spelling.IsImage, State.State, Run.{turn_of, run}, Trace.{touches, group_in}}
use Rattle.mm_kernel.specs.{Segments.Segment, Derived.Keeps, Variants.IsShared}
use Rattle.mm_confine.specs.{declared.party.Party.Party, Grants.{Granted, Line.Holds}, Reach.IsConfined}

-- each access of the turn of any next item is confined to what the group of its slot reaches, and to what stands behind
-- the group's doors and slots
abbrev pub TurnsAreConfined : Image → List Segment → State → Type 0
TurnsAreConfined i kept s = (n : ℕ) → AllByRecursion (IsConfined i kept (group_in (turn_of s n))) (touches (turn_of s n).step)

-- After every list of items, a kernel that keeps its segments confines each group.
abbrev pub KernelsConfine : Type 0
KernelsConfine = (i : Image) (kept : List Segment) (items : List ℕ) → IsImage i → Keeps i kept
    → TurnsAreConfined i kept (run (start i) items)

-- Each pointer that a party holds is one that callers may share: it is open, and if it is a door, the door is derived. So
-- nothing is granted that loads, stores or runs code in the kept segments but by a derived door.
abbrev pub GrantedIsOpen : Type 0
GrantedIsOpen = (i : Image) (kept : List Segment) (x : Party) (q : Pointer) → IsImage i → Keeps i kept
    → Granted i kept (Holds x q) → IsShared i kept (Ptr q)
