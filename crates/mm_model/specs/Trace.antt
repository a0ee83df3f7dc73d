-- The trace of a run, and what it touches and enters.
use Rattle.std.specs.Prelude.{ℕ, Bool, true, List, [], ◌∷◌, ◌++◌, if◌then◌else◌, codes, decimal, Option, Some, None}
use Rattle.std.specs.Option.{option_to_list}
use Rattle.mm_word.specs.declared.perm.Kind.{Kind, TheVariants.{Fetch, Load, LoadSet, Store}}
use Rattle.mm_word.specs.{declared.word.Word.TheVariants.Ptr, Access.AccessValue, Cause.number_of, Pointer.Pointer}
use Rattle.mm_model.specs.declared.step.{Step.Step, Tick.{Tick, TheVariants.{Idle, Blocked, Did, Faulted, Delivered}}}
use Rattle.mm_model.specs.{Digits.hex, Lines.{newline, word_text}, Slot.Slot, State.{State, slot_at}, Turn.Turned}
use Rattle.mm_model.specs.Run.{turn_of, after}

-- 1. The lines.

-- the text of the kind of an access
abbrev pub kind_text : Kind → List ℕ
kind_text Fetch = codes " fetch "
kind_text Load = codes " load "
kind_text LoadSet = codes " loadset "
kind_text Store = codes " store "

abbrev pub touch_text : Option AccessValue → List ℕ
touch_text None = []
touch_text (Some t) = kind_text t.kind ++ hex 14 t.addr

abbrev pub enter_text : Option Pointer → List ℕ
enter_text None = []
enter_text (Some e) = codes " enter " ++ word_text (Ptr e)

-- the line of a turn: `t`, the slot, the number of its turn, how that ended, and what it touched
-- and entered
abbrev pub turn_line : ℕ → Step → List ℕ → List ℕ
turn_line turns step outcome =
    codes "t " ++ decimal step.slot ++ codes " " ++ decimal turns ++ codes " " ++ outcome ++ touch_text step.fetched
    ++ touch_text step.touched ++ enter_text step.entered ++ newline

-- the line of a step, with its slot's count of turns after it; none if the cycle is idle
unfoldable pub step_line : ℕ → Step → Tick → List ℕ
step_line turns step Idle = []
step_line turns step Did = turn_line turns step (codes "did")
step_line turns step Blocked = turn_line turns step (codes "blocked")
step_line turns step (Faulted cause) = turn_line turns step (codes "faulted " ++ decimal (number_of cause))
step_line turns step (Delivered reg) = codes "m " ++ decimal step.slot ++ codes " " ++ decimal reg ++ newline

abbrev pub turns_of : Option Slot → ℕ
turns_of None = 0
turns_of (Some s) = s.turns

abbrev pub trace_line : Turned → List ℕ
trace_line t = step_line (turns_of (slot_at t.core t.step.slot)) t.step t.step.tick

-- the lines of the turns that pass a test
unfoldable pub traced : (Turned → Bool) → State → List ℕ → List ℕ
traced passes s [] = []
traced passes s (n ∷ items) =
    (if passes (turn_of s n) then trace_line (turn_of s n) else []) ++ traced passes (after s n) items

-- the lines of a run
unfoldable pub trace : State → List ℕ → List ℕ
trace s items = traced (λ _. true) s items

-- 2. Touches and entries.

-- the accesses of a step: its fetch, and then what it touched
abbrev pub touches : Step → List AccessValue
touches step = option_to_list step.fetched ++ option_to_list step.touched

abbrev pub group_of : Option Slot → ℕ
group_of None = 0
group_of (Some s) = s.group

-- the group of the slot that a turn is about
abbrev pub group_in : Turned → ℕ
group_in t = group_of (slot_at t.core t.step.slot)

-- the group and the enter pointer of an entry that a turn made
abbrev pub done_entry : Turned → Option Pointer → List (ℕ × Pointer)
done_entry t None = []
done_entry t (Some e) = (group_in t, e) ∷ []

-- the entries that a run made, in order
unfoldable pub entries : State → List ℕ → List (ℕ × Pointer)
entries s [] = []
entries s (n ∷ items) = done_entry (turn_of s n) (turn_of s n).step.entered ++ entries (after s n) items
