-- The differences between two successive states, as lines.
use Rattle.std.specs.Prelude.{ℕ, ◌*◌, Bool, true, false, ◌&&◌, ◌==◌, nat_lt, if◌then◌else◌, List, [], ◌∷◌, ◌++◌, length}
use Rattle.std.specs.{Prelude.{drop, map, Option, Some, None}, List.{flat_map, range_with_len}}
use Rattle.mm_word.specs.{declared.word.{Word.TheVariants.Ptr, Cell.Cell}, Cause.number_of}
use Rattle.mm_model.specs.declared.slot.SlotState.{SlotState, TheVariants.{Running, Waiting, Taken, Halted}}
use Rattle.mm_model.specs.{Memory.{Memory, page_at, is_mapped}, Effect.same_word, Report.{same_bit, changes_from}}
use Rattle.mm_model.specs.{Slot.{Slot, register, is_empty}, State.{Core, State, slot_at, queue_at, output_of}}
use Rattle.mm_log.specs.Lines.{Line}
use Rattle.mm_log.specs.Lines.Line.{Points, Enters, Holds, Empties, Issues, Queues, Reads, Puts, Maps, Removes, Sets}

-- 1. A slot.

-- the line of the instruction pointer, if the pointer or `past` changed
abbrev pub pointer_changes : Slot → Slot → List Line
pointer_changes was now =
    if same_word (Ptr was.ip) (Ptr now.ip) && same_bit was.past now.past then [] else Points now.number now.ip now.past
    ∷ []

abbrev pub same_state : SlotState → SlotState → Bool
same_state Running Running = true
same_state Waiting Waiting = true
same_state Taken Taken = true
same_state (Halted None) (Halted None) = true
same_state (Halted (Some a)) (Halted (Some b)) = number_of a == number_of b
same_state _ _ = false

abbrev pub state_changes : Slot → Slot → List Line
state_changes was now = if same_state was.state now.state then [] else Enters now.number now.state ∷ []

abbrev pub register_now : Slot → ℕ → Line
register_now now r = if is_empty now r then Empties now.number r else Holds now.number r (register now r)

-- the line of a register, if its word changed or it began or ended a wait for a load
abbrev pub register_changes : Slot → Slot → ℕ → List Line
register_changes was now r =
    if same_word (register was r) (register now r) && same_bit (is_empty was r) (is_empty now r) then []
    else register_now now r ∷ []

-- the pending loads that were added to a slot
abbrev pub load_changes : Slot → Slot → List Line
load_changes was now = map (Issues now.number) (drop (length was.pending) now.pending)

unfoldable pub slot_changes : Slot → Slot → List Line
slot_changes was now =
    pointer_changes was now ++ state_changes was now ++ flat_map (register_changes was now) (range_with_len 0 16)
    ++ load_changes was now

abbrev pub changes_between : Option Slot → Option Slot → List Line
changes_between (Some was) (Some now) = slot_changes was now
changes_between _ _ = []

-- the lines for each number of a slot or group, ascending
abbrev pub each_number : (ℕ → List Line) → List Line
each_number f = flat_map f (range_with_len 0 64)

abbrev pub slots_changed : Core → Core → List Line
slots_changed was now = each_number (λ n. changes_between (slot_at was n) (slot_at now n))

-- 2. Queues and outputs.

-- the events that were added to a handler's queue
abbrev pub queued_at : Core → Core → ℕ → List Line
queued_at was now h = map (Queues h) (drop (length (queue_at was h)) (queue_at now h))

-- the read of a queue's first event, if the queue is shorter now
abbrev pub read_at : Core → Core → ℕ → List Line
read_at was now h = if nat_lt (length (queue_at now h)) (length (queue_at was h)) then Reads h ∷ [] else []

-- the bytes that a group put out
abbrev pub put_out_by : Core → Core → ℕ → List Line
put_out_by was now g = map (Puts g) (drop (length (output_of was g)) (output_of now g))

-- 3. Memory.

-- the pages that were mapped
abbrev pub pages_mapped : Memory → Memory → List Line
pages_mapped was now = flat_map (λ page. if is_mapped was page.0 then [] else Maps page.0 ∷ []) now.pages

-- the pages that were removed
abbrev pub pages_removed : Memory → Memory → List Line
pages_removed was now = flat_map (λ page. if is_mapped now page.0 then [] else Removes page.0 ∷ []) was.pages

-- the changed cells of a page that was mapped before
abbrev pub cells_changed_in : Option (List Cell) → ℕ × List Cell → List Line
cells_changed_in None page = []
cells_changed_in (Some was) page = map (λ c. Sets c.0 c.1) (changes_from (page.0 * 4096) page.1 was)

abbrev pub cells_changed : Memory → Memory → List Line
cells_changed was now = flat_map (λ page. cells_changed_in (page_at was page.0) page) now.pages

-- 4. All differences, in the order of the log.
unfoldable pub changes : State → State → List Line
changes was now =
    slots_changed was.core now.core ++ each_number (queued_at was.core now.core)
    ++ each_number (read_at was.core now.core) ++ each_number (put_out_by was.core now.core)
    ++ pages_mapped was.memory now.memory ++ pages_removed was.memory now.memory
    ++ cells_changed was.memory now.memory
