-- The lines of a commit log as data, and their texts.
use Rattle.std.specs.Prelude.{ℕ, Bool, List, ◌++◌, codes, decimal}
use Rattle.mm_word.specs.{declared.word.{Word.{Word, TheVariants.Ptr}, Cell.Cell}, Cause.number_of, Pointer.Pointer}
use Rattle.mm_model.specs.declared.{slot.{SlotState.SlotState, Pending.Pending}, event.Event.Event, step.Step.Step}
use Rattle.mm_model.specs.{Digits.hex, Lines.{newline, word_text, state_text, past_text, cell_line}, Trace.step_line}

pub data Line : Type 0 where
  -- the line of a cycle in a trace, and the number of turns that its slot has taken after it
  Traced : (turns : ℕ) (step : Step) → Line
  -- a slot's instruction pointer, and whether it is past its segment
  Points : (slot : ℕ) (ip : Pointer) (past : Bool) → Line
  -- a slot's state
  Enters : (slot : ℕ) (state : SlotState) → Line
  -- the word of a slot's register
  Holds : (slot : ℕ) (reg : ℕ) (word : Word) → Line
  -- a slot's register waits for a load
  Empties : (slot : ℕ) (reg : ℕ) → Line
  -- a load of a slot is pending
  Issues : (slot : ℕ) (load : Pending) → Line
  -- an event is queued at its handler
  Queues : (handler : ℕ) (event : Event) → Line
  -- the first event of a handler's queue is read
  Reads : (handler : ℕ) → Line
  -- a group puts out a byte
  Puts : (group : ℕ) (byte : ℕ) → Line
  -- a page is mapped
  Maps : (page : ℕ) → Line
  -- a page is removed
  Removes : (page : ℕ) → Line
  -- the cell of a word
  Sets : (word : ℕ) (cell : Cell) → Line

-- the prefix of a register's line, up to its word
abbrev pub register_text : ℕ → ℕ → List ℕ
register_text slot reg = codes "r " ++ decimal slot ++ codes " " ++ decimal reg ++ codes " "

-- the slot, cause, instruction pointer, address operand and data operand of an event
abbrev pub event_text : Event → List ℕ
event_text e =
    decimal e.slot ++ codes " " ++ decimal (number_of e.cause) ++ codes " " ++ word_text (Ptr e.ip) ++ codes " "
    ++ word_text e.addr_op ++ codes " " ++ word_text e.value_op

unfoldable pub line_text : Line → List ℕ
line_text (Traced turns step) = step_line turns step step.tick
line_text (Points slot ip past) = codes "ip " ++ decimal slot ++ codes " " ++ word_text (Ptr ip) ++ past_text past
line_text (Enters slot state) = codes "state " ++ decimal slot ++ codes " " ++ state_text state ++ newline
line_text (Holds slot reg word) = register_text slot reg ++ word_text word ++ newline
line_text (Empties slot reg) = register_text slot reg ++ codes "empty\n"
line_text (Issues slot load) =
    codes "load " ++ decimal slot ++ codes " " ++ decimal load.reg ++ codes " " ++ word_text load.word ++ newline
line_text (Queues handler event) = codes "event " ++ decimal handler ++ codes " " ++ event_text event ++ newline
line_text (Reads handler) = codes "taken " ++ decimal handler ++ newline
line_text (Puts group byte) = codes "out " ++ decimal group ++ codes " " ++ hex 2 byte ++ newline
line_text (Maps page) = codes "page " ++ hex 11 page ++ codes " new\n"
line_text (Removes page) = codes "page " ++ hex 11 page ++ codes " gone\n"
line_text (Sets word cell) = cell_line word cell
