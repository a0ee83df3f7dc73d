-- The answer of a session to a line, and the session after it.
use Rattle.std.specs.Prelude.{ℕ, zero, suc, ◌+◌, ◌-◌, ◌*◌, Bool, true, false, not, ◌&&◌, nat_lt, if◌then◌else◌, List}
use Rattle.std.specs.{Prelude.{[], ◌∷◌, ◌++◌, codes, decimal, Option, Some, None}, List.{flat_map, range_with_len}}
use Rattle.mm_word.specs.{declared.word.Cell.Cell, Access.AccessValue}
use Rattle.mm_model.specs.declared.step.Step.{Step as StepTaken}
use Rattle.mm_model.specs.declared.step.Tick.{Tick, TheVariants.{Idle, Blocked, Did, Faulted, Delivered}}
use Rattle.mm_model.specs.{Digits.hex, Limits.cycle_limit, Lines.{newline, slot_lines, cell_line}}
use Rattle.mm_model.specs.{Memory.{Memory, cell_at}, Slot.Slot, State.{State, slot_at}, Turn.is_running}
use Rattle.mm_model.specs.{Run.{turn_of, after}, Counted.writes}
use Rattle.mm_sched.specs.{declared.schedule.Order.Order, Orders.{item_in, last_after}}
use Rattle.mm_debug.specs.declared.command.Command.{Command}
use Rattle.mm_debug.specs.declared.command.Command.TheVariants.{Nothing, Step, Run, Break, Watch, Regs, Mem, Quit, Bad}
use Rattle.mm_debug.specs.declared.{breakpoints.{Break.{Break as Breakpoint}}, stop.StopReason.StopReason}
use Rattle.mm_debug.specs.{declared.session.Go.Go, Commands.{command_of, lines_of}}
use Rattle.mm_debug.specs.Breakpoints.{has_break, has_watch, fits, with_break, with_watch}
use Rattle.mm_debug.specs.declared.stop.StopReason.TheVariants as stop
use Rattle.mm_debug.specs.declared.session.Go.TheVariants as go

-- 1. Sessions.

-- The order of cycles, the last item that round robin issued, the state of the machine, and the breaks and watches.
pub record Session : Type 0 where
  pub order : Order
  pub last : Option ℕ
  pub state : State
  pub breaks : List Breakpoint
  pub watches : List ℕ

-- the count of cycles that were issued
abbrev pub total_of : Session → ℕ
total_of s = s.state.cycles

-- a session of a state, in which nothing was issued, without breaks and watches
abbrev pub begun : Order → State → Session
begun order state = record { order = order; last = None; state = state; breaks = []; watches = [] }

-- 2. Cycles.

-- the next item; none if the order or the limit has ended
unfoldable pub next_item : Session → Option ℕ
next_item s = if nat_lt (total_of s) cycle_limit then item_in s.order s.last s.state else None

-- the session after the cycle of an item
abbrev pub issued : Session → ℕ → Session
issued s item = record s { last = last_after s.order s.last item; state = after s.state item }

abbrev pub then_stepped : Session → Option ℕ → (ℕ → Session) → Session
then_stepped s None rest = s
then_stepped s (Some item) rest = rest item

-- the session after up to `count` cycles: fewer if the order or the limit ends
unfoldable pub stepped : Session → ℕ → Session
stepped s zero = s
stepped s (suc count) = then_stepped s (next_item s) (λ item. stepped (issued s item) count)

-- 3. Stops.

-- a slot that runs and is not past has a break at the address of its instruction pointer
abbrev pub breaks_for : List Breakpoint → ℕ → Option Slot → Bool
breaks_for breaks n None = false
breaks_for breaks n (Some x) = is_running x.state && not x.past && has_break breaks n x.ip.addr

-- the item names a slot that a break stops
abbrev pub stops_before : Session → ℕ → Bool
stops_before s item = breaks_for s.breaks item (slot_at s.state.core item)

abbrev pub is_done : Tick → Bool
is_done Did = true
is_done Idle = false
is_done Blocked = false
is_done (Faulted cause) = false
is_done (Delivered reg) = false

-- the watched word of an access that may set the cell's bit
abbrev pub watched_by : List ℕ → Option AccessValue → Option ℕ
watched_by watches None = None
watched_by watches (Some t) = if writes t.kind && has_watch watches t.addr then Some t.addr else None

-- the watched word on which a cycle did a Store or a LoadSet
abbrev pub watched : List ℕ → StepTaken → Option ℕ
watched watches step = if is_done step.tick then watched_by watches step.touched else None

-- the watched word on which the cycle of an item does a Store or a LoadSet
abbrev pub stops_after : Session → ℕ → Option ℕ
stops_after s item = watched s.watches (turn_of s.state item).step

-- The session when a run stops, and why it stops.
pub record Ran : Type 0 where
  pub session : Session
  pub stop : StopReason

abbrev pub stopped : Session → StopReason → Ran
stopped s why = record { session = s; stop = why }

-- the run after a cycle was issued: it stops if a watched word stops it
abbrev pub after_cycle : Session → Option ℕ → Ran → Ran
after_cycle s (Some word) rest = stopped s (stop.Watch word)
after_cycle s None rest = rest

-- the run before the cycle of an item: a break stops it if the run has already issued a cycle
abbrev pub before_cycle : (begun : Bool) → Session → Option ℕ → (ℕ → Ran) → Ran
before_cycle begun s None rest = stopped s stop.End
before_cycle begun s (Some item) rest = if begun && stops_before s item then stopped s (stop.Break item) else rest item

-- the run of a session with `left` cycles left below the limit; `begun` says whether it has issued one
unfoldable pub run_from : (begun : Bool) → Session → (left : ℕ) → Ran
run_from begun s zero = stopped s stop.End
run_from begun s (suc left) =
    before_cycle begun s (next_item s)
    (λ item. after_cycle (issued s item) (stops_after s item) (run_from true (issued s item) left))

-- the run of a session to its first stop
unfoldable pub ran : Session → Ran
ran s = run_from false s (cycle_limit - total_of s)

-- 4. Replies.

abbrev pub stepped_text : (count total : ℕ) → List ℕ
stepped_text count total = codes "stepped " ++ decimal count ++ codes " total " ++ decimal total ++ newline

abbrev pub stop_text : StopReason → (total : ℕ) → List ℕ
stop_text stop.End total = codes "stopped end " ++ decimal total ++ newline
stop_text (stop.Break slot) total = codes "stopped break " ++ decimal slot ++ codes " " ++ decimal total ++ newline
stop_text (stop.Watch word) total = codes "stopped watch " ++ hex 14 word ++ codes " " ++ decimal total ++ newline

abbrev pub break_text : Bool → List ℕ
break_text true = codes "break set\n"
break_text false = codes "break full\n"

abbrev pub watch_text : Bool → List ℕ
watch_text true = codes "watch set\n"
watch_text false = codes "watch full\n"

abbrev pub slot_text : Option Slot → List ℕ
slot_text None = codes "no slot\n"
slot_text (Some x) = slot_lines x

abbrev pub word_line : ℕ → Option Cell → List ℕ
word_line word None = codes "none " ++ hex 14 word ++ newline
word_line word (Some c) = cell_line word c

-- a line for each of `count` words from a word on
abbrev pub memory_text : Memory → ℕ → ℕ → List ℕ
memory_text m word count = flat_map (λ k. word_line (word + 8 * k) (cell_at m (word + 8 * k))) (range_with_len 0 count)

-- The reply, the session afterwards, and whether another line may follow.
pub record Answer : Type 0 where
  pub reply : List ℕ
  pub session : Session
  pub go : Go

abbrev pub replies : List ℕ → Session → Answer
replies reply session = record { reply = reply; session = session; go = go.More }

-- the answer to a command
unfoldable pub answer : Session → Command → Answer
answer s Nothing = replies [] s
answer s (Step count) = let t = stepped s count in replies (stepped_text (total_of t - total_of s) (total_of t)) t
answer s Run = let r = ran s in replies (stop_text r.stop (total_of r.session)) r.session
answer s (Break slot address) =
    replies (break_text (fits (has_break s.breaks slot address) s.breaks))
    (record s { breaks = with_break s.breaks (record { slot = slot; address = address }) })
answer s (Watch word) =
    replies (watch_text (fits (has_watch s.watches word) s.watches)) (record s { watches = with_watch s.watches word })
answer s (Regs slot) = replies (slot_text (slot_at s.state.core slot)) s
answer s (Mem word count) = replies (memory_text s.state.memory word count) s
answer s Quit = record { reply = codes "bye\n"; session = s; go = go.Quit }
answer s Bad = replies (codes "bad command\n") s

-- the answer to a line
abbrev pub answer_to : Session → List ℕ → Answer
answer_to s line = answer s (command_of line)

-- 5. Many lines.

-- The replies to lines, and the session afterwards.
pub record Dialogue : Type 0 where
  pub text : List ℕ
  pub session : Session

abbrev pub after_answer : Answer → Go → (Session → Dialogue) → Dialogue
after_answer a go.Quit rest = record { text = a.reply; session = a.session }
after_answer a go.More rest = record { text = a.reply ++ (rest a.session).text; session = (rest a.session).session }

-- the replies to lines, of which each has this answer; no line after a `quit` is carried out
unfoldable pub dialogue_by : (Session → List ℕ → Answer) → Session → List (List ℕ) → Dialogue
dialogue_by answers s [] = record { text = []; session = s }
dialogue_by answers s (line ∷ lines) =
    after_answer (answers s line) (answers s line).go (λ t. dialogue_by answers t lines)

-- the replies of a session to lines
abbrev pub dialogue : Session → List (List ℕ) → Dialogue
dialogue s lines = dialogue_by answer_to s lines

-- the replies of a session to an input
abbrev pub debugged : Session → List ℕ → Dialogue
debugged s input = dialogue s (lines_of input)
