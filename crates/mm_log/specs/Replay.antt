-- The state that results when the lines of a log are carried out on a state.
use Rattle.std.specs.Prelude.{ℕ, Bool, true, false, ◌==◌, if◌then◌else◌, List, [], ◌∷◌, ◌++◌, map, slice_set}
use Rattle.mm_word.specs.declared.word.Word.{Word, TheVariants.Int}
use Rattle.mm_model.specs.declared.{slot.Pending.Pending, event.Event.Event}
use Rattle.mm_model.specs.declared.step.Tick.{Tick, TheVariants.{Did, Blocked, Faulted}}
use Rattle.mm_model.specs.{Memory.{put_cell, map_page, unmap_page}, Slot.{Slot, is_empty}}
use Rattle.mm_model.specs.State.{State, at_number, output_of, put_output}
use Rattle.mm_log.specs.Lines.{Line}
use Rattle.mm_log.specs.Lines.Line.{Traced, Points, Enters, Holds, Empties, Issues, Queues, Reads, Puts, Maps, Removes}
use Rattle.mm_log.specs.Lines.Line.{Sets}

-- 1. Changes of one slot.

-- pending loads without the first one for a register
abbrev pub without_load : ℕ → List Pending → List Pending
without_load r [] = []
without_load r (p ∷ loads) = if p.reg == r then loads else p ∷ without_load r loads

-- a register holds a word; if it waited for a load, that load is no longer pending
abbrev pub holding : ℕ → Word → Slot → Slot
holding r w s = record s {
  regs = slice_set s.regs r w;
  empty = slice_set s.empty r false;
  pending = if is_empty s r then without_load r s.pending else s.pending;
}

-- a register waits for a load, and reads as integer 0
abbrev pub emptied : ℕ → Slot → Slot
emptied r s = record s { regs = slice_set s.regs r (Int 0); empty = slice_set s.empty r true }

-- whether a cycle with this end is a turn of its slot
abbrev pub is_turn : Tick → Bool
is_turn Did = true
is_turn Blocked = true
is_turn (Faulted c) = true
is_turn _ = false

abbrev pub with_turns : Bool → ℕ → Slot → Slot
with_turns true turns s = record s { turns = turns }
with_turns false turns s = s

-- 2. Changes of a state.

-- a state with the slot of this number changed
abbrev pub on_slot : State → ℕ → (Slot → Slot) → State
on_slot s n change = record s {
  core = record s.core { rows = map (at_number n (λ row. record row { slot = change row.slot })) s.core.rows };
}

-- a state with the queue of this number changed
abbrev pub on_queue : State → ℕ → (List Event → List Event) → State
on_queue s n change = record s {
  core = record s.core { rows = map (at_number n (λ row. record row { queue = change row.queue })) s.core.rows };
}

abbrev pub without_first : List Event → List Event
without_first [] = []
without_first (e ∷ events) = events

-- the state after a line is carried out
unfoldable pub carry_out : State → Line → State
carry_out s (Traced turns step) = on_slot s step.slot (with_turns (is_turn step.tick) turns)
carry_out s (Points n p b) = on_slot s n (λ x. record x { ip = p; past = b })
carry_out s (Enters n st) = on_slot s n (λ x. record x { state = st })
carry_out s (Holds n r w) = on_slot s n (holding r w)
carry_out s (Empties n r) = on_slot s n (emptied r)
carry_out s (Issues n load) = on_slot s n (λ x. record x { pending = x.pending ++ load ∷ [] })
carry_out s (Queues h e) = on_queue s h (λ events. events ++ e ∷ [])
carry_out s (Reads h) = on_queue s h without_first
carry_out s (Puts g b) = record s { core = put_output s.core g (output_of s.core g ++ b ∷ []) }
carry_out s (Maps p) = record s { memory = map_page s.memory p }
carry_out s (Removes p) = record s { memory = unmap_page s.memory p }
carry_out s (Sets w c) = record s { memory = put_cell s.memory w c }

-- the state after lines are carried out in their order
unfoldable pub replay : State → List Line → State
replay s [] = s
replay s (line ∷ lines) = replay (carry_out s line) lines
