-- Kernel slots and callers, and threads of the kernel's code.
use Rattle.std.specs.Prelude.{ℕ, Bool, true, false, not, ◌&&◌, ◌==◌, List, map, replicate, slice_index_or, slice_set}
use Rattle.std.specs.{Prelude.{Option, Some, None}, List.{list_all, list_any}}
use Rattle.mm_word.specs.Pointer.{Pointer}
use Rattle.mm_model.specs.{Slot.Slot, Image.Image, Effect.{advanced, runs_past}, Turn.{is_running, is_handler}}
use Rattle.mm_kernel.specs.Segments.{Segment, meets, is_open, running_slots}
use Rattle.mm_kernel.specs.declared.form.Form.{Form, TheVariants.Any}
use Rattle.mm_kernel.specs.declared.thread.Handler.{Handler, TheVariants.{Nobody, Kernel, Caller}}
use Rattle.mm_kernel.specs.declared.thread.{Origin.{TheVariants.{Door, Slot as OfSlot}}, Thread.Thread}
use Rattle.mm_kernel.specs.Forms.{exactly, is_open_form, zero_form}

-- 1. Slots.

-- a slot that runs by an open pointer, with open words alone
abbrev pub has_open_words : List Segment → Slot → Bool
has_open_words kept s = not (meets kept s.ip) && list_all (is_open kept) s.regs

-- a kernel slot: it runs, by a pointer that meets the kept segments, or with a word that is not open
abbrev pub is_kernel_slot : List Segment → Slot → Bool
is_kernel_slot kept s = is_running s.state && not (has_open_words kept s)

-- the number is that of a kernel slot
unfoldable pub is_kernel : Image → List Segment → ℕ → Bool
is_kernel i kept n = list_any (λ (s : Slot). (s.number == n) && is_kernel_slot kept s) i.slots

-- a running slot has its handler in the slot of a number
unfoldable pub serves_some : Image → ℕ → Bool
serves_some i n = list_any (λ (s : Slot). is_handler n s.handler) (running_slots i)

abbrev pub handler_as : ℕ → (is_kernel : Bool) → Handler
handler_as n true = Kernel n
handler_as n false = Caller

abbrev pub handler_of : Image → List Segment → Option ℕ → Handler
handler_of i kept None = Nobody
handler_of i kept (Some n) = handler_as n (is_kernel i kept n)

-- 2. Threads.

unfoldable pub form_in : Thread → ℕ → Form
form_in t r = slice_index_or t.forms r zero_form

unfoldable pub with_form : Thread → ℕ → Form → Thread
with_form t r f = record t { forms = slice_set t.forms r f }

-- the thread at its next instruction
unfoldable pub stepped : Thread → Thread
stepped t = record t { ip = advanced t.ip; past = runs_past t.ip }

-- the thread at another instruction
abbrev pub going_to : Thread → Pointer → Thread
going_to t p = record t { ip = p; past = false }

-- a free thread is outside of the kernel's code and has open words alone: what it does any caller could do
unfoldable pub is_free : List Segment → Thread → Bool
is_free kept t = not (meets kept t.ip) && list_all (is_open_form kept) t.forms

-- the thread of a slot's own words
abbrev pub own_thread : Image → List Segment → Slot → Thread
own_thread i kept s = record {
  origin = OfSlot s.number;
  handler = handler_of i kept s.handler;
  ip = s.ip;
  past = false;
  forms = map exactly s.regs;
}

-- the thread that comes through a door with any open words, in a slot with a handler
abbrev pub thread_through : Pointer → Pointer → Handler → Thread
thread_through door ip handler = record {
  origin = Door door;
  handler = handler;
  ip = ip;
  past = false;
  forms = replicate 16 Any;
}
