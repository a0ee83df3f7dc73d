-- What is derived of a kernel: threads, forms of cells, doors, events, faulted threads and leaks.
use Rattle.std.specs.{Prelude.{ℕ, ◌&&◌, if◌then◌else◌, List, [], ◌∷◌, ◌++◌}, List.flat_map}
use Rattle.mm_word.specs.{Pointer.{Pointer as PointerValue}}
use Rattle.mm_model.specs.Image.{Image}
use Rattle.mm_kernel.specs.Segments.{Segment, is_door}
use Rattle.mm_kernel.specs.declared.fact.{Leak.{Leak, TheVariants.Loose}, Handling.Handling}
use Rattle.mm_kernel.specs.declared.form.Form.{Form, TheVariants.Pointer}
use Rattle.mm_kernel.specs.declared.thread.{Origin.{Origin, TheVariants.{Door, Slot as OfSlot}}, Thread.Thread}
use Rattle.mm_kernel.specs.{Forms.is_open_form, Threads.{is_free, is_kernel, serves_some}}

pub data Fact : Type 0 where
  HasThread : (thread : Thread) → Fact
  HasForm : (word : ℕ) (form : Form) → Fact
  HasDoor : (door : PointerValue) → Fact
  HasEvent : (handler : ℕ) (event : Handling) → Fact
  HasFaulted : (handler : ℕ) (thread : Thread) → Fact
  HasLeak : (leak : Leak) → Fact

-- to let out an open form: a door that it stands for can be entered
unfoldable pub let_out : List Segment → Form → List Fact
let_out kept (Pointer p) = if is_door kept p then HasDoor p ∷ [] else []
let_out kept _ = []

-- to hand out a form: it is let out if it is open, else that is a leak
unfoldable pub hand_out : List Segment → Form → Leak → List Fact
hand_out kept form leak = if is_open_form kept form then let_out kept form else HasLeak leak ∷ []

-- a slot of the kernel that serves others must not become free: all could see what it serves
abbrev pub loose : Image → List Segment → Origin → List Fact
loose i kept (Door door) = []
loose i kept (OfSlot n) = if is_kernel i kept n && serves_some i n then HasLeak (Loose n) ∷ [] else []

-- to take up a thread: it is looked at, unless it is free
unfoldable pub take_up : Image → List Segment → Thread → List Fact
take_up i kept t =
    if is_free kept t then flat_map (let_out kept) t.forms ++ loose i kept t.origin else HasThread t ∷ []
