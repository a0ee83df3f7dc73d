-- Threads, forms, events and leaks as numbers: by these the tables of a search compare and hash them. Each is read from
-- its numbers again.
use Rattle.std.specs.Prelude.{ℕ, ◌*◌, ◌%◌, ◌^◌, Bool, true, false, ◌==◌, if◌then◌else◌, unwrap_or, ◌≡◌, List, [], ◌∷◌}
use Rattle.std.specs.{Prelude.{map, slice_index_or}, List.AllByRecursion}
use Rattle.mm_word.specs.{declared.perm.Perm.TheVariants.Key, Perm.{code_of, perm_of}}
use Rattle.mm_word.specs.Pointer.{Pointer as PointerValue, bits_of, pointer_of, spells_pointer}
use Rattle.mm_isa.specs.declared.instr.How.{How, TheVariants.{Retry, Skip, Kill}}
use Rattle.mm_kernel.specs.declared.fact.{Leak.Leak, Handling.Handling}
use Rattle.mm_kernel.specs.declared.form.Form.{Form, TheVariants.{Number, Pointer, Integer, Open, Any, Inside}}
use Rattle.mm_kernel.specs.declared.thread.Handler.{Handler, TheVariants.{Nobody, Kernel, Caller}}
use Rattle.mm_kernel.specs.declared.thread.{Origin.{Origin, TheVariants.{Door, Slot as OfSlot}}, Thread.Thread}
use Rattle.mm_kernel.specs.declared.fact.Leak.TheVariants as leak

-- 1. What numbers say.

-- two numbers: a kind and a value
abbrev pub kind_in : List ℕ → ℕ
kind_in n = slice_index_or n 0 0

abbrev pub value_in : List ℕ → ℕ
value_in n = slice_index_or n 1 0

-- the pointer that bits spell; some key, if they spell none
abbrev pub pointer_in : ℕ → PointerValue
pointer_in bits = if spells_pointer bits then pointer_of bits else pointer_of (7 * 2 ^ 60)

abbrev pub form_by : ℕ → ℕ → Form
form_by kind value =
    if kind == 0 then Number value
    else if kind == 1 then Pointer (pointer_in value)
    else if kind == 2 then Integer
    else if kind == 3 then Open (unwrap_or (perm_of value) Key)
    else if kind == 4 then Any
    else Inside (pointer_in value)

abbrev pub form_of : List ℕ → Form
form_of n = form_by (kind_in n) (value_in n)

abbrev pub origin_by : ℕ → ℕ → Origin
origin_by kind value = if kind == 0 then Door (pointer_in value) else OfSlot (value % 256)

abbrev pub handler_by : ℕ → ℕ → Handler
handler_by kind value = if kind == 0 then Nobody else if kind == 1 then Kernel (value % 256) else Caller

-- a row: origin, handler, and instruction pointer with whether it is past; and the forms
abbrev pub Row : Type 0
Row = List (List ℕ) × List (List ℕ)

abbrev pub at_place : List (List ℕ) → ℕ → List ℕ
at_place head k = slice_index_or head k []

unfoldable pub thread_of : Row → Thread
thread_of row = record {
  origin = origin_by (kind_in (at_place row.0 0)) (value_in (at_place row.0 0));
  handler = handler_by (kind_in (at_place row.0 1)) (value_in (at_place row.0 1));
  ip = pointer_in (kind_in (at_place row.0 2));
  past = value_in (at_place row.0 2) == 1;
  forms = map form_of row.1;
}

abbrev pub how_by : ℕ → How
how_by n = if n == 0 then Retry else if n == 1 then Skip else Kill

-- 2. The numbers.

abbrev pub numbers_of_form : Form → List ℕ
numbers_of_form (Number bits) = 0 ∷ bits ∷ []
numbers_of_form (Pointer p) = 1 ∷ bits_of p ∷ []
numbers_of_form Integer = 2 ∷ 0 ∷ []
numbers_of_form (Open perm) = 3 ∷ code_of perm ∷ []
numbers_of_form Any = 4 ∷ 0 ∷ []
numbers_of_form (Inside p) = 5 ∷ bits_of p ∷ []

abbrev pub numbers_of_origin : Origin → List ℕ
numbers_of_origin (Door door) = 0 ∷ bits_of door ∷ []
numbers_of_origin (OfSlot n) = 1 ∷ n ∷ []

abbrev pub numbers_of_handler : Handler → List ℕ
numbers_of_handler Nobody = 0 ∷ 0 ∷ []
numbers_of_handler (Kernel n) = 1 ∷ n ∷ []
numbers_of_handler Caller = 2 ∷ 0 ∷ []

abbrev pub flag : Bool → ℕ
flag true = 1
flag false = 0

unfoldable pub numbers_of : Thread → Row
numbers_of t = (
  numbers_of_origin t.origin ∷ numbers_of_handler t.handler ∷ (bits_of t.ip ∷ flag t.past ∷ []) ∷ [],
  map numbers_of_form t.forms,
)

-- a row is the numbers of the thread that is read from it
abbrev pub IsKey : Row → Type 0
IsKey row = numbers_of (thread_of row) ≡ row

pub record AreKeyed (rows : List Row) : Type 0 where
  pub each : AllByRecursion IsKey rows

-- 3. The other rows.

abbrev pub word_and_form : ℕ × List ℕ → ℕ × Form
word_and_form row = (row.0, form_of row.1)

abbrev pub slot_and_event : ℕ × List ℕ × List ℕ × List ℕ → ℕ × Handling
slot_and_event row = (row.0, record { ip = form_of row.1; address = form_of row.2; value = form_of row.3 })

abbrev pub slot_and_thread : ℕ × List (List ℕ) × List (List ℕ) → ℕ × Thread
slot_and_thread row = (row.0, thread_of (row.1, row.2))

abbrev pub slot_and_how : ℕ × ℕ → ℕ × How
slot_and_how row = (row.0, how_by row.1)

abbrev pub slot_and_write : ℕ × ℕ × List ℕ → ℕ × ℕ × Form
slot_and_write row = (row.0, row.1, form_of row.2)

abbrev pub leak_by : ℕ → ℕ → ℕ → Form → Leak
leak_by kind at reg form =
    if kind == 0 then leak.Across (pointer_in at)
    else if kind == 1 then leak.Cell at form
    else if kind == 2 then leak.Code at
    else if kind == 3 then leak.Jump at reg form
    else if kind == 4 then leak.Enter at reg form
    else if kind == 5 then leak.Store at reg form
    else if kind == 6 then leak.Give at reg form
    else if kind == 7 then leak.FaultPointer at
    else if kind == 8 then leak.Fault at reg form
    else leak.Loose (at % 256)

abbrev pub leak_of : ℕ × ℕ × ℕ × List ℕ → Leak
leak_of row = leak_by row.0 row.1 row.2 (form_of row.3)
