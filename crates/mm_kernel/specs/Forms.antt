-- Forms: what is known of a word that a kernel's code handles.
use Rattle.std.specs.Prelude.{◌≡◌, ℕ, Bool, true, false, Option, Some, None, List}
use Rattle.mm_word.specs.declared.perm.Perm.TheVariants.{Key}
use Rattle.mm_word.specs.declared.word.Word.{Word, TheVariants.{Int, Ptr}}
use Rattle.mm_word.specs.{Pointer.{Pointer as PointerValue, base_of, bits_of}, Word.{IsPointerAnd, is_pointer}}
use Rattle.mm_kernel.specs.declared.form.Form.{Form, TheVariants.{Number, Pointer, Integer, Open, Any, Inside}}
use Rattle.mm_kernel.specs.Segments.{Segment, lies_inside, meets, is_open, is_open_pointer}

-- the form of a word alone
abbrev pub exactly : Word → Form
exactly (Int bits) = Number bits
exactly (Ptr p) = Pointer p

-- the part of memory that a pointer's segment is
abbrev pub segment_of : PointerValue → Segment
segment_of p = (base_of p, p.log)

-- a pointer of another's permission whose segment lies in its segment
pub record PointsInside (outer p : PointerValue) : Type 0 where
  pub perm : p.perm ≡ outer.perm
  pub inside : lies_inside p (segment_of outer) ≡ true

-- a form stands for a word
abbrev pub Stands : List Segment → Form → Word → Type 0
Stands kept (Number bits) w = w ≡ Int bits
Stands kept (Pointer p) w = w ≡ Ptr p
Stands kept Integer w = is_pointer w ≡ false
Stands kept (Open perm) w = IsPointerAnd w (λ p. p.perm ≡ perm) × (is_open kept w ≡ true)
Stands kept Any w = is_open kept w ≡ true
Stands kept (Inside outer) w = IsPointerAnd w (PointsInside outer)

-- each word that the form stands for is open
unfoldable pub is_open_form : List Segment → Form → Bool
is_open_form kept (Pointer p) = is_open_pointer kept p
is_open_form kept (Inside outer) = false
is_open_form kept _ = true

-- A form carries if it stands for pointers that others have. Nothing can be made of a key.
abbrev pub carries : Form → Bool
carries (Open Key) = false
carries (Open perm) = true
carries Any = true
carries _ = false

-- the 64 bits of the word, if the form stands for one alone
abbrev pub exact_bits : Form → Option ℕ
exact_bits (Number bits) = Some bits
exact_bits (Pointer p) = Some (bits_of p)
exact_bits _ = None

-- the word, if the form stands for one alone
abbrev pub exact : Form → Option Word
exact (Number bits) = Some (Int bits)
exact (Pointer p) = Some (Ptr p)
exact _ = None

abbrev pub zero_form : Form
zero_form = Number 0

-- What is kept in a cell of a form that is stored there: an integer may be any later.
unfoldable pub stored_form : Form → Form
stored_form (Number bits) = Integer
stored_form form = form

-- a pointer to somewhere in the segment of another: inside, if that meets the kept segments, else open
abbrev pub around_as : PointerValue → (meets : Bool) → Form
around_as p true = Inside (record p { addr = base_of p })
around_as p false = Open p.perm

unfoldable pub around : List Segment → PointerValue → Form
around kept p = around_as p (meets kept p)
