-- The lines of a canonical text, and what each of them says.
use Rattle.std.specs.Prelude.{◌≡◌, ℕ, ◌+◌, if◌then◌else◌, List, [], ◌∷◌, ◌++◌, codes, decimal, Option, Some, None, Ok}
use Rattle.mm_isa.specs.Table.{packed}
use Rattle.mm_line.specs.declared.statement.{Constant.{Constant, TheVariants.{Integer, Pointer}}, Content.Content}
use Rattle.mm_line.specs.{declared.{statement.Statement.Statement, line.Claim.Claim}, Statements.line_of}
use Rattle.mm_object.specs.declared.{item.Item.Item, target.{Target.Target, Reloc.Reloc}}
use Rattle.mm_object.specs.{declared.thread.{Value.Value, Thread.Thread}, Lookups.{name_of_target, reloc_at}}
use Rattle.mm_object.specs.Objects.{Segment, Object}
use Rattle.mm_disasm.specs.Canonical.{mark_text, word_by, pointer_text, handler_text, value_text, is_zero}
use Rattle.mm_line.specs.declared.statement.Target as text
use Rattle.mm_line.specs.declared.statement.Content.TheVariants as content
use Rattle.mm_line.specs.declared.statement.Statement.TheVariants as statement
use Rattle.mm_object.specs.declared.thread.Value.TheVariants as value

-- 1. The lines, without their newlines.

abbrev pub spare_of : ℕ → List ℕ
spare_of frames = codes ".spare " ++ decimal frames

abbrev pub begin_of : Segment → List ℕ
begin_of s = codes ".segment " ++ s.name ++ codes " " ++ decimal s.log

abbrev pub word_of : Object → (segment k : ℕ) → Item → List ℕ
word_of o segment k item = mark_text item.full ++ word_by o (reloc_at o segment k) item.bits

abbrev pub thread_of : Object → Thread → List ℕ
thread_of o t =
    codes ".thread " ++ decimal t.slot ++ codes " " ++ decimal t.group ++ codes " " ++ handler_text t.handler ++ codes " " ++ pointer_text o t.perm t.target

abbrev pub register_of : Object → (k : ℕ) → Value → List ℕ
register_of o k v = codes ".reg " ++ decimal k ++ codes " " ++ value_text o v

abbrev pub word_lines : Object → (segment k : ℕ) → List Item → List (List ℕ)
word_lines o segment k [] = []
word_lines o segment k (item ∷ items) = word_of o segment k item ∷ word_lines o segment (k + 1) items

abbrev pub segment_lines : Object → (number : ℕ) → List Segment → List (List ℕ)
segment_lines o number [] = []
segment_lines o number (s ∷ segments) = begin_of s ∷ word_lines o number 0 s.items ++ segment_lines o (number + 1) segments

abbrev pub register_lines : Object → (k : ℕ) → List Value → List (List ℕ)
register_lines o k [] = []
register_lines o k (v ∷ values) = if is_zero v then register_lines o (k + 1) values else register_of o k v ∷ register_lines o (k + 1) values

abbrev pub thread_lines : Object → List Thread → List (List ℕ)
thread_lines o [] = []
thread_lines o (t ∷ threads) = thread_of o t ∷ register_lines o 0 t.regs ++ thread_lines o threads

unfoldable pub object_lines : Object → List (List ℕ)
object_lines o = spare_of o.spare ∷ segment_lines o 0 o.segments ++ thread_lines o o.threads

-- 2. What a line says: one statement, without a label and without a fault.
pub record Says (line : List ℕ) (P : Statement → Type 0) : Type 0 where
  pub left : ℕ
  pub claim : Option Claim
  pub statement : Statement
  pub is : line_of line ≡ record { label = None; body = Some (record { left = left; claim = claim; reading = Ok statement }) }
  pub means : P statement

-- a target of the text is one of the object: the same name, and the same addend
abbrev pub IsTargetOf : Object → Target → text.Target → Type 0
IsTargetOf o t written = (written.mark.name ≡ name_of_target o t) × (written.addend ≡ t.addend)

abbrev pub IsConstantOf : Object → Value → Constant → Type 0
IsConstantOf o (value.Int n) c = c ≡ Integer n
IsConstantOf o (value.Ptr perm t) c = (written : text.Target) × (c ≡ Pointer perm written) × IsTargetOf o t written

-- an integer, or an instruction without a label, of these bits
abbrev pub IsBits : ℕ → Content → Type 0
IsBits bits (content.Constant c) = c ≡ Integer bits
IsBits bits (content.Code code) = (code.goal ≡ None) × (packed code.fields ≡ bits)

-- the content of a word, with its relocation
abbrev pub IsContentOf : Object → Option Reloc → ℕ → Content → Type 0
IsContentOf o (Some r) bits c = (written : text.Target) × (c ≡ content.Constant (Pointer r.perm written)) × IsTargetOf o r.target written
IsContentOf o None bits c = IsBits bits c

abbrev pub SaysSpare : ℕ → Statement → Type 0
SaysSpare frames s = s ≡ statement.Spare frames

abbrev pub SaysBegin : Segment → Statement → Type 0
SaysBegin x s = (left : ℕ) × (s ≡ statement.Begin (record { name = x.name; left = left }) x.log)

abbrev pub SaysWord : Object → (segment k : ℕ) → Item → Statement → Type 0
SaysWord o segment k item s = (c : Content) × (s ≡ statement.Word item.full c) × IsContentOf o (reloc_at o segment k) item.bits c

abbrev pub SaysThread : Object → Thread → Statement → Type 0
SaysThread o t s = (written : text.Target) × (s ≡ statement.Thread t.slot t.group t.handler t.perm written) × IsTargetOf o t.target written

abbrev pub SaysRegister : Object → (k : ℕ) → Value → Statement → Type 0
SaysRegister o k v s = (c : Constant) × (s ≡ statement.Register k c) × IsConstantOf o v c
