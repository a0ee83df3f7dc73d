-- The canonical text of an object.
use Rattle.std.specs.Prelude.{ℕ, ◌+◌, ◌==◌, Bool, true, false, if◌then◌else◌, List, [], ◌∷◌, ◌++◌, codes, decimal}
use Rattle.std.specs.{Prelude.{Option, Some, None}, Fmt.{digits, signed_decimal}, List.flat_map}
use Rattle.mm_word.specs.declared.perm.Perm.{Perm, TheVariants.{Ro, Rw, Xu, Xp, Eu, Ep, Key}}
use Rattle.mm_word.specs.declared.word.{Pre.Pre, Post.Post}
use Rattle.mm_isa.specs.declared.instr.{Instr.Instr, How.{How, TheVariants.{Retry, Skip, Kill}}}
use Rattle.mm_isa.specs.declared.operand.Operand.{Operand}
use Rattle.mm_isa.specs.declared.operand.Operand.TheVariants.{Rd, EvtRd, Ra, Rb, Imm, Distance, RegisterNumber}
use Rattle.mm_isa.specs.{Table.{Operation, operation_of}, Decode.instr_of}
use Rattle.mm_model.specs.{Digits.hex, Lines.newline}
use Rattle.mm_object.specs.declared.{item.Item.Item, target.{Target.Target, Reloc.Reloc}}
use Rattle.mm_object.specs.{declared.thread.{Value.Value, Thread.Thread}, Lookups.{name_of_target, reloc_at}}
use Rattle.mm_object.specs.Objects.{Segment, Object}
use Rattle.mm_word.specs.declared.word.Pre.TheVariants as pre
use Rattle.mm_word.specs.declared.word.Post.TheVariants as post
use Rattle.mm_isa.specs.declared.operand.Operand.TheVariants as operand
use Rattle.mm_object.specs.declared.thread.Value.TheVariants as value

-- 1. Names of the language.

abbrev pub perm_text : Perm → List ℕ
perm_text Ro = codes "ro"
perm_text Rw = codes "rw"
perm_text Xu = codes "xu"
perm_text Xp = codes "xp"
perm_text Eu = codes "eu"
perm_text Ep = codes "ep"
perm_text Key = codes "key"

abbrev pub pre_text : Pre → List ℕ
pre_text pre.Any = codes "any"
pre_text pre.Full = codes "full"
pre_text pre.Empty = codes "empty"

abbrev pub post_text : Post → List ℕ
post_text post.Keep = codes "keep"
post_text post.Full = codes "full"
post_text post.Empty = codes "empty"

abbrev pub how_text : How → List ℕ
how_text Retry = codes "retry"
how_text Skip = codes "skip"
how_text Kill = codes "kill"

abbrev pub register_text : ℕ → List ℕ
register_text r = codes "r" ++ decimal r

-- a number in hexadecimal, in as few digits as it needs
abbrev pub short_hex : ℕ → List ℕ
short_hex n = codes "0x" ++ digits 16 false n

-- a number in hexadecimal, in 16 digits
abbrev pub long_hex : ℕ → List ℕ
long_hex n = codes "0x" ++ hex 16 n

-- 2. Instructions.

abbrev pub operand_text : Operand → List ℕ
operand_text (Rd r) = register_text r
operand_text (EvtRd r) = register_text r
operand_text (Ra r) = register_text r
operand_text (Rb r) = register_text r
operand_text (Imm n) = signed_decimal n
operand_text (Distance n) = signed_decimal n
operand_text (RegisterNumber r) = decimal r
operand_text (operand.Pre p) = pre_text p
operand_text (operand.Post p) = post_text p
operand_text (operand.How h) = how_text h

abbrev pub further_text : Operand → List ℕ
further_text x = codes ", " ++ operand_text x

-- operands: a blank before the first, and a comma and a blank before each further one
abbrev pub operands_text : List Operand → List ℕ
operands_text [] = []
operands_text (x ∷ xs) = codes " " ++ operand_text x ++ flat_map further_text xs

unfoldable pub operation_text : Operation → List ℕ
operation_text o = o.name ++ operands_text o.operands

-- 3. Words of a segment.

-- a permission and a target: its name, and the addend
unfoldable pub pointer_text : Object → Perm → Target → List ℕ
pointer_text o perm t = perm_text perm ++ codes " " ++ name_of_target o t ++ codes "+" ++ short_hex t.addend

abbrev pub bits_text : Option Instr → ℕ → List ℕ
bits_text (Some i) bits = operation_text (operation_of i)
bits_text None bits = codes ".int " ++ long_hex bits

-- a word that is no pointer: the instruction that it spells, or else an integer
unfoldable pub integer_text : ℕ → List ℕ
integer_text bits = bits_text (instr_of bits) bits

abbrev pub word_by : Object → Option Reloc → ℕ → List ℕ
word_by o (Some r) bits = codes ".ptr " ++ pointer_text o r.perm r.target
word_by o None bits = integer_text bits

abbrev pub mark_text : (full : Bool) → List ℕ
mark_text true = []
mark_text false = codes ".empty "

-- the line of word k
unfoldable pub word_line : Object → (segment k : ℕ) → Item → List ℕ
word_line o segment k item = mark_text item.full ++ word_by o (reloc_at o segment k) item.bits ++ newline

-- the lines of words from word k on
abbrev pub words_text : Object → (segment k : ℕ) → List Item → List ℕ
words_text o segment k [] = []
words_text o segment k (item ∷ items) = word_line o segment k item ++ words_text o segment (k + 1) items

-- 4. Segments and threads.

abbrev pub segment_line : Segment → List ℕ
segment_line s = codes ".segment " ++ s.name ++ codes " " ++ decimal s.log ++ newline

unfoldable pub segment_text : Object → (number : ℕ) → Segment → List ℕ
segment_text o number s = segment_line s ++ words_text o number 0 s.items

-- the lines of segments from a number on
abbrev pub segments_text : Object → (number : ℕ) → List Segment → List ℕ
segments_text o number [] = []
segments_text o number (s ∷ segments) = segment_text o number s ++ segments_text o (number + 1) segments

abbrev pub handler_text : Option ℕ → List ℕ
handler_text None = codes "none"
handler_text (Some slot) = decimal slot

abbrev pub thread_line : Object → Thread → List ℕ
thread_line o t =
    codes ".thread " ++ decimal t.slot ++ codes " " ++ decimal t.group
    ++ codes " " ++ handler_text t.handler ++ codes " " ++ pointer_text o t.perm t.target ++ newline

abbrev pub value_text : Object → Value → List ℕ
value_text o (value.Int n) = codes "int " ++ long_hex n
value_text o (value.Ptr perm target) = codes "ptr " ++ pointer_text o perm target

abbrev pub is_zero : Value → Bool
is_zero (value.Int n) = n == 0
is_zero (value.Ptr perm target) = false

-- the line of a register; integer 0 has none
unfoldable pub register_line : Object → (k : ℕ) → Value → List ℕ
register_line o k v = if is_zero v then [] else codes ".reg " ++ decimal k ++ codes " " ++ value_text o v ++ newline

-- the lines of registers from register k on
abbrev pub registers_text : Object → (k : ℕ) → List Value → List ℕ
registers_text o k [] = []
registers_text o k (v ∷ values) = register_line o k v ++ registers_text o (k + 1) values

unfoldable pub thread_text : Object → Thread → List ℕ
thread_text o t = thread_line o t ++ registers_text o 0 t.regs

-- 5. The whole.

abbrev pub spare_line : ℕ → List ℕ
spare_line frames = codes ".spare " ++ decimal frames ++ newline

-- the text of an object: its spare frames, its segments with a line for each word, and its threads with their registers
unfoldable pub canonical : Object → List ℕ
canonical o = spare_line o.spare ++ segments_text o 0 o.segments ++ flat_map (thread_text o) o.threads
