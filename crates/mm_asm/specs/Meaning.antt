-- The object of a draft.
use Rattle.std.specs.Prelude.{ℕ, ◌+◌, ◌==◌, if◌then◌else◌, List, [], ◌∷◌, ◌++◌, map, length, Option, Some, None, ℤ, pos}
use Rattle.std.specs.{Prelude.{◌-ℤ◌, unwrap_or, nat_lt}, List.range_with_len}
use Rattle.mm_isa.specs.{declared.fields.Fields.Fields, Table.packed}
use Rattle.mm_line.specs.declared.name.Mark.{Mark}
use Rattle.mm_line.specs.declared.statement.{Constant.{Constant, TheVariants.{Integer, Pointer}}, Content.Content}
use Rattle.mm_draft.specs.declared.{segment.Word.Word, location.Location.Location, thread.Register.Register}
use Rattle.mm_draft.specs.Drafts.{Draft, place_of}
use Rattle.mm_object.specs.declared.{item.Item.Item, target.{Target.Target, Reloc.Reloc}}
use Rattle.mm_object.specs.declared.thread.{Value.{Value, TheVariants.{Int, Ptr}}, Thread.Thread}
use Rattle.mm_object.specs.Objects.{Segment, Object}
use Rattle.mm_asm.specs.Names.{Meant, Here, Elsewhere, meant, position_of, externals_of}
use Rattle.mm_line.specs.declared.statement.Target as text
use Rattle.mm_line.specs.declared.statement.Content.TheVariants as content
use Rattle.mm_draft.specs.Drafts as draft

-- 1. Words.

-- the distance in words from word k to a label, which may come before it
abbrev pub distance_to : Option Location → ℕ → ℤ
distance_to None k = pos 0
distance_to (Some p) k = pos p.word -ℤ pos k

abbrev pub with_goal : Draft → ℕ → Option Mark → Fields → Fields
with_goal d k None fields = fields
with_goal d k (Some mark) fields = record fields { imm = distance_to (place_of d mark.name) k }

-- the bits of word k of a segment; the bits of a pointer are 0 until the object is placed
abbrev pub bits_of : Draft → ℕ → Content → ℕ
bits_of d k (content.Constant (Integer n)) = n
bits_of d k (content.Constant (Pointer perm target)) = 0
bits_of d k (content.Code code) = packed (with_goal d k code.goal code.fields)

-- the words of a segment from word k on
abbrev pub word_items : Draft → ℕ → List Word → List Item
word_items d k [] = []
word_items d k (w ∷ words) = record { bits = bits_of d k w.content; full = w.full } ∷ word_items d (k + 1) words

abbrev pub segment_of : Draft → draft.Segment → Segment
segment_of d s = record { name = s.name; log = s.log; items = word_items d 0 s.words }

-- 2. Targets.

abbrev pub target_by : Draft → Meant → Target
target_by d (Here segment offset) = record { index = segment; addend = offset }
target_by d (Elsewhere name addend) =
    record { index = length d.segments + position_of name (externals_of d); addend = addend }

abbrev pub target_of : Draft → text.Target → Target
target_of d t = target_by d (meant d t)

-- 3. Relocations.

abbrev pub content_relocs : Draft → (segment k : ℕ) → Content → List Reloc
content_relocs d segment k (content.Constant (Pointer perm target)) =
    record { segment = segment; word = k; perm = perm; target = target_of d target } ∷ []
content_relocs d segment k _ = []

-- the relocations of the words of a segment from word k on
abbrev pub words_relocs : Draft → (segment k : ℕ) → List Word → List Reloc
words_relocs d segment k [] = []
words_relocs d segment k (w ∷ words) = content_relocs d segment k w.content ++ words_relocs d segment (k + 1) words

-- the relocations of the segments from a number on
abbrev pub segments_relocs : Draft → ℕ → List draft.Segment → List Reloc
segments_relocs d segment [] = []
segments_relocs d segment (s ∷ segments) = words_relocs d segment 0 s.words ++ segments_relocs d (segment + 1) segments

-- 4. Threads.

abbrev pub value_of : Draft → Constant → Value
value_of d (Integer n) = Int n
value_of d (Pointer perm target) = Ptr perm (target_of d target)

-- the value that a register begins with: integer 0 if the text does not set it
abbrev pub register_value : Draft → List Register → ℕ → Value
register_value d [] k = Int 0
register_value d (r ∷ registers) k = if r.number == k then value_of d r.value else register_value d registers k

abbrev pub thread_of : Draft → draft.Thread → Thread
thread_of d t = record {
  slot = t.slot;
  group = t.group;
  handler = t.handler;
  perm = t.perm;
  target = target_of d t.target;
  regs = map (register_value d t.registers) (range_with_len 0 16);
}

-- a thread inserted among threads by rising slot
abbrev pub insert_thread : Thread → List Thread → List Thread
insert_thread t [] = t ∷ []
insert_thread t (x ∷ threads) = if nat_lt t.slot x.slot then t ∷ x ∷ threads else x ∷ insert_thread t threads

abbrev pub by_slot : List Thread → List Thread
by_slot [] = []
by_slot (t ∷ threads) = insert_thread t (by_slot threads)

-- 5. The whole.

unfoldable pub object_of : Draft → Object
object_of d = record {
  segments = map (segment_of d) d.segments;
  externals = externals_of d;
  relocs = segments_relocs d 0 d.segments;
  threads = by_slot (map (thread_of d) d.threads);
  spare = unwrap_or d.spare 0;
}
