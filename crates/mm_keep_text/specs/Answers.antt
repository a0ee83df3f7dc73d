-- What is told of a kernel, and its text.
use Rattle.std.specs.Prelude.{◌≡◌, ◌↔◌, ℕ, true, false, List, [], ◌∷◌, ◌++◌, map, codes, decimal, Contains}
use Rattle.std.specs.List.{AllZip, filter, flat_map}
use Rattle.mm_word.specs.{Perm.code_of, Pointer.{Pointer as PointerValue}}
use Rattle.mm_word.specs.declared.word.Word.TheVariants.{Int, Ptr}
use Rattle.mm_model.specs.{Digits.hex, Lines.{newline, word_text}, Slot.Slot, Image.Image}
use Rattle.mm_kernel.specs.Segments.{Segment, is_user}
use Rattle.mm_kernel.specs.declared.form.Form.{Form, TheVariants.{Number, Pointer, Integer, Open, Any, Inside}}
use Rattle.mm_kernel.specs.declared.{fact.Leak.Leak, thread.Origin.{Origin, TheVariants.{Door, Slot as OfSlot}}}
use Rattle.mm_kernel.specs.declared.fact.Leak.TheVariants as leak
use Rattle.mm_kernel.specs.{Threads.is_kernel_slot, Facts.Fact.{HasForm, HasDoor, HasLeak}}
use Rattle.mm_kernel.specs.{Derived.{Derived, HasFirst, IsCode}, Uses.{IsUsed, Reads, Writes, HasMore, HasAtMost}}
use Rattle.mm_span.specs.Spans.{AreSpans, span_line}
use Rattle.mm_keep_text.specs.declared.told.Answer.{Answer, TheVariants.{Privileged, More, Found}}
use Rattle.mm_keep_text.specs.{Keys.{pointer_key, cell_key, leak_key, Ascend}, Told.{Party, Told}}

-- 1. What is told.

pub record IsParty (i : Image) (kept : List Segment) (origin : Origin) (p : Party) : Type 0 where
  pub origin_is : p.origin ≡ origin
  pub reads_are : AreSpans (IsUsed Reads i kept origin) p.reads
  pub writes_are : AreSpans (IsUsed Writes i kept origin) p.writes

-- the doors, ascending
pub record AreDoors (i : Image) (kept : List Segment) (doors : List PointerValue) : Type 0 where
  pub ascend : Ascend pointer_key doors
  pub each : (p : PointerValue) → Contains doors p ↔ Derived i kept (HasDoor p)

-- the numbers of the slots of the kernel
abbrev pub kernel_slots : Image → List Segment → List ℕ
kernel_slots i kept = map (λ (s : Slot). s.number) (filter (is_kernel_slot kept) i.slots)

-- a form of a kept word that the word does not have from the start
pub record IsNewForm (i : Image) (kept : List Segment) (cell : ℕ × Form) : Type 0 where
  pub derived : Derived i kept (HasForm cell.0 cell.1)
  pub new : HasFirst i kept cell.0 cell.1 → ⊥

pub record IsTold (i : Image) (kept : List Segment) (told : Told) : Type 0 where
  pub doors : List PointerValue
  pub doors_are : AreDoors i kept doors
  pub parties : AllZip (IsParty i kept) (map Door doors ++ map OfSlot (kernel_slots i kept)) told.parties
  pub code : AreSpans (IsCode i kept) told.code
  pub cells_ascend : Ascend cell_key told.cells
  pub cells : (cell : ℕ × Form) → Contains told.cells cell ↔ IsNewForm i kept cell
  pub leaks_ascend : Ascend leak_key told.leaks
  pub leaks : (l : Leak) → Contains told.leaks l ↔ Derived i kept (HasLeak l)

-- 2. Texts.

abbrev pub form_text : Form → List ℕ
form_text (Number bits) = word_text (Int bits)
form_text (Pointer p) = word_text (Ptr p)
form_text Integer = codes "int"
form_text (Open perm) = codes "ptr " ++ decimal (code_of perm)
form_text Any = codes "any"
form_text (Inside p) =
    codes "in " ++ decimal (code_of p.perm) ++ codes " " ++ hex 14 p.addr ++ codes " " ++ decimal p.log

-- what an instruction does, its address, a register, and its form
abbrev pub place_text : List ℕ → ℕ → ℕ → Form → List ℕ
place_text verb at reg form = verb ++ hex 14 at ++ codes " " ++ decimal reg ++ codes " " ++ form_text form

abbrev pub leak_text : Leak → List ℕ
leak_text (leak.Across p) = codes "across " ++ word_text (Ptr p)
leak_text (leak.Cell word form) = codes "cell " ++ hex 14 word ++ codes " " ++ form_text form
leak_text (leak.Code word) = codes "code " ++ hex 14 word
leak_text (leak.Jump at reg form) = place_text (codes "jump ") at reg form
leak_text (leak.Enter at reg form) = place_text (codes "enter ") at reg form
leak_text (leak.Store at reg form) = place_text (codes "store ") at reg form
leak_text (leak.Give at reg form) = place_text (codes "give ") at reg form
leak_text (leak.FaultPointer at) = codes "fault " ++ hex 14 at ++ codes " ip"
leak_text (leak.Fault at reg form) = place_text (codes "fault ") at reg form
leak_text (leak.Loose slot) = codes "loose " ++ decimal slot

abbrev pub leak_line : Leak → List ℕ
leak_line l = codes "leak " ++ leak_text l ++ newline

abbrev pub cell_line : ℕ × Form → List ℕ
cell_line cell = codes "cell " ++ hex 14 cell.0 ++ codes " " ++ form_text cell.1 ++ newline

abbrev pub origin_text : Origin → List ℕ
origin_text (Door p) = codes "door " ++ word_text (Ptr p)
origin_text (OfSlot n) = codes "slot " ++ decimal n

abbrev pub party_lines : Party → List ℕ
party_lines p =
    origin_text p.origin ++ newline
    ++ flat_map (span_line (codes "reads ")) p.reads ++ flat_map (span_line (codes "writes ")) p.writes

abbrev pub verdict_line : List Leak → List ℕ
verdict_line [] = codes "keeps yes\n"
verdict_line (l ∷ leaks) = codes "keeps no\n"

unfoldable pub told_text : Told → List ℕ
told_text told =
    verdict_line told.leaks ++ flat_map party_lines told.parties ++ flat_map (span_line (codes "code ")) told.code
    ++ flat_map cell_line told.cells ++ flat_map leak_line told.leaks

-- 3. The answer.

-- the answer for an image and its kept segments, if at most `limit` threads may be found
abbrev pub IsAnswer : Image → List Segment → (limit : ℕ) → Answer → Type 0
IsAnswer i kept limit Privileged = is_user i ≡ false
IsAnswer i kept limit More = (is_user i ≡ true) × HasMore i kept limit
IsAnswer i kept limit (Found told) = (is_user i ≡ true) × HasAtMost i kept limit × IsTold i kept told

abbrev pub answer_text : Answer → List ℕ
answer_text Privileged = codes "keeps privileged\n"
answer_text More = codes "keeps more\n"
answer_text (Found told) = told_text told

-- the text says what the kernel of an image keeps
pub record Says (i : Image) (kept : List Segment) (limit : ℕ) (text : List ℕ) : Type 0 where
  pub answer : Answer
  pub is : IsAnswer i kept limit answer
  pub written : text ≡ answer_text answer
