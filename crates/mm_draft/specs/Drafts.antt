-- A draft: what the lines of a text say together, before names are looked up: segments with their words, names, threads
-- and spare frames. Each line adds its own items to the segment, or the thread, that came last.
use Rattle.std.specs.Prelude.{ℕ, ◌-◌, ◌+◌, Bool, true, false, if◌then◌else◌, List, [], ◌∷◌, ◌++◌, length, replicate}
use Rattle.std.specs.{Prelude.{Option, Some, None, Result, Ok, Err}, Str.bytes_eq}
use Rattle.mm_word.specs.declared.perm.Perm.{Perm}
use Rattle.mm_line.specs.declared.name.Mark.{Mark}
use Rattle.mm_line.specs.declared.statement.{Target.Target, Constant.TheVariants.{Integer, Pointer}, Content.Content}
use Rattle.mm_line.specs.declared.{statement.Statement.Statement, line.{Line.Line, Body.Body}, fault.Problem.Problem}
use Rattle.mm_draft.specs.declared.{source.Source.Source, segment.Word.Word, location.Location.Location}
use Rattle.mm_draft.specs.declared.thread.Register.{Register}
use Rattle.mm_line.specs.declared.statement.Content.TheVariants as content
use Rattle.mm_line.specs.declared.statement.Statement.TheVariants as statement

pub record Segment : Type 0 where
  pub name : List ℕ
  -- the logarithm of the segment's length in bytes
  pub log : ℕ
  pub words : List Word

-- a name that the text has, and what it stands for
pub record Entry : Type 0 where
  pub name : List ℕ
  pub location : Location

pub record Thread : Type 0 where
  pub slot : ℕ
  pub group : ℕ
  pub handler : Option ℕ
  pub perm : Perm
  pub target : Target
  pub source : Source
  pub registers : List Register

pub record Draft : Type 0 where
  pub segments : List Segment
  -- labels and segments in the order of the text
  pub names : List Entry
  pub threads : List Thread
  pub spare : Option ℕ

abbrev pub nothing : Draft
nothing = record { segments = []; names = []; threads = []; spare = None }

-- 1. What is there already.

abbrev pub place_in : List Entry → List ℕ → Option Location
place_in [] name = None
place_in (e ∷ entries) name = if bytes_eq name e.name then Some e.location else place_in entries name

-- what a name stands for, if the text has it
abbrev pub place_of : Draft → List ℕ → Option Location
place_of d name = place_in d.names name

-- the item that came last
abbrev pub last : {A : Type 0} → List A → Option A
last [] = None
last (x ∷ []) = Some x
last (x ∷ y ∷ rest) = last (y ∷ rest)

-- the count of words that the last segment has so far
abbrev pub words_so_far : Option Segment → ℕ
words_so_far None = 0
words_so_far (Some s) = length s.words

-- the count of words in all segments
abbrev pub words_of : List Segment → ℕ
words_of [] = 0
words_of (s ∷ segments) = length s.words + words_of segments

abbrev pub is_pointer : Content → Bool
is_pointer (content.Constant (Pointer perm target)) = true
is_pointer _ = false

abbrev pub pointers_among : List Word → ℕ
pointers_among [] = 0
pointers_among (w ∷ words) = (if is_pointer w.content then 1 else 0) + pointers_among words

-- the count of words in all segments that become pointers when the segments are placed
abbrev pub pointers_of : List Segment → ℕ
pointers_of [] = 0
pointers_of (s ∷ segments) = pointers_among s.words + pointers_of segments

-- 2. What a line adds.

-- the list with its last item changed
abbrev pub change_last : {A : Type 0} → (A → A) → List A → List A
change_last f [] = []
change_last f (x ∷ []) = f x ∷ []
change_last f (x ∷ y ∷ rest) = x ∷ change_last f (y ∷ rest)

abbrev pub with_words : List Word → Segment → Segment
with_words words s = record s { words = s.words ++ words }

-- the draft with these words at the end of the last segment
abbrev pub add_words : List Word → Draft → Draft
add_words words d = record d { segments = change_last (with_words words) d.segments }

abbrev pub add_name : List ℕ → Location → Draft → Draft
add_name name location d = record d { names = d.names ++ record { name = name; location = location } ∷ [] }

-- the draft with this label, which names the next word of the last segment
abbrev pub add_label : Mark → Draft → Draft
add_label mark d = add_name mark.name
    (record { segment = length d.segments - 1; word = words_so_far (last d.segments); is_label = true }) d

-- the draft with this segment, whose name is also that of its first word
abbrev pub add_segment : Mark → ℕ → Draft → Draft
add_segment mark log d =
    add_name mark.name (record { segment = length d.segments; word = 0; is_label = false })
    (record d { segments = d.segments ++ record { name = mark.name; log = log; words = [] } ∷ [] })

-- a word that is integer 0, full
abbrev pub zero_word : Source → Word
zero_word source = record { full = true; content = content.Constant (Integer 0); source = source }

abbrev pub with_register : Register → Thread → Thread
with_register r t = record t { registers = t.registers ++ r ∷ [] }

-- the draft with this register at the end of the last thread
abbrev pub add_register : Register → Draft → Draft
add_register r d = record d { threads = change_last (with_register r) d.threads }

-- the draft with what a statement of a line says
unfoldable pub add_statement : Source → Statement → Draft → Draft
add_statement source (statement.Spare frames) d = record d { spare = Some frames }
add_statement source (statement.Begin mark log) d = add_segment mark log d
add_statement source (statement.Fill words) d = add_words (replicate words (zero_word source)) d
add_statement source (statement.Word full what) d = add_words
    (record { full = full; content = what; source = source } ∷ []) d
add_statement source (statement.Thread slot group handler perm target) d =
    record d {
      threads = d.threads
          ++ record {
            slot = slot;
            group = group;
            handler = handler;
            perm = perm;
            target = target;
            source = source;
            registers = [];
          } ∷ [];
    }
add_statement source (statement.Register number value) d = add_register
    (record { number = number; value = value; source = source }) d

abbrev pub add_reading : Source → Result Statement Problem → Draft → Draft
add_reading source (Ok s) d = add_statement source s d
add_reading source (Err problem) d = d

abbrev pub add_body : Source → Option Body → Draft → Draft
add_body source None d = d
add_body source (Some body) d = add_reading source body.reading d

-- the draft with the label of a line; a label that is too long names nothing
abbrev pub add_maybe_label : Option (Result Mark Problem) → Draft → Draft
add_maybe_label None d = d
add_maybe_label (Some (Ok mark)) d = add_label mark d
add_maybe_label (Some (Err problem)) d = d

-- the draft with what a line says; what has a fault of its own says nothing
unfoldable pub add_line : Source → Line → Draft → Draft
add_line source line d = add_body source line.body (add_maybe_label line.label d)
