-- What is true of each draft of a text: its names have their form, and its sizes and values are in their ranges.
use Rattle.std.specs.Prelude.{◌≡◌, ℕ, ◌<◌, ◌+◌, ◌≤◌, ◌==◌, true, false, List, [], ◌∷◌, map, length, slice_get, Option}
use Rattle.std.specs.{Prelude.{Some, None, unwrap_or}, List.{list_any, AllByRecursion}}
use Rattle.mm_word.specs.Perm.{can_fetch}
use Rattle.mm_line.specs.declared.statement.{Target.Target, Constant.Constant}
use Rattle.mm_line.specs.Ranges.{IsTarget, IsConstant, IsContent, IsHandler}
use Rattle.mm_draft.specs.declared.{segment.Word.Word, location.Location.Location, thread.Register.Register}
use Rattle.mm_draft.specs.{Drafts.{Segment, Entry, Thread, Draft, place_in, words_of, pointers_of}, Faults.room_of}
use Rattle.mm_object.specs.{Names.is_name, Objects.are_apart}
use Rattle.mm_model.specs.Limits.{segment_limit, word_limit, reloc_limit}

-- a word that some line can say
abbrev pub IsWord : Word → Type 0
IsWord w = (most : ℕ) × IsContent most w.content

abbrev pub IsValue : Constant → Type 0
IsValue c = (most : ℕ) × IsConstant most c

abbrev pub IsPlaced : Target → Type 0
IsPlaced t = (most : ℕ) × IsTarget most t

abbrev pub IsRegister : Register → Type 0
IsRegister r = (r.number < 16) × IsValue r.value

-- the numbers are all different
abbrev pub AreApart : List ℕ → Type 0
AreApart [] = Unit {0}
AreApart (n ∷ numbers) = (list_any (λ m. m == n) numbers ≡ false) × AreApart numbers

pub record IsSegment (s : Segment) : Type 0 where
  pub name : is_name s.name ≡ true
  pub least : 3 ≤ s.log
  pub greatest : s.log ≤ 20
  pub room : length s.words ≤ room_of s
  pub words : AllByRecursion IsWord s.words

pub record IsThread (t : Thread) : Type 0 where
  pub slot : t.slot < 16
  pub group : t.group < 16
  pub handler : IsHandler t.slot t.handler
  pub perm : can_fetch t.perm ≡ true
  pub target : IsPlaced t.target
  pub registers : AllByRecursion IsRegister t.registers
  pub apart : AreApart (map (λ (r : Register). r.number) t.registers)

abbrev pub HasWord : Option Segment → ℕ → Type 0
HasWord None word = ⊥
HasWord (Some s) word = word ≤ length s.words

-- a word of a segment, or the place after its last one
abbrev pub IsLocation : List Segment → Location → Type 0
IsLocation segments p = HasWord (slice_get segments p.segment) p.word

-- the name of each segment, from a number on, stands for its first word
abbrev pub AreNamed : List Entry → ℕ → List Segment → Type 0
AreNamed entries k [] = Unit {0}
AreNamed entries k (s ∷ segments) =
    (place_in entries s.name ≡ Some (record { segment = k; word = 0; is_label = false }))
    × AreNamed entries (k + 1) segments

-- the segments of a draft, and its names
pub record AreSegments (segments : List Segment) (entries : List Entry) : Type 0 where
  pub few : length segments ≤ segment_limit
  pub each : AllByRecursion IsSegment segments
  pub names : are_apart (map (λ (s : Segment). s.name) segments) ≡ true
  pub words : words_of segments ≤ word_limit
  pub pointers : pointers_of segments ≤ reloc_limit
  pub named : AreNamed entries 0 segments
  pub alone : are_apart (map (λ (e : Entry). e.name) entries) ≡ true
  pub places : AllByRecursion (λ (e : Entry). IsLocation segments e.location) entries

pub record AreThreads (threads : List Thread) : Type 0 where
  pub each : AllByRecursion IsThread threads
  pub apart : AreApart (map (λ (t : Thread). t.slot) threads)

pub record IsDraft (d : Draft) : Type 0 where
  pub segments : AreSegments d.segments d.names
  pub threads : AreThreads d.threads
  pub spare : unwrap_or d.spare 0 ≤ 256
