-- The segments of an object, as their lines are read.
use Rattle.std.proofs.Common.{◌≡◌, ℕ, ◌+◌, ◌≤◌, Bool, true, false, not, nat_le, if◌then◌else◌, List, [], ◌∷◌, ◌++◌}
use Rattle.std.proofs.Common.{length, Option, Some, None, is_some, bytes_eq, refl, sym, ap, ◌∙◌, arith, append_assoc}
use Rattle.std.proofs.{Common.length-append, lemmas.{List.append-nil, Bool.{not-true, or_parts, and_parts, lt-leb}}}
use Rattle.std.specs.List.{AllByRecursion}
use Rattle.mm_object.proofs.Apartness.{turn}
use Rattle.mm_object.specs.Objects.{Segment, Object, IsSegment, is_among, are_apart, names_of, words_of}
use Rattle.mm_draft.specs.{Drafts.{Entry, Draft, place_in, pointers_of}, Faults.lines_from}
use Rattle.mm_disasm.proofs.{Saying.{segment_lines, word_lines}, Speaking.SegmentsSpeak, DraftedLines.begin_read}
use Rattle.mm_disasm.proofs.DraftedRelocs.{found_words, found_segments}
use Rattle.mm_disasm.proofs.DraftedWords.{AreWordsOf, as_many_words, as_many_pointers, words_pushed, pointers_pushed}
use Rattle.mm_disasm.proofs.DraftedWords.{HasRoom, read_words}
use Rattle.mm_model.specs.Limits.{segment_limit, word_limit, reloc_limit}
use Rattle.mm_draft.specs.Drafts as draft

-- 1. Names.

-- the name of each segment from a number on stands for its first word
abbrev pub entry_of : ℕ → List ℕ → Entry
entry_of k name = record { name = name; location = record { segment = k; word = 0; is_label = false } }

abbrev pub entries_from : ℕ → List draft.Segment → List Entry
entries_from k [] = []
entries_from k (s ∷ segments) = entry_of k s.name ∷ entries_from (k + 1) segments

entries_pushed : (k n : ℕ) (segments : List draft.Segment) (s : draft.Segment) → n ≡ k + length segments →
    entries_from k segments ++ entry_of n s.name ∷ [] ≡ entries_from k (segments ++ s ∷ [])
entries_pushed k n [] s e = let same : n ≡ k = omega (arith, e) in ap (λ (i : ℕ). let entries : List Entry = entry_of i s.name ∷ [] in entries) same
entries_pushed k n (x ∷ segments) s e = ap (λ (entries : List Entry). entry_of k x.name ∷ entries) (entries_pushed (k + 1) n segments s (omega (arith, e)))

-- a name that no segment has
abbrev pub IsNew : List draft.Segment → Segment → Type 0
IsNew before s = is_some (place_in (entries_from 0 before) s.name) ≡ false

still_new : (k : ℕ) (segments : List draft.Segment) (s : draft.Segment) (name : List ℕ) → is_some (place_in (entries_from k segments) name) ≡ false →
    bytes_eq name s.name ≡ false → is_some (place_in (entries_from k (segments ++ s ∷ [])) name) ≡ false
still_new k [] s name h other = ap (λ (b : Bool). is_some (if b then Some (entry_of k s.name).location else None)) other
still_new k (x ∷ segments) s name h other = by (bytes_eq name x.name) h (λ e. still_new (k + 1) segments s name e other)
  where
    by : (b : Bool) → is_some (if b then Some (entry_of k x.name).location else place_in (entries_from (k + 1) segments) name) ≡ false →
        (is_some (place_in (entries_from (k + 1) segments) name) ≡ false → is_some (place_in (entries_from (k + 1) (segments ++ s ∷ [])) name) ≡ false) →
        is_some (if b then Some (entry_of k x.name).location else place_in (entries_from (k + 1) (segments ++ s ∷ [])) name) ≡ false
    by true e later = absurd cc
    by false e later = later e

all_new : (before : List draft.Segment) (s : draft.Segment) (segments : List Segment) → AllByRecursion (IsNew before) segments → is_among s.name (names_of segments) ≡ false →
    AllByRecursion (IsNew (before ++ s ∷ [])) segments
all_new before s [] new other = tt
all_new before s (x ∷ segments) new other =
    let parts = or_parts (bytes_eq s.name x.name) (is_among s.name (names_of segments)) other in
    (still_new 0 before s x.name new.0 (turn s.name x.name parts.0), all_new before s segments new.1 parts.1)

-- 2. Segments of an object.

pub record IsSegmentOf (o : Object) (number : ℕ) (s : Segment) (x : draft.Segment) : Type 0 where
  pub name : x.name ≡ s.name
  pub log : x.log ≡ s.log
  pub words : AreWordsOf o number 0 s.items x.words

abbrev pub AreSegmentsOf : Object → (number : ℕ) → List Segment → List draft.Segment → Type 0
AreSegmentsOf o number [] [] = Unit {0}
AreSegmentsOf o number [] (x ∷ xs) = ⊥
AreSegmentsOf o number (s ∷ segments) [] = ⊥
AreSegmentsOf o number (s ∷ segments) (x ∷ xs) = IsSegmentOf o number s x × AreSegmentsOf o (number + 1) segments xs

-- 3. Their lines.

module _ (o : Object) (spare : Option ℕ) where
  -- the draft of these segments
  abbrev pub with_segments : List draft.Segment → Draft
  with_segments segments = record { segments = segments; names = entries_from 0 segments; threads = []; spare = spare }

  pub record ReadsSegments (line number : ℕ) (before : List draft.Segment) (segments : List Segment) : Type 0 where
    pub next : ℕ
    pub later : List draft.Segment
    pub are : AreSegmentsOf o number segments later
    pub reads : (more : List (List ℕ)) → lines_from line (with_segments before) (segment_lines o number segments ++ more) ≡ lines_from next (with_segments (before ++ later)) more

  -- segments that have their place behind others
  pub record Fit (number : ℕ) (before : List draft.Segment) (segments : List Segment) : Type 0 where
    pub behind : number ≡ length before
    pub few : number + length segments ≤ segment_limit
    pub each : AllByRecursion IsSegment segments
    pub apart : are_apart (names_of segments) ≡ true
    pub new : AllByRecursion (IsNew before) segments
    pub words : draft.words_of before + words_of segments ≤ word_limit
    pub pointers : pointers_of before + length (found_segments o number segments) ≤ reloc_limit

  pub read_segments : (line number : ℕ) (before : List draft.Segment) (segments : List Segment) → SegmentsSpeak o number segments → Fit number before segments →
      ReadsSegments line number before segments
  read_segments line number before [] h fit =
      record { next = line; later = []; are = tt; reads = λ more. ap (λ (segments : List draft.Segment). lines_from line (with_segments segments) more) (sym (append-nil before)) }
  read_segments line number before (s ∷ segments) h fit =
      let begun : draft.Segment = record { name = s.name; log = s.log; words = [] } in
      let entered : List Entry = entries_from 0 before ++ entry_of (length before) s.name ∷ [] in
      let found = length-append (found_words o number 0 s.items) (found_segments o (number + 1) segments) in
      let room : HasRoom o entered spare before begun (length s.items) (length (found_words o number 0 s.items)) = record {
        room = omega (arith, fit.each.0.room);
        words_fit = omega (arith, fit.words);
        pointers_fit = omega (arith, fit.pointers, found);
      } in
      let words = read_words o entered spare before (line + 1) number 0 s.items begun h.0.words room in
      let x : draft.Segment = record { name = s.name; log = s.log; words = words.words } in
      let is : IsSegmentOf o number s x = record { name = refl; log = refl; words = words.are } in
      let many = as_many_words o number 0 s.items words.words words.are in
      let points = as_many_pointers o number 0 s.items words.words words.are in
      let parts = and_parts (not (is_among s.name (names_of segments))) (are_apart (names_of segments)) fit.apart in
      let fits : Fit (number + 1) (before ++ x ∷ []) segments = record {
        behind = omega (arith, fit.behind, length-append before (x ∷ []));
        few = omega (arith, fit.few);
        each = fit.each.1;
        apart = parts.1;
        new = all_new before x segments fit.new.1 (not-true (is_among s.name (names_of segments)) parts.0);
        words = omega (arith, fit.words, words_pushed before x, many);
        pointers = omega (arith, fit.pointers, found, pointers_pushed before x, points);
      } in
      let rest = read_segments words.next (number + 1) (before ++ x ∷ []) segments h.1 fits in
      let names : entered ≡ entries_from 0 (before ++ x ∷ []) = entries_pushed 0 (length before) before x (omega arith) in
      let full : nat_le segment_limit (length before) ≡ false = lt-leb segment_limit (length before) (omega (arith, fit.behind, fit.few)) in
      record {
        next = rest.next;
        later = x ∷ rest.later;
        are = (is, rest.are);
        reads = λ more.
            begin_read o line (with_segments before) ((word_lines o number 0 s.items ++ segment_lines o (number + 1) segments) ++ more) s h.0.begins fit.new.0 full
            ∙ ap (lines_from (line + 1) (record { segments = before ++ begun ∷ []; names = entered; threads = []; spare = spare }))
            (append_assoc (word_lines o number 0 s.items) (segment_lines o (number + 1) segments) more)
            ∙ words.reads (segment_lines o (number + 1) segments ++ more)
            ∙ ap (λ (entries : List Entry). lines_from words.next
            (record { segments = before ++ x ∷ []; names = entries; threads = []; spare = spare })
            (segment_lines o (number + 1) segments ++ more))
            names
            ∙ rest.reads more
            ∙ ap (λ (segments : List draft.Segment). lines_from rest.next (with_segments segments) more) (append_assoc before (x ∷ []) rest.later);
      }
