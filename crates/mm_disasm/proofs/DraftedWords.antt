-- The words of a segment, as its lines are read.
use Rattle.std.proofs.Common.{◌≡◌, ℕ, ◌+◌, ◌≤◌, Bool, nat_lt, ◌||◌, List, [], ◌∷◌, ◌++◌, length, Option, Some, None}
use Rattle.std.proofs.Common.{refl, sym, ap, ◌∙◌, arith, append_assoc, length-append}
use Rattle.std.{proofs.lemmas.{List.append-nil, Bool.{or_from, le-ltb}}, specs.Option.option_to_list}
use Rattle.mm_line.specs.declared.fault.{Fault.TheVariants.{Full, Limit}, Problem.Problem}
use Rattle.mm_line.specs.declared.statement.{Constant.Constant, Content.Content}
use Rattle.mm_draft.specs.declared.segment.Word.{Word}
use Rattle.mm_draft.specs.Drafts.{Entry, Draft, last, change_last, with_words, words_of, pointers_among, pointers_of}
use Rattle.mm_draft.specs.Faults.{room_of, fault_if, words_faults, one_if_pointer, source_of, lines_from}
use Rattle.mm_draft.proofs.Lasts.{pointers_append}
use Rattle.mm_object.specs.{declared.{item.Item.Item, target.Reloc.Reloc}, Lookups.reloc_at, Objects.Object}
use Rattle.mm_disasm.proofs.{Saying.{IsContentOf, word_of, word_lines}, Speaking.WordsSpeak}
use Rattle.mm_disasm.proofs.{DraftedLines.{clear, word_read}, DraftedRelocs.found_words}
use Rattle.mm_model.specs.Limits.{word_limit, reloc_limit}
use Rattle.mm_line.specs.declared.statement.Content.TheVariants as content
use Rattle.mm_draft.specs.Drafts as draft

-- 1. What is last.

pub change_pushed : {A : Type 0} (f : A → A) (xs : List A) (x : A) → change_last f (xs ++ x ∷ []) ≡ xs ++ f x ∷ []
change_pushed f [] x = refl
change_pushed f (y ∷ []) x = refl
change_pushed f (y ∷ z ∷ xs) x = ap (λ ys. y ∷ ys) (change_pushed f (z ∷ xs) x)

pub last_pushed : {A : Type 0} (xs : List A) (x : A) → last (xs ++ x ∷ []) ≡ Some x
last_pushed [] x = refl
last_pushed (y ∷ []) x = refl
last_pushed (y ∷ z ∷ xs) x = last_pushed (z ∷ xs) x

pub words_pushed : (segments : List draft.Segment) (s : draft.Segment) → words_of (segments ++ s ∷ []) ≡ words_of segments + length s.words
words_pushed [] s = omega arith
words_pushed (x ∷ segments) s = omega (arith, words_pushed segments s)

pub pointers_pushed : (segments : List draft.Segment) (s : draft.Segment) → pointers_of (segments ++ s ∷ []) ≡ pointers_of segments + pointers_among s.words
pointers_pushed [] s = omega arith
pointers_pushed (x ∷ segments) s = omega (arith, pointers_pushed segments s)

-- 2. Words of an object.

pub record IsWordOf (o : Object) (segment k : ℕ) (item : Item) (w : Word) : Type 0 where
  pub full : w.full ≡ item.full
  pub is_content : IsContentOf o (reloc_at o segment k) item.bits w.content

-- words from word k of a segment on, one for each of the object
abbrev pub AreWordsOf : Object → (segment k : ℕ) → List Item → List Word → Type 0
AreWordsOf o segment k [] [] = Unit {0}
AreWordsOf o segment k [] (w ∷ words) = ⊥
AreWordsOf o segment k (item ∷ items) [] = ⊥
AreWordsOf o segment k (item ∷ items) (w ∷ words) = IsWordOf o segment k item w × AreWordsOf o segment (k + 1) items words

module _ (o : Object) where
  -- a word becomes a pointer where it has a relocation
  pointer_found : (found : Option Reloc) (bits : ℕ) (c : Content) → IsContentOf o found bits c → one_if_pointer c ≡ length (option_to_list found)
  pointer_found (Some r) bits c h = ap one_if_pointer h.1
  pointer_found None bits (content.Constant c) h = ap (λ (x : Constant). one_if_pointer (content.Constant x)) h
  pointer_found None bits (content.Code code) h = refl

  pub as_many_words : (segment k : ℕ) (items : List Item) (words : List Word) → AreWordsOf o segment k items words → length words ≡ length items
  as_many_words segment k [] [] h = refl
  as_many_words segment k [] (w ∷ words) h = absurd h
  as_many_words segment k (item ∷ items) [] h = absurd h
  as_many_words segment k (item ∷ items) (w ∷ words) h = omega (arith, as_many_words segment (k + 1) items words h.1)

  pub as_many_pointers : (segment k : ℕ) (items : List Item) (words : List Word) → AreWordsOf o segment k items words →
      pointers_among words ≡ length (found_words o segment k items)
  as_many_pointers segment k [] [] h = refl
  as_many_pointers segment k [] (w ∷ words) h = absurd h
  as_many_pointers segment k (item ∷ items) [] h = absurd h
  as_many_pointers segment k (item ∷ items) (w ∷ words) h =
      let one = pointer_found (reloc_at o segment k) item.bits w.content h.0.is_content in
      let rest = as_many_pointers segment (k + 1) items words h.1 in
      omega (arith, one, rest, length-append (option_to_list (reloc_at o segment k)) (found_words o segment (k + 1) items))

-- 3. Their lines.

module _ (o : Object) (names : List Entry) (spare : Option ℕ) (before : List draft.Segment) where
  -- the draft whose last segment is this one
  abbrev pub with_last : draft.Segment → Draft
  with_last s = record { segments = before ++ s ∷ []; names = names; threads = []; spare = spare }

  -- the lines of words are read behind it: they add these words
  pub record ReadsWords (line segment k : ℕ) (items : List Item) (s : draft.Segment) : Type 0 where
    pub next : ℕ
    pub words : List Word
    pub are : AreWordsOf o segment k items words
    pub reads : (more : List (List ℕ)) → lines_from line (with_last s) (word_lines o segment k items ++ more) ≡ lines_from next (with_last (with_words words s)) more

  -- there is room for so many words, of which so many are pointers
  pub record HasRoom (s : draft.Segment) (count pointers : ℕ) : Type 0 where
    pub room : length s.words + count ≤ room_of s
    pub words_fit : words_of before + length s.words + count ≤ word_limit
    pub pointers_fit : pointers_of before + pointers_among s.words + pointers ≤ reloc_limit

  no_faults : (s : draft.Segment) (count pointers left : ℕ) → HasRoom s count pointers → words_faults (with_last s) count pointers left (last (before ++ s ∷ [])) ≡ []
  no_faults s count pointers left h =
      let full = le-ltb (room_of s) (length s.words + count) h.room in
      let words = le-ltb word_limit (words_of (before ++ s ∷ []) + count) (omega (arith, words_pushed before s, h.words_fit)) in
      let points = le-ltb reloc_limit (pointers_of (before ++ s ∷ []) + pointers) (omega (arith, pointers_pushed before s, h.pointers_fit)) in
      let many : Bool = nat_lt word_limit (words_of (before ++ s ∷ []) + count) || nat_lt reloc_limit (pointers_of (before ++ s ∷ []) + pointers) in
      ap (words_faults (with_last s) count pointers left) (last_pushed before s)
      ∙ ap (λ (problems : List Problem). problems ++ fault_if many Limit left) (clear (nat_lt (room_of s) (length s.words + count)) Full left full)
      ∙ clear many Limit left (or_from _ _ words points)

  pub read_words : (line segment k : ℕ) (items : List Item) (s : draft.Segment) → WordsSpeak o segment k items →
      HasRoom s (length items) (length (found_words o segment k items)) → ReadsWords line segment k items s
  read_words line segment k [] s h room =
      record { next = line; words = []; are = tt; reads = λ more. ap (λ (ws : List Word). lines_from line (with_last (record s { words = ws })) more) (sym (append-nil s.words)) }
  read_words line segment k (item ∷ items) s h room =
      let says = h.0 in
      let c : Content = says.means.0 in
      let w : Word = record { full = item.full; content = c; source = source_of line (word_of o segment k item) } in
      let is : IsWordOf o segment k item w = record { full = refl; is_content = says.means.2 } in
      let one = pointer_found o (reloc_at o segment k) item.bits c says.means.2 in
      let found = length-append (option_to_list (reloc_at o segment k)) (found_words o segment (k + 1) items) in
      let longer : draft.Segment = with_words (w ∷ []) s in
      let grown : length (s.words ++ w ∷ []) ≡ length s.words + 1 = length-append s.words (w ∷ []) in
      let points : pointers_among (s.words ++ w ∷ []) ≡ pointers_among s.words + one_if_pointer c = let p = pointers_append s.words (w ∷ []) in omega (arith, p) in
      let here : HasRoom s 1 (one_if_pointer c) =
      record { room = omega (arith, room.room); words_fit = omega (arith, room.words_fit); pointers_fit = omega (arith, room.pointers_fit, one, found) } in
      let later : HasRoom longer (length items) (length (found_words o segment (k + 1) items)) = record {
        room = omega (arith, room.room, grown);
        words_fit = omega (arith, room.words_fit, grown);
        pointers_fit = omega (arith, room.pointers_fit, one, found, points);
      } in
      let rest = read_words (line + 1) segment (k + 1) items longer h.1 later in
      let joined : (s.words ++ w ∷ []) ++ rest.words ≡ s.words ++ w ∷ rest.words = append_assoc s.words (w ∷ []) rest.words in
      record {
        next = rest.next;
        words = w ∷ rest.words;
        are = (is, rest.are);
        reads = λ more.
            word_read o line (with_last s) (word_lines o segment (k + 1) items ++ more) segment k item says (no_faults s 1 (one_if_pointer c) says.left here)
            ∙ ap (λ (segments : List draft.Segment). lines_from (line + 1) (record (with_last s) { segments = segments }) (word_lines o segment (k + 1) items ++ more))
            (change_pushed (with_words (w ∷ [])) before s)
            ∙ rest.reads more
            ∙ ap (λ (ws : List Word). lines_from rest.next (with_last (record s { words = ws })) more) joined;
      }
