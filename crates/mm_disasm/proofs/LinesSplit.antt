-- A canonical text is its lines, each with a newline behind it.
use Rattle.std.proofs.Common.{◌≡◌, ℕ, ◌+◌, Bool, true, false, ◌==◌, if◌then◌else◌, List, [], ◌∷◌, ◌++◌, refl, sym, ap}
use Rattle.std.proofs.{Common.◌∙◌, lemmas.{Grind.flat_map-append, Bool.{and_parts, not-true}}}
use Rattle.std.specs.List.{flat_map, slice_split, onto_first}
use Rattle.mm_draft.specs.Faults.{lines_of}
use Rattle.mm_model.specs.Lines.{newline}
use Rattle.mm_object.specs.declared.{item.Item.Item, thread.{Value.Value, Thread.Thread}}
use Rattle.mm_object.specs.Objects.{Segment, Object, IsObject}
use Rattle.mm_disasm.specs.Canonical.{word_line, words_text, segment_text, segments_text, register_line, registers_text}
use Rattle.mm_disasm.specs.Canonical.{thread_text, canonical, is_zero}
use Rattle.mm_disasm.proofs.Saying.{spare_of, begin_of, word_of, thread_of, register_of, word_lines, segment_lines}
use Rattle.mm_disasm.proofs.Saying.{register_lines, thread_lines, object_lines}
use Rattle.mm_disasm.proofs.LinesPlain.{is_plain_byte, is_plain, are_plain, lines_plain}

-- 1. The text of lines.

abbrev ended : List ℕ → List ℕ
ended line = line ++ newline

-- lines, each with a newline behind it
abbrev pub text_of : List (List ℕ) → List ℕ
text_of lines = flat_map ended lines

words_are : (o : Object) (segment k : ℕ) (items : List Item) → words_text o segment k items ≡ text_of (word_lines o segment k items)
unfolding word_line
words_are o segment k [] = refl
words_are o segment k (item ∷ items) = ap (λ t. ended (word_of o segment k item) ++ t) (words_are o segment (k + 1) items)

-- one text behind another
behind : (a b : List (List ℕ)) (s t : List ℕ) → s ≡ text_of a → t ≡ text_of b → s ++ t ≡ text_of (a ++ b)
behind a b s t e f = ap (λ u. u ++ t) e ∙ ap (λ u. text_of a ++ u) f ∙ sym (flat_map-append ended a b)

segments_are : (o : Object) (number : ℕ) (segments : List Segment) → segments_text o number segments ≡ text_of (segment_lines o number segments)
unfolding segment_text
segments_are o number [] = refl
segments_are o number (s ∷ segments) =
    behind (begin_of s ∷ word_lines o number 0 s.items) (segment_lines o (number + 1) segments) (segment_text o number s) (segments_text o (number + 1) segments)
    (ap (λ t. ended (begin_of s) ++ t) (words_are o number 0 s.items)) (segments_are o (number + 1) segments)

one_register : (o : Object) (k : ℕ) (v : Value) (zero : Bool) (s : List ℕ) (lines : List (List ℕ)) → s ≡ text_of lines
    → (if zero then [] else ended (register_of o k v)) ++ s ≡ text_of (if zero then lines else register_of o k v ∷ lines)
one_register o k v true s lines e = e
one_register o k v false s lines e = ap (λ t. ended (register_of o k v) ++ t) e

registers_are : (o : Object) (k : ℕ) (values : List Value) → registers_text o k values ≡ text_of (register_lines o k values)
unfolding register_line
registers_are o k [] = refl
registers_are o k (v ∷ values) = one_register o k v (is_zero v) (registers_text o (k + 1) values) (register_lines o (k + 1) values) (registers_are o (k + 1) values)

threads_are : (o : Object) (threads : List Thread) → flat_map (thread_text o) threads ≡ text_of (thread_lines o threads)
unfolding thread_text
threads_are o [] = refl
threads_are o (t ∷ threads) =
    behind (thread_of o t ∷ register_lines o 0 t.regs) (thread_lines o threads) (thread_text o t) (flat_map (thread_text o) threads)
    (ap (λ s. ended (thread_of o t) ++ s) (registers_are o 0 t.regs)) (threads_are o threads)

pub text_is : (o : Object) → canonical o ≡ text_of (object_lines o)
unfolding canonical object_lines
text_is o =
    behind (spare_of o.spare ∷ segment_lines o 0 o.segments) (thread_lines o o.threads)
    (ended (spare_of o.spare) ++ segments_text o 0 o.segments) (flat_map (thread_text o) o.threads)
    (ap (λ t. ended (spare_of o.spare) ++ t) (segments_are o 0 o.segments)) (threads_are o o.threads)

-- 2. And it is cut into them.

abbrev cut : List ℕ → List (List ℕ)
cut text = slice_split (λ b. b == 10) text

no_newline : (b : ℕ) → is_plain_byte b ≡ true → (b == 10) ≡ false
no_newline b h = not-true (b == 10) h

cut_line : (line rest : List ℕ) → is_plain line ≡ true → cut (ended line ++ rest) ≡ line ∷ cut rest
cut_line [] rest h = refl
cut_line (b ∷ line) rest h =
    let two = and_parts (is_plain_byte b) (is_plain line) h in
    rw (no_newline b two.0) (ap (onto_first b) (cut_line line rest two.1))

cut_lines : (lines : List (List ℕ)) → are_plain lines ≡ true → cut (text_of lines) ≡ lines ++ [] ∷ []
cut_lines [] h = refl
cut_lines (line ∷ lines) h =
    let two = and_parts (is_plain line) (are_plain lines) h in
    cut_line line (text_of lines) two.0 ∙ ap (λ t. line ∷ t) (cut_lines lines two.1)

pub lines_are : (o : Object) → IsObject o → lines_of (canonical o) ≡ object_lines o ++ [] ∷ []
lines_are o h = ap cut (text_is o) ∙ cut_lines (object_lines o) (lines_plain o h)
