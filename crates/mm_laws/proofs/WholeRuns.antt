-- The lines of groups' sections and cells are lines of the report.
use Rattle.std.proofs.Common.{◌≡◌, ℕ, zero, suc, ◌+◌, ◌/◌, inl, inr, Bool, true, false, if◌then◌else◌, List, [], ◌∷◌}
use Rattle.std.proofs.Common.{◌++◌, length, take, drop, codes, decimal, Option, None, Some, refl, sym, ap, ◌∙◌, subst}
use Rattle.std.proofs.{Common.{append_assoc, append-nil, arith}, lemmas.Bool.cases_Bool}
use Rattle.std.specs.{Prelude.Contains, List.{flat_map, filter, range_with_len}}
use Rattle.mm_word.specs.declared.word.{Cell.Cell, Word.{Word, TheVariants.Ptr}}
use Rattle.mm_model.specs.{declared.{counts.Counts.Counts, slot.Pending.Pending}, Digits.hex}
use Rattle.mm_model.specs.{Memory.{Memory, is_mapped}, Slot.{Slot, register, is_empty}}
use Rattle.mm_model.specs.{State.{ThreadRow, Core, State, output_of}, Image.{Image, start}, Groups.HasSlot}
use Rattle.mm_model.specs.{Spelling.IsImage, Run.run}
use Rattle.mm_model.specs.Lines.{newline, word_text, state_text, past_text, numbers_text, slot_line, is_zero, word_line}
use Rattle.mm_model.specs.Lines.{register_line, pending_line, register_lines, slot_lines, bytes_text, output_row}
use Rattle.mm_model.specs.Lines.{output_rows, output_lines, full_text, cell_line}
use Rattle.mm_model.specs.Report.{is_of, cycles_line, group_line, section, groups_of, sections, page_change, page_lines}
use Rattle.mm_model.specs.{Report.{pages_of, changes, cell_lines, count_line, report}, Reach.Entries.All}
use Rattle.mm_model.{specs.Worlds.{sections_of, Touchable, Apart}, proofs.Filters.{filter_takes, filter_drops}}
use Rattle.mm_laws.specs.{Runs.{EndsALine, AreLinesOf, IsLineOf, Reaches, Isolates}, CellLines.{LinesOf, CellLinesOf}}
use Rattle.mm_laws.proofs.{GrantedRuns.runs_granted, OwnItems.alone_sees}

-- 1. Texts that are made of whole lines.

-- the text ends with a newline
abbrev Ends : List ℕ → Type 0
Ends text = (rest : List ℕ) × (text ≡ rest ++ newline)

behind : (a b : List ℕ) → Ends b → Ends (a ++ b)
behind a b (rest, is) = (a ++ rest, ap (λ (t : List ℕ). a ++ t) is ∙ sym (append_assoc a rest newline))

end : Ends newline
end = ([], refl)

both : (a b : List ℕ) → EndsALine a → EndsALine b → EndsALine (a ++ b)
both a b first (inr ends) = inr (behind a b ends)
both a b first (inl none) = subst EndsALine (sym (ap (λ (t : List ℕ). a ++ t) none ∙ append-nil a)) first

each : {A : Type 0} (f : A → List ℕ) → ((x : A) → EndsALine (f x)) → (xs : List A) → EndsALine (flat_map f xs)
each f ends [] = inl refl
each f ends (x ∷ xs) = both (f x) (flat_map f xs) (ends x) (each f ends xs)

-- 2. Lines among lines.

none_of : (text : List ℕ) → EndsALine text → AreLinesOf [] text
none_of text ends = subst (AreLinesOf []) (append-nil text) (AreLinesOf.left_out ends AreLinesOf.no_line)

joined : (a whole b more : List ℕ) → AreLinesOf a whole → AreLinesOf b more → AreLinesOf (a ++ b) (whole ++ more)
joined a whole b more AreLinesOf.no_line rest = rest
joined a whole b more (AreLinesOf.kept {text = t} {lines = l} {whole = w} ends part) rest =
    let P : List ℕ → Type 0 = λ x. AreLinesOf x ((t ++ w) ++ more) in
    let Q : List ℕ → Type 0 = λ x. AreLinesOf (t ++ (l ++ b)) x in
    subst P (sym (append_assoc t l b)) (subst Q (sym (append_assoc t w more)) (AreLinesOf.kept ends (joined l w b more part rest)))
joined a whole b more (AreLinesOf.left_out {text = t} {whole = w} ends part) rest =
    let Q : List ℕ → Type 0 = λ x. AreLinesOf (a ++ b) x in
    subst Q (sym (append_assoc t w more)) (AreLinesOf.left_out ends (joined a w b more part rest))

-- with whole lines behind
followed : (lines whole more : List ℕ) → EndsALine more → AreLinesOf lines whole → AreLinesOf lines (whole ++ more)
followed lines whole more last part =
    let P : List ℕ → Type 0 = λ x. AreLinesOf x (whole ++ more) in
    subst P (append-nil lines) (joined lines whole [] more part (none_of more last))

filtered : {A : Type 0} (f : A → List ℕ) → ((x : A) → EndsALine (f x)) → (c : A → Bool) (xs : List A) → AreLinesOf (flat_map f (filter c xs)) (flat_map f xs)
filtered f ends c [] = AreLinesOf.no_line
filtered f ends c (x ∷ xs) = elim (cases_Bool (c x)) [
  | inl t ↦ subst (λ l. AreLinesOf (flat_map f l) (f x ++ flat_map f xs)) (sym (filter_takes c x xs t)) (AreLinesOf.kept (ends x) (filtered f ends c xs))
  | inr out ↦ subst (λ l. AreLinesOf (flat_map f l) (f x ++ flat_map f xs)) (sym (filter_drops c x xs out)) (AreLinesOf.left_out (ends x) (filtered f ends c xs))
]

-- 3. Each line of the report ends.

register_ends : (r : ℕ) (w : Word) (zero : Bool) → EndsALine (if zero then [] else codes "r " ++ decimal r ++ codes " " ++ word_text w ++ newline)
register_ends r w true = inl refl
register_ends r w false = inr (codes "r " ++ decimal r ++ codes " " ++ word_text w, refl)

register_line_ends : (s : Slot) (r : ℕ) → EndsALine (register_line s r)
register_line_ends s r = by (is_empty s r)
  where
    by : (empty : Bool) → EndsALine (if empty then codes "r " ++ decimal r ++ codes " empty\n" else word_line r (register s r))
    by true = inr (behind (codes "r " ++ decimal r) (codes " empty\n") (codes " empty", refl))
    by false = register_ends r (register s r) (is_zero (register s r))

past_ends : (past : Bool) → Ends (past_text past)
past_ends true = (codes " past", refl)
past_ends false = end

slot_line_ends : (s : Slot) → Ends (slot_line s)
slot_line_ends s = behind (numbers_text s.number s.turns ++ state_text s.state ++ codes " ip " ++ word_text (Ptr s.ip)) (past_text s.past) (past_ends s.past)

pending_ends : (p : Pending) → EndsALine (pending_line p)
pending_ends p = inr (codes "pending " ++ decimal p.reg ++ codes " " ++ word_text p.word, refl)

slot_ends : (s : Slot) → EndsALine (slot_lines s)
unfolding slot_lines
slot_ends s =
    both (slot_line s ++ register_lines s) (flat_map pending_line s.pending)
    (both (slot_line s) (register_lines s) (inr (slot_line_ends s)) (each (register_line s) (register_line_ends s) (range_with_len 0 16)))
    (each pending_line pending_ends s.pending)

rows_end : (count : ℕ) (bytes : List ℕ) → EndsALine (output_rows count bytes)
rows_end zero bytes = inl refl
rows_end (suc count) bytes = both (output_row (take 32 bytes)) (output_rows count (drop 32 bytes)) (inr (codes "o " ++ bytes_text (take 32 bytes), refl)) (rows_end count (drop 32 bytes))

section_ends : (core : Core) (g : ℕ) → EndsALine (section core g)
unfolding section
section_ends core g =
    both (group_line g (length (output_of core g)) ++ output_lines (output_of core g)) (flat_map (λ (row : ThreadRow). slot_lines row.slot) (filter (is_of g) core.rows))
    (both (group_line g (length (output_of core g))) (output_lines (output_of core g))
    (inr (codes "group " ++ decimal g ++ codes " output " ++ decimal (length (output_of core g)), refl))
    (rows_end ((length (output_of core g) + 31) / 32) (output_of core g)))
    (each (λ (row : ThreadRow). slot_lines row.slot) (λ row. slot_ends row.slot) (filter (is_of g) core.rows))

change_ends : (p : ℕ) (now was : Bool) → EndsALine (page_change p now was)
change_ends p true false = inr (behind (codes "page " ++ hex 11 p) (codes " new\n") (codes " new", refl))
change_ends p false true = inr (behind (codes "page " ++ hex 11 p) (codes " gone\n") (codes " gone", refl))
change_ends p true true = inl refl
change_ends p false false = inl refl

pages_end : (now image : Memory) → EndsALine (page_lines now image)
pages_end now image =
    each (λ (page : ℕ × List Cell). page_change page.0 (is_mapped now page.0) (is_mapped image page.0))
    (λ page. change_ends page.0 (is_mapped now page.0) (is_mapped image page.0)) (pages_of now image)

cell_ends : (w : ℕ) (c : Cell) → EndsALine (cell_line w c)
cell_ends w c = inr (codes "cell " ++ hex 14 w ++ codes " " ++ word_text c.word ++ full_text c.full, refl)

cells_end : (now image : Memory) → EndsALine (cell_lines now image)
cells_end now image =
    each (λ (change : ℕ × Cell). cell_line change.0 change.1) (λ change. cell_ends change.0 change.1) (changes now image)

counts_end : (counts : Option Counts) → EndsALine (count_line counts)
counts_end None = inl refl
counts_end (Some c) =
    inr (
      codes "counts hits " ++ decimal c.hits ++ codes " misses " ++ decimal c.misses ++ codes " writebacks " ++ decimal c.writebacks ++ codes " tlb_hits " ++ decimal c.tlb_hits
          ++ codes " tlb_misses " ++ decimal c.tlb_misses ++ codes " reads " ++ decimal c.reads ++ codes " writes " ++ decimal c.writes,
      refl,
    )

cycles_end : (cycles : ℕ) → EndsALine (cycles_line cycles)
cycles_end cycles = inr (codes "cycles " ++ decimal cycles, refl)

-- 4. What groups see is written.

sections_written : (c : ℕ → Bool) (s : State) (i : Image) (counts : Option Counts) → AreLinesOf (sections_of c s.core) (report s i counts)
unfolding report sections_of
sections_written c s i counts =
    followed (sections_of c s.core) (cycles_line s.cycles ++ sections s.core ++ page_lines s.memory i.memory ++ cell_lines s.memory i.memory) (count_line counts) (counts_end counts)
    (followed (sections_of c s.core) (cycles_line s.cycles ++ sections s.core ++ page_lines s.memory i.memory) (cell_lines s.memory i.memory) (cells_end s.memory i.memory)
    (followed (sections_of c s.core) (cycles_line s.cycles ++ sections s.core) (page_lines s.memory i.memory) (pages_end s.memory i.memory)
    (AreLinesOf.left_out (cycles_end s.cycles) (filtered (section s.core) (section_ends s.core) c (groups_of s.core)))))

passing : (Passes : ℕ → Type 0) (cells : List (ℕ × Cell)) (text : List ℕ) → LinesOf Passes cells text → AreLinesOf text (flat_map (λ (change : ℕ × Cell). cell_line change.0 change.1) cells)
passing Passes cells text LinesOf.no_cell = AreLinesOf.no_line
passing Passes cells text (LinesOf.line {w = w} {c = d} {cells = others} {text = t} passes rest) = AreLinesOf.kept (cell_ends w d) (passing Passes others t rest)
passing Passes cells text (LinesOf.no_line {w = w} {c = d} {cells = others} out rest) = AreLinesOf.left_out (cell_ends w d) (passing Passes others text rest)

-- what the report has before the lines of cells
abbrev front : State → Image → List ℕ
front s i = cycles_line s.cycles ++ sections s.core ++ page_lines s.memory i.memory

front_ends : (s : State) (i : Image) → EndsALine (front s i)
front_ends s i =
    both (cycles_line s.cycles ++ sections s.core) (page_lines s.memory i.memory)
    (both (cycles_line s.cycles) (sections s.core) (cycles_end s.cycles) (each (section s.core) (section_ends s.core) (groups_of s.core)))
    (pages_end s.memory i.memory)

pub cells_written : (i : Image) (c : ℕ → Bool) (s : State) (counts : Option Counts) (text : List ℕ) → CellLinesOf i c s text → AreLinesOf text (report s i counts)
unfolding report
cells_written i c s counts text lines =
    followed text (front s i ++ cell_lines s.memory i.memory) (count_line counts) (counts_end counts)
    (AreLinesOf.left_out (front_ends s i) (passing (Touchable i All c) (changes s.memory i.memory) text lines))

-- a line of a text is one of the text behind whole lines, and of the text with more behind it
line_later : (line text first : List ℕ) → EndsALine first → IsLineOf line text → IsLineOf line (first ++ text)
line_later line text first ends is = record {
  before = first ++ is.before;
  behind = is.behind;
  stands = ap (λ (t : List ℕ). first ++ t) is.stands ∙ sym (append_assoc first (is.before ++ line) is.behind) ∙ ap (λ (t : List ℕ). t ++ is.behind) (sym (append_assoc first is.before line));
  begins = both first is.before ends is.begins;
}

line_with_more : (line text more : List ℕ) → IsLineOf line text → IsLineOf line (text ++ more)
line_with_more line text more is = record {
  before = is.before;
  behind = is.behind ++ more;
  stands = ap (λ (t : List ℕ). t ++ more) is.stands ∙ append_assoc (is.before ++ line) is.behind more;
  begins = is.begins;
}

one_of : {A : Type 0} (f : A → List ℕ) → ((x : A) → EndsALine (f x)) → (xs : List A) (x : A) → Contains xs x → IsLineOf (f x) (flat_map f xs)
one_of f ends [] x h = absurd (omega (arith, h.1))
one_of f ends (y ∷ xs) x (zero, lt, is) = record { before = []; behind = flat_map f xs; stands = ap (λ z. f z ++ flat_map f xs) is; begins = inl refl }
one_of f ends (y ∷ xs) x (suc k, lt, is) = line_later (f x) (flat_map f xs) (f y) (ends y) (one_of f ends xs x (k, omega arith, is))

cell_written : (i : Image) (s : State) (counts : Option Counts) (w : ℕ) (cell : Cell) → Contains (changes s.memory i.memory) (w, cell) → IsLineOf (cell_line w cell) (report s i counts)
unfolding report
cell_written i s counts w cell is =
    line_with_more (cell_line w cell) (front s i ++ cell_lines s.memory i.memory) (count_line counts)
    (line_later (cell_line w cell) (cell_lines s.memory i.memory) (front s i) (front_ends s i)
    (one_of (λ (change : ℕ × Cell). cell_line change.0 change.1) (λ change. cell_ends change.0 change.1) (changes s.memory i.memory) (w, cell) is))

-- 5. So much is promised of a run.

pub runs_reach : (i : Image) (items : List ℕ) → IsImage i → Reaches i items
runs_reach i items img before behind n split = record {
  touched = ((runs_granted i before img).next n).touched;
  entered = ((runs_granted i before img).next n).entered;
}

pub runs_isolate : (i : Image) (items : List ℕ) (counts : Option Counts) (c : ℕ → Bool) → IsImage i → HasSlot i c → Apart i All c
    → Isolates i items (report (run (start i) items) i counts) c
runs_isolate i items counts c img has apart = record {
  view = (alone_sees i c items img has apart).view;
  sections = sections_written c (run (start i) items) i counts;
  cells = λ w cell touched. cell_written i (run (start i) items) counts w cell;
}
