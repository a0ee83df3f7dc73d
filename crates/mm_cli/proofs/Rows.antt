-- The rows of the table: each has a name and a command of its own, and words are in one row at most.
use Rattle.std.proofs.Common.{◌≡◌, ◌≢◌, ℕ, zero, suc, ◌+◌, ◌-◌, ◌<◌, ◌≤◌, ◌^◌, Bool, true, false, cond, List, [], ◌∷◌}
use Rattle.std.proofs.Common.{◌++◌, length, map, take, drop, get_or, slice_get, Option, Some, String, string_bytes}
use Rattle.std.proofs.Common.{codes, refl, sym, ap, ◌∙◌, subst, arith, nat_lt}
use Rattle.std.proofs.lemmas.{List.take_all, Bool.{ltb-true, Decides.Decides-eqb}, Fmt.decimal_injective}
use Rattle.std.proofs.lemmas.Slice.Eq.{bytes_eq-Decides}
use Rattle.std.specs.{Prelude.IfSome, List.find, Str.bytes_eq, declared.alloc.Global.Global}
use denote.Enum.Declared.{tag_of}
use Rattle.mm_cli.specs.contracts.table.Command.{the_type}
use Rattle.mm_cli.specs.declared.table.Command.{Command}
use Rattle.mm_cli.specs.declared.table.Parameter.{Parameter}
use Rattle.mm_cli.specs.declared.table.Parameter.TheVariants.{File, Number, Groups, Segments, Mode, Range, Address, Use}
use Rattle.mm_cli.specs.declared.table.Tail.{Tail, TheVariants.{Nothing, Optional, Repeated}}
use Rattle.mm_cli.specs.declared.words.{Word.{Word as Read}}
use Rattle.mm_cli.specs.Words.{AreOfRow, Word, file_word, number_word, groups_word, segments_word, mode_word, range_word}
use Rattle.mm_cli.specs.Words.{use_word, mode_text, text_list, FitsParameter, FitsTail, FitsRow, room, spelled, spoken, texts}
use Rattle.mm_cli.specs.Table.{TableRow, Row, IsInTable, Matches, Fits, InNoRow, is_same, row_for, table}
use Rattle.mm_cli.specs.Arguments.{arguments, arguments_by}
use Rattle.mm_cli.proofs.{GroupWords.one_list, SegmentWords.{one_list as one_list_of_segments}, ArgumentWords.arguments_row, RowWords.{same_after, names_spelled}}
use Rattle.mm_model.specs.{declared.word_use.WordUse.{WordUse, TheVariants.{Touch, Write}}, Audit.use_text}

-- 1. What is seen of each row of a list.

abbrev each : (TableRow → Bool) → List TableRow → Bool
each test [] = true
each test (row ∷ rows) = cond (test row) (each test rows) false

at_each : (test : TableRow → Bool) (rows : List TableRow) (k : ℕ) (row : TableRow) → each test rows ≡ true → slice_get rows k ≡ Some row → test row ≡ true
at_each test [] k row all at = absurd (cc)
at_each test (r ∷ rows) k row all at = by (test r) refl all k at (λ j rest here. at_each test rows j row rest here)
  where
    by : (b : Bool) → test r ≡ b → cond b (each test rows) false ≡ true → (j : ℕ) → slice_get (r ∷ rows) j ≡ Some row
        → ((j : ℕ) → each test rows ≡ true → slice_get rows j ≡ Some row → test row ≡ true) → test row ≡ true
    by true is rest zero here later = let same : r ≡ row = cc in ap test (sym same) ∙ is
    by true is rest (suc j) here later = later j rest here
    by false is rest j here later = absurd (cc)

-- 2. A row is told by its name.

bytes_same : (name : List ℕ) → bytes_eq name name ≡ true
bytes_same name = (bytes_eq-Decides name name).1 refl

abbrev is_other : List ℕ → TableRow → Bool
is_other name row = cond (bytes_eq name row.name) false true

-- each name is there once
abbrev names_once : List TableRow → Bool
names_once [] = true
names_once (row ∷ rows) = cond (each (is_other row.name) rows) (names_once rows) false

no_other : (name : List ℕ) (row : TableRow) → row.name ≡ name → is_other name row ≡ true → ⊥
no_other name row same other =
    let equal : bytes_eq name row.name ≡ true = ap (bytes_eq name) same ∙ bytes_same name in
    let not : false ≡ true = sym (ap (λ (b : Bool). cond b false true) equal) ∙ other in
    absurd (cc)

one_named_in : (rows : List TableRow) (j k : ℕ) (a b : TableRow) → names_once rows ≡ true → slice_get rows j ≡ Some a → slice_get rows k ≡ Some b → a.name ≡ b.name → a ≡ b
one_named_in [] j k a b once one two same = absurd (cc)
one_named_in (r ∷ rows) j k a b once one two same = by (each (is_other r.name) rows) refl once j k one two (λ m n rest first second. one_named_in rows m n a b rest first second same)
  where
    by : (all : Bool) → each (is_other r.name) rows ≡ all → cond all (names_once rows) false ≡ true → (m n : ℕ) → slice_get (r ∷ rows) m ≡ Some a → slice_get (r ∷ rows) n ≡ Some b
        → ((m n : ℕ) → names_once rows ≡ true → slice_get rows m ≡ Some a → slice_get rows n ≡ Some b → a ≡ b) → a ≡ b
    by false others rest m n first second later = absurd (cc)
    by true others rest zero zero first second later = cc
    by true others rest zero (suc n) first second later =
        let here : r ≡ a = cc in
        absurd (no_other r.name b (sym same ∙ ap (λ (row : TableRow). row.name) (sym here)) (at_each (is_other r.name) rows n b others second))
    by true others rest (suc m) zero first second later =
        let here : r ≡ b = cc in
        absurd (no_other r.name a (same ∙ ap (λ (row : TableRow). row.name) (sym here)) (at_each (is_other r.name) rows m a others first))
    by true others rest (suc m) (suc n) first second later = later m n rest first second

table_names : names_once table ≡ true
table_names = refl

pub one_named : (j k : ℕ) (a b : TableRow) → slice_get table j ≡ Some a → slice_get table k ≡ Some b → a.name ≡ b.name → a ≡ b
one_named j k a b one two same = one_named_in table j k a b table_names one two same

-- 3. The words of a row have room.

abbrev has_room : TableRow → Bool
has_room row = nat_lt (length row.parameters + room row.tail) 5

table_room : each has_room table ≡ true
table_room = refl

pub room_for_words : (k : ℕ) (row : TableRow) → slice_get table k ≡ Some row → length row.parameters + room row.tail ≤ 4
room_for_words k row at = let few : length row.parameters + room row.tail < 5 = ltb-true (length row.parameters + room row.tail) 5 (at_each has_room table k row table_room at) in omega (arith, few)

-- 4. Words that are read.

-- the first word and the rest
pub first_and_rest : (words : List (String Global)) (word : String Global) → 1 ≤ length words → word ≡ get_or words 0 word
    → texts words ≡ string_bytes word ∷ texts (take (length words - 1) (drop 1 words))
first_and_rest [] word some is = absurd (omega arith)
first_and_rest (w ∷ words) word some is =
    ap (λ (x : String Global). string_bytes x ∷ texts words) (sym is)
    ∙ ap (λ (xs : List (String Global)). string_bytes word ∷ texts xs) (sym (take_all (length (w ∷ words) - 1) words (omega arith)))

-- nor where the rest is not that of the row that the first names
pub no_rest_of : (words : List (List ℕ)) (name : List ℕ) (rest : List (List ℕ)) (number : ℕ) (table_row : TableRow) → words ≡ name ∷ rest → slice_get table number ≡ Some table_row
    → table_row.name ≡ name
    → ((arguments : List Word) → FitsRow table_row.parameters table_row.tail arguments → rest ≢ spelled arguments) → InNoRow words
no_rest_of words name rest number table_row are at named none row asks =
    let same : asks.in_table.table_row.name ≡ name = cc (asks.arguments, are) in
    let one : asks.in_table.table_row ≡ table_row = one_named asks.in_table.number number asks.in_table.table_row table_row asks.in_table.at at (same ∙ sym named) in
    let spells : rest ≡ spelled row.words = cc (asks.arguments, are) in
    none row.words (subst (λ (l : TableRow). FitsRow l.parameters l.tail row.words) one asks.in_table.fits) spells

pub asks_for : (words : List (List ℕ)) (name : List ℕ) (rest : List (List ℕ)) (number : ℕ) (table_row : TableRow) (arguments : List Word) → words ≡ name ∷ rest
    → slice_get table number ≡ Some table_row
    → table_row.name ≡ name → FitsRow table_row.parameters table_row.tail arguments → rest ≡ spelled arguments → Matches words (record { command = table_row.command; words = arguments })
asks_for words name rest number table_row arguments are at named fits spells = record {
  in_table = record { number = number; table_row = table_row; at = at; command = refl; fits = fits };
  arguments = are ∙ ap (λ (n : List ℕ). n ∷ rest) (sym named) ∙ ap (λ (xs : List (List ℕ)). table_row.name ∷ xs) spells;
}

-- 5. A row is told by its command.

abbrev is_different : Command → TableRow → Bool
is_different command row = cond (is_same command row.command) false true

abbrev commands_once : List TableRow → Bool
commands_once [] = true
commands_once (row ∷ rows) = cond (each (is_different row.command) rows) (commands_once rows) false

table_commands : commands_once table ≡ true
table_commands = refl

same_command : (command : Command) → is_same command command ≡ true
same_command command = (Decides-eqb (tag_of the_type command) (tag_of the_type command)).1 refl

found_in : (rows : List TableRow) (k : ℕ) (row : TableRow) → commands_once rows ≡ true → slice_get rows k ≡ Some row → find (λ (r : TableRow). is_same r.command row.command) rows ≡ Some row
found_in [] k row once at = absurd (cc)
found_in (r ∷ rows) k row once at = by (each (is_different r.command) rows) refl once k at (λ j rest first. found_in rows j row rest first)
  where
    test : TableRow → Bool
    test x = is_same x.command row.command

    here : (b : Bool) → test r ≡ b → r ≡ row → cond b (Some r) (find test rows) ≡ Some row
    here true is same = ap (λ (x : TableRow). Some x) same
    here false is same =
        let equal : test r ≡ true = ap (λ (x : TableRow). is_same x.command row.command) same ∙ same_command row.command in
        absurd (cc)

    later : (b : Bool) → test r ≡ b → is_different r.command row ≡ true → find test rows ≡ Some row → cond b (Some r) (find test rows) ≡ Some row
    later true is different rest =
        let not : false ≡ true = sym (ap (λ (b : Bool). cond b false true) is) ∙ different in
        absurd (cc)
    later false is different rest = rest

    by : (all : Bool) → each (is_different r.command) rows ≡ all → cond all (commands_once rows) false ≡ true → (j : ℕ) → slice_get (r ∷ rows) j ≡ Some row
        → ((j : ℕ) → commands_once rows ≡ true → slice_get rows j ≡ Some row → find test rows ≡ Some row) → find test (r ∷ rows) ≡ Some row
    by false others rest j first again = absurd (cc)
    by true others rest zero first again = let same : r ≡ row = cc in here (test r) refl same
    by true others rest (suc j) first again = later (test r) refl (at_each (is_different r.command) rows j row others first) (again j rest first)

-- words that are in a row of the table fit in the row of its command
pub fits_of : (row : Row) → IsInTable row → Fits row.command row.words
fits_of row is =
    let found : row_for is.table_row.command ≡ Some is.table_row = found_in table is.number is.table_row table_commands is.at in
    let same : row_for row.command ≡ Some is.table_row = ap row_for (sym is.command) ∙ found in
    subst (λ (o : Option TableRow). IfSome o (λ r. FitsRow r.parameters r.tail row.words)) (sym same) is.fits

-- 6. Words are in one row at most.

abbrev small : Parameter → Bool
small (Number least most) = nat_lt most (2 ^ 64)
small parameter = true

abbrev all_small : List Parameter → Bool
all_small [] = true
all_small (parameter ∷ parameters) = cond (small parameter) (all_small parameters) false

abbrev small_tail : Tail → Bool
small_tail (Optional parameter) = small parameter
small_tail tail = true

abbrev is_small : TableRow → Bool
is_small row = cond (all_small row.parameters) (small_tail row.tail) false

table_small : each is_small table ≡ true
table_small = refl

both : (a b : Bool) → cond a b false ≡ true → (a ≡ true) × (b ≡ true)
both true b all = (refl, all)
both false b all = absurd (cc)

one_mode : (a b : Bool) → mode_text a ≡ mode_text b → a ≡ b
one_mode true true same = refl
one_mode true false same = let clash : true ≡ false = ap (bytes_eq (codes "split")) same in absurd (cc)
one_mode false true same = let clash : true ≡ false = ap (bytes_eq (codes "plain")) same in absurd (cc)
one_mode false false same = refl

one_use : (a b : WordUse) → use_text a ≡ use_text b → a ≡ b
one_use Write Write same = refl
one_use Write Touch same = let clash : true ≡ false = ap (bytes_eq (codes "write")) same in absurd (cc)
one_use Touch Write same = let clash : true ≡ false = ap (bytes_eq (codes "touch")) same in absurd (cc)
one_use Touch Touch same = refl

first_text : (t u : List ℕ) (a b : List (List ℕ)) → t ∷ a ≡ u ∷ b → t ≡ u
first_text t u a b same = cc

second_text : (s t u v : List ℕ) (a b : List (List ℕ)) → s ∷ t ∷ a ≡ u ∷ v ∷ b → t ≡ v
second_text s t u v a b same = cc

one_word : (p : Parameter) (v w : Word) (a b : List (List ℕ)) → small p ≡ true → FitsParameter p v → FitsParameter p w → text_list v ++ a ≡ text_list w ++ b → v ≡ w
one_word (File k) (file_word l n) (file_word m o) a b few one two same = let names = first_text n o a b same in cc
one_word (File k) (file_word l n) w a b few one two same = absurd two
one_word (Number least most) (number_word n) (number_word m) a b few one two same =
    let bound = ltb-true most (2 ^ 64) few in
    ap (λ (k : ℕ). number_word k) (decimal_injective n m (omega (arith, one.1, bound)) (omega (arith, two.1, bound)) (first_text _ _ a b same))
one_word (Number least most) (number_word n) w a b few one two same = absurd two
one_word Groups (groups_word gs) (groups_word hs) a b few one two same = ap (λ (xs : List ℕ). groups_word xs) (one_list gs hs one two (first_text _ _ a b same))
one_word Groups (groups_word gs) w a b few one two same = absurd two
one_word Segments (segments_word xs) (segments_word ys) a b few one two same =
    ap (λ (zs : List (ℕ × ℕ)). segments_word zs) (one_list_of_segments xs ys one two (first_text _ _ a b same))
one_word Segments (segments_word xs) w a b few one two same = absurd two
one_word Mode (mode_word c) (mode_word d) a b few one two same = ap (λ (split : Bool). mode_word split) (one_mode c d (first_text _ _ a b same))
one_word Mode (mode_word c) w a b few one two same = absurd two
one_word Range (range_word n l) (range_word m k) a b few one two same =
    let base : n ≡ m = decimal_injective n m (omega (arith, one.0)) (omega (arith, two.0)) (first_text _ _ _ _ same) in
    let log : l ≡ k = decimal_injective l k (omega (arith, one.2)) (omega (arith, two.2)) (second_text _ _ _ _ a b same) in
    cc
one_word Range (range_word n l) w a b few one two same = absurd two
one_word Address (number_word n) (number_word m) a b few one two same =
    ap (λ (k : ℕ). number_word k) (decimal_injective n m (omega (arith, one.1)) (omega (arith, two.1)) (first_text _ _ a b same))
one_word Address (number_word n) w a b few one two same = absurd two
one_word Use (use_word c) (use_word d) a b few one two same = ap (λ (how : WordUse). use_word how) (one_use c d (first_text _ _ a b same))
one_word Use (use_word c) w a b few one two same = absurd two
one_word p v w a b few one two same = absurd one

not_empty : (w : Word) (ws : List Word) → spelled (w ∷ ws) ≡ [] → ⊥
not_empty (file_word k n) ws none = absurd (cc)
not_empty (number_word n) ws none = absurd (cc)
not_empty (groups_word gs) ws none = absurd (cc)
not_empty (segments_word xs) ws none = absurd (cc)
not_empty (mode_word split) ws none = absurd (cc)
not_empty (range_word b l) ws none = absurd (cc)
not_empty (use_word how) ws none = absurd (cc)

one_tail : (tail : Tail) (vs ws : List Word) → small_tail tail ≡ true → FitsTail tail vs → FitsTail tail ws → spelled vs ≡ spelled ws → vs ≡ ws
one_tail Nothing [] [] few one two same = refl
one_tail Nothing [] (w ∷ ws) few one two same = absurd two
one_tail Nothing (v ∷ vs) ws few one two same = absurd one
one_tail (Optional p) [] [] few one two same = refl
one_tail (Optional p) [] (w ∷ []) few one two same = absurd (not_empty w [] (sym same))
one_tail (Optional p) [] (w ∷ x ∷ ws) few one two same = absurd two
one_tail (Optional p) (v ∷ []) [] few one two same = absurd (not_empty v [] same)
one_tail (Optional p) (v ∷ []) (w ∷ []) few one two same = ap (λ (x : Word). x ∷ []) (one_word p v w [] [] few one two same)
one_tail (Optional p) (v ∷ []) (w ∷ x ∷ ws) few one two same = absurd two
one_tail (Optional p) (v ∷ x ∷ vs) ws few one two same = absurd one
one_tail (Repeated k most) vs ws few one two same =
    let names : one.0 ≡ two.0 = sym (names_spelled k one.0) ∙ sym (ap spelled one.1) ∙ same ∙ ap spelled two.1 ∙ names_spelled k two.0 in
    one.1 ∙ ap (map (file_word k)) names ∙ sym two.1

one_row_of : (ps : List Parameter) (tail : Tail) (vs ws : List Word) → all_small ps ≡ true → small_tail tail ≡ true → FitsRow ps tail vs → FitsRow ps tail ws → spelled vs ≡ spelled ws → vs ≡ ws
one_row_of [] tail vs ws few least one two same = one_tail tail vs ws least one two same
one_row_of (p ∷ ps) tail [] ws few least one two same = absurd one
one_row_of (p ∷ ps) tail (v ∷ vs) [] few least one two same = absurd two
one_row_of (p ∷ ps) tail (v ∷ vs) (w ∷ ws) few least one two same =
    let (first, others) = both (small p) (all_small ps) few in
    let head : v ≡ w = one_word p v w (spelled vs) (spelled ws) first one.0 two.0 same in
    let tail : vs ≡ ws = one_row_of ps tail vs ws others least one.1 two.1 (same_after p v w (spelled vs) (spelled ws) one.0 two.0 same) in
    cc

-- the same words ask for the same row
pub one_row : (words : List (List ℕ)) (a b : Row) → Matches words a → Matches words b → a ≡ b
one_row words a b one two =
    let d = one.in_table.table_row in
    let e = two.in_table.table_row in
    let names : d.name ≡ e.name = cc (one.arguments, two.arguments) in
    let rows : d ≡ e = one_named one.in_table.number two.in_table.number d e one.in_table.at two.in_table.at names in
    let texts : spelled a.words ≡ spelled b.words = cc (one.arguments, two.arguments) in
    let (few, least) = both (all_small d.parameters) (small_tail d.tail) (at_each is_small table one.in_table.number d table_small one.in_table.at) in
    let fits : FitsRow d.parameters d.tail b.words = subst (λ (l : TableRow). FitsRow l.parameters l.tail b.words) (sym rows) two.in_table.fits in
    let words_same : a.words ≡ b.words = one_row_of d.parameters d.tail a.words b.words few least one.in_table.fits fits texts in
    let commands : a.command ≡ b.command = sym one.in_table.command ∙ ap (λ (l : TableRow). l.command) rows ∙ two.in_table.command in
    ap (λ (c : Command). record { command = c; words = a.words }) commands ∙ ap (λ (ws : List Word). record { command = b.command; words = ws }) words_same

-- what was read for a row of the table is what the words of its command say
pub as_said : (number : ℕ) (row : TableRow) (words : List Read) → slice_get table number ≡ Some row
    → AreOfRow row.parameters row.tail words → spoken words ≡ arguments row.command words
as_said number row words at are =
    let found : row_for row.command ≡ Some row = found_in table number row table_commands at in
    arguments_row row.parameters row.tail words are ∙ ap (λ (o : Option TableRow). arguments_by o words) (sym found)
