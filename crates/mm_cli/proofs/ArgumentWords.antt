-- What was read, and what the words of a command say.
use Rattle.std.proofs.Common.{◌≡◌, ℕ, suc, ◌≤◌, List, [], ◌∷◌, ◌++◌, length, map, slice_get, None, Some, String}
use Rattle.std.proofs.{Common.{string_bytes, refl, sym, ap, ◌∙◌, append-nil, arith}, lemmas.List.length-map}
use Rattle.std.specs.declared.alloc.Global.{Global}
use Rattle.mm_cli.specs.declared.table.Kind.{Kind}
use Rattle.mm_cli.specs.declared.table.Parameter.{Parameter}
use Rattle.mm_cli.specs.declared.table.Parameter.TheVariants.{File, Number, Groups, Segments, Mode, Range, Address, Use}
use Rattle.mm_cli.specs.declared.table.Tail.{Tail, TheVariants.{Nothing, Optional, Repeated}}
use Rattle.mm_cli.specs.declared.words.{Word.{Word as Read}}
use Rattle.mm_cli.specs.Words.{Word, file_word, spoken, texts, words_of, FitsTail, IsOfParameter, AreOfTail, AreOfRow}
use Rattle.mm_cli.specs.Arguments.{argument_at, tail_arguments, arguments_from}
use Rattle.mm_cli.specs.declared.words.Word.TheVariants as read

word_said : (parameter : Parameter) (word : Read) → IsOfParameter parameter word → words_of word ≡ argument_at parameter (Some word) ∷ []
word_said (File kind) (read.File other name) same = ap (λ (k : Kind). file_word k name.now ∷ []) same
word_said (Number least most) (read.Number n) fits = refl
word_said Groups (read.Groups groups) fits = refl
word_said Segments (read.Segments segments) fits = refl
word_said Mode (read.Mode split) fits = refl
word_said Range (read.Range base log) fits = refl
word_said Address (read.Number n) fits = refl
word_said Use (read.Use how) fits = refl
word_said parameter word is = absurd is

none_said : (parameter : Parameter) → [] ≡ tail_arguments (Optional parameter) None
none_said (File kind) = refl
none_said Groups = refl
none_said parameter = refl

one_said : (parameter : Parameter) (word : Read) → IsOfParameter parameter word → spoken (word ∷ []) ≡ tail_arguments (Optional parameter) (Some word)
one_said (File kind) (read.File other name) same = ap (λ (k : Kind). file_word k name.now ∷ []) same
one_said Groups (read.Groups groups) fits = refl
one_said (Number least most) (read.Number n) fits = refl
one_said Segments (read.Segments segments) fits = refl
one_said Mode (read.Mode split) fits = refl
one_said Range (read.Range base log) fits = refl
one_said Address (read.Number n) fits = refl
one_said Use (read.Use how) fits = refl
one_said parameter word is = absurd is

last_said : (tail : Tail) (words : List Read) → AreOfTail tail words → spoken words ≡ tail_arguments tail (slice_get words 0)
last_said Nothing [] are = refl
last_said (Optional parameter) [] are = none_said parameter
last_said (Optional parameter) (word ∷ []) is = one_said parameter word is
last_said (Optional parameter) (word ∷ other ∷ words) are = absurd are
last_said (Repeated kind most) (read.Files other names ∷ []) are =
    append-nil (map (file_word other) (texts names.now)) ∙ ap (λ (k : Kind). map (file_word k) (texts names.now)) are.0
last_said tail words are = absurd are

-- parameters after the first
after_first : (parameters : List Parameter) (tail : Tail) (at : ℕ) (word : Read) (words : List Read)
    → arguments_from parameters tail (suc at) (word ∷ words) ≡ arguments_from parameters tail at words
after_first [] tail at word words = refl
after_first (parameter ∷ parameters) tail at word words =
    ap (λ (ws : List Word). argument_at parameter (slice_get words at) ∷ ws) (after_first parameters tail (suc at) word words)

pub arguments_row : (parameters : List Parameter) (tail : Tail) (words : List Read) → AreOfRow parameters tail words
    → spoken words ≡ arguments_from parameters tail 0 words
arguments_row [] tail words are = last_said tail words are
arguments_row (parameter ∷ parameters) tail [] are = absurd are
arguments_row (parameter ∷ parameters) tail (word ∷ words) are =
    ap (λ (ws : List Word). ws ++ spoken words) (word_said parameter word are.0)
    ∙ ap (λ (ws : List Word). argument_at parameter (Some word) ∷ ws) (arguments_row parameters tail words are.1)
    ∙ ap (λ (ws : List Word). argument_at parameter (Some word) ∷ ws) (sym (after_first parameters tail 0 word words))

-- as many files are named as there may be
pub named_few : (kind : Kind) (most : ℕ) (names : List (String Global))
    → FitsTail (Repeated kind most) (map (file_word kind) (texts names)) → (1 ≤ length names) × (length names ≤ most)
named_few kind most names (others, same, some, few) =
    let count : length names ≡ length others =
    sym (length-map names (λ (name : String Global). string_bytes name))
    ∙ sym (length-map (texts names) (file_word kind)) ∙ ap (λ (words : List Word). length words) same
    ∙ length-map others (file_word kind) in
    (omega (arith, count, some), omega (arith, count, few))
