-- Words that are read for the parameters of a row, one after the other.
use Rattle.std.proofs.Common.{◌≡◌, ℕ, ◌+◌, ◌<◌, ◌≤◌, ◌==◌, ◌⊎◌, inl, inr, true, false, String, string_bytes, List, []}
use Rattle.std.proofs.Common.{◌∷◌, ◌++◌, length, map, take, drop, get_or, refl, sym, ap, ◌∙◌, subst, arith}
use Rattle.std.proofs.Common.{append_assoc, append-nil}
use Rattle.std.proofs.lemmas.{List.{take_more, drop_more, take_all, drop_all, length-map}, Bool.eqb-true}
use Rattle.std.specs.declared.alloc.Global.{Global}
use Rattle.mm_cli.specs.declared.table.Kind.{Kind}
use Rattle.mm_cli.specs.declared.table.Parameter.{Parameter}
use Rattle.mm_cli.specs.declared.table.Parameter.TheVariants.{File, Number, Groups, Segments, Mode, Range, Address, Use}
use Rattle.mm_cli.specs.declared.{table.Tail.{Tail, TheVariants.{Nothing, Repeated}}, words.{Word.{Word as Read}}}
use Rattle.mm_cli.specs.Words.{Word, file_word, number_word, groups_word, segments_word, mode_word, range_word, use_word}
use Rattle.mm_cli.specs.Words.{text_list, spelled, spoken, texts, words_of, AreNone, FitInTurn, FitsParameter, FitsTail}
use Rattle.mm_cli.specs.Words.{FitsRow, IsOfParameter, AreOfTail, AreOfRow}

-- 1. What is left after the words of one parameter.

-- as many texts say what is in one parameter
after_one : (t u : List ℕ) (a b : List (List ℕ)) → t ∷ a ≡ u ∷ b → a ≡ b
after_one t u a b same = cc

after_two : (s t u v : List ℕ) (a b : List (List ℕ)) → s ∷ t ∷ a ≡ u ∷ v ∷ b → a ≡ b
after_two s t u v a b same = cc

pub same_after : (p : Parameter) (v w : Word) (a b : List (List ℕ)) → FitsParameter p v → FitsParameter p w → text_list v ++ a ≡ text_list w ++ b → a ≡ b
same_after (File k) (file_word l n) (file_word m o) a b one two same = after_one n o a b same
same_after (File k) (file_word l n) w a b one two same = absurd two
same_after (Number least most) (number_word n) (number_word m) a b one two same = after_one _ _ a b same
same_after (Number least most) (number_word n) w a b one two same = absurd two
same_after Groups (groups_word gs) (groups_word hs) a b one two same = after_one _ _ a b same
same_after Groups (groups_word gs) w a b one two same = absurd two
same_after Segments (segments_word xs) (segments_word ys) a b one two same = after_one _ _ a b same
same_after Segments (segments_word xs) w a b one two same = absurd two
same_after Mode (mode_word c) (mode_word d) a b one two same = after_one _ _ a b same
same_after Mode (mode_word c) w a b one two same = absurd two
same_after Range (range_word n l) (range_word m k) a b one two same = after_two _ _ _ _ a b same
same_after Range (range_word n l) w a b one two same = absurd two
same_after Address (number_word n) (number_word m) a b one two same = after_one _ _ a b same
same_after Address (number_word n) w a b one two same = absurd two
same_after Use (use_word c) (use_word d) a b one two same = after_one _ _ a b same
same_after Use (use_word c) w a b one two same = absurd two
same_after p v w a b one two same = absurd one

-- 2. Lists of words.

pub spelled_both : (ws vs : List Word) → spelled (ws ++ vs) ≡ spelled ws ++ spelled vs
spelled_both [] vs = refl
spelled_both (w ∷ ws) vs = ap (λ (xs : List (List ℕ)). text_list w ++ xs) (spelled_both ws vs) ∙ sym (append_assoc (text_list w) (spelled ws) (spelled vs))

pub spoken_more : (xs ys : List Read) (x : Read) → ys ≡ xs ++ x ∷ [] → spoken ys ≡ spoken xs ++ words_of x
spoken_more xs ys x more = ap spoken more ∙ by xs
  where
    by : (zs : List Read) → spoken (zs ++ x ∷ []) ≡ spoken zs ++ words_of x
    by [] = append-nil (words_of x)
    by (z ∷ zs) = ap (λ (ws : List Word). words_of z ++ ws) (by zs) ∙ sym (append_assoc (words_of z) (spoken zs) (words_of x))

module _ {A : Type 0} (Fits : Parameter → A → Type 0) where
  -- one parameter more
  one_more : (ps : List Parameter) (p : Parameter) (ws : List A) (w : A) → FitInTurn Fits AreNone ps ws → Fits p w → FitInTurn Fits AreNone (ps ++ p ∷ []) (ws ++ w ∷ [])
  one_more [] p [] w fits one = (one, tt)
  one_more [] p (v ∷ ws) w fits one = absurd fits
  one_more (q ∷ ps) p [] w fits one = absurd fits
  one_more (q ∷ ps) p (v ∷ ws) w fits one = (fits.0, one_more ps p ws w fits.1 one)

  -- what comes last, after the parameters
  with_others : (OthersFit : List A → Type 0) (ps : List Parameter) (ws vs : List A) → FitInTurn Fits AreNone ps ws → OthersFit vs → FitInTurn Fits OthersFit ps (ws ++ vs)
  with_others OthersFit [] [] vs fits rest = rest
  with_others OthersFit [] (w ∷ ws) vs fits rest = absurd fits
  with_others OthersFit (p ∷ ps) [] vs fits rest = absurd fits
  with_others OthersFit (p ∷ ps) (w ∷ ws) vs fits rest = (fits.0, with_others OthersFit ps ws vs fits.1 rest)

-- 3. Words so far.

-- Of these texts some were read as the words of the first parameters, and the rest is left.
pub record ReadSoFar (parameters : List Parameter) (tail : Tail) (texts : List (List ℕ)) (at : ℕ) (words : List Word) (rest : List (List ℕ)) : Type 0 where
  pub fits : FitsRow (take at parameters) Nothing words
  pub arguments : texts ≡ spelled words ++ rest
  -- whatever words of the whole row they are, the rest is those of the other parameters
  pub goes_on : (all : List Word) → FitsRow parameters tail all → texts ≡ spelled all → (more : List Word) × FitsRow (drop at parameters) tail more × (rest ≡ spelled more)

pub read_none : (parameters : List Parameter) (tail : Tail) (texts : List (List ℕ)) → ReadSoFar parameters tail texts 0 [] texts
read_none parameters tail texts = record { fits = tt; arguments = refl; goes_on = λ all fits arguments. (all, fits, arguments) }

-- the rest begins with a word for the next parameter
next_word : (parameters : List Parameter) (tail : Tail) (at : ℕ) (d : Parameter) (more : List Word) (rest : List (List ℕ)) → at < length parameters → FitsRow (drop at parameters) tail more
    → rest ≡ spelled more
    → (word : Word) × (others : List Word) × FitsParameter (get_or parameters at d) word × FitsRow (drop (at + 1) parameters) tail others × (rest ≡ text_list word ++ spelled others)
next_word parameters tail at d more rest inside fits arguments = by more (subst (λ (ps : List Parameter). FitsRow ps tail more) (drop_more parameters at d inside) fits) arguments
  where
    by : (ws : List Word) → FitsRow (get_or parameters at d ∷ drop (at + 1) parameters) tail ws → rest ≡ spelled ws
        → (word : Word) × (others : List Word) × FitsParameter (get_or parameters at d) word × FitsRow (drop (at + 1) parameters) tail others × (rest ≡ text_list word ++ spelled others)
    by [] fit is = absurd fit
    by (w ∷ ws) fit is = (w, ws, fit.0, fit.1, is)

pub read_more : (parameters : List Parameter) (tail : Tail) (texts : List (List ℕ)) (at : ℕ) (d : Parameter) (words more : List Word) (word : Word) (rest after : List (List ℕ))
    → at < length parameters
    → ReadSoFar parameters tail texts at words rest → FitsParameter (get_or parameters at d) word → rest ≡ text_list word ++ after → more ≡ words ++ word ∷ []
    → ReadSoFar parameters tail texts (at + 1) more after
read_more parameters tail texts at d words more word rest after inside so_far one arguments also = record {
  fits =
      subst (λ (ws : List Word). FitsRow (take (at + 1) parameters) Nothing ws) (sym also)
      (subst (λ (ps : List Parameter). FitsRow ps Nothing (words ++ word ∷ []))
      (sym (take_more parameters at d inside)) (one_more FitsParameter (take at parameters) (get_or parameters at d) words word so_far.fits one));
  arguments =
      so_far.arguments ∙ ap (λ (xs : List (List ℕ)). spelled words ++ xs) arguments
      ∙ sym (append_assoc (spelled words) (text_list word) after)
      ∙ ap (λ (xs : List (List ℕ)). xs ++ after) (ap (λ (xs : List (List ℕ)). spelled words ++ xs) (sym (append-nil (text_list word))) ∙ sym (spelled_both words (word ∷ [])) ∙ ap spelled (sym also));
  goes_on = λ all fits is.
      let (ws, fit, are) = so_far.goes_on all fits is in
      let (w, others, first, then, spells) = next_word parameters tail at d ws rest inside fit are in
      (others, then, same_after (get_or parameters at d) word w after (spelled others) one first (sym arguments ∙ spells));
}

-- no words of the row are said where none is read for the next parameter
pub read_no_more : (parameters : List Parameter) (tail : Tail) (texts : List (List ℕ)) (at : ℕ) (d : Parameter) (words : List Word) (rest : List (List ℕ)) → at < length parameters
    → ReadSoFar parameters tail texts at words rest → ((word : Word) (after : List (List ℕ)) → FitsParameter (get_or parameters at d) word → rest ≡ text_list word ++ after → ⊥)
    → (all : List Word) → FitsRow parameters tail all → texts ≡ spelled all → ⊥
read_no_more parameters tail texts at d words rest inside so_far none all fits is =
    let (ws, fit, are) = so_far.goes_on all fits is in
    let (w, others, first, then, spells) = next_word parameters tail at d ws rest inside fit are in
    none w (spelled others) first spells

-- and what comes last is all that is left after the parameters
pub read_no_tail : (parameters : List Parameter) (tail : Tail) (texts : List (List ℕ)) (at : ℕ) (words : List Word) (rest : List (List ℕ)) → length parameters ≤ at
    → ReadSoFar parameters tail texts at words rest → ((arguments : List Word) → FitsTail tail arguments → rest ≡ spelled arguments → ⊥)
    → (all : List Word) → FitsRow parameters tail all → texts ≡ spelled all → ⊥
read_no_tail parameters tail texts at words rest all_read so_far none all fits is =
    let (ws, fit, are) = so_far.goes_on all fits is in
    none ws (subst (λ (ps : List Parameter). FitsRow ps tail ws) (drop_all at parameters all_read) fit) are

pub read_all : (parameters : List Parameter) (tail : Tail) (texts : List (List ℕ)) (at : ℕ) (words arguments all : List Word) (rest : List (List ℕ)) → length parameters ≤ at
    → ReadSoFar parameters tail texts at words rest → FitsTail tail arguments → rest ≡ spelled arguments → all ≡ words ++ arguments → FitsRow parameters tail all × (texts ≡ spelled all)
read_all parameters tail texts at words arguments all rest all_read so_far fit are whole = (
  subst (λ (ws : List Word). FitsRow parameters tail ws) (sym whole)
      (with_others FitsParameter (FitsTail tail) parameters words arguments (subst (λ (ps : List Parameter). FitsRow ps Nothing words) (take_all at parameters all_read) so_far.fits) fit),
  so_far.arguments ∙ ap (λ (xs : List (List ℕ)). spelled words ++ xs) are ∙ sym (spelled_both words arguments) ∙ ap spelled (sym whole),
)

-- 4. What comes last.

-- nothing is left behind one word
pub one_left : (words after : List (String Global)) (word : Word) → texts words ≡ text_list word ++ texts after → (length after == 0) ≡ true → texts words ≡ spelled (word ∷ [])
one_left words [] word arguments none = arguments
one_left words (w ∷ after) word arguments none = let zero : length (w ∷ after) ≡ 0 = eqb-true _ _ none in absurd (omega arith)

pub names_spelled : (kind : Kind) (names : List (List ℕ)) → spelled (map (file_word kind) names) ≡ names
names_spelled kind [] = refl
names_spelled kind (name ∷ names) = ap (λ (xs : List (List ℕ)). name ∷ xs) (names_spelled kind names)

pub some_words : (words : List (String Global)) → (length words == 0) ≡ false → 1 ≤ length words
some_words [] none = absurd (cc)
some_words (w ∷ words) none = omega arith

no_words : (words : List (String Global)) → (length words == 0) ≡ true → length words ≡ 0
no_words words none = eqb-true _ _ none

-- the words are the names of files, as many as there may be
pub several_said : (kind : Kind) (most : ℕ) (words : List (String Global)) → (length words == 0) ≡ false → length words ≤ most
    → FitsTail (Repeated kind most) (map (file_word kind) (texts words)) × (texts words ≡ spelled (map (file_word kind) (texts words)))
several_said kind most words some few =
    let count = length-map words (λ (word : String Global). string_bytes word) in
    ((texts words, refl, omega (arith, count, some_words words some), omega (arith, count)), sym (names_spelled kind (texts words)))

-- there are none of them, or too many
pub several_none : (kind : Kind) (most : ℕ) (arguments : List Word) (words : List (String Global)) → FitsTail (Repeated kind most) arguments → texts words ≡ spelled arguments
    → ((length words == 0) ≡ true) ⊎ (most < length words) → ⊥
several_none kind most arguments words (names, is, some, few) are wrong =
    let same : texts words ≡ names = are ∙ ap spelled is ∙ names_spelled kind names in
    let count : length words ≡ length names = sym (length-map words (λ (word : String Global). string_bytes word)) ∙ ap (λ (xs : List (List ℕ)). length xs) same in
    elim wrong [ inl empty ↦ let none = no_words words empty in absurd (omega (arith, count, some)) | inr more ↦ absurd (omega (arith, count, few)) ]

-- 5. Words as they are read.

pub formed_more : (parameters : List Parameter) (at : ℕ) (d : Parameter) (read more : List Read) (r : Read) → at < length parameters
    → AreOfRow (take at parameters) Nothing read → IsOfParameter (get_or parameters at d) r
    → more ≡ read ++ r ∷ [] → AreOfRow (take (at + 1) parameters) Nothing more
formed_more parameters at d read more r inside are one also =
    subst (λ (rs : List Read). AreOfRow (take (at + 1) parameters) Nothing rs) (sym also)
    (subst (λ (ps : List Parameter). AreOfRow ps Nothing (read ++ r ∷ [])) (sym (take_more parameters at d inside))
    (one_more IsOfParameter (take at parameters) (get_or parameters at d) read r are one))

pub formed_all : (parameters : List Parameter) (tail : Tail) (at : ℕ) (read more all : List Read) → length parameters ≤ at
    → AreOfRow (take at parameters) Nothing read → AreOfTail tail more → all ≡ read ++ more
    → AreOfRow parameters tail all
formed_all parameters tail at read more all all_read are rest whole =
    subst (λ (rs : List Read). AreOfRow parameters tail rs) (sym whole)
    (with_others IsOfParameter (AreOfTail tail) parameters read more (subst (λ (ps : List Parameter). AreOfRow ps Nothing read) (take_all at parameters all_read) are) rest)

pub spoken_both : (xs ys zs : List Read) → zs ≡ xs ++ ys → spoken zs ≡ spoken xs ++ spoken ys
spoken_both xs ys zs whole = ap spoken whole ∙ by xs
  where
    by : (us : List Read) → spoken (us ++ ys) ≡ spoken us ++ spoken ys
    by [] = refl
    by (u ∷ us) = ap (λ (ws : List Word). words_of u ++ ws) (by us) ∙ sym (append_assoc (words_of u) (spoken us) (spoken ys))
