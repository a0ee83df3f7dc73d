use Rattle.std.proofs.Common.{◌≡◌, ◌∷◌, [], List, map, inl, inr, sym, ap, append-nil, ◌∙◌, subst, refl}
use Rattle.mm_cli.specs.declared.{table.Tail.{Tail, TheVariants.{Repeated, Optional}}, words.{Word.{Word as Read}}}
use Rattle.mm_cli.specs.Words.{AreOfTail, Word as Spoken, words_of, FitsTail, file_word, spoken, texts, spelled}
use Rattle.mm_cli.proofs.RowWords.{some_words, one_left, several_said, several_none}
use Rattle.mm_cli.proofs.reading.push_tail.Goals.{then-is_empty-via-then-is_empty}
use Rattle.mm_cli.proofs.reading.push_tail.Goals.{then-is_empty-via-else-is_empty+then-words-most}
use Rattle.mm_cli.specs.declared.words.Word.TheVariants as read
use Rattle.mm_cli.proofs.reading.push_tail.Goals as goal

pub returns-then-is_empty-clause-none : goal.returns-then-is_empty-clause-none
returns-then-is_empty-clause-none c none arguments fits are =
    let fit : FitsTail (Repeated c.in-Repeated.kind c.in-Repeated.most) arguments = subst (λ (tail : Tail). FitsTail tail arguments) c.in-Repeated.is fits in
    several_none c.in-Repeated.kind c.in-Repeated.most arguments c.args.words.now fit are (elim c.then-is_empty.branch [
      | then-is_empty-via-then-is_empty w ↦ inl (sym c.is_empty-in-Repeated.ensures ∙ w.if-is_empty.true)
      | then-is_empty-via-else-is_empty+then-words-most w ↦ inr w.if-words-most.true
    ])

pub returns-else-not-is_empty-3-clause-some : goal.returns-else-not-is_empty-3-clause-some
returns-else-not-is_empty-3-clause-some c some =
    let read = c.in_ok-word-in-Optional.word in
    let (word, is_of, says, fits, arguments) = c.in_ok-word-in-Optional.ensures in
    let speaks : spoken (read ∷ []) ≡ word ∷ [] = append-nil (words_of read) ∙ says in (
      read ∷ [],
      subst (λ (tail : Tail). AreOfTail tail (read ∷ [])) (sym c.in-Optional.is) is_of,
      c.push.ensures.items,
      subst (λ (tail : Tail). FitsTail tail (spoken (read ∷ []))) (sym c.in-Optional.is) (subst (λ (ws : List Spoken). FitsTail (Optional c.in-Optional.parameter) ws) (sym speaks) fits),
      one_left c.args.words.now c.in_ok-word-in-Optional.after.now word arguments (sym c.is_empty-then-not-is_empty-2.ensures ∙ c.if-not-is_empty-3.false) ∙ ap spelled (sym speaks),
    )

pub returns-else-words-most-clause-some : goal.returns-else-words-most-clause-some
returns-else-words-most-clause-some c some =
    let kind = c.in-Repeated.kind in
    let most = c.in-Repeated.most in
    let read : Read = read.Files kind c.args.words in
    let none = sym c.is_empty-in-Repeated.ensures ∙ c.if-is_empty.false in
    let (fits, arguments) = several_said kind most c.args.words.now none c.if-words-most.false in
    let speaks : spoken (read ∷ []) ≡ map (file_word kind) (texts c.args.words.now) = append-nil (words_of read) in (
      read ∷ [],
      subst (λ (tail : Tail). AreOfTail tail (read ∷ [])) (sym c.in-Repeated.is) (refl, some_words c.args.words.now none, c.if-words-most.false),
      c.push-in-Repeated.ensures.items,
      subst (λ (tail : Tail). FitsTail tail (spoken (read ∷ []))) (sym c.in-Repeated.is) (subst (λ (ws : List Spoken). FitsTail (Repeated kind most) ws) (sym speaks) fits),
      arguments ∙ ap spelled (sym speaks),
    )
