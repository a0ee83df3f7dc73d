use Rattle.std.proofs.Common.{List, ◌∙◌, subst, arith}
use Rattle.mm_cli.specs.{Words.{Word as Spoken, spoken, texts}, Table.{Matches, table_row}}
use Rattle.mm_cli.proofs.Rows.{first_and_rest, no_rest_of, asks_for, room_for_words, as_said}
use Rattle.mm_cli.proofs.reading.read_words.Goals as goal

pub read_row-requires : goal.read_row-requires
read_row-requires c = let (number, at, named) = c.in_ok-row.ensures in room_for_words number (table_row c.in_ok-row.row.now) at

pub returns-in_err-words : goal.returns-in_err-words
returns-in_err-words c =
    let (number, at, named) = c.in_ok-row.ensures in
    let split = first_and_rest c.args.words.now c.name-item.result (omega arith) c.name-item.is in
    rw c.from_residual-in_err-words.ensures
    (no_rest_of (texts c.args.words.now) _ _ number (table_row c.in_ok-row.row.now) split at (named ∙ c.as_str.ensures.value) c.in_err-words.ensures)

pub returns : goal.returns
returns c =
    let (number, at, named) = c.in_ok-row.ensures in
    let split = first_and_rest c.args.words.now c.name-item.result (omega arith) c.name-item.is in
    let (formed, fits, arguments) = c.in_ok-words.ensures in
    let text = texts c.args.words.now in
    let row = table_row c.in_ok-row.row.now in
    let read = c.in_ok-words.words.items in
    let asks = asks_for text _ _ number row (spoken read) split at (named ∙ c.as_str.ensures.value) fits arguments in
    subst (λ (words : List Spoken). Matches text (record { command = row.command; words = words })) (as_said number row read at formed) asks
