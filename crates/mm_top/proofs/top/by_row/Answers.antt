use Rattle.std.proofs.Common.{◌≡◌, List, inr, sym, ◌∙◌, subst}
use Rattle.mm_cli.specs.{declared.{words.{Word.{Word as Read}}}, Words.texts, Table.Matches, Arguments.row}
use Rattle.mm_cli.proofs.Rows.{fits_of}
use Rattle.mm_top.proofs.Inputs.{drawn_behind, read_whole}
use Rattle.mm_top.proofs.top.by_row.Goals as goal

pub by_command-requires : goal.by_command-requires
by_command-requires g c =
    let P : List Read → Type 0 = λ read. Matches (texts c.args.words.now) (row c.in-Some.parsed.command read) in
    let asks : P c.as_slice-arguments.result.now = subst P (sym c.as_slice-arguments.ensures.value) c.in-Some.ensures in
    fits_of (row c.in-Some.parsed.command c.as_slice-arguments.result.now) asks.in_table

pub returns-in-Some-clause-answers : goal.returns-in-Some-clause-answers
returns-in-Some-clause-answers g c =
    let P : List Read → Type 0 = λ read. Matches (texts c.args.words.now) (row c.in-Some.parsed.command read) in
    record {
      cases = inr (
          record {
            row = row c.in-Some.parsed.command c.as_slice-arguments.result.now;
            result = c.by_command.result;
            asks = subst P (sym c.as_slice-arguments.ensures.value) c.in-Some.ensures;
            ends = c.by_command.ensures.ends;
            asked = c.by_command.ensures.asked;
            whole = c.by_command.ensures.whole;
            answers = c.status.ensures;
          }
          );
    }

pub returns-in-Some-clause-undrawn : goal.returns-in-Some-clause-undrawn
returns-in-Some-clause-undrawn g c leave =
    let P : List Read → Type 0 = λ read. Matches (texts c.args.words.now) (row c.in-Some.parsed.command read) in
    c.by_command.ensures.undrawn (leave _ (subst P (sym c.as_slice-arguments.ensures.value) c.in-Some.ensures))

pub returns-in-Some-clause-drawn : goal.returns-in-Some-clause-drawn
returns-in-Some-clause-drawn g c =
    let P : List Read → Type 0 = λ read. Matches (texts c.args.words.now) (row c.in-Some.parsed.command read) in
    drawn_behind (g.F.Files.held c.args.files.now) (c.by_command.new.input ≡ c.args.input.now) _ (row c.in-Some.parsed.command c.as_slice-arguments.result.now)
    (subst P (sym c.as_slice-arguments.ensures.value) c.in-Some.ensures) c.by_command.ensures.drawn

pub returns-in-Some-clause-read : goal.returns-in-Some-clause-read
returns-in-Some-clause-read g c same =
    let P : List Read → Type 0 = λ read. Matches (texts c.args.words.now) (row c.in-Some.parsed.command read) in
    read_whole _ _ (row c.in-Some.parsed.command c.as_slice-arguments.result.now) c.by_command.result
    (subst P (sym c.as_slice-arguments.ensures.value) c.in-Some.ensures) c.by_command.ensures.read (sym c.status.ensures ∙ same)
