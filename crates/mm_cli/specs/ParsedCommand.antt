-- What was read, as a row.
use Rattle.mm_cli.specs.{declared.reading.ParsedCommand.ParsedCommand, Arguments.row, Table.Row}

-- the row that was asked for
abbrev pub row_of : ParsedCommand → Row
row_of parsed = row parsed.command parsed.words.items
