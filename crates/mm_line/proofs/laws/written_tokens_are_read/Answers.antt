use Rattle.mm_line.proofs.Written.{blank_read, comma_read, colon_read, plus_read, name_read, directive_read}
use Rattle.mm_line.proofs.Written.{decimal_read, negative_read, hexadecimal_read}
use Rattle.mm_line.proofs.laws.written_tokens_are_read.Goals as goal

pub returns-clause-blank : goal.returns-clause-blank
returns-clause-blank c = blank_read

pub returns-clause-comma : goal.returns-clause-comma
returns-clause-comma c = comma_read

pub returns-clause-colon : goal.returns-clause-colon
returns-clause-colon c = colon_read

pub returns-clause-plus : goal.returns-clause-plus
returns-clause-plus c = plus_read

pub returns-clause-name : goal.returns-clause-name
returns-clause-name c = name_read

pub returns-clause-directive : goal.returns-clause-directive
returns-clause-directive c = directive_read

pub returns-clause-decimal : goal.returns-clause-decimal
returns-clause-decimal c = decimal_read

pub returns-clause-negative : goal.returns-clause-negative
returns-clause-negative c = negative_read

pub returns-clause-hexadecimal : goal.returns-clause-hexadecimal
returns-clause-hexadecimal c = hexadecimal_read
