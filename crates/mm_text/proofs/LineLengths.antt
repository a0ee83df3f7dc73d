-- How long what is put into a line is.
use Rattle.std.proofs.{Common.{ℕ, ◌<◌, ◌≤◌, length, decimal, arith}, lemmas.{Fmt.length-decimal-le, Grind.common_steps}}
use Rattle.mm_text.proofs.HexDigits.{length-hex}

pub length-decimal_byte : (n : ℕ) → n < 256 → length (decimal n) ≤ 3
length-decimal_byte n small = length-decimal-le 3 n (omega arith) (omega arith) (omega arith)

-- for a caller of `Line`, who shows that there is room
pub ruleset line_lengths = (common_steps, length-decimal_byte, length-hex)
