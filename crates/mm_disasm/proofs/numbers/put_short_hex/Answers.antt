use Rattle.std.proofs.Common.{ℕ, List, ◌++◌, codes, ap}
use Rattle.mm_text.proofs.Appending.{appends_then, appends_same}
use Rattle.mm_disasm.proofs.numbers.put_short_hex.Goals as goal

pub returns : goal.returns
returns g c = appends_same (appends_then c.put_piece.ensures c.put_hex.ensures) (ap (λ (text : List ℕ). codes "0x" ++ text) c.digit_count.ensures.digits)
