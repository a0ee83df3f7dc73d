-- What a line asks to go back, by the tokens that are taken from its front.
use Rattle.std.proofs.Common.{◌≡◌, ℕ, List, sym, ap}
use Rattle.mm_debug.specs.Commands.{tokens}
use Rattle.mm_save.specs.Recorder.{back_by, back_of}

pub asks_back : (line : List ℕ) (found : List (List ℕ)) → tokens line ≡ found → back_by found ≡ back_of line
unfolding back_of
asks_back line found e = ap back_by (sym e)
