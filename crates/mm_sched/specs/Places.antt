-- The runs of a text from a place on.
use Rattle.std.specs.Prelude.{ℕ, Bool, false, not, ◌&&◌, ◌==◌, List, drop}
use Rattle.mm_model.specs.Words.{is_blank, uncommented, runs_from}

-- a byte of a run
abbrev pub is_word_byte : ℕ → Bool
is_word_byte b = not (is_blank b) && not (b == 35)

-- the runs from a place on that is in no comment
abbrev pub runs_at : List ℕ → ℕ → List (ℕ × List ℕ)
runs_at text at = runs_from at (uncommented false (drop at text))

-- the runs from a place on that may be in a comment
abbrev pub runs_in : Bool → List ℕ → ℕ → List (ℕ × List ℕ)
runs_in in_comment text at = runs_from at (uncommented in_comment (drop at text))
