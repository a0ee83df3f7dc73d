-- What the memory that a command runs over adds to its report.
use Rattle.std.specs.Prelude.{◌≡◌, ℕ, List, ◌++◌, Option, Some}
use Rattle.mm_model.specs.{declared.counts.Counts.Counts, Uses.Use, Counted.counts_of, Image.{Image, start}, Run.uses}
use Rattle.mm_model.specs.Report.{count_line, report_after}

-- for every list of items, the report over the one memory is the report over the other, followed by the count line of
-- the run's uses. The items of every order and number of cycles are such a list
abbrev pub CountsStandBehind : (List Use → Option Counts) → (List Use → Option Counts) → Type 0
CountsStandBehind counting plain =
    (i : Image) (items : List ℕ) → report_after counting i items ≡ report_after plain i items
    ++ count_line (Some (counts_of (uses (start i) items)))
