-- The table of commands, written out: of each command its name, the parameters after it, and what may
-- come after these.
use Rattle.std.specs.Prelude.{◌≡◌, ℕ, List, [], ◌∷◌, codes}
use Rattle.mm_cli.specs.declared.table.Command.{Command}
use Rattle.mm_cli.specs.declared.table.Parameter.{Parameter}
use Rattle.mm_cli.specs.declared.table.Parameter.TheVariants.{File, Number, Groups, Segments, Mode, Range, Address, Use}
use Rattle.mm_cli.specs.declared.table.Tail.{Tail, TheVariants.{Nothing, Optional, Repeated}}
use Rattle.mm_cli.specs.Table.{TableRow, table}
use Rattle.mm_cli.specs.declared.table.Command.TheVariants as command
use Rattle.mm_cli.specs.declared.table.Kind.TheVariants as kind

abbrev image : Parameter
image = File kind.Image

-- the number of cycles, up to 1,000,000
abbrev cycles : Parameter
cycles = Number 0 1000000

abbrev perhaps_a_schedule : Tail
perhaps_a_schedule = Optional (File kind.Schedule)

abbrev row : List ℕ → Command → List Parameter → Tail → TableRow
row name command parameters tail = record { name = name; command = command; parameters = parameters; tail = tail }

abbrev pub rows : List TableRow
rows = row (codes "run") command.Run (image ∷ cycles ∷ []) perhaps_a_schedule
    ∷ row (codes "trace") command.Trace (image ∷ cycles ∷ []) perhaps_a_schedule
    ∷ row (codes "log") command.Log (image ∷ cycles ∷ []) perhaps_a_schedule
    ∷ row (codes "solo") command.Solo (image ∷ Groups ∷ cycles ∷ File kind.Schedule ∷ []) Nothing
    ∷ row (codes "grants") command.Grants (image ∷ []) (Optional Groups)
    ∷ row (codes "extract") command.Extract (image ∷ Groups ∷ []) Nothing
    ∷ row (codes "asm") command.Asm (File kind.Source ∷ []) Nothing
    ∷ row (codes "link") command.Link [] (Repeated kind.Object 16)
    ∷ row (codes "dis") command.Dis (File kind.Object ∷ []) Nothing
    ∷ row (codes "debug") command.Debug (image ∷ []) perhaps_a_schedule
    ∷ row (codes "gen") command.Gen (Number 0 18446744073709551615 ∷ Number 1 16 ∷ []) Nothing
    ∷ row (codes "soak") command.Soak (Number 0 18446744073709551615 ∷ Number 1 16 ∷ cycles ∷ []) Nothing
    ∷ row (codes "migrate") command.Migrate (image ∷ Mode ∷ []) Nothing
    ∷ row (codes "sweep") command.Sweep (image ∷ Range ∷ []) Nothing
    ∷ row (codes "holders") command.Holders (image ∷ Range ∷ []) Nothing
    ∷ row (codes "save") command.Save (image ∷ cycles ∷ []) perhaps_a_schedule
    ∷ row (codes "continue") command.Continue (image ∷ File kind.Checkpoint ∷ cycles ∷ []) perhaps_a_schedule
    ∷ row (codes "net") command.Net (File kind.Links ∷ File kind.Events ∷ cycles ∷ []) (Repeated kind.Image 8)
    ∷ row (codes "explore") command.Explore (image ∷ Number 1 100000000 ∷ []) Nothing
    ∷ row (codes "why") command.Why (image ∷ Number 0 63 ∷ Address ∷ Use ∷ []) Nothing
    ∷ row (codes "keeps") command.Keeps (image ∷ Number 1 1000000 ∷ Segments ∷ []) Nothing
    ∷ []

abbrev pub TableIsWrittenOut : Type 0
TableIsWrittenOut = table ≡ rows
