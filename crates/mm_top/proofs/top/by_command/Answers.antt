use Rattle.std.proofs.Common.{refl}
use Rattle.mm_top.{specs.Commands.Yields, proofs.Rows.row_alone}
use Rattle.mm_cli.specs.{declared.table.Command.TheVariants.{Gen, Soak}, Arguments.row}
use Rattle.mm_top.proofs.top.by_command.Goals as goal

pub returns-in-Grants-clause-ends : goal.returns-in-Grants-clause-ends
returns-in-Grants-clause-ends g c = rw c.in-Grants.is c.grants.ensures.ends

pub returns-in-Debug-clause-ends : goal.returns-in-Debug-clause-ends
returns-in-Debug-clause-ends g c = rw c.in-Debug.is c.debug.ensures.ends

pub returns-in-Gen-clause-ends : goal.returns-in-Gen-clause-ends
returns-in-Gen-clause-ends g c =
    rw c.in-Gen.is
    (row_alone g.F.Files.held g.F.Files.faults g.F.Files.asked c.args.files.now (Yields g.M.Inspect.tells) (row Gen c.args.words.now) _ refl c.generate.ensures (λ text is. is)).ends

pub returns-in-Gen-clause-asked : goal.returns-in-Gen-clause-asked
returns-in-Gen-clause-asked g c =
    rw c.in-Gen.is
    (row_alone g.F.Files.held g.F.Files.faults g.F.Files.asked c.args.files.now (Yields g.M.Inspect.tells) (row Gen c.args.words.now) _ refl c.generate.ensures (λ text is. is)).asked

pub returns-in-Soak-clause-ends : goal.returns-in-Soak-clause-ends
returns-in-Soak-clause-ends g c =
    rw c.in-Soak.is
    (row_alone g.F.Files.held g.F.Files.faults g.F.Files.asked c.args.files.now (Yields g.M.Inspect.tells) (row Soak c.args.words.now) _ refl c.soak.ensures (λ text is. is)).ends

pub returns-in-Soak-clause-asked : goal.returns-in-Soak-clause-asked
returns-in-Soak-clause-asked g c =
    rw c.in-Soak.is
    (row_alone g.F.Files.held g.F.Files.faults g.F.Files.asked c.args.files.now (Yields g.M.Inspect.tells) (row Soak c.args.words.now) _ refl c.soak.ensures (λ text is. is)).asked

pub returns-in-Gen-clause-whole : goal.returns-in-Gen-clause-whole
returns-in-Gen-clause-whole g c =
    rw c.in-Gen.is
    (row_alone g.F.Files.held g.F.Files.faults g.F.Files.asked c.args.files.now (Yields g.M.Inspect.tells) (row Gen c.args.words.now) _ refl c.generate.ensures (λ text is. is)).whole

pub returns-in-Soak-clause-whole : goal.returns-in-Soak-clause-whole
returns-in-Soak-clause-whole g c =
    rw c.in-Soak.is
    (row_alone g.F.Files.held g.F.Files.faults g.F.Files.asked c.args.files.now (Yields g.M.Inspect.tells) (row Soak c.args.words.now) _ refl c.soak.ensures (λ text is. is)).whole
