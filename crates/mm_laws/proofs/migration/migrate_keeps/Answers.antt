use Rattle.mm_laws.proofs.VersionRuns.{migration_keeps}
use Rattle.mm_laws.proofs.migration.migrate_keeps.Goals as goal

pub returns : goal.returns
returns c = migration_keeps
