use Rattle.std.proofs.Common.{◌+◌, ◌*◌}
use Rattle.mm_why.proofs.work.Workspace.+handing.Given as goal

abbrev pub decreases-derive_for : goal.decreases-derive_for
decreases-derive_for l = 2 * l.source.round

abbrev pub decreases-derive_handoff : goal.decreases-derive_handoff
decreases-derive_handoff l = 2 * l.round + 1
