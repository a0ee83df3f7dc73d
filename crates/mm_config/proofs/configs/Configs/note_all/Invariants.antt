use Rattle.std.proofs.Common.{◌<◌}
use Rattle.mm_config.specs.Turning.{NotesSlots}
use Rattle.mm_config.proofs.configs.Configs.note_all.Given as goal

abbrev pub invariant-loop-at : goal.invariant-loop-at
invariant-loop-at l = NotesSlots (λ k. k < l.at) l.fn.self l.self
