use Rattle.mm_config.{specs.Turning.NotesSlots, proofs.OneNote.IsServedBelow}
use Rattle.mm_config.proofs.configs.Configs.note_served.Given as goal

abbrev pub invariant-loop-at : goal.invariant-loop-at
invariant-loop-at l = NotesSlots (IsServedBelow l.fn.self.base.items l.fn.handler l.fn.running l.at) l.fn.self l.self
