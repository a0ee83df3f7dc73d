use Rattle.std.proofs.Common.{take}
use Rattle.mm_config.specs.{Naming.AreMemoryNames, Noting.{IsKeptStill, HasOtherPages}}
use Rattle.mm_config.proofs.pages.note_pages.Given as goal

abbrev pub invariant-loop-page : goal.invariant-loop-page
invariant-loop-page l = record {
  names : AreMemoryNames l.store (record { pages = take l.page-index l.pages; frames = 0 }) l.names;
  still : IsKeptStill l.fn.store l.store;
  others : HasOtherPages l.fn.names l.names;
}
