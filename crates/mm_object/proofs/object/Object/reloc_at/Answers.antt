use Rattle.std.proofs.Common.{sym, subst}
use Rattle.mm_object.{specs.Lookups.HaveSmallWords, proofs.Found.small_words}
use Rattle.mm_object.proofs.object.Object.reloc_at.Goals as goal

pub reloc_in-requires-clause-small : goal.reloc_in-requires-clause-small
reloc_in-requires-clause-small c = subst HaveSmallWords (sym c.deref.ensures.value) (small_words _ _ _ c.self.invariant.few_words c.self.invariant.relocs)
