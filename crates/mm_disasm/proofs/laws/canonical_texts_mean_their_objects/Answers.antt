use Rattle.mm_disasm.proofs.{CanonicalLaws.canonical_texts_differ, Lengths.canonical_texts_are_sources}
use Rattle.mm_disasm.proofs.Spoken.{canonical_texts_mean_their_objects}
use Rattle.mm_disasm.proofs.laws.canonical_texts_mean_their_objects.Goals as goal

pub returns-clause-means : goal.returns-clause-means
returns-clause-means c = canonical_texts_mean_their_objects

pub returns-clause-differ : goal.returns-clause-differ
returns-clause-differ c = canonical_texts_differ canonical_texts_mean_their_objects

pub returns-clause-sources : goal.returns-clause-sources
returns-clause-sources c = canonical_texts_are_sources
