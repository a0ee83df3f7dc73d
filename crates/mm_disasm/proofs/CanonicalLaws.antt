-- No two objects have the same canonical text.
use Rattle.std.proofs.Common.{ℕ, List, sym, subst}
use Rattle.mm_asm.{specs.Faults.Means, proofs.Texts.meanings_are_one}
use Rattle.mm_disasm.specs.{Canonical.canonical, Laws.{CanonicalTextsMeanTheirObjects, CanonicalTextsDiffer}}

-- since each means its object
pub canonical_texts_differ : CanonicalTextsMeanTheirObjects → CanonicalTextsDiffer
canonical_texts_differ mean a b is_a is_b same = meanings_are_one (canonical a) a b (mean a is_a) (subst (λ (text : List ℕ). Means text b) (sym same) (mean b is_b))
