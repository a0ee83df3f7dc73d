use Rattle.mm_object.proofs.FormatWhole.{clean_spells, spelled_clean}
use Rattle.mm_object.proofs.laws.objects_have_no_fault.Goals as goal

pub returns : goal.returns
returns c = λ bytes fits. (λ none. clean_spells bytes fits none, λ s. spelled_clean bytes s.0 s.1)
