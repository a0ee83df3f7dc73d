use Rattle.mm_checkpoint.proofs.SpelledLaws.{no_fault, some_saved}
use Rattle.mm_checkpoint.proofs.laws.checkpoints_have_no_fault.Goals as goal

pub returns : goal.returns
returns c = λ i bytes img fits. (λ none. some_saved i bytes img fits none, λ some. no_fault i bytes img some)
