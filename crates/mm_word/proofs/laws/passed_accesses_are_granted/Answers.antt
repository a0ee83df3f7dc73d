use Rattle.mm_word.proofs.Results.{check_result-IsGranted}
use Rattle.mm_word.proofs.laws.passed_accesses_are_granted.Goals as goal

pub returns : goal.returns
returns c = check_result-IsGranted
