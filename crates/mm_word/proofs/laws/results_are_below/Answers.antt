use Rattle.mm_word.proofs.Results.{lea_result-IsBelow, leab_result-IsBelow, restrict_result-IsBelow}
use Rattle.mm_word.proofs.Results.{subseg_result-IsBelow, next_result-IsBelow}
use Rattle.mm_word.proofs.laws.results_are_below.Goals as goal

pub returns : goal.returns
returns c = record {
  lea = lea_result-IsBelow;
  leab = leab_result-IsBelow;
  restrict = restrict_result-IsBelow;
  subseg = subseg_result-IsBelow;
  next = next_result-IsBelow;
}
