use Rattle.std.proofs.Common.{ap, ◌∙◌}
use Rattle.mm_isa.specs.{Decode.instr_of, declared.sum.Sum.Sum}
use Rattle.mm_isa.proofs.{Spelling.instr_of-spelling, Sums.sum_is_spelling}
use Rattle.mm_isa.proofs.sum.summed.Goals as goal

pub returns-clause-value : goal.returns-clause-value
returns-clause-value c = ap (λ (s : Sum). s.word) c.visit-sum.ensures.value ∙ sum_is_spelling c.args.i.now c.visit-sum.ensures.legal

pub returns-clause-again : goal.returns-clause-again
returns-clause-again c = ap instr_of (returns-clause-value c) ∙ instr_of-spelling c.args.i.now c.visit-sum.ensures.legal
