use Rattle.std.proofs.{Common.{◌∙◌, inl, inr, Ok, Err, ap}, lemmas.Result.err_from_is_err_and}
use Rattle.mm_model.proofs.ScheduleWords.{schedule_grammar}
use Rattle.mm_sched.proofs.text.parse.Goals as goal

pub read_items-requires : goal.read_items-requires
read_items-requires c = schedule_grammar

pub returns-in_err-items-clause-fault : goal.returns-in_err-items-clause-fault
returns-in_err-items-clause-fault c offset e =
    let (error, is, same) = err_from_is_err_and c.from_residual.result c.from_residual.ensures.1 in c.in_err-items.ensures.fault offset (cc)

pub returns-in_err-items-clause-reads : goal.returns-in_err-items-clause-reads
returns-in_err-items-clause-reads c items means =
    let (error, is, same) = err_from_is_err_and c.from_residual.result c.from_residual.ensures.1 in inr (is ∙ ap Err (same ∙ c.in_err-items.ensures.reads items means))

pub returns-in_err-items-clause-refuses : goal.returns-in_err-items-clause-refuses
returns-in_err-items-clause-refuses c offset fault =
    let (error, is, same) = err_from_is_err_and c.from_residual.result c.from_residual.ensures.1 in elim (c.in_err-items.ensures.refuses offset fault) [ inl one ↦ inl (cc) | inr other ↦ inr (cc) ]

pub returns-clause-reads : goal.returns-clause-reads
returns-clause-reads c items means = inl (ap Ok (c.in_ok-items.ensures.reads items means))

pub returns-clause-refuses : goal.returns-clause-refuses
returns-clause-refuses c offset fault = elim (c.in_ok-items.ensures.refuses offset fault) [ inl one ↦ absurd (cc) | inr other ↦ absurd (cc) ]
