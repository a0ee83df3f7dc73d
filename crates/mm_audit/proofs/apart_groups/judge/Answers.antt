use Rattle.mm_model.specs.Groups.{among}
use Rattle.mm_audit.proofs.Judgements.{handler_judged, yes_judged, writer_judged}
use Rattle.mm_audit.proofs.apart_groups.judge.Goals as goal

pub returns-in-Some-clause-judged : goal.returns-in-Some-clause-judged
returns-in-Some-clause-judged c i e image is table = handler_judged i e image c.args.served.now is (among c.args.groups.now) c.in-Some.slot c.in-Some.ensures

pub returns-in-Some-writer-clause-judged : goal.returns-in-Some-writer-clause-judged
returns-in-Some-writer-clause-judged c i e image is table = writer_judged i e image c.args.served.now is (among c.args.groups.now)
    c.mask_of.result c.mask_of.ensures c.args.least.now table c.in-Some-writer.group c.in-Some-writer.word
    c.in_default.ensures c.in-Some-writer.ensures

pub returns-in-None-clause-judged : goal.returns-in-None-clause-judged
returns-in-None-clause-judged c i e image is table = yes_judged i e image c.args.served.now is (among c.args.groups.now)
    c.mask_of.result c.mask_of.ensures c.args.least.now table c.in_default.ensures c.in-None.ensures
