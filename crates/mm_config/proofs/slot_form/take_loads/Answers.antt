use Rattle.std.proofs.Common.{◌∙◌, arith}
use Rattle.mm_config.proofs.Taking.{loads_more, rest_more}
use Rattle.mm_config.proofs.slot_form.take_loads.Goals as goal

pub loop-k-preserved : goal.loop-k-preserved
loop-k-preserved c =
    let at = c.loop-k in
    let next = c.take_load-reg in
    let more = loads_more c.args.count at._k c.loop-k-test.true at.reader next.new.reader next.ensures.rest in
    record {
      count = let pushed = c.push.ensures.len in let before = at.invariant.count in omega (arith, pushed, before);
      loads = more at.loads.items c.push.new.self.items next.result next.ensures.register next.ensures.word c.push.ensures.items ∙ at.invariant.loads;
      rest = rest_more c.args.count at._k c.loop-k-test.true at.reader next.new.reader next.ensures.rest ∙ at.invariant.rest;
    }
