use Rattle.std.proofs.Common.{sym, subst, ◌∙◌}
use Rattle.mm_model.specs.Memory.{IsPaged}
use Rattle.mm_vmem.{specs.Cached.meaning, proofs.{PageChanges.{new_held, new_meaning}, UsesTaken.stands_new}}
use Rattle.mm_vmem.proofs.vmem.VMemBoot.new.Goals as goal

pub invariant_of-result : goal.invariant_of-result
invariant_of-result c = new_held c.in_ok-frames.frames c.new-2.result c.new-3.result c.in_ok-frames.ensures.paged c.in_ok-frames.ensures.reads c.in_ok-frames.ensures.writes c.new-2.ensures
    c.new-3.ensures

pub returns-clause-meaning : goal.returns-clause-meaning
unfolding meaning
returns-clause-meaning c = new_meaning c.in_ok-frames.frames c.new-2.result c.new-2.ensures ∙ c.in_ok-frames.ensures.contents

pub returns-clause-stands : goal.returns-clause-stands
returns-clause-stands c = stands_new c.in_ok-frames.frames c.new-2.result c.new-3.result c.in_ok-frames.ensures.reads c.in_ok-frames.ensures.writes c.new-2.ensures c.new-3.ensures

pub returns-clause-paged : goal.returns-clause-paged
unfolding meaning
returns-clause-paged c = subst IsPaged (sym (new_meaning c.in_ok-frames.frames c.new-2.result c.new-2.ensures)) c.in_ok-frames.ensures.paged
