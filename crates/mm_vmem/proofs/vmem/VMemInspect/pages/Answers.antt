use Rattle.std.proofs.Common.{length, sym, ap, subst, ◌∙◌}
use Rattle.mm_model.specs.Memory.{IsPaged}
use Rattle.mm_frames.specs.Framed.{memory_of}
use Rattle.mm_cache.{specs.Over.over, proofs.Laid.{over_count, over_paged}}
use Rattle.mm_vmem.specs.Cached.{Cached, meaning}
use Rattle.mm_vmem.proofs.vmem.VMemInspect.pages.Goals as goal

pub returns-clause-count : goal.returns-clause-count
unfolding meaning
returns-clause-count c =
    c.pages.ensures.count
    ∙ sym (over_count (memory_of c.self.inside.frames) c.self.inside.lines)
    ∙ ap (λ (m : Cached). length (over (memory_of m.frames) m.lines).pages) c.self.view_is

pub returns-clause-paged : goal.returns-clause-paged
unfolding meaning
returns-clause-paged c =
    subst (λ (m : Cached). IsPaged (over (memory_of m.frames) m.lines)) c.self.view_is
    (over_paged (memory_of c.self.inside.frames) c.self.inside.lines c.self.invariant.cover.paged)
