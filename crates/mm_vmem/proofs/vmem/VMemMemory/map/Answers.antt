use Rattle.std.proofs.Common.{sym, ap, ◌∙◌}
use Rattle.mm_model.specs.Memory.{can_map}
use Rattle.mm_mem.specs.Answers.{after_map}
use Rattle.mm_frames.specs.Framed.{memory_of}
use Rattle.mm_cache.{specs.Over.over, proofs.MapPages.pages_are_over}
use Rattle.mm_vmem.specs.{contracts.vmem.VMem.the_view, Cached.{Cached, meaning}}
use Rattle.mm_vmem.proofs.PageChanges.{map_held, map_meaning}
use Rattle.mm_vmem.proofs.vmem.VMemMemory.map.Goals as goal

pub invariant_of-self : goal.invariant_of-self
invariant_of-self c =
    map_held (the_view c.self.inside) c.self.inside.frames c.take.new.self c.args.page c.take.result c.self.invariant c.requires c.take.ensures.answer c.take.ensures.after c.take.ensures.same
    c.take.ensures.memory

pub returns-clause-answer : goal.returns-clause-answer
unfolding meaning
returns-clause-answer c =
    c.is_some.ensures ∙ c.take.ensures.answer
    ∙ sym (pages_are_over.can_map (memory_of c.self.inside.frames) c.self.inside.lines c.args.page)
    ∙ ap (λ (m : Cached). can_map (over (memory_of m.frames) m.lines) c.args.page) c.self.view_is

pub returns-clause-after : goal.returns-clause-after
unfolding meaning
returns-clause-after c =
    map_meaning (memory_of c.self.inside.frames) (memory_of c.take.new.self) c.self.inside.lines c.args.page c.self.invariant.cover c.take.ensures.memory
    ∙ ap (λ (m : Cached). after_map (over (memory_of m.frames) m.lines) c.args.page) c.self.view_is
