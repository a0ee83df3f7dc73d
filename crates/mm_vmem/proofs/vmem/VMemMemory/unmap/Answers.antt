use Rattle.std.proofs.Common.{◌≡◌, Bool, true, false, List, ◌++◌, sym, ap, subst, ◌∙◌, append-nil}
use Rattle.mm_model.specs.{Memory.is_mapped, Uses.Use, Turn.removal_use}
use Rattle.mm_mem.specs.Answers.{after_unmap}
use Rattle.mm_frames.specs.Framed.{Framed, memory_of}
use Rattle.mm_cache.{specs.{Lines.without_page, Over.over}, proofs.MapPages.pages_are_over}
use Rattle.mm_vmem.specs.{contracts.vmem.VMem.the_view, Cached.{Cached, meaning, StandsTo}}
use Rattle.mm_vmem.proofs.PageChanges.{with_frames, unmap_held, refused_held, unmap_meaning, refused_meaning}
use Rattle.mm_vmem.proofs.UsesTaken.{stands_page_removed, stands_same}
use Rattle.mm_vmem.proofs.vmem.VMemMemory.unmap.Goals as goal

pub invariant_of-self : goal.invariant_of-self
invariant_of-self c =
    unmap_held (the_view c.self.inside) c.self.inside.frames c.give-removed.new.self c.args.page c.drop_page.new.self c.clear.new.self c.self.invariant
    (sym c.give-removed.ensures.answer ∙ c.if-removed.true)
    c.give-removed.ensures.after c.give-removed.ensures.memory c.drop_page.ensures c.clear.ensures

pub invariant_of-self-else-removed : goal.invariant_of-self-else-removed
invariant_of-self-else-removed c =
    refused_held (the_view c.self.inside) c.self.inside.frames c.give-removed.new.self c.args.page c.self.invariant (sym c.give-removed.ensures.answer ∙ c.if-removed.false)
    c.give-removed.ensures.after c.give-removed.ensures.memory

pub returns-then-removed-clause-answer : goal.returns-then-removed-clause-answer
unfolding meaning
returns-then-removed-clause-answer c =
    c.give-removed.ensures.answer
    ∙ sym (pages_are_over.mapped (memory_of c.self.inside.frames) c.self.inside.lines c.args.page)
    ∙ ap (λ (m : Cached). is_mapped (over (memory_of m.frames) m.lines) c.args.page) c.self.view_is

pub returns-else-removed-clause-answer : goal.returns-else-removed-clause-answer
unfolding meaning
returns-else-removed-clause-answer c =
    c.give-removed.ensures.answer
    ∙ sym (pages_are_over.mapped (memory_of c.self.inside.frames) c.self.inside.lines c.args.page)
    ∙ ap (λ (m : Cached). is_mapped (over (memory_of m.frames) m.lines) c.args.page) c.self.view_is

pub returns-then-removed-clause-after : goal.returns-then-removed-clause-after
unfolding meaning
returns-then-removed-clause-after c =
    unmap_meaning (memory_of c.self.inside.frames) (memory_of c.give-removed.new.self) c.self.inside.lines c.drop_page.new.self c.args.page c.self.invariant.cover
    (sym c.give-removed.ensures.answer ∙ c.if-removed.true) c.give-removed.ensures.memory c.drop_page.ensures
    ∙ ap (λ (m : Cached). after_unmap (over (memory_of m.frames) m.lines) c.args.page) c.self.view_is

pub returns-else-removed-clause-after : goal.returns-else-removed-clause-after
unfolding meaning
returns-else-removed-clause-after c =
    refused_meaning (memory_of c.self.inside.frames) (memory_of c.give-removed.new.self) c.self.inside.lines c.args.page
    (sym c.give-removed.ensures.answer ∙ c.if-removed.false) c.give-removed.ensures.memory
    ∙ ap (λ (m : Cached). after_unmap (over (memory_of m.frames) m.lines) c.args.page) c.self.view_is

pub returns-then-removed-clause-takes : goal.returns-then-removed-clause-takes
unfolding meaning
returns-then-removed-clause-takes c = record {
  each = λ before old.
      let new = the_view (record { frames = c.give-removed.new.self; lines = c.drop_page.new.self; tlb = c.clear.new.self; tally = c.self.inside.tally; others = c.self.inside.others }) in
      let mapped : is_mapped (over (memory_of c.args.self.now.frames) c.args.self.now.lines) c.args.page ≡ true =
      sym (ap (λ (m : Cached). is_mapped (over (memory_of m.frames) m.lines) c.args.page) c.self.view_is)
      ∙ pages_are_over.mapped (memory_of c.self.inside.frames) c.self.inside.lines c.args.page ∙ sym c.give-removed.ensures.answer ∙ c.if-removed.true in
      subst (λ (b : Bool). StandsTo new (before ++ removal_use c.args.page b)) (sym mapped)
      (stands_page_removed c.args.self.now new before c.args.page
      (ap (λ (m : Cached). m.uses) c.self.view_is)
      (c.drop_page.ensures ∙ ap (λ (m : Cached). without_page c.args.page m.lines) c.self.view_is)
      c.clear.ensures
      (ap (λ (f : Framed). (with_frames (the_view c.self.inside) f).numbers) c.give-removed.ensures.after ∙ ap (λ (m : Cached). m.numbers) c.self.view_is)
      old);
}

pub returns-else-removed-clause-takes : goal.returns-else-removed-clause-takes
unfolding meaning
returns-else-removed-clause-takes c = record {
  each = λ before old.
      let new = the_view (record { frames = c.give-removed.new.self; lines = c.self.inside.lines; tlb = c.self.inside.tlb; tally = c.self.inside.tally; others = c.self.inside.others }) in
      let absent : is_mapped (over (memory_of c.args.self.now.frames) c.args.self.now.lines) c.args.page ≡ false =
      sym (ap (λ (m : Cached). is_mapped (over (memory_of m.frames) m.lines) c.args.page) c.self.view_is)
      ∙ pages_are_over.mapped (memory_of c.self.inside.frames) c.self.inside.lines c.args.page ∙ sym c.give-removed.ensures.answer ∙ c.if-removed.false in
      subst (λ (b : Bool). StandsTo new (before ++ removal_use c.args.page b)) (sym absent)
      (subst (λ (us : List Use). StandsTo new us) (sym (append-nil before))
      (stands_same c.args.self.now new before
      (ap (λ (m : Cached). m.uses) c.self.view_is) (ap (λ (m : Cached). m.lines) c.self.view_is) (ap (λ (m : Cached). m.entries) c.self.view_is)
      (ap (λ (f : Framed). (with_frames (the_view c.self.inside) f).numbers) c.give-removed.ensures.after ∙ ap (λ (m : Cached). m.numbers) c.self.view_is)
      old));
}
