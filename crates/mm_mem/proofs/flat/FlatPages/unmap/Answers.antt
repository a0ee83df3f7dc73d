use Rattle.std.proofs.Common.{sym, ap, subst, ◌∙◌, ◌≡◌, arith, true, false}
use Rattle.mm_model.{specs.Memory.{is_mapped, unmap_page}, proofs.Memories.unmap_paged}
use Rattle.mm_mem.specs.{Answers.after_unmap, Places.{IsAt, IsGap}}
use Rattle.mm_mem.proofs.Flats.{Pages, flat, mapped_here, not_mapped, unmap_refused, unmap_done, unmap_here, same_paged}
use Rattle.mm_mem.proofs.flat.FlatPages.unmap.Goals as goal

-- the page is not there

absent : (c : goal.In-Err) → is_mapped c.args.self.now c.args.page ≡ false
absent c =
    let gap = subst (λ (es : Pages). IsGap c.args.page es c.in-Err.field-0) c.deref.ensures.value c.in-Err.ensures.absent in
    sym (ap (λ m. is_mapped m c.args.page) c.self.view_is) ∙ not_mapped (flat c.self.inside.pages.items c.self.inside.frames) c.args.page c.in-Err.field-0 gap

pub returns-in-Err-clause-answer : goal.returns-in-Err-clause-answer
returns-in-Err-clause-answer c = sym (absent c)

pub returns-in-Err-clause-after : goal.returns-in-Err-clause-after
returns-in-Err-clause-after c = unmap_refused c.args.self.now c.args.page (absent c)

-- the page is taken out

there : (c : goal.In-Ok-push) → IsAt c.args.page c.self.inside.pages.items c.in-Ok.i
there c = subst (λ (es : Pages). IsAt c.args.page es c.in-Ok.i) c.deref.ensures.value c.in-Ok.ensures.found

removed : (c : goal.In-Ok-push) → flat c.remove-frame.new.self.items c.self.inside.frames ≡ unmap_page (flat c.self.inside.pages.items c.self.inside.frames) c.args.page
removed c = unmap_here (flat c.self.inside.pages.items c.self.inside.frames) c.args.page c.in-Ok.i c.remove-frame.new.self.items c.self.invariant.paged (there c) c.remove-frame.ensures.items

mapped : (c : goal.In-Ok-push) → is_mapped (flat c.self.inside.pages.items c.self.inside.frames) c.args.page ≡ true
mapped c = mapped_here (flat c.self.inside.pages.items c.self.inside.frames) c.args.page c.in-Ok.i c.self.invariant.paged (there c)

pub invariant_of-self : goal.invariant_of-self
invariant_of-self c = record {
  paged = same_paged _ _ (removed c) (unmap_paged _ c.args.page c.self.invariant.paged);
  small = c.self.invariant.small;
  counted = omega (arith, c.self.invariant.counted, c.remove-frame.ensures.len, c.in-Ok-push.ensures.len);
  pages_fit = omega (arith, c.self.invariant.pages_fit, c.remove-frame.ensures.capacity);
  free_fit = omega (arith, c.self.invariant.free_fit, c.in-Ok-push.ensures.capacity);
}

pub returns-in-Ok-push-clause-answer : goal.returns-in-Ok-push-clause-answer
returns-in-Ok-push-clause-answer c = sym (mapped c) ∙ ap (λ m. is_mapped m c.args.page) c.self.view_is

pub returns-in-Ok-push-clause-after : goal.returns-in-Ok-push-clause-after
returns-in-Ok-push-clause-after c =
    removed c
    ∙ unmap_done (flat c.self.inside.pages.items c.self.inside.frames) c.args.page (mapped c)
    ∙ ap (λ m. after_unmap m c.args.page) c.self.view_is
