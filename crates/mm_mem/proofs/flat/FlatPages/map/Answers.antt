use Rattle.std.{proofs.Common.{sym, ap, subst, ◌∙◌, ◌≡◌, length, arith, true, false}, specs.List.insert}
use Rattle.mm_model.{specs.Memory.{can_map, map_page}, proofs.Memories.map_paged}
use Rattle.mm_mem.specs.{Answers.after_map, Places.{IsAt, IsGap}}
use Rattle.mm_mem.proofs.Flats.{Pages, flat, cannot_map_again, cannot_map_full, can_map_here, map_refused, map_done}
use Rattle.mm_mem.proofs.Flats.{map_here, same_paged}
use Rattle.mm_mem.proofs.flat.FlatPages.map.Goals as goal

-- it is mapped already

again : (c : goal.In-Ok) → can_map c.args.self.now c.args.page ≡ false
again c =
    let here = subst (λ (es : Pages). IsAt c.args.page es c.in-Ok.field-0) c.deref.ensures.value c.in-Ok.ensures.found in
    sym (ap (λ m. can_map m c.args.page) c.self.view_is) ∙ cannot_map_again (flat c.self.inside.pages.items c.self.inside.frames) c.args.page c.in-Ok.field-0 c.self.invariant.paged here

pub returns-in-Ok-clause-answer : goal.returns-in-Ok-clause-answer
returns-in-Ok-clause-answer c = sym (again c)

pub returns-in-Ok-clause-after : goal.returns-in-Ok-clause-after
returns-in-Ok-clause-after c = map_refused c.args.self.now c.args.page (again c)

-- no frame is free

full : (c : goal.In-None) → can_map (flat c.self.inside.pages.items c.self.inside.frames) c.args.page ≡ false
full c = cannot_map_full (flat c.self.inside.pages.items c.self.inside.frames) c.args.page
    (omega (arith, c.self.invariant.counted, c.in-None.ensures.cases.0, ap length c.deref.ensures.value, c.deref.ensures.len))

pub returns-in-None-clause-answer : goal.returns-in-None-clause-answer
returns-in-None-clause-answer c = sym (full c) ∙ ap (λ m. can_map m c.args.page) c.self.view_is

pub returns-in-None-clause-after : goal.returns-in-None-clause-after
returns-in-None-clause-after c = map_refused (flat c.self.inside.pages.items c.self.inside.frames) c.args.page (full c) ∙ ap (λ m. after_map m c.args.page) c.self.view_is

-- a frame is free, and the page is not mapped

gap : (c : goal.In-Ok-insert) → IsGap c.args.page c.self.inside.pages.items c.in-Err.i
gap c = subst (λ (es : Pages). IsGap c.args.page es c.in-Err.i) c.deref.ensures.value c.in-Err.ensures.absent

can : (c : goal.In-Ok-insert) → can_map (flat c.self.inside.pages.items c.self.inside.frames) c.args.page ≡ true
can c = can_map_here (flat c.self.inside.pages.items c.self.inside.frames) c.args.page c.in-Err.i (gap c)
    (omega (arith, c.self.invariant.counted, c.in-Some.ensures.len, ap length c.deref.ensures.value, c.deref.ensures.len))

placed : (c : goal.In-Ok-insert) → flat c.insert.new.self.items c.self.inside.frames ≡ map_page (flat c.self.inside.pages.items c.self.inside.frames) c.args.page
placed c = map_here (flat c.self.inside.pages.items c.self.inside.frames) c.args.page c.in-Err.i c.insert.new.self.items (gap c)
    (c.in-Ok-insert.ensures.items ∙ ap (λ e. insert c.self.inside.pages.items c.in-Err.i e) c.clear.ensures)

pub invariant_of-self-in-Some : goal.invariant_of-self-in-Some
invariant_of-self-in-Some c = record {
  paged = same_paged _ _ (placed c) (map_paged _ c.args.page c.self.invariant.paged (can c) c.requires);
  small = c.self.invariant.small;
  counted = omega (arith, c.self.invariant.counted, c.in-Some.ensures.len, c.in-Ok-insert.ensures.len);
  pages_fit = omega (arith, c.self.invariant.pages_fit, c.in-Ok-insert.ensures.capacity);
  free_fit = omega (arith, c.self.invariant.free_fit, c.in-Some.ensures.capacity);
}

pub returns-in-Ok-insert-clause-answer : goal.returns-in-Ok-insert-clause-answer
returns-in-Ok-insert-clause-answer c = sym (can c) ∙ ap (λ m. can_map m c.args.page) c.self.view_is

pub returns-in-Ok-insert-clause-after : goal.returns-in-Ok-insert-clause-after
returns-in-Ok-insert-clause-after c =
    placed c
    ∙ map_done (flat c.self.inside.pages.items c.self.inside.frames) c.args.page (can c)
    ∙ ap (λ m. after_map m c.args.page) c.self.view_is
