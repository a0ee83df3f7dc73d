use Rattle.std.proofs.Common.{◌≡◌, ℕ, List, [], ◌∷◌, ◌++◌, IsTrue, true, sym, ap, subst, ◌∙◌, arith}
use Rattle.std.specs.{Ordering.nat_cmp, FinMap.is_sorted}
use Rattle.mm_model.specs.Memory.{is_mapped}
use Rattle.mm_mem.specs.{Answers.after_unmap, Places.{IsAt, IsGap}}
use Rattle.mm_mem.proofs.{Places.{held, remove_at}, Flats.{unmap_refused, unmap_done}}
use Rattle.mm_frames.specs.Framed.{Framed, IsFramed, memory_of, without}
use Rattle.mm_frames.proofs.Framed.{rows_rise, memory_of-without}
use Rattle.mm_frames.proofs.Kept.{is_mapped_at, not_mapped_in, without_absent, kept_without}
use Rattle.mm_frames.proofs.frames.Frames.give.Goals as goal

pub search-requires : goal.search-requires
search-requires c = subst (λ (rows : List (ℕ × ℕ)). IsTrue (is_sorted nat_cmp rows)) (sym c.deref.ensures.value) (rows_rise _ _ c.self.invariant.framed)

-- 1. The page is not there.

gap : (c : goal.In-Err) → IsGap c.args.page c.args.self.now.rows c.in-Err.field-0
gap c =
    let here = subst (λ (rows : List (ℕ × ℕ)). IsGap c.args.page rows c.in-Err.field-0) c.deref.ensures.value c.in-Err.ensures.absent in
    subst (λ (f : Framed). IsGap c.args.page f.rows c.in-Err.field-0) c.self.view_is here

pub returns-in-Err-clause-answer : goal.returns-in-Err-clause-answer
returns-in-Err-clause-answer c = sym (not_mapped_in c.args.self.now c.args.page c.in-Err.field-0 (gap c))

pub returns-in-Err-clause-after : goal.returns-in-Err-clause-after
returns-in-Err-clause-after c = without_absent c.args.self.now c.args.page c.in-Err.field-0 (gap c)

pub returns-in-Err-clause-memory : goal.returns-in-Err-clause-memory
returns-in-Err-clause-memory c = unmap_refused (memory_of c.args.self.now) c.args.page (not_mapped_in c.args.self.now c.args.page c.in-Err.field-0 (gap c))

-- 2. The page is taken out.

there : (c : goal.In-Ok-push) → IsAt c.args.page c.self.inside.rows.items c.in-Ok.i
there c = subst (λ (rows : List (ℕ × ℕ)). IsAt c.args.page rows c.in-Ok.i) c.deref.ensures.value c.in-Ok.ensures.found

after : (c : goal.In-Ok-push) → record (record { rows = c.self.inside.rows.items; cells = c.self.inside.frames.items; reads = c.self.inside.reads; writes = c.self.inside.writes })
    { rows = c.remove-row.new.self.items } ≡ without (record { rows = c.self.inside.rows.items; cells = c.self.inside.frames.items; reads = c.self.inside.reads; writes = c.self.inside.writes })
    c.args.page
after c =
    let f : Framed = record { rows = c.self.inside.rows.items; cells = c.self.inside.frames.items; reads = c.self.inside.reads; writes = c.self.inside.writes } in
    ap (λ (rows : List (ℕ × ℕ)). record f { rows = rows }) (c.remove-row.ensures.items ∙ remove_at c.args.page f.rows c.in-Ok.i (held _ (rows_rise f _ c.self.invariant.framed)) (there c))

mapped : (c : goal.In-Ok-push) → is_mapped (memory_of (record { rows = c.self.inside.rows.items; cells = c.self.inside.frames.items; reads = c.self.inside.reads; writes = c.self.inside.writes }))
    c.args.page ≡ true
mapped c = is_mapped_at (record { rows = c.self.inside.rows.items; cells = c.self.inside.frames.items; reads = c.self.inside.reads; writes = c.self.inside.writes }) c.args.page c.in-Ok.i
    (rows_rise _ _ c.self.invariant.framed) (there c)

pub invariant_of-self : goal.invariant_of-self
invariant_of-self c =
    let f : Framed = record { rows = c.self.inside.rows.items; cells = c.self.inside.frames.items; reads = c.self.inside.reads; writes = c.self.inside.writes } in
    let free : List ℕ = c.self.inside.free.items in
    let row : ℕ × ℕ = c.remove-row.result in
    let pushed : c.push.new.self.items ≡ free ++ row.1 ∷ [] = c.in-Ok-push.ensures.items ∙ ap (λ (r : ℕ × ℕ). free ++ r.1 ∷ []) c.row.view_is in
    let kept = kept_without f free c.args.page c.in-Ok.i row c.self.invariant.framed (there c) c.remove-row.ensures.value in
    record {
      framed = subst (IsFramed (record f { rows = c.remove-row.new.self.items })) (sym pushed) (subst (λ (f : Framed). IsFramed f (free ++ row.1 ∷ [])) (sym (after c)) kept);
      rows_fit = omega (arith, c.self.invariant.rows_fit, c.remove-row.ensures.capacity);
      free_fit = omega (arith, c.self.invariant.free_fit, c.in-Ok-push.ensures.capacity);
    }

pub returns-in-Ok-push-clause-answer : goal.returns-in-Ok-push-clause-answer
returns-in-Ok-push-clause-answer c = sym (mapped c) ∙ ap (λ (f : Framed). is_mapped (memory_of f) c.args.page) c.self.view_is

pub returns-in-Ok-push-clause-after : goal.returns-in-Ok-push-clause-after
returns-in-Ok-push-clause-after c = after c ∙ ap (λ (f : Framed). without f c.args.page) c.self.view_is

pub returns-in-Ok-push-clause-memory : goal.returns-in-Ok-push-clause-memory
returns-in-Ok-push-clause-memory c =
    ap memory_of (after c)
    ∙ memory_of-without (record { rows = c.self.inside.rows.items; cells = c.self.inside.frames.items; reads = c.self.inside.reads; writes = c.self.inside.writes }) c.args.page
    ∙ unmap_done (memory_of (record { rows = c.self.inside.rows.items; cells = c.self.inside.frames.items; reads = c.self.inside.reads; writes = c.self.inside.writes })) c.args.page (mapped c)
    ∙ ap (λ (f : Framed). after_unmap (memory_of f) c.args.page) c.self.view_is
