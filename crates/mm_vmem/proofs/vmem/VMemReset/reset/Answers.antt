use Rattle.std.proofs.Common.{◌≡◌, ℕ, ◌≤◌, length, sym, ap, subst, ◌∙◌}
use Rattle.mm_model.specs.Memory.{Memory, IsPaged}
use Rattle.mm_frames.{specs.Framed.memory_of, proofs.Framed.frames_are}
use Rattle.mm_cache.{specs.Over.over, proofs.Laid.over_frames}
use Rattle.mm_vmem.{specs.Cached.{Cached, meaning}, proofs.{PageChanges.{new_held, new_meaning}, UsesTaken.stands_new}}
use Rattle.mm_vmem.proofs.vmem.VMemReset.reset.Goals as goal

-- as many frames as there are
frames_kept : (inside now : Cached) → inside ≡ now → (over (memory_of now.frames) now.lines).frames ≡ length inside.frames.cells
frames_kept inside now view =
    sym (ap (λ (m : Cached). (over (memory_of m.frames) m.lines).frames) view)
    ∙ over_frames (memory_of inside.frames) inside.lines
    ∙ frames_are inside.frames

pub reset-requires-clause-fit : goal.reset-requires-clause-fit
unfolding meaning
reset-requires-clause-fit c = subst (λ (n : ℕ). length c.args.pages.now ≤ n) (frames_kept _ c.args.self.now c.self.view_is) c.requires.fit

pub invariant_of-self : goal.invariant_of-self
invariant_of-self c = new_held c.reset.new.self c.clear.new.self c.clear-2.new.self c.reset.ensures.paged c.reset.ensures.reads c.reset.ensures.writes c.clear.ensures c.clear-2.ensures

pub returns-clause-meaning : goal.returns-clause-meaning
unfolding meaning
returns-clause-meaning c =
    new_meaning c.reset.new.self c.clear.new.self c.clear.ensures
    ∙ c.reset.ensures.contents
    ∙ ap (λ (n : ℕ). let m : Memory = record { pages = c.args.pages.now; frames = n } in m) (sym (frames_kept _ c.args.self.now c.self.view_is))

pub returns-clause-stands : goal.returns-clause-stands
returns-clause-stands c = stands_new c.reset.new.self c.clear.new.self c.clear-2.new.self c.reset.ensures.reads c.reset.ensures.writes c.clear.ensures c.clear-2.ensures

pub returns-clause-paged : goal.returns-clause-paged
unfolding meaning
returns-clause-paged c = subst IsPaged (sym (new_meaning c.reset.new.self c.clear.new.self c.clear.ensures)) c.reset.ensures.paged
