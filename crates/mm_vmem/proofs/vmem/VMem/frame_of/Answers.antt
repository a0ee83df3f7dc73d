use Rattle.std.proofs.Common.{sym, ap, ◌∙◌}
use Rattle.mm_frames.specs.Framed.{frame_of}
use Rattle.mm_vmem.{specs.Cached.Cached, proofs.Entries.frame_right}
use Rattle.mm_vmem.proofs.vmem.VMem.frame_of.Goals as goal

pub returns-in-Some : goal.returns-in-Some
returns-in-Some c =
    sym (frame_right (frame_of c.self.inside.frames) c.args.page c.in-Some.frame c.self.inside.tlb c.self.invariant.right (sym c.find.ensures ∙ c.in-Some.is))
    ∙ ap (λ (m : Cached). frame_of m.frames c.args.page) c.self.view_is
