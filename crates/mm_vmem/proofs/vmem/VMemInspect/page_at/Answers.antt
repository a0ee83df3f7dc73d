use Rattle.std.proofs.Common.{◌≡◌, ℕ, ◌<◌, List, map, length, Some, slice_get, sym, ap, subst, ◌∙◌}
use Rattle.mm_word.specs.declared.word.Cell.{Cell}
use Rattle.mm_frames.specs.Framed.{memory_of}
use Rattle.mm_cache.{specs.Over.over, proofs.Laid.over_count}
use Rattle.mm_vmem.{specs.Cached.{Cached, meaning}, proofs.PageChanges.numbers_over}
use Rattle.mm_vmem.proofs.vmem.VMemInspect.page_at.Goals as goal

pub page_at-requires : goal.page_at-requires
unfolding meaning
page_at-requires c =
    subst (λ (n : ℕ). c.args.i < n) (over_count (memory_of c.self.inside.frames) c.self.inside.lines)
    (subst (λ (m : Cached). c.args.i < length (over (memory_of m.frames) m.lines).pages) (sym c.self.view_is) c.requires)

pub returns : goal.returns
unfolding meaning
returns c =
    subst (λ (m : Cached). slice_get (map (λ (e : ℕ × List Cell). e.0) (over (memory_of m.frames) m.lines).pages) c.args.i ≡ Some c.page_at.result) c.self.view_is
    (ap (λ (ns : List ℕ). slice_get ns c.args.i) (numbers_over (memory_of c.self.inside.frames) c.self.inside.lines) ∙ c.page_at.ensures)
