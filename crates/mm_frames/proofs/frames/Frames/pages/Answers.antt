use Rattle.std.proofs.Common.{sym, ap, ◌∙◌, length}
use Rattle.mm_frames.{specs.Framed.{Framed, memory_of}, proofs.Framed.pages_length}
use Rattle.mm_frames.proofs.frames.Frames.pages.Goals as goal

pub returns-clause-count : goal.returns-clause-count
returns-clause-count c = c.len.ensures ∙ c.self.inside.rows.ok.0 ∙ sym (pages_length _) ∙ ap (λ (f : Framed). length (memory_of f).pages) c.self.view_is
