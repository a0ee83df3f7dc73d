use Rattle.std.proofs.Common.{sym, ap, ◌∙◌}
use Rattle.mm_vmem.{specs.Entries.frame_in, proofs.Entries.{first_place, frame_first, no_frame}}
use Rattle.mm_vmem.proofs.tlb.Tlb.find.Goals as goal

pub returns-in_err-i : goal.returns-in_err-i
returns-in_err-i c =
    let none = no_frame c.args.page c.as_slice-entries.result.now (sym c.position.ensures ∙ c.in_err-i.was) in
    cc (none, c.as_slice-entries.ensures.value, c.self.view_is, c.from_residual.ensures)

pub returns : goal.returns
returns c =
    let first = first_place c.args.page c.in_ok-i.i c.as_slice-entries.result.now (sym c.position.ensures ∙ c.in_ok-i.was) in
    sym (frame_first c.args.page c.in_ok-i.i c.as_slice-entries.result.now _ first) ∙ ap (frame_in c.args.page) (c.as_slice-entries.ensures.value ∙ c.self.view_is)
