use Rattle.std.proofs.Common.{sym, ap, ◌∙◌}
use Rattle.mm_model.{specs.Memory.put_cell, proofs.Memories.put_cell-unmapped}
use Rattle.mm_mem.proofs.plain.PlainMem.put.Goals as goal

pub returns-in_default-clause-memory : goal.returns-in_default-clause-memory
returns-in_default-clause-memory c =
    let m = c.self.inside.flat in
    ap (λ p. p.memory) (sym c.self.view_is) ∙ sym (put_cell-unmapped m c.args.word c.args.cell c.in_default.ensures.unmapped) ∙ ap (λ p. put_cell p.memory c.args.word c.args.cell) c.self.view_is
