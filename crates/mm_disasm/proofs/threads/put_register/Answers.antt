use Rattle.std.proofs.Common.{Bool, [], ◌++◌, codes, decimal, cond, sym, ap, ◌∙◌}
use Rattle.mm_model.specs.Lines.{newline}
use Rattle.mm_text.proofs.Appending.{appends_then, appends_same}
use Rattle.mm_disasm.specs.Canonical.{value_text, register_line}
use Rattle.mm_disasm.proofs.threads.put_register.Goals as goal

pub returns-then-not-is_zero : goal.returns-then-not-is_zero
unfolding register_line
returns-then-not-is_zero g c =
    let line = codes ".reg " ++ decimal c.args.number ++ codes " " ++ value_text c.args.o.now c.args.value ++ newline in
    appends_same (appends_then (appends_then c.put.ensures c.put_value.ensures) c.put_piece.ensures)
    (ap (λ (b : Bool). cond b [] line) (sym (sym c.is_zero.ensures ∙ c.if-not-is_zero.true)))
