use Rattle.std.proofs.Common.{◌∙◌}
use Rattle.mm_isa.proofs.Forms.{form_made}
use Rattle.mm_isa.proofs.instr.Instr.form.Goals as goal

pub returns : goal.returns
returns c = (rw c.new.ensures at c.visit.ensures.value) ∙ form_made c.args.self
