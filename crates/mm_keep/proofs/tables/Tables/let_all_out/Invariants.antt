use Rattle.std.{proofs.Common.take, specs.List.flat_map}
use Rattle.mm_kernel.specs.Facts.{let_out}
use Rattle.mm_keep.specs.Claims.{AddsFacts}
use Rattle.mm_keep.proofs.tables.Tables.let_all_out.Given as goal

abbrev pub invariant-loop-form : goal.invariant-loop-form
invariant-loop-form l =
    AddsFacts l.kernel.image l.kernel.kept (flat_map (let_out l.kernel.kept) (take l.form-index l.forms)) l.initial.self l.self
