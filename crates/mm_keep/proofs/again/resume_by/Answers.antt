use Rattle.std.proofs.lemmas.Result.{on_ok_weaker}
use Rattle.std.specs.List.{flat_map}
use Rattle.mm_kernel.specs.{Facts.take_up, Derived.resumed}
use Rattle.mm_keep.proofs.Loops.{facts_equal}
use Rattle.mm_keep.proofs.again.resume_by.Goals as goal

pub returns-then-by-slot : goal.returns-then-by-slot
returns-then-by-slot c =
    on_ok_weaker c.resume_as.result (λ h. facts_equal c.args.kernel.now.image c.args.kernel.now.kept c.args.done.0 c.args.slot (flat_map (take_up c.args.kernel.now.image c.args.kernel.now.kept) (resumed c.args.done.1 c.args.u.now))
    c.args.tables.now c.resume_as.new.tables c.if-by-slot.true h) c.resume_as.ensures
