use Rattle.std.proofs.Common.{Option, subst}
use Rattle.std.proofs.lemmas.Result.{on_ok_weaker}
use Rattle.mm_word.specs.Pointer.{Pointer}
use Rattle.mm_keep.specs.Claims.{AddsFacts}
use Rattle.mm_keep.specs.Searching.{entered_facts}
use Rattle.mm_keep.proofs.again.enter_door.Goals as goal

pub returns-in-Some : goal.returns-in-Some
returns-in-Some c =
    on_ok_weaker c.enter_at.result (λ h. subst (λ (o : Option Pointer). AddsFacts c.args.kernel.now.image c.args.kernel.now.kept (entered_facts c.args.kernel.now.image c.args.kernel.now.kept c.args.handlers.now c.args.door o)
    c.args.tables.now c.enter_at.new.tables) c.in-Some.ensures.value h) c.enter_at.ensures
