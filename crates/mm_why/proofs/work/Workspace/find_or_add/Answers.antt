use Rattle.std.proofs.{Common.{refl}, lemmas.Result.IfOk-weaker}
use Rattle.mm_why.proofs.Working.{added_on}
use Rattle.mm_why.proofs.work.Workspace.find_or_add.Goals as goal

pub returns-in-None : goal.returns-in-None
returns-in-None c = IfOk-weaker c.add.result _ _ (λ place added i g h known follows.
    added_on i g c.args.self.now (record { lines = c.add.new.lines; searches = c.args.self.now.searches })
    (record { group = c.args.group; pointer = c.args.pointer; rule = c.args.rule }) place h known follows added refl) c.add.ensures
