use Rattle.std.{proofs.Common.{◌≡◌, ◌++◌, take}, specs.List.flat_map}
use Rattle.mm_hold.specs.Deeds.{plain_in}
use Rattle.mm_hold.proofs.handing.put_plains.Given as goal

abbrev pub invariant-loop-form : goal.invariant-loop-form
invariant-loop-form l = l.deeds.items ≡ l.initial.deeds.items ++ flat_map (plain_in l.kept l.origin) (take l.form-index l.forms)
