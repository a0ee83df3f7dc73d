use Rattle.std.{proofs.Common.{◌≡◌, ◌++◌, take}, specs.List.flat_map}
use Rattle.mm_hold.specs.Deeds.{door_in}
use Rattle.mm_hold.proofs.handing.put_doors.Given as goal

abbrev pub invariant-loop-form : goal.invariant-loop-form
invariant-loop-form l = l.deeds.items ≡ l.initial.deeds.items ++ flat_map (door_in l.kept l.origin) (take l.form-index l.forms)
