use Rattle.std.{proofs.Common.{◌≡◌, true, take}, specs.List.list_all}
use Rattle.mm_object.specs.Names.{is_name}
use Rattle.mm_object.proofs.segments.hold_names.Given as goal

abbrev pub invariant-loop-name : goal.invariant-loop-name
invariant-loop-name l = list_all is_name (take l.name-index l.names) ≡ true
