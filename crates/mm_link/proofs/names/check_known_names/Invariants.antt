use Rattle.std.proofs.Common.{◌≡◌, drop}
use Rattle.mm_link.specs.Faults.{unknown_among}
use Rattle.mm_link.proofs.names.check_known_names.Given as goal

abbrev pub invariant-loop-name : goal.invariant-loop-name
invariant-loop-name l = unknown_among l.sites (drop l.name-index l.names) ≡ unknown_among l.sites l.names
