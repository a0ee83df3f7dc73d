use Rattle.std.{proofs.Common.{◌≡◌, ℕ, List, false, take}, specs.List.list_any}
use Rattle.mm_object.specs.Objects.{is_among, names_of}
use Rattle.mm_object.proofs.segments.has_any.Given as goal

abbrev pub invariant-loop-name : goal.invariant-loop-name
invariant-loop-name l = list_any (λ (name : List ℕ). is_among name (names_of l.segments)) (take l.name-index l.names) ≡ false
