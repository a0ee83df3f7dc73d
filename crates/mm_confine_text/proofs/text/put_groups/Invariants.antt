use Rattle.std.{proofs.Common.{List, ℕ, take}, specs.List.AllByRecursion}
use Rattle.mm_model.specs.Image.{Image}
use Rattle.mm_text.specs.Appends.{Appends}
use Rattle.mm_kernel.specs.Segments.{Segment}
use Rattle.mm_hold.specs.Holdings.{AreHoldings}
use Rattle.mm_confine_text.specs.{Found.{IsGroup, numbers_of}, Parts.AreParties, Told.GroupTexts}
use Rattle.mm_confine_text.proofs.text.put_groups.Given as goal

abbrev pub invariant-loop-group : goal.invariant-loop-group
invariant-loop-group g l =
    (whole : List ℕ) × Appends g.O.Sink.taken g.O.Sink.faults l.initial.out l.out l.initial.text l.text whole
    × ((i : Image) (kept : List Segment) → AreParties i kept l.parties → AreHoldings i kept l.holdings
    → AllByRecursion (IsGroup i kept) l.groups → GroupTexts i kept (numbers_of (take l.group-index l.groups)) whole)
