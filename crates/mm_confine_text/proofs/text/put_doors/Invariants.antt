use Rattle.std.{proofs.Common.{List, take}, specs.List.flat_map}
use Rattle.mm_word.specs.Pointer.{Pointer}
use Rattle.mm_model.specs.Image.{Image}
use Rattle.mm_text.specs.Appends.{Appends}
use Rattle.mm_kernel.specs.Segments.{Segment}
use Rattle.mm_hold.specs.Holdings.{AreHoldings}
use Rattle.mm_confine_text.specs.{Found.HeldOf, Parts.origins_of, Told.door_line}
use Rattle.mm_confine_text.proofs.text.put_doors.Given as goal

abbrev pub invariant-loop-party : goal.invariant-loop-party
invariant-loop-party g l =
    (doors : List Pointer) × Appends g.O.Sink.taken g.O.Sink.faults l.initial.out l.out l.initial.text l.text (flat_map door_line doors)
    × ((i : Image) (kept : List Segment) → AreHoldings i kept l.holdings → HeldOf i kept l.group (origins_of (take l.party-index l.parties)) doors)
