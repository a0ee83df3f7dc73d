-- The kept words of an image, and the parts that threads use.
use Rattle.std.specs.{Prelude.{if◌then◌else◌, List, [], ◌∷◌}, List.AllByRecursion}
use Rattle.mm_model.specs.{Slot.Slot, Image.Image}
use Rattle.mm_kernel.specs.{Segments.Segment, declared.thread.Thread.Thread, Threads.is_kernel_slot}
use Rattle.mm_kernel.specs.declared.thread.{Origin.{Origin, TheVariants.{Slot as OfSlot}}}
use Rattle.mm_span.specs.Spans.{IsWord}
use Rattle.mm_keep_text.specs.{declared.finding.Used.Used, Parts.{AreAll, IsHeld, ReadsPart, SomeUses, WritesPart}}

-- what is kept in memory of these is as the image and the threads say
pub record IsUsing (i : Image) (kept : List Segment) (threads : List Thread) (used : Used) : Type 0 where
  pub held : AreAll (IsHeld i kept) used.words.keys
  pub words : AllByRecursion IsWord used.words.keys
  pub reads : AreAll (SomeUses (ReadsPart i kept) threads) used.reads.keys
  pub writes : AreAll (SomeUses (WritesPart i kept) threads) used.writes.keys

-- the origin of a slot, if it is one of the kernel
abbrev pub slot_origins : List Segment → Slot → List Origin
slot_origins kept s = if is_kernel_slot kept s then OfSlot s.number ∷ [] else []
