-- The parts of the text of groups.
use Rattle.std.specs.Prelude.{ℕ, List, ◌++◌, map, decimal}
use Rattle.std.specs.List.{AllZip}
use Rattle.mm_word.specs.Pointer.{Pointer}
use Rattle.mm_model.specs.{Image.Image, Lines.newline}
use Rattle.mm_kernel.specs.Segments.{Segment}
use Rattle.mm_kernel.specs.declared.thread.Origin.{Origin, TheVariants.{Door, Slot as OfSlot}}
use Rattle.mm_keep_text.specs.{Told.Party, Answers.{IsParty, AreDoors, kernel_slots}}

-- the origins of threads, each with the kept words that they use
abbrev pub origins_of : List Party → List Origin
origins_of parties = map (λ (p : Party). p.origin) parties

-- the doors of the kernel, ascending, and then its slots
pub record AreParties (i : Image) (kept : List Segment) (parties : List Party) : Type 0 where
  pub doors : List Pointer
  pub doors_are : AreDoors i kept doors
  pub all : AllZip (IsParty i kept) (map Door doors ++ map OfSlot (kernel_slots i kept)) parties

-- a line with a number after a word
abbrev pub number_line : List ℕ → ℕ → List ℕ
number_line word n = word ++ decimal n ++ newline
