-- Worked examples of schedules.
use Rattle.std.specs.Prelude.{◌≡◌, ◌==◌, true, [], ◌∷◌, codes, None}
use Rattle.mm_model.specs.{declared.slot.SlotState.TheVariants.Halted, Schedule.{Means, FaultsAt, only}}
use Rattle.mm_model.specs.{Image.{Image, start}, Run.robin_from}
use Rattle.mm_examples.specs.Images.{code, slot, memory, image, code_page, two_groups, splits}

-- a text of items and counts, and its meaning
abbrev pub MeansItems : Type 0
MeansItems = Means (codes "0*3 1 0 1*2") (0 ∷ 0 ∷ 0 ∷ 1 ∷ 0 ∷ 1 ∷ 1 ∷ [])

abbrev pub MeansNothing : Type 0
MeansNothing = Means [] []

abbrev pub MeansAbsentSlots : Type 0
MeansAbsentSlots = Means (codes "9 9") (9 ∷ 9 ∷ [])

abbrev pub SkipsComments : Type 0
SkipsComments = Means (codes "1#2 3\n\t4\r\n# 5") (1 ∷ 4 ∷ [])

-- a count above the limit is no item
abbrev pub CountsTooMany : Type 0
CountsTooMany = FaultsAt (codes " 3*1000001") 1

-- the last item is one too many
abbrev pub ListsTooMany : Type 0
ListsTooMany = FaultsAt (codes "0*999999 1 22") 11

-- a count is at least 1
abbrev pub CountsNone : Type 0
CountsNone = FaultsAt (codes "0*0") 0

-- a number has no leading zero
abbrev pub LeadsWithZero : Type 0
LeadsWithZero = FaultsAt (codes "07") 0

-- the items of one group are kept for it
abbrev pub KeepsOneGroup : Type 0
KeepsOneGroup = only two_groups (0 ∷ 0 ∷ 0 ∷ 1 ∷ 0 ∷ 1 ∷ 1 ∷ 9 ∷ []) (λ g. g == 0) ≡ 0 ∷ 0 ∷ 0 ∷ 0 ∷ []

-- an image with a slot that does not run; its items are kept too
abbrev pub halted : Image
halted = image (record (slot 0 0 code []) { state = Halted None } ∷ slot 1 1 code [] ∷ [])
    (memory 1 (code_page [] ∷ []))

abbrev pub KeepsIdleItems : Type 0
KeepsIdleItems = only halted (0 ∷ 1 ∷ 0 ∷ []) (λ g. g == 0) ≡ 0 ∷ 0 ∷ []

-- the ports of a split image's slots are kept, but no other image's
abbrev pub KeepsPorts : Type 0
KeepsPorts =
    (only (splits 2 true) (0 ∷ 128 ∷ 1 ∷ 129 ∷ []) (λ g. g == 0) ≡ 0 ∷ 128 ∷ [])
    × (only two_groups (0 ∷ 128 ∷ 1 ∷ 129 ∷ []) (λ g. g == 0) ≡ 0 ∷ [])

-- an image whose least running slot is 5, with which round robin begins
abbrev pub late : Image
late = image (slot 5 0 code [] ∷ slot 9 0 code [] ∷ []) (memory 1 (code_page [] ∷ []))

abbrev pub RobinBeginsLate : Type 0
RobinBeginsLate = (robin_from (start late) None 10 ≡ 5 ∷ 9 ∷ []) × (robin_from (start halted) None 10 ≡ 1 ∷ [])
