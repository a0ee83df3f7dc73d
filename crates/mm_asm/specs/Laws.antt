-- Laws of assembler texts.
use Rattle.std.specs.{Prelude.{◌≡◌, ◌↔◌, ℕ, List, map, None, Ok}, List.Sorted.IsStrictlyIncreasing}
use Rattle.mm_draft.specs.{Drafts.Draft, Faults.draft_of}
use Rattle.mm_object.specs.Objects.{Object, IsObject}
use Rattle.mm_asm.specs.{Names.{Use, uses_of}, Faults.{first_fault, Means}, Bounds.IsDraft}

-- the draft of a text is within its bounds
abbrev pub DraftsAreBounded : Type 0
DraftsAreBounded = (text : List ℕ) (d : Draft) → draft_of text ≡ Ok d → IsDraft d

-- the targets of a draft are in the order of the text, at most one on a line
abbrev pub TargetsStandInOrder : Type 0
TargetsStandInOrder =
    (text : List ℕ) (d : Draft) → draft_of text ≡ Ok d
    → IsStrictlyIncreasing (map (λ (u : Use). u.source.line) (uses_of d))

-- what a text means is an object
abbrev pub MeaningsAreObjects : Type 0
MeaningsAreObjects = (text : List ℕ) (o : Object) → Means text o → IsObject o

-- a text means at most one object
abbrev pub MeaningsAreOne : Type 0
MeaningsAreOne = (text : List ℕ) (a b : Object) → Means text a → Means text b → a ≡ b

-- a text means an object exactly if it has no fault
abbrev pub TextsMeanOrFail : Type 0
TextsMeanOrFail = (text : List ℕ) → (first_fault text ≡ None) ↔ ((o : Object) × Means text o)
