-- Laws of object files.
use Rattle.std.specs.Prelude.{◌≡◌, ◌↔◌, ℕ, List, None}
use Rattle.mm_model.specs.Bytes.{IsBytes}
use Rattle.mm_object.specs.{Objects.{Object, IsObject}, Faults.object_fault, Format.{spelling, Spells}}

-- bytes have no fault exactly if they spell an object
abbrev pub ObjectsHaveNoFault : Type 0
ObjectsHaveNoFault = (bytes : List ℕ) → IsBytes bytes → (object_fault bytes ≡ None) ↔ ((o : Object) × Spells bytes o)

-- bytes spell one object at most
abbrev pub SpelledObjectsAreOne : Type 0
SpelledObjectsAreOne = (bytes : List ℕ) (a b : Object) → Spells bytes a → Spells bytes b → a ≡ b

-- different objects have different spellings
abbrev pub SpellingIsInjective : Type 0
SpellingIsInjective = (a b : Object) → IsObject a → IsObject b → spelling a ≡ spelling b → a ≡ b
