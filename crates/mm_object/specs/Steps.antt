-- Names that the code keeps while it reads an object or assembles one.
use Rattle.std.specs.Prelude.{◌≡◌, ℕ, List, map}
use denote.Ref.{Bor}
use Rattle.mm_object.specs.Objects.{is_among}

-- the names that keys refer to
abbrev pub key_names : List (Bor (List ℕ)) → List (List ℕ)
key_names keys = map (λ (k : Bor (List ℕ)). k.now) keys

-- a name is among these exactly if it is among those
abbrev pub AreTheSame : List (List ℕ) → List (List ℕ) → Type 0
AreTheSame these those = (name : List ℕ) → is_among name these ≡ is_among name those
