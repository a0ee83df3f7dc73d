-- The lines of groups, which may say whether each stands apart.
use Rattle.std.specs.Prelude.{ℕ, Bool, true, false, if◌then◌else◌, List, [], ◌∷◌, ◌++◌, codes, decimal}
use Rattle.mm_model.specs.{Image.Image, Audit.{AuditEach, AuditGroups}}

abbrev pub IsPart : Image → Bool → List ℕ → List ℕ → Type 0
IsPart i true groups text = AuditEach i groups text
IsPart i false groups text = AuditGroups i groups text

-- the list of the group, if it is present
abbrev pub if_present : Bool → ℕ → List ℕ
if_present present g = if present then g ∷ [] else []

-- a further number after a comma
abbrev pub further : ℕ → List ℕ
further g = codes "," ++ decimal g
