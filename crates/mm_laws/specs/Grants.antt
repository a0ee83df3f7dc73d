-- What is granted under any entries.
use Rattle.std.specs.Prelude.{ℕ, List}
use Rattle.mm_word.specs.Pointer.{Pointer, IsWellFormed}
use Rattle.mm_model.specs.Image.{Image}
use Rattle.mm_model.specs.Reach.{Entries, MayEnter, Grants, CanTouch, CanWrite, Privileged, Entries.{All, These}}

-- the first entries are among the second
abbrev pub Grow : Entries → Entries → Type 0
Grow e f = (g : ℕ) (p : Pointer) → MayEnter e g p → MayEnter f g p

-- grants grow with entries
abbrev pub GrantsGrow : Type 0
GrantsGrow = (i : Image) (e f : Entries) → Grow e f → (g : ℕ) (q : Pointer) → Grants i e g q → Grants i f g q

-- grants under all entries contain those under every list
abbrev pub AllGrantMost : Type 0
AllGrantMost =
    (i : Image) (list : List (ℕ × Pointer)) (g : ℕ) (q : Pointer) → Grants i (These list) g q → Grants i All g q

-- a privileged group is granted every well-formed pointer
abbrev pub PrivilegedIsGrantedAll : Type 0
PrivilegedIsGrantedAll =
    (i : Image) (e : Entries) (g : ℕ) (q : Pointer) → Privileged i e g → IsWellFormed q → Grants i e g q

-- a group can touch every word that it can write
abbrev pub WritingTouches : Type 0
WritingTouches = (i : Image) (e : Entries) (g w : ℕ) → CanWrite i e g w → CanTouch i e g w
