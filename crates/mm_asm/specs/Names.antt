-- What names stand for in a draft, and the names that it uses and does not define.
use Rattle.std.specs.Prelude.{◌≡◌, ℕ, ◌+◌, ◌*◌, nat_lt, Bool, not, ◌&&◌, if◌then◌else◌, List, [], ◌∷◌, ◌++◌, length}
use Rattle.std.specs.{Prelude.{Option, Some, None, is_some}, Str.bytes_eq, List.flat_map}
use Rattle.mm_line.specs.declared.statement.{Target.Target, Constant.{Constant, TheVariants.{Integer, Pointer}}}
use Rattle.mm_line.specs.declared.statement.Content.{Content}
use Rattle.mm_object.specs.{Names.is_before, Objects.is_among}
use Rattle.mm_draft.specs.declared.{source.Source.Source, segment.Word.Word, location.Location.Location}
use Rattle.mm_draft.specs.{declared.thread.Register.Register, Drafts.{Segment, Thread, Draft, place_of}}
use Rattle.mm_line.specs.declared.statement.Content.TheVariants as content

-- a target, and the line that it is on
pub record Use : Type 0 where
  pub target : Target
  pub source : Source

abbrev pub constant_uses : Source → Constant → List Use
constant_uses source (Integer n) = []
constant_uses source (Pointer perm target) = record { target = target; source = source } ∷ []

abbrev pub content_uses : Source → Content → List Use
content_uses source (content.Constant c) = constant_uses source c
content_uses source (content.Code c) = []

abbrev pub word_uses : Word → List Use
word_uses w = content_uses w.source w.content

abbrev pub segment_uses : Segment → List Use
segment_uses s = flat_map word_uses s.words

abbrev pub register_uses : Register → List Use
register_uses r = constant_uses r.source r.value

abbrev pub thread_uses : Thread → List Use
thread_uses t = record { target = t.target; source = t.source } ∷ flat_map register_uses t.registers

-- two lists of uses, each in the order of its lines, merged in that order
abbrev pub merge : List Use → List Use → List Use
merge [] ys = ys
merge (x ∷ xs) ys = before x ys (merge xs)
  where
    -- the uses of a list on earlier lines than a use, and then the use and the rest
    before : Use → List Use → (List Use → List Use) → List Use
    before x [] rest = x ∷ rest []
    before x (y ∷ ys) rest = if nat_lt y.source.line x.source.line then y ∷ before x ys rest else x ∷ rest (y ∷ ys)

-- all targets of a draft, in the order of the text
unfoldable pub uses_of : Draft → List Use
uses_of d = merge (flat_map segment_uses d.segments) (flat_map thread_uses d.threads)

-- a use of a name that the draft does not define
abbrev pub is_external : Draft → Use → Bool
is_external d u = not (is_some (place_of d u.target.mark.name))

abbrev pub name_of : Use → List ℕ
name_of u = u.target.mark.name

-- names in the order of their bytes, with one name inserted
abbrev pub insert_name : List ℕ → List (List ℕ) → List (List ℕ)
insert_name name [] = name ∷ []
insert_name name (x ∷ names) =
    if bytes_eq name x then x ∷ names else if is_before name x then name ∷ x ∷ names else x ∷ insert_name name names

-- externals, with the name of a use if the draft does not define it
abbrev pub with_use : Draft → Use → List (List ℕ) → List (List ℕ)
with_use d u names = if is_external d u then insert_name (name_of u) names else names

-- externals, with the names of further uses that the draft does not define
abbrev pub externals_with : Draft → List (List ℕ) → List Use → List (List ℕ)
externals_with d names [] = names
externals_with d names (u ∷ uses) = externals_with d (with_use d u names) uses

-- the externals of a draft: each name once, in the order of their bytes
abbrev pub externals_of : Draft → List (List ℕ)
externals_of d = externals_with d [] (uses_of d)

-- names as they are first seen, with the name of a use if the draft does not define it
abbrev pub seen_with : Draft → Use → List (List ℕ) → List (List ℕ)
seen_with d u seen = if is_external d u && not (is_among (name_of u) seen) then seen ++ name_of u ∷ [] else seen

-- a list has each of these names once, in any order
pub record HasEach (names list : List (List ℕ)) : Type 0 where
  pub among : (name : List ℕ) → is_among name list ≡ is_among name names
  pub len : length list ≡ length names

-- the index of a name in a list
abbrev pub position_of : List ℕ → List (List ℕ) → ℕ
position_of name [] = 0
position_of name (x ∷ names) = if bytes_eq name x then 0 else 1 + position_of name names

-- what a target means: a place in a segment of the draft, or a name that the draft does not define
pub data Meant : Type 0 where
  Here : (segment offset : ℕ) → Meant
  Elsewhere : (name : List ℕ) (addend : ℕ) → Meant

abbrev pub meant_by : Option Location → Target → Meant
meant_by None t = Elsewhere t.mark.name t.addend
meant_by (Some p) t = Here p.segment (8 * p.word + t.addend)

abbrev pub meant : Draft → Target → Meant
meant d t = meant_by (place_of d t.mark.name) t
