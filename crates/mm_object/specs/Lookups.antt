-- The names of an object's targets, and the relocations of its words.
use Rattle.std.specs.Prelude.{ℕ, ◌^◌, ◌<◌, Bool, ◌&&◌, ◌==◌, List, [], ◌++◌, find, slice_index_or, Option}
use Rattle.std.specs.List.{AllByRecursion}
use Rattle.mm_object.specs.{declared.target.{Target.Target, Reloc.Reloc}, Objects.{Object, names_of}}

-- the names of an object's targets: those of its segments and, after them, its externals
abbrev pub target_names : Object → List (List ℕ)
target_names o = names_of o.segments ++ o.externals

-- the name of a target
unfoldable pub name_of_target : Object → Target → List ℕ
name_of_target o t = slice_index_or (target_names o) t.index []

abbrev pub is_at : (segment word : ℕ) → Reloc → Bool
is_at segment word r = r.segment == segment && r.word == word

-- the relocation of a word of a segment, if it has one
unfoldable pub reloc_at : Object → (segment word : ℕ) → Option Reloc
reloc_at o segment word = find (is_at segment word) o.relocs

-- the number of each relocated word has 32 bits
abbrev pub HaveSmallWords : List Reloc → Type 0
HaveSmallWords relocs = AllByRecursion (λ (r : Reloc). r.word < 2 ^ 32) relocs
