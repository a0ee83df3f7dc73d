-- Which pointers give a use of a word, and which groups have one of their own.
use Rattle.std.specs.{Prelude.{◌≡◌, ℕ, ◌<◌, Bool, true, ◌&&◌, List, length, Option, Some, None}, Int.bit_at}
use Rattle.mm_word.specs.{declared.perm.Kind.Kind, Perm.allows, Pointer.{Pointer, Covers, holds_word}}
use Rattle.mm_flow.specs.Flow.{Has}
use Rattle.mm_why.specs.{declared.{line.Line.Line, uses.Source.Source}, Derivations.line_at, Searches.place_at}
use Rattle.mm_why.specs.Rounds.{round_at}
use Rattle.mm_model.specs.declared.word_use.WordUse.{WordUse}
use Rattle.mm_word.specs.declared.perm.Kind.TheVariants as kinds
use Rattle.mm_model.specs.declared.word_use.WordUse.TheVariants as uses

-- what a pointer has to permit
abbrev pub asked : WordUse → Kind
asked uses.Touch = kinds.Load
asked uses.Write = kinds.Store

-- whether the pointer permits the use and holds the word
abbrev pub can_use : WordUse → Pointer → ℕ → Bool
can_use how p w = allows p.perm (asked how) && holds_word p w

-- the pointer permits the use and covers the word
abbrev pub CanUse : WordUse → Pointer → ℕ → Type 0
CanUse how p w = (allows p.perm (asked how) ≡ true) × Covers p w

-- no group of the mask has its own come to the other in a round before this one
abbrev pub NoSource : List (List ℕ) → ℕ → ℕ → ℕ → Type 0
NoSource rounds owners to top = (p h : ℕ) → p < top → h < 64 → bit_at owners h ≡ 1 → Has (round_at rounds p) h to → ⊥

-- a group of the mask; this round is the first in which all that one of them has comes to the other group
pub record IsSource (rounds : List (List ℕ)) (owners to : ℕ) (o : Source) : Type 0 where
  pub small : o.group < 64
  pub round : o.round < length rounds
  pub owns : bit_at owners o.group ≡ 1
  pub comes : Has (round_at rounds o.round) o.group to
  pub first : NoSource rounds owners to o.round

-- the line of a node below `top` has a pointer that can be used
pub record IsUsable (lines : List Line) (places : List (Option ℕ)) (how : WordUse) (word top t : ℕ) : Type 0 where
  pub node : ℕ
  pub small : node < top
  pub at : place_at places node ≡ Some t
  pub can : CanUse how (line_at lines t).pointer word

-- the line of the node, if its pointer can be used
pub record UsableAt (lines : List Line) (places : List (Option ℕ)) (how : WordUse) (word k : ℕ)
    (result : Option ℕ) : Type 0 where
  pub some : (t : ℕ) → result ≡ Some t → (place_at places k ≡ Some t) × CanUse how (line_at lines t).pointer word
  pub none : (t : ℕ) → result ≡ None → place_at places k ≡ Some t → CanUse how (line_at lines t).pointer word → ⊥
