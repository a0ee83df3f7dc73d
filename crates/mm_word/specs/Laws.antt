-- What holds of every pointer, permission and segment.
use Rattle.std.specs.Prelude.{◌≡◌, ℕ, ◌≤◌, ◌<◌, true, ℤ, Ok, Some}
use Rattle.mm_word.specs.declared.{perm.{Perm.Perm, Kind.Kind}, word.Word.Word}
use Rattle.mm_word.specs.Perm.{can_become, can_load, can_store, can_fetch}
use Rattle.mm_word.specs.Pointer.{Pointer, IsWellFormed, bits_of, InSegment, Covers, lea_result, leab_result}
use Rattle.mm_word.specs.Pointer.{restrict_result, subseg_result, setptr_result, next_result, enter_result, IsBelow}
use Rattle.mm_word.specs.{Word.IsWord, Access.{AccessValue, IsGranted, check_result}}

-- what two restrictions give, one restriction may give
abbrev pub RestrictionIsTransitive : Type 0
RestrictionIsTransitive = (p q r : Perm) → can_become p q ≡ true → can_become q r ≡ true → can_become p r ≡ true

-- each permission that is fetched from also loads
abbrev pub FetchingLoads : Type 0
FetchingLoads = (p : Perm) → can_fetch p ≡ true → can_load p ≡ true

-- each permission that stores also loads
abbrev pub StoringLoads : Type 0
StoringLoads = (p : Perm) → can_store p ≡ true → can_load p ≡ true

-- each pointer is below itself
abbrev pub BelowIsReflexive : Type 0
BelowIsReflexive = (p : Pointer) → IsBelow p p

-- a pointer below one that is below a third is below the third
abbrev pub BelowIsTransitive : Type 0
BelowIsTransitive = (p q r : Pointer) → IsBelow q p → IsBelow r q → IsBelow r p

-- a pointer below a well-formed one is well-formed
abbrev pub BelowIsWellFormed : Type 0
BelowIsWellFormed = (p q : Pointer) → IsWellFormed p → IsBelow q p → IsWellFormed q

-- what LEA, LEAB, RESTRICT, SUBSEG and the step to the next word give is below their pointer
pub record ResultsAreBelow : Type 0 where
  pub lea : (p q : Pointer) (by : ℤ) → lea_result p by ≡ Ok q → IsBelow q p
  pub leab : (p q : Pointer) (by : ℤ) → leab_result p by ≡ Ok q → IsBelow q p
  pub restrict : (p q : Pointer) (code : ℕ) → restrict_result p code ≡ Ok q → IsBelow q p
  pub subseg : (p q : Pointer) (log : ℕ) → subseg_result p log ≡ Ok q → IsBelow q p
  pub next : (p q : Pointer) → next_result p ≡ Some q → IsBelow q p

-- what SETPTR gives is well-formed
abbrev pub SpelledIsWellFormed : Type 0
SpelledIsWellFormed = (bits : ℕ) (p : Pointer) → setptr_result bits ≡ Ok p → IsWellFormed p

-- what a jump through a well-formed pointer gives is well-formed
abbrev pub EnteredIsWellFormed : Type 0
EnteredIsWellFormed = (p q : Pointer) → IsWellFormed p → enter_result p ≡ Some q → IsWellFormed q

-- an access that passes its tests is granted
abbrev pub PassedIsGranted : Type 0
PassedIsGranted =
    (w : Word) (by : ℤ) (kind : Kind) (t : AccessValue) → IsWord w → check_result w by kind ≡ Ok t → IsGranted t

-- a segment that is no longer than another lies in it if its pointer's address does
abbrev pub ShorterSegmentsNest : Type 0
ShorterSegmentsNest =
    (p q : Pointer) → q.log ≤ p.log → InSegment p q.addr → (a : ℕ) → InSegment q a → InSegment p a

-- a segment shorter than a word covers no word
abbrev pub ShortSegmentsCoverNothing : Type 0
ShortSegmentsCoverNothing = (p : Pointer) → p.log < 3 → (w : ℕ) → ¬ (Covers p w)

-- two well-formed pointers with the same bits are the same
abbrev pub BitsAreInjective : Type 0
BitsAreInjective = (p q : Pointer) → IsWellFormed p → IsWellFormed q → bits_of p ≡ bits_of q → p ≡ q
