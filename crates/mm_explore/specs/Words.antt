-- The words that groups touch and write, each with its group.
use Rattle.std.specs.Prelude.{◌≡◌, ℕ, Bool, ◌==◌, if◌then◌else◌, List, [], ◌∷◌, Contains}
use Rattle.std.specs.{List.{AllByRecursion, flat_map}, Ordering.{nat_cmp, ordering_then}}
use Rattle.std.specs.declared.cmp.Ordering.{Ordering}
use Rattle.mm_word.specs.{declared.perm.Kind.Kind, Access.AccessValue}
use Rattle.mm_model.specs.{declared.step.Step.Step, Image.Image, Trace.{touches, group_in}}
use Rattle.mm_span.specs.Spans.{AreSpans, IsWord}
use Rattle.mm_explore.specs.Findings.{Extension, turn_at}
use Rattle.mm_explore.specs.Results.{GroupFound}

-- the order of groups and words
abbrev pub order : ℕ × ℕ → ℕ × ℕ → Ordering
order a b = ordering_then (nat_cmp a.0 b.0) (nat_cmp a.1 b.1)

-- the word of an access of a group, if its kind passes
abbrev pub passed_words : (Kind → Bool) → ℕ → AccessValue → List (ℕ × ℕ)
passed_words passes group access = if passes access.kind then (group, access.addr) ∷ [] else []

-- the words of the accesses of a step of a group
abbrev pub step_words : (Kind → Bool) → ℕ → Step → List (ℕ × ℕ)
step_words passes group step = flat_map (passed_words passes group) (touches step)

-- the words of turns, by group
abbrev pub turn_words : (Kind → Bool) → Image → Extension → List (ℕ × ℕ)
turn_words passes i x = step_words passes (group_in (turn_at i x)) (turn_at i x).step

-- a group and the address of a word
abbrev pub IsWordKey : ℕ × ℕ → Type 0
IsWordKey key = IsWord key.1

-- the keys are these words, each of them once or more
pub record AreKept (words keys : List (ℕ × ℕ)) : Type 0 where
  pub only : (key : ℕ × ℕ) → Contains keys key → Contains words key
  pub each : (key : ℕ × ℕ) → Contains words key → Contains keys key
  pub aligned : AllByRecursion IsWordKey keys

-- the runs of the words of a group that are among those touched and those written
pub record IsGroupFound (touched wrote : List (ℕ × ℕ)) (group : ℕ) (g : GroupFound) : Type 0 where
  pub number : g.group ≡ group
  pub touches : AreSpans (λ word. Contains touched (group, word)) g.reached.touched
  pub writes : AreSpans (λ word. Contains wrote (group, word)) g.reached.wrote

-- the words of a group
abbrev pub words_in : ℕ → List (ℕ × ℕ) → List ℕ
words_in group [] = []
words_in group (key ∷ keys) = if key.0 == group then key.1 ∷ words_in group keys else words_in group keys
