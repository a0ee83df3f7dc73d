-- Drafts whose parts fit into an object.
use Rattle.std.specs.{Prelude.{◌≡◌, ℕ, ◌+◌, ◌^◌, ◌<◌, true, List, [], ◌∷◌, length, None}, List.AllByRecursion}
use Rattle.mm_line.specs.declared.statement.{Constant.{Constant, TheVariants.{Integer, Pointer}}, Content.Content}
use Rattle.mm_isa.specs.Table.{FitInWord}
use Rattle.mm_draft.specs.declared.{segment.Word.Word, thread.Register.Register}
use Rattle.mm_draft.specs.Drafts.{Segment, Thread, Draft, place_of}
use Rattle.mm_object.specs.{Objects.is_among, Names.is_name}
use Rattle.mm_asm.specs.{Meaning.{with_goal, target_of}, Names.externals_of}
use Rattle.mm_line.specs.declared.statement.Target as text
use Rattle.mm_line.specs.declared.statement.Content.TheVariants as content

-- the fields of a word, with the distance of its label, fit into the word
abbrev pub FitsContent : Draft → ℕ → Content → Type 0
FitsContent d k (content.Constant c) = Unit {0}
FitsContent d k (content.Code code) = FitInWord (with_goal d k code.goal code.fields)

-- the contents of words from word k on fit into their words
abbrev pub FitsWords : Draft → ℕ → List Word → Type 0
FitsWords d k [] = Unit {0}
FitsWords d k (w ∷ words) = FitsContent d k w.content × FitsWords d (k + 1) words

-- a segment whose name and words an object may have
pub record FitsSegment (d : Draft) (s : Segment) : Type 0 where
  pub name : is_name s.name ≡ true
  pub words : FitsWords d 0 s.words

-- the object's target for a target of a draft has an index of 16 and an addend of 32 bits, and a name that the draft
-- does not define is among its externals
pub record FitsTarget (d : Draft) (t : text.Target) : Type 0 where
  pub index : (target_of d t).index < 2 ^ 16
  pub addend : (target_of d t).addend < 2 ^ 32
  pub known : place_of d t.mark.name ≡ None → is_among t.mark.name (externals_of d) ≡ true

abbrev pub FitsConstant : Draft → Constant → Type 0
FitsConstant d (Integer n) = Unit {0}
FitsConstant d (Pointer perm t) = FitsTarget d t

abbrev pub FitsPointer : Draft → Content → Type 0
FitsPointer d (content.Constant c) = FitsConstant d c
FitsPointer d (content.Code c) = Unit {0}

-- the targets of all words, of which there are fewer than 2^32, fit into an object
abbrev pub FitsPointers : Draft → List Word → Type 0
FitsPointers d words = (length words < 2 ^ 32) × AllByRecursion (λ (w : Word). FitsPointer d w.content) words

abbrev pub FitsRegisters : Draft → List Register → Type 0
FitsRegisters d registers = AllByRecursion (λ (r : Register). FitsConstant d r.value) registers

abbrev pub FitsThread : Draft → Thread → Type 0
FitsThread d t = FitsTarget d t.target × FitsRegisters d t.registers
