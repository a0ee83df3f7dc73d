-- The faults that are found once a whole text was read, and the first fault of a text.
use Rattle.std.specs.Prelude.{◌≡◌, ℕ, ◌+◌, ◌^◌, ◌==◌, nat_le, Bool, true, false, not, ◌&&◌, List, [], ◌∷◌, ◌++◌, map}
use Rattle.std.specs.{Prelude.{length, slice_get, Option, Some, None, Result, Ok, Err}, List.flat_map, Option.option_or}
use Rattle.mm_line.specs.declared.{fault.{Fault.TheVariants.{Label, Range, Limit}, Problem.Problem}, name.Mark.Mark}
use Rattle.mm_line.specs.declared.statement.Content.{Content}
use Rattle.mm_draft.specs.declared.{source.Source.Source, segment.Word.Word, location.Location.Location}
use Rattle.mm_draft.specs.{declared.fault.Failure.Failure, Drafts.{Segment, Draft, place_of}}
use Rattle.mm_draft.specs.{Faults.{fault_if, draft_of}, Laws.{Pair, failure_pair, early_faults, least}}
use Rattle.mm_object.specs.Objects.{Object, is_among, external_limit}
use Rattle.mm_asm.specs.Names.{Use, Meant, Here, Elsewhere, meant, uses_of, is_external, name_of, with_use}
use Rattle.mm_asm.specs.Meaning.{object_of}
use Rattle.mm_line.specs.declared.statement.Content.TheVariants as content

-- 1. Late faults.

abbrev pub is_label_in : Option Location → ℕ → Bool
is_label_in None segment = false
is_label_in (Some p) segment = p.is_label && p.segment == segment

-- a branch to a mark that is no label of its segment
abbrev pub goal_faults : Draft → ℕ → Option Mark → List Problem
goal_faults d segment None = []
goal_faults d segment (Some mark) = fault_if (not (is_label_in (place_of d mark.name) segment)) Label mark.left

abbrev pub content_faults : Draft → ℕ → Content → List Problem
content_faults d segment (content.Code code) = goal_faults d segment code.goal
content_faults d segment (content.Constant c) = []

abbrev pub in_source : Source → List Problem → List Failure
in_source source problems = map (λ problem. record { source = source; problem = problem }) problems

abbrev pub word_failures : Draft → ℕ → Word → List Failure
word_failures d segment w = in_source w.source (content_faults d segment w.content)

-- the failures of branches in the segments from a number on
abbrev pub goal_failures : Draft → ℕ → List Segment → List Failure
goal_failures d segment [] = []
goal_failures d segment (s ∷ segments) =
    flat_map (word_failures d segment) s.words ++ goal_failures d (segment + 1) segments

-- whether a segment ends at or before an offset
abbrev pub is_outside : Option Segment → ℕ → Bool
is_outside None offset = true
is_outside (Some s) offset = nat_le (2 ^ s.log) offset

-- a target outside its segment
abbrev pub meant_faults : Draft → ℕ → Meant → List Problem
meant_faults d left (Here segment offset) = fault_if (is_outside (slice_get d.segments segment) offset) Range left
meant_faults d left (Elsewhere name addend) = []

abbrev pub use_failures : Draft → Use → List Failure
use_failures d u = in_source u.source (meant_faults d u.target.mark.left (meant d u.target))

-- a name that is none of these externals, which are as many as an object may have
abbrev pub is_too_many : List (List ℕ) → List ℕ → Bool
is_too_many names name = nat_le external_limit (length names) && not (is_among name names)

-- one external too many, at the name of its first use, after uses with these externals
abbrev pub limit_failures : Draft → List (List ℕ) → List Use → List Failure
limit_failures d names [] = []
limit_failures d names (u ∷ uses) =
    in_source u.source (fault_if (is_external d u && is_too_many names (name_of u)) Limit u.target.mark.left)
    ++ limit_failures d (with_use d u names) uses

-- all late faults of a draft
unfoldable pub late_failures : Draft → List Failure
late_failures d =
    goal_failures d 0 d.segments ++ flat_map (use_failures d) (uses_of d) ++ limit_failures d [] (uses_of d)

-- 2. The first fault, and what a text means.

abbrev pub late_of : Result Draft Failure → List Pair
late_of (Ok d) = map failure_pair (late_failures d)
late_of (Err failure) = []

-- the late faults of a text; a text with an early fault has none
abbrev pub late_faults : List ℕ → List Pair
late_faults text = late_of (draft_of text)

-- the first fault of a text: the least of the early ones or, if there is none, the least of the late ones
unfoldable pub first_fault : List ℕ → Option Pair
first_fault text = option_or (least (early_faults text)) (least (late_faults text))

-- a text means an object: the text has a draft without late faults, and the object is the draft's
pub record Means (text : List ℕ) (o : Object) : Type 0 where
  pub draft : Draft
  pub early : draft_of text ≡ Ok draft
  pub late : late_failures draft ≡ []
  pub object : o ≡ object_of draft
