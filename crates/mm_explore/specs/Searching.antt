-- How far a search has come.
use Rattle.std.specs.Prelude.{◌≡◌, ◌⊎◌, ℕ, ◌+◌, ◌^◌, ◌<◌, ◌≤◌, Bool, true, false, List, [], ◌∷◌, ◌++◌, length, take}
use Rattle.std.specs.Prelude.{drop, Contains, Option, Some, None, slice_get, slice_index_or}
use Rattle.std.specs.List.{AllByRecursion, AllZip, flat_map}
use Rattle.mm_config.specs.declared.configs.Looked.{Looked, TheVariants.{Known, New, Full}}
use Rattle.mm_model.specs.{Flags.flags, Image.{Image, start}, Report.groups_of, Run.run, Spelling.IsImage, Trace.group_in}
use Rattle.mm_span.specs.Pairs.{EachPair}
use Rattle.mm_explore.specs.declared.{findings.Findings.Findings, found.Origin.Origin, search.{Made.Made, Search.Search}}
use Rattle.mm_explore.specs.{Closed.{LeadsOn, IsFirstEndless}, Moves.moves, Explored.{leads_to, IsLeast, IsExplored, IsAll}}
use Rattle.mm_explore.specs.Findings.{Extension, extended, extensions, explored_turns, turn_at, IsFinal}
use Rattle.mm_explore.specs.{FoundLists.{HasKept, Looks}, Noting.{Noted, AreNoted}, Schedules.Before}
use Rattle.mm_explore.specs.Outcomes.{End, Selects, AreEndsOf, AreEnds, IsSteady, slots_at}

-- 1. The list that is found.

-- one schedule is another, or comes before it
abbrev pub UpTo : List ℕ → List ℕ → Type 0
UpTo s t = (s ≡ t) ⊎ Before s t

-- a schedule of the list, up to another, leads to the same configuration
pub record Cover (i : Image) (list : List (List ℕ)) (s : List ℕ) : Type 0 where
  pub by : List ℕ
  pub inside : Contains list by
  pub early : UpTo by s
  pub same : leads_to i by ≡ leads_to i s

-- a search that has found a list, gone through some of its turns, and met nothing that had no room
pub record Open (i : Image) (limit : ℕ) (list : List (List ℕ)) (done left : List Extension) : Type 0 where
  pub begins : Contains list []
  pub split : explored_turns i list ≡ done ++ left
  pub in_order : EachPair Before list
  pub least : AllByRecursion (IsLeast i) list
  pub few : length list ≤ limit
  pub covered : (y : Extension) → Contains done y → Cover i list (extended y)
  pub ahead : (v : List ℕ) (y : Extension) → Contains list v → Contains left y → Before v (extended y)

-- what the list of a search is, with the answer whether it is all
pub record IsSearched (i : Image) (limit : ℕ) (list : List (List ℕ)) (All : Type 0) : Type 0 where
  pub explored : IsExplored i limit list
  pub answer : All

-- a search that has met a configuration for which it had no room: its list is known
pub record IsFull (i : Image) (limit : ℕ) (list : List (List ℕ)) (done left : List Extension) : Type 0 where
  pub searched : IsSearched i limit list (IsAll i list → ⊥)
  pub split : explored_turns i list ≡ done ++ left
  pub full : length list ≡ limit

-- a search goes on, whether all had room so far or not
abbrev pub GoesOn : Bool → Image → ℕ → List (List ℕ) → List Extension → List Extension → Type 0
GoesOn true i limit list done left = Open i limit list done left
GoesOn false i limit list done left = IsFull i limit list done left

-- 2. Where moves lead, and which schedules are final.

-- the configuration at an index is that to which an item after a schedule leads
pub record IsChild (i : Image) (list : List (List ℕ)) (t : List ℕ) (m c : ℕ) : Type 0 where
  pub schedule : List ℕ
  pub at : slice_get list c ≡ Some schedule
  pub leads : leads_to i schedule ≡ leads_to i (t ++ m ∷ [])

-- the configurations to which the moves after a schedule lead
abbrev pub AreChildren : Image → List (List ℕ) → List ℕ → List ℕ → Type 0
AreChildren i list t row = AllZip (IsChild i list t) (moves (run (start i) t)) row

-- a row for each schedule
abbrev pub IsGraph : Image → List (List ℕ) → List (List ℕ) → List (List ℕ) → Type 0
IsGraph i list past rows = AllZip (AreChildren i list) past rows

-- of the schedules that were gone through, those that are final were noted, in their order
pub record Ended (i : Image) (list past : List (List ℕ)) (f : Findings) : Type 0 where
  pub finals : List (List ℕ)
  pub are : Selects (IsFinal i) past finals
  pub ends : List End
  pub of : AreEndsOf i finals ends
  pub noted : AreNoted i list ends f

-- 3. What the code has.

-- a search has gone through these turns and these schedules, and has these turns left
pub record HasCome (i : Image) (s : Search) (done left : List Extension) (past : List (List ℕ)) : Type 0 where
  pub image : IsImage i
  pub groups : s.groups.items ≡ groups_of (start i).core
  pub kept : HasKept i s.found s.configs
  pub room : s.limit ≤ 2 ^ 31
  pub goes : GoesOn s.all i s.limit s.found done left
  pub noted : Noted i s.found done s.findings
  pub ended : Ended i s.found past s.findings
  pub graph : s.all ≡ true → IsGraph i s.found past s.graph

-- a search has gone through the schedules before an index
abbrev pub IsBefore : Image → Search → ℕ → Type 0
IsBefore i s at =
    HasCome i s (flat_map (extensions i) (take at s.found)) (flat_map (extensions i) (drop at s.found))
    (take at s.found)

-- the schedule at an index
abbrev pub schedule_at : Search → ℕ → List ℕ
schedule_at s at = slice_index_or s.found at []

-- the turns of the schedules before an index, and the first `k` of those from the schedule at the index
abbrev pub turns_before : Image → List (List ℕ) → ℕ → ℕ → List Extension
turns_before i list at k =
    flat_map (extensions i) (take at list) ++ take k (extensions i (slice_index_or list at []))

-- the turns after these
abbrev pub turns_from : Image → List (List ℕ) → ℕ → ℕ → List Extension
turns_from i list at k =
    drop k (extensions i (slice_index_or list at [])) ++ flat_map (extensions i) (drop (at + 1) list)

-- a search has made the first `k` moves of the configuration at an index
pub record IsWithin (i : Image) (s : Search) (at k : ℕ) : Type 0 where
  pub inside : at < length s.found
  pub moves : s.moves.items ≡ moves (run (start i) (schedule_at s at))
  pub come : HasCome i s (turns_before i s.found at k) (turns_from i s.found at k) (take at s.found)
  pub children : s.all ≡ true → AllZip (IsChild i s.found (schedule_at s at)) (take k s.moves.items) s.children.items

-- whether a move leads back to the configuration from which it is made
abbrev pub StaysBy : Bool → Image → List ℕ → ℕ → Type 0
StaysBy true i t m = leads_to i (t ++ m ∷ []) ≡ leads_to i t
StaysBy false i t m = leads_to i (t ++ m ∷ []) ≡ leads_to i t → ⊥

-- whether each of these moves does
abbrev pub AllStay : Bool → Image → List ℕ → List ℕ → Type 0
AllStay true i t ms = AllByRecursion (λ m. leads_to i (t ++ m ∷ []) ≡ leads_to i t) ms
AllStay false i t ms = IsFinal i t → ⊥

-- 4. One move.

-- a move was made: that of an item after a schedule
pub record IsMade (i : Image) (t : List ℕ) (item : ℕ) (m : Made) : Type 0 where
  pub step : m.step ≡ (turn_at i (record { schedule = t; item = item })).step
  pub group : m.group ≡ group_in (turn_at i (record { schedule = t; item = item }))

-- a search makes the next move of the configuration at an index, which leads back to it or does not
pub record Makes (i : Image) (stays : Bool) (old new : Search) (at k : ℕ) : Type 0 where
  pub within : IsWithin i new at (k + 1)
  pub schedule : schedule_at new at ≡ schedule_at old at
  pub moves : new.moves ≡ old.moves
  pub limit : new.limit ≡ old.limit
  pub back : StaysBy stays i (schedule_at old at) (slice_index_or old.moves.items k 0)

-- a search has noted the configuration at an index, all of whose moves it has made, if it is final
pub record IsNotedIfFinal (i : Image) (old new : Search) (at : ℕ) : Type 0 where
  pub kept : HasKept i old.found new.configs
  pub noted : Noted i old.found (turns_before i old.found at (length old.moves.items)) new.findings
  pub ended : Ended i old.found (take (at + 1) old.found) new.findings

-- the index of what was looked up, if there was room
abbrev pub index_of : Looked → List (List ℕ) → Option ℕ
index_of (Known at) old = Some at
index_of New old = Some (length old)
index_of Full old = None

-- a search looked up the configuration to which an origin leads
pub record Met (i : Image) (o : Origin) (c : Option ℕ) (old new : Search) : Type 0 where
  pub looked : Looked
  pub looks : Looks i old.limit looked o old.found new.found
  pub kept : HasKept i new.found new.configs
  pub child : c ≡ index_of looked old.found
  pub rest : new ≡ record old { configs = new.configs; found = new.found }

-- 5. Endless sets.

-- whether each slot, from an index on, is busy in the closed set of a schedule
abbrev pub IsBusyBy : Bool → Image → List ℕ → ℕ → Type 0
IsBusyBy true i t k = IsSteady i t k → ⊥
IsBusyBy false i t k = IsSteady i t k

abbrev pub AreBusyBy : Image → List ℕ → ℕ → List Bool → Type 0
AreBusyBy i t k [] = Unit {0}
AreBusyBy i t k (b ∷ busy) = IsBusyBy b i t k × AreBusyBy i t (k + 1) busy

-- what was seen of a set in some schedules: that a slot is not the same in one of them, or that it is in all
abbrev pub IsSeenBy : Bool → Image → List (List ℕ) → List ℕ → ℕ → Type 0
IsSeenBy true i seen t k =
    (u : List ℕ) × LeadsOn i t u × (slice_get (slots_at i u) k ≡ slice_get (slots_at i t) k → ⊥)
IsSeenBy false i seen t k =
    (u : List ℕ) → Contains seen u → LeadsOn i t u → slice_get (slots_at i u) k ≡ slice_get (slots_at i t) k

abbrev pub AreSeenBy : Image → List (List ℕ) → List ℕ → ℕ → List Bool → Type 0
AreSeenBy i seen t k [] = Unit {0}
AreSeenBy i seen t k (b ∷ busy) = IsSeenBy b i seen t k × AreSeenBy i seen t (k + 1) busy

-- what is noted of an endless set when some of its schedules were seen
pub record IsSetSeen (i : Image) (list seen : List (List ℕ)) (t : List ℕ) (entry : ℕ × ℕ) : Type 0 where
  pub at : slice_get list entry.0 ≡ Some t
  pub slots : AreSeenBy i seen t 0 (flags (length (slots_at i t)) entry.1)

-- the endless sets whose first schedules were seen
pub record AreSetsSeen (i : Image) (list seen : List (List ℕ)) (entries : List (ℕ × ℕ)) : Type 0 where
  pub firsts : List (List ℕ)
  pub are : Selects (IsFirstEndless i) seen firsts
  pub sets : AllZip (IsSetSeen i list seen) firsts entries

-- what is noted of an endless set: the index of its first schedule, and a mask of the slots that are busy
pub record IsBusySet (i : Image) (list : List (List ℕ)) (t : List ℕ) (entry : ℕ × ℕ) : Type 0 where
  pub at : slice_get list entry.0 ≡ Some t
  pub slots : AreBusyBy i t 0 (flags (length (slots_at i t)) entry.1)

-- the endless sets of a list, by their first schedules
pub record AreBusySets (i : Image) (list : List (List ℕ)) (entries : List (ℕ × ℕ)) : Type 0 where
  pub firsts : List (List ℕ)
  pub are : Selects (IsFirstEndless i) list firsts
  pub sets : AllZip (IsBusySet i list) firsts entries

-- a search has noted all ends
pub record HasEnds (i : Image) (s : Search) : Type 0 where
  pub ends : List End
  pub noted : AreNoted i s.found ends s.findings
  pub are : AreEnds i s.found s.all ends
