-- The answers of the steps of linking.
use Rattle.std.specs.Prelude.{◌≡◌, ℕ, ◌+◌, ◌<◌, ◌≤◌, ◌^◌, Bool, ◌==◌, List, ◌∷◌, map, length, Option, None, Result, Ok}
use Rattle.std.specs.{Prelude.Err, Str.bytes_eq, List.{filter, flat_map, list_any}, Option.option_map}
use denote.Ref.{Bor}
use Rattle.mm_object.specs.declared.{target.{Target.Target, Reloc.Reloc}, thread.Thread.Thread}
use Rattle.mm_object.specs.{Lookups.name_of_target, Objects.{Object, value_targets}}
use Rattle.mm_model.specs.Slot.{Slot}
use Rattle.mm_link.specs.declared.fault.{LinkFault.{LinkFault, TheVariants.Offset}, LinkError.LinkError}
use Rattle.mm_link.specs.{declared.sites.Placement.Placement, Answers.Fails, Placing.{Part, Site}}
use Rattle.mm_link.specs.Faults.{is_outside, first}

-- 1. Answers.

-- a test found no fault, or it found this fault, unless memory ran out
abbrev pub Passes : {X : Type 0} → Option LinkFault → Result X LinkError → Type 0
Passes fault (Ok x) = fault ≡ None
Passes fault (Err e) = Fails fault e

-- 2. Names.

abbrev pub part_names : List Part → List (List ℕ)
part_names parts = map (λ (p : Part). p.segment.name) parts

-- two segments have one name
abbrev pub same_part : Part → Part → Bool
same_part p q = bytes_eq p.segment.name q.segment.name

-- 3. Sites.

-- the entries of a map from names to places
abbrev pub entries_of : List (Bor (List ℕ) × Placement) → List Site
entries_of es = map (λ e. record { name = e.0.now; log = e.1.log; base = e.1.base }) es

-- the place of a site
abbrev pub place_of : Site → Placement
place_of s = record { log = s.log; base = s.base }

-- a site that a segment may have: no longer than 2^20 bytes, and far below the end of memory
pub record FitsSite (s : Site) : Type 0 where
  pub length_fits : s.log ≤ 20
  pub base_fits : s.base < 2 ^ 40

-- 4. Targets.

-- a target of an object is one of its segments or externals
abbrev pub IsTargetOf : Object → Target → Type 0
IsTargetOf o t = t.index < length o.segments + length o.externals

-- the first of these targets that is no offset in its segment
abbrev pub outside : List Site → Object → List Target → Option LinkFault
outside sites o targets = option_map Offset (first (map (name_of_target o) (filter (is_outside sites o) targets)))

abbrev pub reloc_targets : List Reloc → List Target
reloc_targets relocs = map (λ (r : Reloc). r.target) relocs

-- the targets of a thread
abbrev pub thread_targets : Thread → List Target
thread_targets t = t.target ∷ flat_map value_targets t.regs

-- 5. Threads.

-- a thread has the slot
abbrev pub has_slot : ℕ → List Thread → Bool
has_slot slot threads = list_any (λ (t : Thread). t.slot == slot) threads

-- 6. Slots.

-- the slots of a number
abbrev pub numbered : ℕ → List Slot → List Slot
numbered n slots = filter (λ (s : Slot). s.number == n) slots
