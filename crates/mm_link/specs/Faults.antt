-- The faults of linking, and the first of them.
use Rattle.std.specs.Prelude.{ℕ, ◌+◌, ◌/◌, ◌^◌, ◌==◌, nat_lt, nat_le, Bool, false, not, ◌&&◌, if◌then◌else◌, List, []}
use Rattle.std.specs.Prelude.{◌∷◌, map, length, max, Option, Some, None, find, is_some}
use Rattle.std.specs.{List.{flat_map, filter, list_any, range_with_len}, Option.option_map}
use Rattle.mm_object.specs.{declared.{target.Target.Target, thread.Thread.Thread}, Lookups.name_of_target}
use Rattle.mm_object.specs.Objects.{Object, is_among, targets_of, thread_limit}
use Rattle.mm_model.specs.Image.{frame_limit}
use Rattle.mm_link.specs.declared.fault.LinkFault.{LinkFault}
use Rattle.mm_link.specs.declared.fault.LinkFault.TheVariants.{Twice, Undefined, Offset, SlotTwice, NoThread, Handler}
use Rattle.mm_link.specs.declared.fault.LinkFault.TheVariants.{TooLarge}
use Rattle.mm_link.specs.Placing.{Part, Site, parts_of, sites_of, site_in, site_named, bytes_of}

-- 1. Names.

-- the names of all segments, in the order in which they are given
abbrev pub names_of : List Object → List (List ℕ)
names_of objects = map (λ (p : Part). p.segment.name) (parts_of objects)

-- the first name that is also among the names before it
abbrev pub first_again : (before : List (List ℕ)) → List (List ℕ) → Option (List ℕ)
first_again before [] = None
first_again before (name ∷ names) = if is_among name before then Some name else first_again (name ∷ before) names

-- 1: a segment's name that an earlier one has
abbrev pub twice : List Object → Option LinkFault
twice objects = option_map Twice (first_again [] (names_of objects))

-- no segment has the name
abbrev pub unknown : List Site → List ℕ → Bool
unknown sites name = not (is_some (site_in sites name))

-- the first of these names that no segment has
abbrev pub unknown_among : List Site → List (List ℕ) → Option LinkFault
unknown_among sites names = option_map Undefined (find (unknown sites) names)

-- the first external that no segment has, object by object
abbrev pub unknown_names : List Site → List Object → Option LinkFault
unknown_names sites objects = unknown_among sites (flat_map (λ (o : Object). o.externals) objects)

-- 2: an external that is no segment's name, object by object
abbrev pub undefined : List Object → Option LinkFault
undefined objects = unknown_names (sites_of objects) objects

-- 2. Offsets.

-- a use of an external whose addend is no offset in its segment
abbrev pub is_outside : List Site → Object → Target → Bool
is_outside sites o t =
    nat_le (length o.segments) t.index && nat_le (2 ^ (site_named sites (name_of_target o t)).log) t.addend

-- the names of such uses of an object: those of relocations first, and then those of threads, each with its instruction
-- pointer and its registers
abbrev pub names_outside : List Site → Object → List (List ℕ)
names_outside sites o = map (name_of_target o) (filter (is_outside sites o) (targets_of o.relocs o.threads))

abbrev pub first : {A : Type 0} → List A → Option A
first [] = None
first (x ∷ xs) = Some x

-- the first of such uses, object by object
abbrev pub outsides : List Site → List Object → Option LinkFault
outsides sites objects = option_map Offset (first (flat_map (names_outside sites) objects))

-- 3: the first use of an external whose addend is no offset in its segment, object by object
abbrev pub offset : List Object → Option LinkFault
offset objects = outsides (sites_of objects) objects

-- 3. Threads.

abbrev pub threads_of : List Object → List Thread
threads_of objects = flat_map (λ (o : Object). o.threads) objects

abbrev pub with_slot : ℕ → List Thread → List Thread
with_slot slot threads = filter (λ (t : Thread). t.slot == slot) threads

abbrev pub slot_numbers : List ℕ
slot_numbers = range_with_len 0 thread_limit

-- 4: the least slot that two threads have
abbrev pub slot_twice : List Object → Option LinkFault
slot_twice objects =
    option_map SlotTwice (find (λ slot. nat_lt 1 (length (with_slot slot (threads_of objects)))) slot_numbers)

abbrev pub no_thread_of : List Thread → Option LinkFault
no_thread_of [] = Some NoThread
no_thread_of (t ∷ threads) = None

-- 5: there is no thread
abbrev pub no_thread : List Object → Option LinkFault
no_thread objects = no_thread_of (threads_of objects)

-- a handler that is no thread's slot
abbrev pub is_absent : List Thread → Option ℕ → Bool
is_absent threads None = false
is_absent threads (Some handler) = not (list_any (λ (t : Thread). t.slot == handler) threads)

-- one of these threads has the slot, and a handler that is no thread's slot
abbrev pub is_unhandled_in : List Object → ℕ → List Thread → Bool
is_unhandled_in objects slot threads =
    list_any (λ (t : Thread). is_absent (threads_of objects) t.handler) (with_slot slot threads)

abbrev pub is_unhandled : List Object → ℕ → Bool
is_unhandled objects slot = is_unhandled_in objects slot (threads_of objects)

-- 6: the least slot of a thread whose handler is no thread's slot
abbrev pub handler : List Object → Option LinkFault
handler objects = option_map Handler (find (is_unhandled objects) slot_numbers)

-- 4. Frames.

-- the count of pages, up to that of the last placed byte
abbrev pub page_count : List Object → ℕ
page_count objects = (bytes_of (parts_of objects) + 4095) / 4096

abbrev pub spares_of : List Object → ℕ
spares_of [] = 0
spares_of (o ∷ objects) = o.spare + spares_of objects

-- the count of frames: those of the pages and the spare ones, at least one
abbrev pub frames_of : List Object → ℕ
frames_of objects = max 1 (page_count objects + spares_of objects)

-- 7: more frames than an image of version 1 has
abbrev pub too_large : List Object → Option LinkFault
too_large objects = if nat_lt (frame_limit 1) (frames_of objects) then Some TooLarge else None

-- 5. The first of the faults.

abbrev pub first_of : {A : Type 0} → List (Option A) → Option A
first_of [] = None
first_of (None ∷ rest) = first_of rest
first_of (Some x ∷ rest) = Some x

-- the first of the seven faults, in their order
unfoldable pub link_fault : List Object → Option LinkFault
link_fault objects =
    first_of (twice objects ∷ undefined objects ∷ offset objects ∷ slot_twice objects ∷ no_thread objects
    ∷ handler objects ∷ too_large objects ∷ [])

abbrev pub number_of : LinkFault → ℕ
number_of (Twice name) = 1
number_of (Undefined name) = 2
number_of (Offset name) = 3
number_of (SlotTwice slot) = 4
number_of NoThread = 5
number_of (Handler slot) = 6
number_of TooLarge = 7
