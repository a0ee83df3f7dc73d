-- What an object is: segments of words, names that it uses and does not define, words that become pointers when it is
-- placed, and threads.
use Rattle.std.specs.Prelude.{◌≡◌, ℕ, ◌+◌, ◌*◌, ◌-◌, ◌^◌, ◌<◌, ◌≤◌, Bool, true, false, not, ◌&&◌, ◌==◌, nat_lt, List}
use Rattle.std.specs.{Prelude.{[], ◌∷◌, ◌++◌, map, length, slice_get, Option, Some, None}, Str.bytes_eq}
use Rattle.std.specs.List.{flat_map, list_any, list_all, AllByRecursion, Sorted.IsStrictlyIncreasing}
use Rattle.mm_word.specs.Perm.{can_fetch}
use Rattle.mm_object.specs.declared.{item.Item.Item, target.{Target.Target, Reloc.Reloc}}
use Rattle.mm_object.specs.declared.thread.{Value.{Value, TheVariants.{Int, Ptr}}, Thread.Thread}
use Rattle.mm_object.specs.Names.{is_name, is_before}
use Rattle.mm_model.specs.Limits.{segment_limit, word_limit, reloc_limit}

pub record Segment : Type 0 where
  pub name : List ℕ
  -- the logarithm of the segment's length in bytes
  pub log : ℕ
  pub items : List Item

pub record Object : Type 0 where
  pub segments : List Segment
  -- the names that the object uses and does not define
  pub externals : List (List ℕ)
  pub relocs : List Reloc
  pub threads : List Thread
  -- the count of frames that a machine is to have in addition to those of its pages
  pub spare : ℕ

-- 1. Limits.

abbrev pub external_limit : ℕ
external_limit = 1024

abbrev pub thread_limit : ℕ
thread_limit = 16

abbrev pub spare_limit : ℕ
spare_limit = 256

-- 2. Parts.

-- the count of words of segments together
abbrev pub words_of : List Segment → ℕ
words_of [] = 0
words_of (s ∷ segments) = length s.items + words_of segments

abbrev pub names_of : List Segment → List (List ℕ)
names_of segments = map (λ s. s.name) segments

abbrev pub is_among : List ℕ → List (List ℕ) → Bool
is_among name names = list_any (bytes_eq name) names

-- the names are all different
abbrev pub are_apart : List (List ℕ) → Bool
are_apart [] = true
are_apart (name ∷ names) = not (is_among name names) && are_apart names

-- each name is before the next in the order of bytes
abbrev pub ascend : List (List ℕ) → Bool
ascend [] = true
ascend (a ∷ []) = true
ascend (a ∷ b ∷ names) = is_before a b && ascend (b ∷ names)

-- the least and the greatest logarithm of a segment's length
abbrev pub least_log : ℕ
least_log = 3

abbrev pub greatest_log : ℕ
greatest_log = 20

abbrev pub is_within : Option Segment → ℕ → ℕ → ℕ → Bool
is_within (Some s) all index addend = nat_lt addend (2 ^ s.log)
is_within None all index addend = nat_lt index all && nat_lt addend (2 ^ greatest_log)

-- a segment of the object, at an offset within it, or an external, with an addend below 2^20
abbrev pub is_target : List Segment → ℕ → Target → Bool
is_target segments externals t = is_within (slice_get segments t.index) (length segments + externals) t.index t.addend

abbrev pub item_of : Option Segment → ℕ → Option Item
item_of None word = None
item_of (Some s) word = slice_get s.items word

abbrev pub is_zero : Option Item → Bool
is_zero None = false
is_zero (Some item) = item.bits == 0

-- a relocation replaces a word of the object that is 0 by a pointer to a target
abbrev pub is_reloc : List Segment → ℕ → Reloc → Bool
is_reloc segments externals r =
    is_zero (item_of (slice_get segments r.segment) r.word) && is_target segments externals r.target

-- the place of a relocation: its segment, and then its word
abbrev pub place_of : Reloc → ℕ
place_of r = r.segment * 2 ^ 32 + r.word

abbrev pub is_value : List Segment → ℕ → Value → Bool
is_value segments externals (Int n) = true
is_value segments externals (Ptr perm target) = is_target segments externals target

-- a handler is the number of a slot that is not the thread's own
abbrev pub is_handler : ℕ → Option ℕ → Bool
is_handler slot None = true
is_handler slot (Some h) = nat_lt h thread_limit && not (h == slot)

abbrev pub is_thread : List Segment → ℕ → Thread → Bool
is_thread segments externals t =
    nat_lt t.slot thread_limit && nat_lt t.group thread_limit && is_handler t.slot t.handler && can_fetch t.perm
    && is_target segments externals t.target && list_all (is_value segments externals) t.regs

abbrev pub value_targets : Value → List Target
value_targets (Int n) = []
value_targets (Ptr perm target) = target ∷ []

-- the targets of an object's relocations and threads
abbrev pub targets_of : List Reloc → List Thread → List Target
targets_of relocs threads =
    map (λ r. r.target) relocs ++ flat_map (λ t. t.target ∷ flat_map value_targets t.regs) threads

-- 3. The whole.

-- an integer has 64 bits
abbrev pub IsNumber : Value → Type 0
IsNumber (Int n) = n < 2 ^ 64
IsNumber (Ptr perm target) = Unit {0}

pub record IsSegment (s : Segment) : Type 0 where
  pub name : is_name s.name ≡ true
  pub least : least_log ≤ s.log
  pub greatest : s.log ≤ greatest_log
  pub room : length s.items ≤ 2 ^ (s.log - 3)
  pub words : AllByRecursion (λ (item : Item). item.bits < 2 ^ 64) s.items

pub record IsObject (o : Object) : Type 0 where
  pub few_segments : length o.segments ≤ segment_limit
  pub segments : AllByRecursion IsSegment o.segments
  pub names : are_apart (names_of o.segments) ≡ true
  pub few_words : words_of o.segments ≤ word_limit
  pub few_externals : length o.externals ≤ external_limit
  pub externals : list_all is_name o.externals ≡ true
  pub rising : ascend o.externals ≡ true
  pub foreign : list_any (λ name. is_among name (names_of o.segments)) o.externals ≡ false
  -- each external is the target of something
  pub used : (i : ℕ) → i < length o.externals
      → list_any (λ (t : Target). t.index == length o.segments + i) (targets_of o.relocs o.threads) ≡ true
  pub few_relocs : length o.relocs ≤ reloc_limit
  pub relocs : list_all (is_reloc o.segments (length o.externals)) o.relocs ≡ true
  pub in_order : IsStrictlyIncreasing (map place_of o.relocs)
  pub few_threads : length o.threads ≤ thread_limit
  pub threads : list_all (is_thread o.segments (length o.externals)) o.threads ≡ true
  pub whole : AllByRecursion (λ (t : Thread). length t.regs ≡ 16) o.threads
  pub slots : IsStrictlyIncreasing (map (λ (t : Thread). t.slot) o.threads)
  pub integers : AllByRecursion (λ (t : Thread). AllByRecursion IsNumber t.regs) o.threads
  pub few_spare : o.spare ≤ spare_limit
