-- An object as its parts make it, and what each part has to be.
use Rattle.std.specs.Prelude.{◌≡◌, ℕ, ◌+◌, ◌<◌, ◌≤◌, Bool, true, false, ◌==◌, List, map, length, slice_index_or}
use Rattle.std.specs.List.{list_any, list_all, AllByRecursion, Sorted.IsStrictlyIncreasing}
use Rattle.mm_object.specs.{declared.{target.{Target.Target, Reloc.Reloc}, thread.Thread.Thread}, Names.is_name}
use Rattle.mm_object.specs.Objects.{Segment, Object, IsSegment, IsNumber, external_limit, thread_limit, words_of}
use Rattle.mm_object.specs.Objects.{names_of, is_among, are_apart, ascend, is_reloc, place_of, is_thread, targets_of}
use Rattle.mm_model.specs.Limits.{segment_limit, word_limit, reloc_limit}

-- the object of these parts
abbrev pub object_from : List Segment → List (List ℕ) → List Reloc → List Thread → ℕ → Object
object_from segments externals relocs threads spare =
    record { segments = segments; externals = externals; relocs = relocs; threads = threads; spare = spare }

-- the segments of an object
pub record SegmentsFit (segments : List Segment) : Type 0 where
  pub few : length segments ≤ segment_limit
  pub each : AllByRecursion IsSegment segments
  pub names : are_apart (names_of segments) ≡ true
  pub words : words_of segments ≤ word_limit

-- the names that an object of these segments uses and does not define
pub record ExternalsFit (segments : List Segment) (externals : List (List ℕ)) : Type 0 where
  pub few : length externals ≤ external_limit
  pub names : list_all is_name externals ≡ true
  pub rising : ascend externals ≡ true
  pub foreign : list_any (λ name. is_among name (names_of segments)) externals ≡ false

-- the relocations of an object of these segments and this count of externals
pub record RelocsFit (segments : List Segment) (externals : ℕ) (relocs : List Reloc) : Type 0 where
  pub few : length relocs ≤ reloc_limit
  pub each : list_all (is_reloc segments externals) relocs ≡ true
  pub in_order : IsStrictlyIncreasing (map place_of relocs)

-- the threads of an object of these segments and this count of externals
pub record ThreadsFit (segments : List Segment) (externals : ℕ) (threads : List Thread) : Type 0 where
  pub few : length threads ≤ thread_limit
  pub each : list_all (is_thread segments externals) threads ≡ true
  pub slots : IsStrictlyIncreasing (map (λ (t : Thread). t.slot) threads)

-- what the type of a thread says of its registers
pub record AreWhole (threads : List Thread) : Type 0 where
  pub whole : AllByRecursion (λ (t : Thread). length t.regs ≡ 16) threads
  pub integers : AllByRecursion (λ (t : Thread). AllByRecursion IsNumber t.regs) threads

-- each external is a target; the externals are counted after the segments
abbrev pub AreUsed : ℕ → ℕ → List Target → Type 0
AreUsed segments externals targets =
    (i : ℕ) → i < externals → list_any (λ (t : Target). t.index == segments + i) targets ≡ true

-- a table says of each external whether it is a target
abbrev pub HoldsUses : List Bool → ℕ → List Target → Type 0
HoldsUses used segments targets = (i : ℕ) → i < external_limit
    → slice_index_or used i false ≡ list_any (λ (t : Target). t.index == segments + i) targets

-- the segments of an object, and its externals
pub record NamesFit (segments : List Segment) (externals : List (List ℕ)) : Type 0 where
  pub own : SegmentsFit segments
  pub foreign : ExternalsFit segments externals

-- the relocations and threads of an object, with each external a target of them
pub record PointersFit (segments : List Segment) (externals : ℕ) (relocs : List Reloc)
    (threads : List Thread) : Type 0 where
  pub words : RelocsFit segments externals relocs
  pub starts : ThreadsFit segments externals threads
  pub whole : AreWhole threads
  pub used : AreUsed (length segments) externals (targets_of relocs threads)
