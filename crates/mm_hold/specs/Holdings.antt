-- What is found of who reaches what, and its value.
use Rattle.std.specs.{Prelude.{◌≡◌, ◌⊎◌, ◌↔◌, ℕ, ◌<◌, true, if◌then◌else◌, List, length, slice_index, Contains, All}, Int.bit_at}
use Rattle.mm_word.specs.Pointer.{Pointer}
use Rattle.mm_model.specs.{Slot.Slot, Image.Image, Spelling.IsImage}
use Rattle.mm_flow.specs.{declared.node.{Node.Node, Right.TheVariants.{Load, Store}}, Edges.right_at, Flow.Has}
use Rattle.mm_graph.specs.{declared.canonical_ptr.CanonicalPtr.CanonicalPtr, Marked.node_pointer}
use Rattle.mm_graph.specs.Key.{IsKey, IsRising, key_at, pointer_at, loads_words, stores_words}
use Rattle.mm_kernel.specs.{Segments.{Segment, is_door}, Derived.Keeps}
use Rattle.mm_audit.specs.{Surveys.SurveyValue, Held.{AreSpansOf, IsTableOf}}
use Rattle.mm_confine.specs.declared.party.Party.TheVariants.{Group}
use Rattle.mm_confine.specs.{Grants.{Granted, Line.Holds}, Reach.Reaches}
use Rattle.mm_hold.specs.declared.marks.Marks.{Marks}
use Rattle.mm_hold.specs.{Marks.{Held, HasSize}, Handlers.served_by_callers, Exactly.{IsSound, IsClosed}}

-- 1. Groups of nodes.

-- the slot is one of a mask, and of the group
pub record HasGroup (s : Slot) (mask g : ℕ) : Type 0 where
  pub small : g < 64
  pub number : s.number < 64
  pub group : s.group ≡ g
  pub marked : bit_at mask s.number ≡ 1

-- one of the slots is one of a mask, and of the group
pub record GroupOf (slots : List Slot) (mask g : ℕ) : Type 0 where
  pub slot : Slot
  pub inside : Contains slots slot
  pub has : HasGroup slot mask g

-- the groups that reach the pointers of the first `top` nodes: their callers hold it, or one of their slots does
pub record AreReached (slots : List Slot) (m : Marks) (top : ℕ) (reached : List ℕ) : Type 0 where
  pub len : length reached ≡ top
  pub each : (k g : ℕ) → k < top
      → Has reached k g ↔ (Held m (Group g) k ⊎ GroupOf slots (slice_index m.slots.items k) g)

-- the mask of a node, if its pointer is a door
abbrev pub door_mask : List Segment → CanonicalPtr → ℕ → ℕ
door_mask kept key mask = if is_door kept (pointer_at key) then mask else 0

-- the masks of the first `top` nodes, where their pointers are doors
pub record AreDoorMarks (kept : List Segment) (keys : List CanonicalPtr) (marks : List ℕ) (top : ℕ) (doors : List ℕ) : Type 0 where
  pub len : length doors ≡ top
  pub each : (k : ℕ) → k < top → slice_index doors k ≡ door_mask kept (key_at keys k) (slice_index marks k)

-- 2. Marks that are exact.

-- the marks of a graph's nodes: they are sound, and no rule adds to them
pub record AreExact (i : Image) (kept : List Segment) (keys : List CanonicalPtr) (nodes : List Node) (m : Marks) : Type 0 where
  pub rising : IsRising keys
  pub all : All IsKey keys
  pub size : HasSize m (length keys)
  pub nodes_len : length nodes ≡ length keys
  pub loads : (k : ℕ) → k < length keys → right_at nodes Load k ≡ loads_words (node_pointer keys k)
  pub stores : (k : ℕ) → k < length keys → right_at nodes Store k ≡ stores_words (node_pointer keys k)
  pub sound : IsSound i kept keys m
  pub closed : IsClosed i kept keys m

-- 3. Holdings.

-- holdings as contracts see them: the pointers of nodes, for each the groups whose callers hold it if it is a door, and
-- a survey of what the groups reach
pub record HoldingsValue : Type 0 where
  pub keys : List CanonicalPtr
  pub doors : List ℕ
  pub survey : SurveyValue

-- the keys ascend, and there are so many
pub record AreKeys (keys : List CanonicalPtr) (many : ℕ) : Type 0 where
  pub rising : IsRising keys
  pub all : All IsKey keys
  pub len : many ≡ length keys

-- the pointer is a door that the group's callers hold
pub record HoldsDoor (i : Image) (kept : List Segment) (g : ℕ) (d : Pointer) : Type 0 where
  pub is : is_door kept d ≡ true
  pub granted : Granted i kept (Holds (Group g) d)

-- the group is marked at the node of a door
pub record DoorOf (keys : List CanonicalPtr) (doors : List ℕ) (g : ℕ) (d : Pointer) : Type 0 where
  pub node : ℕ
  pub small : node < length keys
  pub is : node_pointer keys node ≡ d
  pub marked : Has doors node g

-- the value says what each group of a kernel that keeps its segments reaches
pub record AreHoldings (i : Image) (kept : List Segment) (h : HoldingsValue) : Type 0 where
  pub image : IsImage i
  pub keeps : Keeps i kept
  pub doors : (g : ℕ) (d : Pointer) → DoorOf h.keys h.doors g d ↔ HoldsDoor i kept g d
  pub spans : AreSpansOf (Reaches i kept) h.survey.spans
  pub served : h.survey.served ≡ served_by_callers i kept i.slots
  pub least : IsTableOf (Reaches i kept) h.survey.least
