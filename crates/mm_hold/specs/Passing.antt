-- Who runs the threads that use kept words.
use Rattle.std.specs.Prelude.{◌≡◌, ℕ, ◌<◌, true, List, length, Contains, Option, Some, None}
use Rattle.mm_model.specs.Image.{Image}
use Rattle.mm_flow.specs.Flow.{Has}
use Rattle.mm_graph.specs.{declared.canonical_ptr.CanonicalPtr.CanonicalPtr, Key.{key_at, pointer_at}}
use Rattle.mm_kernel.specs.{Segments.{Segment, is_door}, Threads.is_kernel}
use Rattle.mm_confine.specs.declared.party.Party.{Party, TheVariants.{Group, KernelSlot}}
use Rattle.mm_hold.specs.declared.marks.Marks.{Marks}

-- the node is that of a door of these bits
pub record DoorAt (kept : List Segment) (keys : List CanonicalPtr) (bits k : ℕ) : Type 0 where
  pub small : k < length keys
  pub same : (key_at keys k).bits ≡ bits
  pub is : is_door kept (pointer_at (key_at keys k)) ≡ true

-- the answer is the node of the door of these bits; if there is none, no key is one of such a door
abbrev pub IsDoorNode : List Segment → List CanonicalPtr → ℕ → Option ℕ → Type 0
IsDoorNode kept keys bits None = (k : ℕ) → DoorAt kept keys bits k → ⊥
IsDoorNode kept keys bits (Some k) = DoorAt kept keys bits k

-- a party runs the threads of an origin with these numbers: a slot of the kernel, or a group that holds the door
pub data Runs (i : Image) (kept : List Segment) (keys : List CanonicalPtr) (m : Marks) (o : ℕ × ℕ) (x : Party) : Type 0 where
  itself : (n : ℕ) → is_kernel i kept n ≡ true → n < 64 → o ≡ (1, n) → x ≡ KernelSlot n → Runs i kept keys m o x
  through : (k g : ℕ) → o.0 ≡ 0 → DoorAt kept keys o.1 k → Has m.groups.items k g → x ≡ Group g
      → Runs i kept keys m o x

-- a party runs threads that use a word
pub record RunsAtWord (i : Image) (kept : List Segment) (keys : List CanonicalPtr) (m : Marks)
    (uses : List (ℕ × (ℕ × ℕ))) (w : ℕ) (x : Party) : Type 0 where
  pub origin : ℕ × ℕ
  pub inside : Contains uses (w, origin)
  pub runs : Runs i kept keys m origin x

-- at one of the words the one party runs threads that store, and the other one threads that load
pub record PassesAtWord (i : Image) (kept : List Segment) (keys : List CanonicalPtr) (m : Marks)
    (stored loaded : List (ℕ × (ℕ × ℕ))) (y x : Party) : Type 0 where
  pub word : ℕ
  pub stores : RunsAtWord i kept keys m stored word y
  pub loads : RunsAtWord i kept keys m loaded word x
