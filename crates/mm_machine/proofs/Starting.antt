-- The machine of an image begins where the image's run begins.
use Rattle.std.proofs.Common.{◌≡◌, ℕ, ◌≤◌, ◌<◌, ◌⊎◌, inl, inr, Bool, List, [], ◌∷◌, map, replicate, sym, ap, ◌∙◌, subst}
use Rattle.std.{proofs.Common.arith, specs.List.AllByRecursion}
use Rattle.mm_thread.{proofs.Fresh.each_nothing, specs.SlotIndices.row_alone}
use Rattle.mm_model.specs.{Memory.Memory, Slot.Slot, State.{ThreadRow, State, Core}, Image.{Image, slot_limit, start}}
use Rattle.mm_model.{specs.{Spelling.{IsFresh, IsImage}, Fits.{slots_of, IsOfVersion}}, proofs.Starts.start_slots}

each : {A : Type 0} {P Q : A → Type 0} → ((x : A) → P x → Q x) → (xs : List A) → AllByRecursion P xs → AllByRecursion Q xs
each f [] h = tt
each f (x ∷ xs) h = (f x h.0, each f xs h.1)

pub at_most_64 : (version : ℕ) → (version ≡ 1) ⊎ (version ≡ 2) → slot_limit version ≤ 64
at_most_64 version (inl is) = subst (λ v. slot_limit v ≤ 64) (sym is) (omega arith)
at_most_64 version (inr is) = subst (λ v. slot_limit v ≤ 64) (sym is) (omega arith)

below : (n m limit : ℕ) → n < m → m ≤ limit → n < limit
below n m limit lt le = omega arith

pub widened : (limit : ℕ) (slots : List Slot) → limit ≤ 64 → (s : Slot) → IsFresh limit slots s → IsFresh 64 slots s
widened limit slots le s h = record {
  number = below s.number limit 64 h.number le;
  group = below s.group limit 64 h.group le;
  handler = h.handler;
  begins = h.begins;
  executable = h.executable;
  ip = h.ip;
  registers = h.registers;
  words = h.words;
  past = h.past;
  turns = h.turns;
  empty = h.empty;
  pending = h.pending;
}

-- the slots of an image stand in a core of any version
pub fresh_slots : (i : Image) → IsImage i → AllByRecursion (IsFresh 64 i.slots) i.slots
fresh_slots i h = each (widened (slot_limit i.version) i.slots (at_most_64 i.version h.version)) i.slots h.fresh

-- a core of an image's slots has them
pub slots_made : (i : Image) (core : Core) → core.rows ≡ map row_alone i.slots → slots_of core ≡ i.slots
unfolding start
slots_made i core is = ap (λ (rows : List ThreadRow). map (λ (row : ThreadRow). row.slot) rows) is ∙ start_slots i

pub rows_made : (i : Image) (core : Core) (slots : List Slot) → core.rows ≡ map row_alone slots → slots ≡ i.slots → core.rows ≡ map row_alone i.slots
rows_made i core slots rows is = rows ∙ ap (λ (xs : List Slot). map row_alone xs) is

pub versioned_rows : (made versioned : Core) (version : ℕ) → versioned ≡ record made { version = version } → versioned.rows ≡ made.rows
versioned_rows made versioned version is = ap (λ (c : Core). c.rows) is

pub within : (i : Image) (core : Core) (version : ℕ) → IsImage i → core.rows ≡ map row_alone i.slots → version ≡ i.version → AllByRecursion (IsOfVersion version) (slots_of core)
within i core version h rows is =
    subst (λ (v : ℕ). AllByRecursion (IsOfVersion v) (slots_of core)) (sym is)
    (subst (λ (slots : List Slot). AllByRecursion (IsOfVersion i.version) slots) (sym (slots_made i core rows))
    (each (λ s f. record { number = f.number; group = f.group }) i.slots h.fresh))

pub none_pending : (i : Image) (core : Core) → IsImage i → core.rows ≡ map row_alone i.slots → AllByRecursion (λ (s : Slot). s.pending ≡ []) (slots_of core)
none_pending i core h rows =
    subst (λ (slots : List Slot). AllByRecursion (λ (s : Slot). s.pending ≡ []) slots) (sym (slots_made i core rows)) (each (λ s f. f.pending) i.slots h.fresh)

pub no_output : (outputs : List (List ℕ)) → outputs ≡ replicate 64 [] → AllByRecursion (λ (bytes : List ℕ). bytes ≡ []) outputs
no_output outputs is = subst (λ (xs : List (List ℕ)). AllByRecursion (λ (bytes : List ℕ). bytes ≡ []) xs) (sym is) (each_nothing 64)

-- a core of its parts
abbrev core_of : List ThreadRow → List (List ℕ) → ℕ → Bool → Core
core_of rows outputs version split = record { rows = rows; outputs = outputs; version = version; split = split }

abbrev begun : Core → Memory → State
begun core memory = record { core = core; memory = memory; cycles = 0 }

-- what is made of an image's parts is its start
pub start_made : (i : Image) (made versioned core : Core) (version : ℕ) (split : Bool) (memory : Memory)
    → made.rows ≡ map row_alone i.slots → made.outputs ≡ replicate 64 []
    → versioned ≡ record made { version = version } → core ≡ record versioned { split = split }
    → version ≡ i.version → split ≡ i.split → memory ≡ i.memory
    → begun core memory ≡ start i
unfolding start
start_made i made versioned core version split memory rows outputs v s is_version is_split is_memory =
    ap (λ (c : Core). begun c memory) (s ∙ ap (λ (c : Core). record c { split = split }) v)
    ∙ ap (λ (x : List ThreadRow). begun (core_of x made.outputs version split) memory) rows
    ∙ ap (λ (x : List (List ℕ)). begun (core_of (map row_alone i.slots) x version split) memory) outputs
    ∙ ap (λ (x : ℕ). begun (core_of (map row_alone i.slots) (replicate 64 []) x split) memory) is_version
    ∙ ap (λ (x : Bool). begun (core_of (map row_alone i.slots) (replicate 64 []) i.version x) memory) is_split
    ∙ ap (λ (x : Memory). begun (core_of (map row_alone i.slots) (replicate 64 []) i.version i.split) x) is_memory
