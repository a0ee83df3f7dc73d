-- Summaries of each group's pointers, and when they are exact.
use Rattle.std.specs.Prelude.{◌≡◌, ◌≢◌, ℕ, ◌<◌, ◌⊎◌, ◌↔◌, Bool, IsTrue, Contains, Some}
use Rattle.mm_word.specs.declared.{perm.Perm.TheVariants.{Xp, Eu, Ep, Key}, word.{Word.TheVariants.Ptr, Cell.Cell}}
use Rattle.mm_word.specs.Pointer.{Pointer, IsBelow, enter_result}
use Rattle.mm_model.specs.{Memory.cell_at, Slot.Slot, Image.Image}
use Rattle.mm_model.specs.Reach.{Entries, Grants, MayEnter, Serves, LoadsAt, StoresAt, CanTouch, CanWrite, Privileged}

-- the pointer permits nothing, and nothing made of it does: a key, or a pointer to a segment shorter than a word that
-- is neither execute-privileged nor enter-privileged
abbrev pub IsPowerless : Pointer → Type 0
IsPowerless q = (q.perm ≡ Key) ⊎ ((q.log < 3) × (q.perm ≢ Xp) × (q.perm ≢ Ep))

-- the pointer is below one of the known pointers
pub record SomeAbove (known : Pointer → Type 0) (q : Pointer) : Type 0 where
  pub by : Pointer
  pub knows : known by
  pub below : IsBelow q by

-- by the summary the group is granted the pointer
abbrev pub Holds : (ℕ → Bool) → (ℕ → Pointer → Type 0) → ℕ → Pointer → Type 0
Holds privileged known g q = IsTrue (privileged g) ⊎ (IsPowerless q ⊎ SomeAbove (known g) q)

-- the first group holds all that the summary says of the second
pub record Includes (privileged : ℕ → Bool) (known : ℕ → Pointer → Type 0) (g h : ℕ) : Type 0 where
  pub rights : IsTrue (privileged h) → IsTrue (privileged g)
  pub pointers : (p : Pointer) → known h p → Holds privileged known g p

-- no rule adds to the summary
pub record IsClosed (i : Image) (e : Entries) (privileged : ℕ → Bool) (known : ℕ → Pointer → Type 0) : Type 0 where
  pub held : (s : Slot) (q : Pointer) → Contains i.slots s → Contains s.regs (Ptr q) → Holds privileged known s.group q
  pub runs : (s : Slot) → Contains i.slots s → Holds privileged known s.group s.ip
  pub loaded : (g w : ℕ) (p q : Pointer) (c : Cell) → known g p → LoadsAt p w → cell_at i.memory w ≡ Some c
      → c.word ≡ Ptr q → Holds privileged known g q
  pub shared : (g h w : ℕ) (p r : Pointer) → known h p → StoresAt p w → known g r → LoadsAt r w
      → Includes privileged known g h
  pub by_maker : (g h w : ℕ) (r : Pointer) → IsTrue (privileged h) → known g r → LoadsAt r w → IsTrue (privileged g)
  pub served : (g h : ℕ) → Serves i g h → Includes privileged known g h
  pub enters : (g : ℕ) (p q : Pointer) → known g p → MayEnter e g p → (p.perm ≡ Eu) ⊎ (p.perm ≡ Ep)
      → enter_result p ≡ Some q → Holds privileged known g q
  pub makes : (g : ℕ) (p : Pointer) → known g p → p.perm ≡ Xp → IsTrue (privileged g)

-- all that the summary says is granted
pub record IsSound (i : Image) (e : Entries) (privileged : ℕ → Bool) (known : ℕ → Pointer → Type 0) : Type 0 where
  pub rights : (g : ℕ) → IsTrue (privileged g) → Privileged i e g
  pub pointers : (g : ℕ) (p : Pointer) → known g p → Grants i e g p

-- one of the known pointers loads the word
pub record SomeLoads (known : Pointer → Type 0) (w : ℕ) : Type 0 where
  pub by : Pointer
  pub knows : known by
  pub loads : LoadsAt by w

-- one of the known pointers stores into the word
pub record SomeStores (known : Pointer → Type 0) (w : ℕ) : Type 0 where
  pub by : Pointer
  pub knows : known by
  pub stores : StoresAt by w

-- the summary is exact: what a group is granted, touches and writes is what the summary says
pub record IsExact (i : Image) (e : Entries) (privileged : ℕ → Bool) (known : ℕ → Pointer → Type 0) : Type 0 where
  pub rights : (g : ℕ) → IsTrue (privileged g) ↔ Privileged i e g
  pub known_granted : (g : ℕ) (p : Pointer) → known g p → Grants i e g p
  pub granted_held : (g : ℕ) (q : Pointer) → Grants i e g q → Holds privileged known g q
  pub touches : (g w : ℕ) → CanTouch i e g w → IsTrue (privileged g) ⊎ SomeLoads (known g) w
  pub writes : (g w : ℕ) → CanWrite i e g w → IsTrue (privileged g) ⊎ SomeStores (known g) w
