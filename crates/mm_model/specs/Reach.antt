-- What a group is granted, and what it can touch and write by it.
use Rattle.std.specs.Prelude.{◌≡◌, ℕ, ◌%◌, ◌⊎◌, true, List, Contains, Some}
use Rattle.mm_word.specs.declared.{perm.Perm.TheVariants.{Xp, Eu, Ep}, word.{Word.TheVariants.Ptr, Cell.Cell}}
use Rattle.mm_word.specs.{Perm.{can_load, can_store}, Pointer.{Pointer, IsWellFormed, Covers, IsBelow, enter_result}}
use Rattle.mm_model.specs.{Memory.cell_at, Slot.Slot, Image.Image}

-- the entries that may be made: all, or those that a list has, each a group and the enter pointer
-- that it enters
pub data Entries : Type 0 where
  All : Entries
  These : (list : List (ℕ × Pointer)) → Entries

-- the group may enter by this enter pointer
abbrev pub MayEnter : Entries → ℕ → Pointer → Type 0
MayEnter All g e = Unit {0}
MayEnter (These list) g e = Contains list (g, e)

-- a slot of one group has its handler in the other
pub record Serves (i : Image) (g h : ℕ) : Type 0 where
  pub served : Slot
  pub server : Slot
  pub one : Contains i.slots served
  pub other : Contains i.slots server
  pub handled : served.handler ≡ Some server.number
  pub groups : ((served.group ≡ g) × (server.group ≡ h)) ⊎ ((served.group ≡ h) × (server.group ≡ g))

-- the pointer loads and covers the word at an address
pub record LoadsAt (p : Pointer) (w : ℕ) : Type 0 where
  pub word : w % 8 ≡ 0
  pub right : can_load p.perm ≡ true
  pub covers : Covers p w

-- the pointer stores and covers the word at an address
pub record StoresAt (p : Pointer) (w : ℕ) : Type 0 where
  pub word : w % 8 ≡ 0
  pub right : can_store p.perm ≡ true
  pub covers : Covers p w

-- The pointers that a group is granted.
pub data Grants (i : Image) (e : Entries) : ℕ → Pointer → Type 0 where
  -- a slot of the group has the pointer in a register
  in_register : {g : ℕ} {q : Pointer} (s : Slot) → Contains i.slots s → s.group ≡ g → Contains s.regs (Ptr q)
      → Grants i e g q
  -- a slot of the group runs by the pointer
  runs_by : {g : ℕ} {q : Pointer} (s : Slot) → Contains i.slots s → s.group ≡ g → s.ip ≡ q → Grants i e g q
  -- a cell of the image that the group can load holds the pointer
  in_cell : {g : ℕ} {q : Pointer} (p : Pointer) (w : ℕ) (c : Cell) → Grants i e g p → LoadsAt p w
      → cell_at i.memory w ≡ Some c → c.word ≡ Ptr q → Grants i e g q
  -- the pointer is below one of the group's pointers
  below : {g : ℕ} {q : Pointer} (p : Pointer) → Grants i e g p → IsBelow q p → Grants i e g q
  -- a group that is granted the pointer can store where this group can load
  passed : {g : ℕ} {q : Pointer} (h w : ℕ) (p r : Pointer) → Grants i e h q → Grants i e h p → StoresAt p w
      → Grants i e g r → LoadsAt r w → Grants i e g q
  -- the pointer is what an enter pointer of the group, by which it may enter, becomes in the jump
  entered : {g : ℕ} {q : Pointer} (p : Pointer) → Grants i e g p → (p.perm ≡ Eu) ⊎ (p.perm ≡ Ep) → MayEnter e g p
      → enter_result p ≡ Some q → Grants i e g q
  -- a group that serves this one, or that this one serves, is granted the pointer
  served : {g : ℕ} {q : Pointer} (h : ℕ) → Grants i e h q → Serves i g h → Grants i e g q
  -- privileged code makes any pointer
  made : {g : ℕ} {q : Pointer} (p : Pointer) → Grants i e g p → p.perm ≡ Xp → IsWellFormed q → Grants i e g q

-- a granted pointer that loads covers the word
pub record CanTouch (i : Image) (e : Entries) (g w : ℕ) : Type 0 where
  pub by : Pointer
  pub granted : Grants i e g by
  pub loads : LoadsAt by w

-- a granted pointer that stores covers the word
pub record CanWrite (i : Image) (e : Entries) (g w : ℕ) : Type 0 where
  pub by : Pointer
  pub granted : Grants i e g by
  pub stores : StoresAt by w

-- the group is granted a pointer of privileged code
pub record Privileged (i : Image) (e : Entries) (g : ℕ) : Type 0 where
  pub by : Pointer
  pub granted : Grants i e g by
  pub perm : by.perm ≡ Xp
