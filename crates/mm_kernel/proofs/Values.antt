-- Words that a form stands for, with what is known of every word that is ever held.
use Rattle.std.proofs.Common.{◌≡◌, ℕ, ◌⊎◌, inl, inr, Bool, true, false, ◌&&◌, List, [], ◌∷◌, Some, refl, sym, ap, ◌∙◌}
use Rattle.std.proofs.Common.{subst, ◌+◌, if◌then◌else◌}
use Rattle.std.proofs.lemmas.Bool.{and_parts, and_from, and_left, and_right, false_from_ne_true}
use Rattle.std.specs.List.{AllByRecursion}
use Rattle.mm_word.specs.declared.perm.Perm.{Perm, TheVariants.{Ro, Rw, Xu, Xp, Eu, Ep, Key}}
use Rattle.mm_word.specs.declared.perm.Kind.{Kind, TheVariants.{Fetch, Load, LoadSet, Store}}
use Rattle.mm_word.specs.declared.word.{Word.{Word, TheVariants.{Int, Ptr}}, Cell.Cell}
use Rattle.mm_word.specs.Perm.{can_load, can_store, can_move, can_become, allows}
use Rattle.mm_word.specs.{Pointer.{Pointer, Covers, holds_word, IsBelow}, Word.{IsPointerAnd, is_pointer}}
use Rattle.mm_word.proofs.{Below.holds_word-Covers, Checked.Covers-holds_word}
use Rattle.mm_model.specs.{Memory.cell_at, Image.Image}
use Rattle.mm_kernel.specs.Segments.{Segment, is_fixed, meets, may_write, runs_privileged, is_open, is_open_as}
use Rattle.mm_kernel.specs.Segments.{is_enter, is_door}
use Rattle.mm_kernel.specs.declared.form.Form.{Form}
use Rattle.mm_kernel.specs.declared.form.Form.TheVariants.{Number, Pointer as Exactly, Integer, Open, Any, Inside}
use Rattle.mm_kernel.specs.Forms.{Stands, PointsInside, exactly, is_open_form, stored_form}
use Rattle.mm_kernel.specs.{Facts.{let_out, Fact.HasDoor}, Derived.Derived, Variants.{EntersByDoor, IsShared}}
use Rattle.mm_kernel.proofs.{Owns.{IfPointer, each_pointer}, Segs.{Within, within_all, below_within, outside_within}}

-- 1. What holds of every pointer that is held: it is no privileged one, and stores to no fixed word of the image.

pub record Clean (i : Image) (p : Pointer) : Type 0 where
  pub user : runs_privileged p.perm ≡ false
  pub spares : (w : ℕ) (c : Cell) → cell_at i.memory w ≡ Some c → is_fixed i w ≡ true → may_write w p ≡ false

abbrev pub CleanWord : Image → Word → Type 0
CleanWord i (Int bits) = Unit {0}
CleanWord i (Ptr p) = Clean i p

become_user : (p q : Perm) → runs_privileged p ≡ false → can_become p q ≡ true → runs_privileged q ≡ false
become_user Xp q u e = cc
become_user Ep q u e = cc
become_user p Ro u e = refl
become_user p Rw u e = refl
become_user p Xu u e = refl
become_user p Eu u e = refl
become_user p Key u e = refl
become_user Ro Xp u e = cc
become_user Ro Ep u e = cc
become_user Rw Xp u e = cc
become_user Rw Ep u e = cc
become_user Xu Xp u e = cc
become_user Xu Ep u e = cc
become_user Eu Xp u e = cc
become_user Eu Ep u e = cc
become_user Key Xp u e = cc
become_user Key Ep u e = cc

become_store : (p q : Perm) → can_become p q ≡ true → can_store q ≡ false
become_store p Ro e = refl
become_store p Xu e = refl
become_store p Xp e = refl
become_store p Eu e = refl
become_store p Ep e = refl
become_store p Key e = refl
become_store Ro Rw e = cc
become_store Rw Rw e = cc
become_store Xu Rw e = cc
become_store Xp Rw e = cc
become_store Eu Rw e = cc
become_store Ep Rw e = cc
become_store Key Rw e = cc

write_within : (q p : Pointer) (w : ℕ) → Within q p → q.perm ≡ p.perm → may_write w q ≡ true → may_write w p ≡ true
write_within q p w h perm e =
    let parts = and_parts (can_store q.perm) (holds_word q w) e in
    let covers : Covers q w = holds_word-Covers q w parts.1 in
    and_from (can_store p.perm) (holds_word p w) (ap can_store (sym perm) ∙ parts.0) (Covers-holds_word p w (λ k lt. within_all q p h (w + k) (covers k lt)))

pub clean_below : (i : Image) (q p : Pointer) → IsBelow q p → Clean i p → Clean i q
clean_below i q p (inl e) h = subst (Clean i) (sym e) h
clean_below i q p (inr n) h = by n.rights
  where
    within : Within q p
    within = below_within q p (inr n)

    by : (q.perm ≡ p.perm) ⊎ (can_become p.perm q.perm ≡ true) → Clean i q
    by (inl same) = record {
      user = ap runs_privileged same ∙ h.user;
      spares = λ w c at fixed. false_from_ne_true (may_write w q) (λ e. let k = write_within q p w within same e in let s = h.spares w c at fixed in cc);
    }
    by (inr becomes) = record {
      user = become_user p.perm q.perm h.user becomes;
      spares = λ w c at fixed. and_left (can_store q.perm) (holds_word q w) (become_store p.perm q.perm becomes);
    }

-- 2. Words that callers share.

pub open_as : (perm : Perm) → runs_privileged perm ≡ false → is_open_as perm false ≡ true
open_as Ro e = refl
open_as Rw e = refl
open_as Xu e = refl
open_as Xp e = cc
open_as Eu e = refl
open_as Ep e = cc
open_as Key e = refl

pub shared_int : (i : Image) (kept : List Segment) (bits : ℕ) → IsShared i kept (Int bits)
unfolding is_open
shared_int i kept bits = record { open_word = refl; door = tt }

-- a pointer outside of the kept segments is shared
pub shared_outside : (i : Image) (kept : List Segment) (p : Pointer) → meets kept p ≡ false → runs_privileged p.perm ≡ false → IsShared i kept (Ptr p)
unfolding is_open is_door
shared_outside i kept p out user = record {
  open_word = ap (is_open_as p.perm) out ∙ open_as p.perm user;
  door = λ e. let no : (is_enter p.perm && meets kept p) ≡ false = and_right (is_enter p.perm) (meets kept p) out in absurd (cc);
}

pub key_shared : (i : Image) (kept : List Segment) (p : Pointer) → p.perm ≡ Key → IsShared i kept (Ptr p)
unfolding is_open is_door
key_shared i kept p key = record {
  open_word = ap (λ (x : Perm). is_open_as x (meets kept p)) key;
  door = λ e. let no : (is_enter p.perm && meets kept p) ≡ false = ap (λ (x : Perm). is_enter x && meets kept p) key in absurd (cc);
}

outside_by : (perm : Perm) (m : Bool) → is_open_as perm m ≡ true → can_load perm ≡ true → m ≡ false
outside_by Ro false o e = refl
outside_by Rw false o e = refl
outside_by Xu false o e = refl
outside_by Ro true o e = cc
outside_by Rw true o e = cc
outside_by Xu true o e = cc
outside_by Xp m o e = cc
outside_by Eu m o e = cc
outside_by Ep m o e = cc
outside_by Key m o e = cc

open_user : (perm : Perm) (m : Bool) → is_open_as perm m ≡ true → runs_privileged perm ≡ false
open_user Ro m o = refl
open_user Rw m o = refl
open_user Xu m o = refl
open_user Eu m o = refl
open_user Key m o = refl
open_user Xp m o = cc
open_user Ep m o = cc

-- an open pointer that loads, stores or runs is outside of the kept segments
pub open_outside : (kept : List Segment) (p : Pointer) → is_open kept (Ptr p) ≡ true → can_load p.perm ≡ true → meets kept p ≡ false
unfolding is_open
open_outside kept p o e = outside_by p.perm (meets kept p) o e

pub open_is_user : (kept : List Segment) (p : Pointer) → is_open kept (Ptr p) ≡ true → runs_privileged p.perm ≡ false
unfolding is_open
open_is_user kept p o = open_user p.perm (meets kept p) o

pub allows_loads : (perm : Perm) (kind : Kind) → allows perm kind ≡ true → can_load perm ≡ true
allows_loads Ro kind e = refl
allows_loads Rw kind e = refl
allows_loads Xu kind e = refl
allows_loads Xp kind e = refl
allows_loads Eu Fetch e = cc
allows_loads Eu Load e = cc
allows_loads Eu LoadSet e = cc
allows_loads Eu Store e = cc
allows_loads Ep Fetch e = cc
allows_loads Ep Load e = cc
allows_loads Ep LoadSet e = cc
allows_loads Ep Store e = cc
allows_loads Key Fetch e = cc
allows_loads Key Load e = cc
allows_loads Key LoadSet e = cc
allows_loads Key Store e = cc

pub moves_loads : (perm : Perm) → can_move perm ≡ true → can_load perm ≡ true
moves_loads Ro e = refl
moves_loads Rw e = refl
moves_loads Xu e = refl
moves_loads Xp e = refl
moves_loads Eu e = cc
moves_loads Ep e = cc
moves_loads Key e = cc

-- 3. What a form stands for, in a run: of a word that callers can have, it is shared.

abbrev pub Holds : Image → List Segment → Form → Word → Type 0
Holds i kept (Number bits) w = w ≡ Int bits
Holds i kept (Exactly p) w = w ≡ Ptr p
Holds i kept Integer w = is_pointer w ≡ false
Holds i kept (Open perm) w = IsPointerAnd w (λ p. p.perm ≡ perm) × IsShared i kept w
Holds i kept Any w = IsShared i kept w
Holds i kept (Inside outer) w = IsPointerAnd w (PointsInside outer)

-- M says what else holds of a pointer that stands in a word of a form
pub record Fits (i : Image) (kept : List Segment) (M : Form → Pointer → Type 0) (f : Form) (w : Word) : Type 0 where
  pub holds : Holds i kept f w
  pub clean : CleanWord i w
  pub mine : IfPointer w (M f)

pub fits_as : (i : Image) (kept : List Segment) (M N : Form → Pointer → Type 0) (f : Form) (w : Word) → ((p : Pointer) → M f p → N f p) → Fits i kept M f w → Fits i kept N f w
fits_as i kept M N f w g h = record { holds = h.holds; clean = h.clean; mine = each_pointer (M f) (N f) g w h.mine }

pub holds_stands : (i : Image) (kept : List Segment) (f : Form) (w : Word) → Holds i kept f w → Stands kept f w
holds_stands i kept (Number bits) w h = h
holds_stands i kept (Exactly p) w h = h
holds_stands i kept Integer w h = h
holds_stands i kept (Open perm) w h = (h.0, h.1.open_word)
holds_stands i kept Any w h = h.open_word
holds_stands i kept (Inside outer) w h = h

pub holds_exactly : (i : Image) (kept : List Segment) (w : Word) → Holds i kept (exactly w) w
holds_exactly i kept (Int bits) = refl
holds_exactly i kept (Ptr p) = refl

pub fits_exactly : (i : Image) (kept : List Segment) (M : Form → Pointer → Type 0) (w : Word) → CleanWord i w → IfPointer w (M (exactly w)) → Fits i kept M (exactly w) w
fits_exactly i kept M w h mine = record { holds = holds_exactly i kept w; clean = h; mine = mine }

module _ (i : Image) (kept : List Segment) (M : Form → Pointer → Type 0) where
  pub fits_number : (bits : ℕ) → Fits i kept M (Number bits) (Int bits)
  fits_number bits = record { holds = refl; clean = tt; mine = tt }

  pub fits_integer : (bits : ℕ) → Fits i kept M Integer (Int bits)
  fits_integer bits = record { holds = refl; clean = tt; mine = tt }

  pub fits_any_int : (bits : ℕ) → Fits i kept M Any (Int bits)
  fits_any_int bits = record { holds = shared_int i kept bits; clean = tt; mine = tt }

pub fits_stored : (i : Image) (kept : List Segment) (M N : Form → Pointer → Type 0) (f : Form) (w : Word) → IfPointer w (N (stored_form f)) → Fits i kept M f w → Fits i kept N (stored_form f) w
unfolding stored_form
fits_stored i kept M N (Number bits) w n h = record { holds = ap is_pointer h.holds; clean = h.clean; mine = n }
fits_stored i kept M N (Exactly p) w n h = record { holds = h.holds; clean = h.clean; mine = n }
fits_stored i kept M N Integer w n h = record { holds = h.holds; clean = h.clean; mine = n }
fits_stored i kept M N (Open perm) w n h = record { holds = h.holds; clean = h.clean; mine = n }
fits_stored i kept M N Any w n h = record { holds = h.holds; clean = h.clean; mine = n }
fits_stored i kept M N (Inside outer) w n h = record { holds = h.holds; clean = h.clean; mine = n }

-- 4. Forms that are handed out.

pub record Public (i : Image) (kept : List Segment) (f : Form) : Type 0 where
  pub open_form : is_open_form kept f ≡ true
  pub out : AllByRecursion (Derived i kept) (let_out kept f)

door_out : (i : Image) (kept : List Segment) (p : Pointer) → AllByRecursion (Derived i kept) (let_out kept (Exactly p)) → EntersByDoor i kept (Ptr p)
unfolding let_out
door_out i kept p h e = by (is_door kept p) e h
  where
    by : (b : Bool) → b ≡ true → AllByRecursion (Derived i kept) (if b then HasDoor p ∷ [] else []) → Derived i kept (HasDoor p)
    by true e k = k.0
    by false e k = cc

-- a word that such a form stands for is shared
pub public_shared : (i : Image) (kept : List Segment) (f : Form) (w : Word) → Public i kept f → Holds i kept f w → IsShared i kept w
unfolding is_open_form is_open
public_shared i kept (Number bits) w p h = subst (IsShared i kept) (sym h) (shared_int i kept bits)
public_shared i kept (Exactly q) w p h = subst (IsShared i kept) (sym h) (record { open_word = p.open_form; door = door_out i kept q p.out })
public_shared i kept Integer (Int bits) p h = shared_int i kept bits
public_shared i kept Integer (Ptr q) p h = cc
public_shared i kept (Open perm) w p h = h.1
public_shared i kept Any w p h = h
public_shared i kept (Inside outer) w p h = let no = p.open_form in cc

pub public_fits : (i : Image) (kept : List Segment) (M N : Form → Pointer → Type 0) (f : Form) (w : Word) → Public i kept f → IfPointer w (N Any) → Fits i kept M f w → Fits i kept N Any w
public_fits i kept M N f w p n h = record { holds = public_shared i kept f w p h.holds; clean = h.clean; mine = n }

pub public_any : (i : Image) (kept : List Segment) → Public i kept Any
unfolding is_open_form let_out
public_any i kept = record { open_form = refl; out = tt }

pub public_number : (i : Image) (kept : List Segment) (bits : ℕ) → Public i kept (Number bits)
unfolding is_open_form let_out
public_number i kept bits = record { open_form = refl; out = tt }

pub public_integer : (i : Image) (kept : List Segment) → Public i kept Integer
unfolding is_open_form let_out
public_integer i kept = record { open_form = refl; out = tt }

pub public_open : (i : Image) (kept : List Segment) (perm : Perm) → Public i kept (Open perm)
unfolding is_open_form let_out
public_open i kept perm = record { open_form = refl; out = tt }

pub public_outside : (i : Image) (kept : List Segment) (p : Pointer) → meets kept p ≡ false → runs_privileged p.perm ≡ false → Public i kept (Exactly p)
unfolding is_open_form let_out is_door
public_outside i kept p out user = record {
  open_form = ap (is_open_as p.perm) out ∙ open_as p.perm user;
  out = subst (λ b. AllByRecursion (Derived i kept) (if b then HasDoor p ∷ [] else [])) (sym (and_right (is_enter p.perm) (meets kept p) out)) tt;
}

-- 5. A pointer that is moved within another's segment, with its permission.

pub record Moved (q p : Pointer) : Type 0 where
  pub below : IsBelow q p
  pub perm : q.perm ≡ p.perm
  pub movable : can_move p.perm ≡ true

pub moved_within : (q p : Pointer) → Moved q p → Within q p
moved_within q p h = below_within q p h.below

pub shared_moved : (i : Image) (kept : List Segment) (q p : Pointer) → Moved q p → IsShared i kept (Ptr p) → IsShared i kept (Ptr q)
shared_moved i kept q p h s =
    let out : meets kept p ≡ false = open_outside kept p s.open_word (moves_loads p.perm h.movable) in
    shared_outside i kept q (outside_within kept q p (moved_within q p h) out) (ap runs_privileged h.perm ∙ open_is_user kept p s.open_word)
