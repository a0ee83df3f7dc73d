-- Each pointer that a party holds is one that callers may share, if the kernel keeps its segments.
use Rattle.std.proofs.Common.{◌≡◌, ℕ, ◌<◌, ◌⊎◌, inl, inr, Bool, true, false, ◌&&◌, if◌then◌else◌, List, [], ◌∷◌}
use Rattle.std.proofs.Common.{refl, sym, ap, ◌∙◌, subst}
use Rattle.std.specs.{List.{AllByRecursion, flat_map, range_with_len}}
use Rattle.mm_word.specs.declared.perm.Perm.{Perm, TheVariants.{Ro, Rw, Xu, Xp, Eu, Ep, Key}}
use Rattle.mm_word.specs.{declared.word.Word.{TheVariants.Ptr}, Perm.can_become}
use Rattle.mm_word.specs.Pointer.{Pointer, IsBelow}
use Rattle.mm_model.{specs.{Image.Image, Spelling.IsImage}, proofs.CoreRows.each_contained}
use Rattle.mm_kernel.specs.Segments.{Segment, is_door, is_enter, is_open, is_open_as, is_open_pointer, meets, runs_privileged}
use Rattle.mm_kernel.specs.declared.{form.Form.{Form, TheVariants.{Pointer as Exactly}}, thread.{Origin.Origin, Thread.Thread}}
use Rattle.mm_kernel.specs.declared.fact.Leak.TheVariants.{Jump}
use Rattle.mm_kernel.specs.Facts.{let_out, hand_out, loose, Fact.HasDoor}
use Rattle.mm_kernel.specs.{Threads.{form_in, is_free}, Derived.{Derived, Keeps, outcome_facts, register_left}, Variants.IsShared}
use Rattle.mm_kernel.proofs.Segs.{below_within, outside_within}
use Rattle.mm_kernel.proofs.Values.{Public, shared_outside, open_outside, open_is_user, moves_loads}
use Rattle.mm_kernel.proofs.Ups.{Free, free_form, Bound, up_cases, each_from, each_split, each_unflat, each_register, handed_out}
use Rattle.mm_kernel.proofs.{Places.{entered, entered_outside, entered_perm}, Start.cell_shared}
use Rattle.mm_kernel.proofs.Runs.{caller_any}
use Rattle.mm_confine.specs.Conduct.{GoesOn, GoesOn.{comes_free, leaves}, LetsOut, LetsOut.{by_going, by_hand}}
use Rattle.mm_confine.specs.{declared.party.Party.Party, Grants.{Granted, Line, Line.{Holds, Runs}}}
use Rattle.mm_confine.proofs.Taken.{taken_derived}
use Rattle.mm_kernel.specs.Derived.Derived.{turns}
use Rattle.mm_confine.specs.Grants.Granted.{runs_itself, runs_through, in_register, runs_by, in_cell, below, passed}
use Rattle.mm_confine.specs.Grants.Granted.{entered as by_entry, served, has_exactly, lets_out, kept_for, seen, given}
use Rattle.mm_confine.specs.Grants.Granted.{freed}
use Rattle.mm_kernel.specs.declared.outcome.Outcome.TheVariants as outcome

-- 1. A pointer below one that is shared is shared.

become_user : (p q : Perm) → runs_privileged p ≡ false → can_become p q ≡ true → runs_privileged q ≡ false
become_user Xp q u e = cc
become_user Ep q u e = cc
become_user p Ro u e = refl
become_user p Rw u e = refl
become_user p Xu u e = refl
become_user p Eu u e = refl
become_user p Key u e = refl
become_user Ro Xp u e = cc
become_user Ro Ep u e = cc
become_user Rw Xp u e = cc
become_user Rw Ep u e = cc
become_user Xu Xp u e = cc
become_user Xu Ep u e = cc
become_user Eu Xp u e = cc
become_user Eu Ep u e = cc
become_user Key Xp u e = cc
become_user Key Ep u e = cc

narrowed_user : (p q : Pointer) → runs_privileged p.perm ≡ false → (q.perm ≡ p.perm) ⊎ (can_become p.perm q.perm ≡ true)
    → runs_privileged q.perm ≡ false
narrowed_user p q u (inl e) = ap runs_privileged e ∙ u
narrowed_user p q u (inr e) = become_user p.perm q.perm u e

pub shared_below : (i : Image) (kept : List Segment) (p q : Pointer) → IsBelow q p → IsShared i kept (Ptr p) → IsShared i kept (Ptr q)
shared_below i kept p q (inl e) s = subst (λ (x : Pointer). IsShared i kept (Ptr x)) (sym e) s
shared_below i kept p q (inr n) s =
    let out : meets kept p ≡ false = open_outside kept p s.open_word (moves_loads p.perm n.movable) in
    shared_outside i kept q (outside_within kept q p (below_within q p (inr n)) out) (narrowed_user p q (open_is_user kept p s.open_word) n.rights)

module _ (i : Image) (kept : List Segment) (img : IsImage i) (ks : Keeps i kept) where
  -- 2. Doors that are let out are derived.

  door_derived : (d : Pointer) → is_door kept d ≡ true → AllByRecursion (Derived i kept) (let_out kept (Exactly d)) → Derived i kept (HasDoor d)
  unfolding let_out
  door_derived d e h = by (is_door kept d) e h
    where
      by : (b : Bool) → b ≡ true → AllByRecursion (Derived i kept) (if b then HasDoor d ∷ [] else []) → Derived i kept (HasDoor d)
      by true e k = k.0
      by false e k = cc

  -- a form of a thread that goes on as a caller was handed out
  going_public : (from : Origin) (t : Thread) (r : ℕ) → GoesOn i kept from t → r < 16 → Public i kept (form_in t r)
  going_public from t r (comes_free up same free) lt = by (up_cases i kept t (taken_derived i kept up)) free
    where
      by : Free i kept t ⊎ Bound i kept t → is_free kept t ≡ true → Public i kept (form_in t r)
      by (inl h) e = free_form i kept t h r
      by (inr b) e = let no = b.not_free in absurd (cc)
  going_public from t r (leaves c) lt =
      let facts = each_from (Derived i kept) (outcome_facts i kept c.thread (outcome.Leaves t)) (λ fact k. turns c.thread (outcome.Leaves t) c.derived c.comes k) in
      let parts = each_split (Derived i kept) (flat_map (register_left kept t) (range_with_len 0 16)) (loose i kept t.origin) facts in
      let regs = each_unflat (Derived i kept) (register_left kept t) (range_with_len 0 16) parts.0 in
      handed_out i kept ks (form_in t r) (Jump t.ip.addr r (form_in t r)) (each_register (λ (x : ℕ). AllByRecursion (Derived i kept) (register_left kept t x)) regs r lt)

  pub door_out : (from : Origin) (d : Pointer) → is_door kept d ≡ true → LetsOut i kept from d → Derived i kept (HasDoor d)
  door_out from d is (by_going t r going lt e) =
      door_derived d is (subst (λ (f : Form). AllByRecursion (Derived i kept) (let_out kept f)) e (going_public from t r going lt).out)
  door_out from d is (by_hand leak c) =
      let facts = each_from (Derived i kept) (hand_out kept (Exactly d) leak) (λ fact k. turns c.thread (outcome.HandsOut (Exactly d) leak) c.derived c.comes k) in
      door_derived d is (handed_out i kept ks (Exactly d) leak facts).out

  -- 3. What parties hold.

  abbrev LineOk : Line → Type 0
  LineOk (Holds x q) = IsShared i kept (Ptr q)
  LineOk (Runs x from) = Unit {0}

  door_open : (d : Pointer) → is_door kept d ≡ true → is_open kept (Ptr d) ≡ true
  unfolding is_door is_open
  door_open d e = by d.perm refl e
    where
      by : (perm : Perm) → d.perm ≡ perm → (is_enter perm && meets kept d) ≡ true → is_open_as perm (meets kept d) ≡ true
      by Eu at k = refl
      by Ro at k = cc
      by Rw at k = cc
      by Xu at k = cc
      by Xp at k = cc
      by Ep at k = cc
      by Key at k = cc

  open_plain : (q : Pointer) → is_open_pointer kept q ≡ true → is_open kept (Ptr q) ≡ true
  unfolding is_open
  open_plain q e = e

  lines_ok : {line : Line} → Granted i kept line → LineOk line
  lines_ok (runs_itself n e) = tt
  lines_ok (runs_through g d h e) = tt
  lines_ok (in_register s q among caller k) = each_contained (IsShared i kept) s.regs (Ptr q) (caller_any i kept img ks s among caller).registers k
  lines_ok (runs_by s among caller) =
      let any = caller_any i kept img ks s among caller in
      shared_outside i kept s.ip any.outside (ap runs_privileged any.executable)
  lines_ok (in_cell x p q w c h load out at is) = subst (IsShared i kept) is (cell_shared i kept ks w c at out)
  lines_ok (below x p q h b) = shared_below i kept p q b (lines_ok h)
  lines_ok (passed y x q p r w h on hp st hr ld) = lines_ok h
  lines_ok (by_entry x p q h eu none e) =
      let s : IsShared i kept (Ptr p) = lines_ok h in
      let to = entered p q (open_is_user kept p s.open_word) e in
      shared_outside i kept q (entered_outside kept p q s.open_word none to) (ap runs_privileged (entered_perm p q to))
  lines_ok (served h g q held by) = lines_ok held
  lines_ok (has_exactly x from q t runs up same has plain) =
      record { open_word = open_plain q plain.0; door = λ e. let no = plain.1 in absurd (cc) }
  lines_ok (lets_out x from d runs is out) = record { open_word = door_open d is; door = λ e. door_out from d is out }
  lines_ok (kept_for y x from to q held runs pass to_runs) = lines_ok held
  lines_ok (seen n y q held serves sees) = lines_ok held
  lines_ok (given n x q held serves gives) = lines_ok held
  lines_ok (freed s q t among held going) = lines_ok held

-- each pointer that a party holds is one that callers may share
pub granted_is_open : (i : Image) (kept : List Segment) (x : Party) (q : Pointer) → IsImage i → Keeps i kept → Granted i kept (Holds x q) → IsShared i kept (Ptr q)
granted_is_open i kept x q img ks h = lines_ok i kept img ks h
