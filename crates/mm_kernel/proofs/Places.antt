-- The rows that narrow a permission, use memory, branch and jump.
use Rattle.std.proofs.Common.{◌≡◌, ℕ, ◌+◌, ◌/◌, ◌^◌, ◌⊎◌, inl, inr, Bool, true, false, ◌&&◌, ◌==◌, if◌then◌else◌}
use Rattle.std.proofs.Common.{eqb-true, eq-eqb, ℤ, List, [], ◌∷◌, map, slice_set, Option, Some, None, Result, Ok, Err}
use Rattle.std.proofs.Common.{refl, sym, ap, ◌∙◌, subst, arith, add-zero}
use Rattle.std.proofs.lemmas.Bool.{and_parts, and_from, false_from_ne_true}
use Rattle.std.specs.{Prelude.{Contains, option_map}, List.AllByRecursion}
use Rattle.mm_word.specs.declared.perm.Perm.{Perm, TheVariants.{Ro, Rw, Xu, Xp, Eu, Ep, Key}}
use Rattle.mm_word.specs.declared.{perm.Kind.{Kind, TheVariants.Store}, cause.Cause.Cause}
use Rattle.mm_word.specs.declared.word.{Pre.Pre, Post.Post, Word.{Word, TheVariants.{Int, Ptr}}, Cell.Cell}
use Rattle.mm_word.specs.Access.{AccessValue, IsGranted, check_result}
use Rattle.mm_word.specs.Perm.{can_load, can_store, can_become, allows, code_of, execute_form}
use Rattle.mm_word.specs.Pointer.{Pointer, InSegment, Covers, holds_word, enter_result, restrict_result}
use Rattle.mm_word.specs.Word.{IsWord, IsPointerAnd, word_bits, is_pointer}
use Rattle.mm_word.proofs.{Checked.{pointer_by, kind_by, Covers-holds_word}, Results.check_result-IsGranted}
use Rattle.mm_isa.specs.declared.instr.Instr.{Instr}
use Rattle.mm_model.specs.{Memory.{Memory, cell_at, passes}, Slot.{Slot, is_empty}, State.Core, Image.Image}
use Rattle.mm_model.specs.{Ask.{load_kind, reaching}, Reach.{LoadsAt, StoresAt}}
use Rattle.mm_model.specs.Effect.{Effect, plain, sets_pointer, if_pointer, set_by, loaded, stored, Reply.{Refused, Got}}
use Rattle.mm_model.{specs.Turn.{slot_after, reply, reached, with_issue}, proofs.CoreRows.{each_contained, out_of_map}}
use Rattle.mm_kernel.specs.Segments.{Segment, lies_in, meets, is_kept, is_fixed, may_write, runs_privileged, is_open}
use Rattle.mm_kernel.specs.Segments.{is_enter, is_door}
use Rattle.mm_kernel.specs.declared.form.Form.{Form}
use Rattle.mm_kernel.specs.declared.form.Form.TheVariants.{Number, Pointer as Exactly, Integer, Open, Any, Inside}
use Rattle.mm_kernel.specs.declared.{outcome.Outcome.Outcome, thread.Thread.Thread}
use Rattle.mm_kernel.specs.Forms.{PointsInside, exactly, exact_bits, stored_form}
use Rattle.mm_kernel.specs.Threads.{form_in, with_form, stepped}
use Rattle.mm_kernel.specs.Turns.{outcomes}
use Rattle.mm_kernel.specs.{Operations.{choices, with_permission, permission_of, may_name}, Variants.IsShared, Derived.has_segment}
use Rattle.mm_kernel.proofs.Owns.{Mode, World, IfPointer, each_pointer, party, Only, Mine, Left, KeptFor}
use Rattle.mm_kernel.proofs.Shares.{public_mine, exact_mine, hands_exact, leaves_in, keeps_for, loads_kept}
use Rattle.mm_kernel.proofs.Segs.{Within, within_all, not_kept, meets_same, inside_kept, points_within, word_in_part}
use Rattle.mm_kernel.proofs.Values.{Clean, CleanWord, open_outside, allows_loads, Holds, Fits, fits_as, fits_exactly}
use Rattle.mm_kernel.proofs.{Values.{fits_stored, Public, public_fits}, Ups.{Next, Follows, each_split}}
use Rattle.mm_kernel.proofs.{Slots.{Held, match_issue}, Cores.{HeldIn, WordOk, WordOkAs, CellOk}}
use Rattle.mm_kernel.proofs.Results.{own_of, owes_any, owes_open}
use Rattle.mm_kernel.proofs.Results.{exact_bits_is, Narrowed, restrict_tells, narrowed_fits, any_narrowed}
use Rattle.mm_kernel.proofs.Results.{permission_is, chosen, choice_becomes}
use Rattle.mm_kernel.proofs.Rows.{WholeForm, Machine, Acts, Ready, EffectOk, next_slot, next_match, next_sound, runs_on}
use Rattle.mm_kernel.proofs.Rows.{steps_on, writes_on, sets_ok}
use Rattle.mm_word.specs.declared.cause.Cause.TheVariants as cause
use Rattle.mm_word.specs.declared.word.Pre.TheVariants as pres
use Rattle.mm_word.specs.declared.word.Post.TheVariants as posts
use Rattle.mm_kernel.specs.declared.outcome.Outcome.TheVariants as outcome
use Rattle.mm_kernel.specs.declared.fact.Leak.TheVariants as leak
use Rattle.mm_kernel.specs.Turns as kernel

-- 1. Words of pointers.

restrict_named : (p : Pointer) (to : Perm) → can_become p.perm to ≡ true → restrict_result p (code_of to) ≡ Ok (record p { perm = to })
restrict_named p Ro e = ap (λ b. if b then Ok (record p { perm = Ro }) else Err cause.Perm) e
restrict_named p Rw e = ap (λ b. if b then Ok (record p { perm = Rw }) else Err cause.Perm) e
restrict_named p Xu e = ap (λ b. if b then Ok (record p { perm = Xu }) else Err cause.Perm) e
restrict_named p Xp e = ap (λ b. if b then Ok (record p { perm = Xp }) else Err cause.Perm) e
restrict_named p Eu e = ap (λ b. if b then Ok (record p { perm = Eu }) else Err cause.Perm) e
restrict_named p Ep e = ap (λ b. if b then Ok (record p { perm = Ep }) else Err cause.Perm) e
restrict_named p Key e = ap (λ b. if b then Ok (record p { perm = Key }) else Err cause.Perm) e

-- an access that passed its tests, through a word
pub record Through (w : Word) (kind : Kind) (t : AccessValue) : Type 0 where
  pub is : w ≡ Ptr t.ptr
  pub right : allows t.ptr.perm kind ≡ true
  pub granted : IsGranted t
  pub of_kind : t.kind ≡ kind

pub through : (w : Word) (by : ℤ) (kind : Kind) (t : AccessValue) → IsWord w → check_result w by kind ≡ Ok t → Through w kind t
through w by kind t h e =
    let granted = check_result-IsGranted w by kind t h e in
    let is : t.kind ≡ kind = kind_by w by kind (Ok t) (sym e) in
    record { is = pointer_by w by kind (Ok t) (sym e); right = ap (allows t.ptr.perm) (sym is) ∙ granted.right; granted = granted; of_kind = is }

pub touched_in : (t : AccessValue) → IsGranted t → InSegment t.ptr t.addr
touched_in t h = let first : (t.addr + 0) / 2 ^ t.ptr.log ≡ t.ptr.addr / 2 ^ t.ptr.log = h.inside 0 (omega arith) in rw add-zero at first

-- what enters an executable pointer
pub data Entered (p to : Pointer) : Type 0 where
  runs : p.perm ≡ Xu → to ≡ p → Entered p to
  goes_in : p.perm ≡ Eu → to ≡ record p { perm = Xu } → Entered p to

pub entered : (p to : Pointer) → runs_privileged p.perm ≡ false → enter_result p ≡ Some to → Entered p to
entered p to u e = by p.perm refl e
  where
    by : (perm : Perm) → p.perm ≡ perm → option_map (λ (x : Perm). record p { perm = x }) (execute_form perm) ≡ Some to → Entered p to
    by Ro at k = cc
    by Rw at k = cc
    by Key at k = cc
    by Xp at k = let no : runs_privileged p.perm ≡ true = ap runs_privileged at in absurd (cc)
    by Ep at k = let no : runs_privileged p.perm ≡ true = ap runs_privileged at in absurd (cc)
    by Xu at k = let same : record p { perm = Xu } ≡ to = cc in runs at (sym same ∙ ap (λ (x : Perm). record p { perm = x }) (sym at))
    by Eu at k = let same : record p { perm = Xu } ≡ to = cc in goes_in at (sym same)

pub clean_entered : (i : Image) (p to : Pointer) → Clean i p → Entered p to → Clean i to
clean_entered i p to c (runs at is) = subst (Clean i) (sym is) c
clean_entered i p to c (goes_in at is) = subst (Clean i) (sym is) (record { user = refl; spares = λ w d here fixed. refl })

pub entered_perm : (p to : Pointer) → Entered p to → to.perm ≡ Xu
entered_perm p to (runs at is) = ap (λ (x : Pointer). x.perm) is ∙ at
entered_perm p to (goes_in at is) = ap (λ (x : Pointer). x.perm) is

pub entered_meets : (kept : List Segment) (p to : Pointer) → Entered p to → meets kept to ≡ meets kept p
entered_meets kept p to (runs at is) = ap (meets kept) is
entered_meets kept p to (goes_in at is) = ap (meets kept) is ∙ meets_same kept p (record p { perm = Xu }) refl refl

-- an open pointer that is no door leads outside
pub entered_outside : (kept : List Segment) (p to : Pointer) → is_open kept (Ptr p) ≡ true → is_door kept p ≡ false → Entered p to → meets kept to ≡ false
unfolding is_door
entered_outside kept p to o d (runs at is) = ap (meets kept) is ∙ open_outside kept p o (ap can_load at)
entered_outside kept p to o d (goes_in at is) = entered_meets kept p to (goes_in at is) ∙ (ap (λ (x : Perm). is_enter x && meets kept p) (sym at) ∙ d)

loads_segment : (perm : Perm) → can_load perm ≡ true → runs_privileged perm ≡ false → has_segment perm ≡ true
loads_segment Ro e u = refl
loads_segment Rw e u = refl
loads_segment Xu e u = refl
loads_segment Xp e u = cc
loads_segment Eu e u = refl
loads_segment Ep e u = cc
loads_segment Key e u = cc

unfixed_by : (i : Image) (p : Pointer) (w : ℕ) → Clean i p → can_store p.perm ≡ true → Covers p w → (c : Cell) → cell_at i.memory w ≡ Some c → is_fixed i w ≡ false
unfixed_by i p w h right covers c at =
    false_from_ne_true (is_fixed i w) (λ fixed.
    let no = h.spares w c at fixed in
    let yes : may_write w p ≡ true = and_from (can_store p.perm) (holds_word p w) right (Covers-holds_word p w covers) in
    cc)

kind_stores : (post : Post) (p : Perm) → allows p (load_kind post) ≡ true → (post ≡ posts.Keep) ⊎ (can_store p ≡ true)
kind_stores posts.Keep p e = inl refl
kind_stores posts.Full p e = inr (and_parts (can_load p) (can_store p) e).1
kind_stores posts.Empty p e = inr (and_parts (can_load p) (can_store p) e).1

module _ (i : Image) (kept : List Segment) (wd : World i kept) (md : Mode) (core : Core) (m : Memory) (k : Machine i kept wd core m) (s : Slot) (t : Thread) (a : Acts i kept wd md core s t) where
  abbrev Alls : List Outcome → Type 0
  Alls os = AllByRecursion (Follows i kept wd md t) os

  abbrev Eff : Instr → Effect → Type 0
  Eff x e = EffectOk i kept wd md core m k s t a x e

  -- 2. Restrict.

  narrows : (x : Instr) (rd : ℕ) (f g : Form) (from : Perm) (p : Pointer) (w : Word) → Ready s rd → permission_of f ≡ Some from → Fits i kept (Held i kept wd md t s) f (Ptr p) → Holds i kept g w
      → Alls (kernel.restricted t x rd f g (choices from g)) → Eff x (sets_pointer s rd (restrict_result p (word_bits w)))
  narrows x rd f g from p w hd pf h hg all = by (restrict_result p (word_bits w)) refl
    where
      named : p.perm ≡ from
      named = permission_is i kept f p from pf h.holds

      last : List Outcome
      last = if kernel.may_refuse (exact_bits g) (choices from g) then kernel.fault t x ∷ [] else []

      parts : Alls (map (λ perm. kernel.sets t rd (with_permission f perm)) (choices from g)) × Alls (if kernel.may_refuse (exact_bits g) (choices from g) then kernel.fault t x ∷ [] else [])
      parts = each_split (Follows i kept wd md t) (map (λ perm. kernel.sets t rd (with_permission f perm)) (choices from g))
          (if kernel.may_refuse (exact_bits g) (choices from g) then kernel.fault t x ∷ [] else []) all

      refuses : (c : Cause) → restrict_result p (word_bits w) ≡ Err c → (o : Option ℕ) (cs : List Perm) → exact_bits g ≡ o → choices from g ≡ cs
          → Alls (if kernel.may_refuse o cs then kernel.fault t x ∷ [] else []) → Follows i kept wd md t (kernel.fault t x)
      refuses c e None cs ge ce h = h.0
      refuses c e (Some n) [] ge ce h = h.0
      refuses c e (Some n) (to ∷ more) ge ce h =
          let chosen = choice_becomes i kept from to g (subst (λ (cs : List Perm). Contains cs to) (sym ce) (0, omega arith, refl)) in
          let is : (n == code_of to) ≡ true = ap (λ o. may_name o to) (sym ge) ∙ chosen.1 in
          let code : word_bits w ≡ code_of to = sym (exact_bits_is i kept g w hg n ge) ∙ eqb-true n (code_of to) is in
          let done : restrict_result p (word_bits w) ≡ Ok (record p { perm = to }) = ap (restrict_result p) code ∙ restrict_named p to (ap (λ y. can_become y to) named ∙ chosen.0) in
          cc

      by : (r : Result Pointer Cause) → restrict_result p (word_bits w) ≡ r → Eff x (sets_pointer s rd r)
      by (Ok q) e =
          let tells = restrict_tells i kept p q (word_bits w) e in
          let n : Narrowed i kept q p = tells.0 in
          let among : Contains (choices from g) n.to = chosen i kept from n.to g (ap (λ y. can_become y n.to) (sym named) ∙ n.becomes) (λ b is. exact_bits_is i kept g w hg b is ∙ tells.1) in
          let each = out_of_map (Follows i kept wd md t) (λ perm. kernel.sets t rd (with_permission f perm)) (choices from g) parts.0 in
          let follows : Follows i kept wd md t (kernel.sets t rd (with_permission f n.to)) = each_contained (λ (perm : Perm). Follows i kept wd md t (kernel.sets t rd (with_permission f perm)))
          (choices from g) n.to each among in
          sets_ok i kept wd md core m k s t a x rd (with_permission f n.to) (Ptr q) hd follows
          (subst (λ (y : Pointer). Fits i kept (Held i kept wd md t s) (with_permission f n.to) (Ptr y)) n.is (narrowed_fits i kept wd (party md t.origin s.group) md f p n.to from pf n.becomes h))
      by (Err c) e = refuses c e (exact_bits g) (choices from g) refl refl parts.1

  pub restrict_ok : (x : Instr) (rd : ℕ) (f g : Form) (v w : Word) → Ready s rd → Fits i kept (Held i kept wd md t s) f v → Holds i kept g w → Alls (kernel.restricts t x rd f g)
      → Eff x (if_pointer v (λ p. sets_pointer s rd (restrict_result p (word_bits w))))
  unfolding kernel.restricts
  restrict_ok x rd (Number b) g (Int c) w hd h hg all = all.0
  restrict_ok x rd (Number b) g (Ptr p) w hd h hg all = let no = h.holds in cc
  restrict_ok x rd Integer g (Int c) w hd h hg all = all.0
  restrict_ok x rd Integer g (Ptr p) w hd h hg all = let no = h.holds in cc
  restrict_ok x rd Any g (Int c) w hd h hg all = all.0
  restrict_ok x rd Any g (Ptr p) w hd h hg all = by (restrict_result p (word_bits w)) refl
    where
      by : (r : Result Pointer Cause) → restrict_result p (word_bits w) ≡ r → Eff x (sets_pointer s rd r)
      by (Ok q) e =
          let n : Narrowed i kept q p = (restrict_tells i kept p q (word_bits w) e).0 in
          sets_ok i kept wd md core m k s t a x rd Any (Ptr q) hd all.1.0 (subst (λ (y : Pointer). Fits i kept (Held i kept wd md t s) Any (Ptr y)) n.is (any_narrowed i kept wd (party md t.origin s.group) md p n.to n.becomes h))
      by (Err c) e = all.0
  restrict_ok x rd (Exactly o) g (Int c) w hd h hg all = let no = h.holds in cc
  restrict_ok x rd (Exactly o) g (Ptr p) w hd h hg all = narrows x rd (Exactly o) g o.perm p w hd refl h hg all
  restrict_ok x rd (Open perm) g (Int c) w hd h hg all = absurd h.holds.0
  restrict_ok x rd (Open perm) g (Ptr p) w hd h hg all = narrows x rd (Open perm) g perm p w hd refl h hg all
  restrict_ok x rd (Inside o) g (Int c) w hd h hg all = absurd h.holds
  restrict_ok x rd (Inside o) g (Ptr p) w hd h hg all = narrows x rd (Inside o) g o.perm p w hd refl h hg all

  -- 3. What an access reaches.

  kept_as : (w : ℕ) (v : Word) (b : Bool) → is_kept kept w ≡ b → WordOkAs i kept wd b w v → WordOk i kept wd w v
  kept_as w v b e h = subst (λ c. WordOkAs i kept wd c w v) (sym e) h

  as_kept : (w : ℕ) (v : Word) (b : Bool) → is_kept kept w ≡ b → WordOk i kept wd w v → WordOkAs i kept wd b w v
  as_kept w v b e h = subst (λ c. WordOkAs i kept wd c w v) e h

  shared_unkept : (to : AccessValue) → IsShared i kept (Ptr to.ptr) → can_load to.ptr.perm ≡ true → IsGranted to → is_kept kept to.addr ≡ false
  shared_unkept to sh right granted = not_kept kept to.ptr to.addr (touched_in to granted) (open_outside kept to.ptr sh.open_word right)

  itself : (w : ℕ) → lies_in w (w, 3) ≡ true
  itself w = eq-eqb (w / 2 ^ 3) (w / 2 ^ 3) refl

  loads_at : (w : Word) (kind : Kind) (to : AccessValue) → Through w kind to → LoadsAt to.ptr to.addr
  loads_at w kind to th = record { word = th.granted.aligned; right = allows_loads to.ptr.perm kind th.right; covers = th.granted.inside }

  stores_at : (w : Word) (to : AccessValue) → Through w Store to → StoresAt to.ptr to.addr
  stores_at w to th = record { word = th.granted.aligned; right = th.right; covers = th.granted.inside }

  -- a pointer by which a word that is not kept is used is the slot's
  pub pointer_own : (ra : ℕ) (f : Form) (v : Word) (kind : Kind) (to : AccessValue) → Ready s ra → f ≡ form_in t ra → WholeForm kept f → Fits i kept (Held i kept wd md t s) f v → Through v kind to
      → is_kept kept to.addr ≡ false → wd.Own (party md t.origin s.group) to.ptr
  pointer_own ra f v kind to ha fa whole h th out = own_of i kept wd (party md t.origin s.group) to.ptr no_key (by f fa whole h (subst (λ (y : Word). IfPointer y (Held i kept wd md t s f)) th.is h.mine))
    where
      no_key : to.ptr.perm ≡ Key → ⊥
      no_key e = let no : can_load to.ptr.perm ≡ false = ap can_load e in let yes = allows_loads to.ptr.perm kind th.right in cc

      by : (f : Form) → f ≡ form_in t ra → WholeForm kept f → Fits i kept (Held i kept wd md t s) f v → Held i kept wd md t s f to.ptr → Mine i kept wd (party md t.origin s.group) to.ptr
      by (Number n) fa whole h mine = let a = h.holds in let b = th.is in absurd (cc)
      by Integer fa whole h mine = let a = h.holds in let b : is_pointer v ≡ true = ap is_pointer th.is in absurd (cc)
      by Any fa whole h mine = mine (owes_any md)
      by (Open perm) fa whole h mine =
          let same : to.ptr.perm ≡ perm = subst (λ (y : Word). IsPointerAnd y (λ (p : Pointer). p.perm ≡ perm)) th.is h.holds.0 in
          mine (owes_open md perm (λ e. no_key (same ∙ e)))
      by (Inside p) fa whole h mine =
          let points : PointsInside p to.ptr = subst (λ (y : Word). IsPointerAnd y (PointsInside p)) th.is h.holds in
          let within : Within to.ptr p = points_within p to.ptr points in
          let is : is_kept kept to.addr ≡ true = inside_kept kept p to.addr (within_all to.ptr p within to.addr (touched_in to th.granted)) whole in
          absurd (cc)
      by (Exactly p) fa whole h mine =
          let two : Ptr to.ptr ≡ Ptr p = sym th.is ∙ h.holds in
          let same : to.ptr ≡ p = cc in
          let clean : Clean i p = subst (CleanWord i) h.holds h.clean in
          let loads : can_load p.perm ≡ true = ap (λ (y : Pointer). can_load y.perm) (sym same) ∙ allows_loads to.ptr.perm kind th.right in
          let here : InSegment p to.addr = subst (λ (y : Pointer). InSegment y to.addr) same (touched_in to th.granted) in
          let outside : meets kept p ≡ false = false_from_ne_true (meets kept p)
          (λ e. let is : is_kept kept to.addr ≡ true = inside_kept kept p to.addr here (whole (loads_segment p.perm loads clean.user) e) in cc) in
          subst (Mine i kept wd (party md t.origin s.group)) (sym same)
          (exact_mine i kept wd md t s ra p a.matches a.next ha.small (sym fa) (subst (λ (y : Word). Fits i kept (Held i kept wd md t s) (Exactly p) y) h.holds h) outside)

  -- 4. Loads.

  pub record Loaded (rd : ℕ) (v : Word) : Type 0 where
    pub form : Form
    pub up : Next i kept wd md (with_form (stepped t) rd form)
    pub fits : Fits i kept (Held i kept wd md t s) form v

  any_loaded : (rd : ℕ) (to : AccessValue) (c : Cell) → cell_at m to.addr ≡ Some c → is_kept kept to.addr ≡ false → wd.Own (party md t.origin s.group) to.ptr → LoadsAt to.ptr to.addr
      → Follows i kept wd md t (kernel.sets t rd Any) → Loaded rd c.word
  unfolding kernel.sets
  any_loaded rd to c at out own ld up = record {
    form = Any;
    up = up;
    fits = fits_as i kept (Left i kept wd to.addr) (Held i kept wd md t s) Any c.word (λ q left o. left (party md t.origin s.group) to.ptr own ld) (as_kept to.addr c.word false out (k.cells.cells to.addr c at));
  }

  held_loaded : (rd : ℕ) (w : ℕ) (c : Cell) (part : Segment) → cell_at m w ≡ Some c → is_kept kept w ≡ true → lies_in w part ≡ true → Follows i kept wd md t (outcome.Loads part rd (stepped t))
      → Loaded rd c.word
  held_loaded rd w c part at is inside f =
      let held : HeldIn i kept wd w c.word = as_kept w c.word true is (k.cells.cells w c at) in
      record {
        form = held.form;
        up = f.1 w held.form held.derived inside;
        fits = loads_kept i kept wd md t.origin s.number s.group w held.form c.word part rd (stepped t) a.matches.origin f.0 inside held.fits;
      }

  word_clean : (w : ℕ) (c : Cell) → cell_at m w ≡ Some c → CleanWord i c.word
  word_clean w c at = by (is_kept kept w) refl
    where
      by : (b : Bool) → is_kept kept w ≡ b → CleanWord i c.word
      by true e = (as_kept w c.word true e (k.cells.cells w c at)).fits.clean
      by false e = (as_kept w c.word false e (k.cells.cells w c at)).clean

  exact_loaded : (rd : ℕ) (to : AccessValue) (c d : Cell) → cell_at m to.addr ≡ Some c → cell_at i.memory to.addr ≡ Some d → (is_kept kept to.addr ≡ false → wd.Own (party md t.origin s.group) to.ptr)
      → LoadsAt to.ptr to.addr → Follows i kept wd md t (kernel.word_loaded i kept t rd to.addr d) → Loaded rd c.word
  unfolding kernel.sets
  exact_loaded rd to c d at was own ld f = by (is_kept kept to.addr) (is_fixed i to.addr) refl refl f
    where
      left : (f : Form) → is_kept kept to.addr ≡ false → IfPointer c.word (Held i kept wd md t s f)
      left f is = each_pointer (Left i kept wd to.addr Any) (Held i kept wd md t s f) (λ q l o. l (party md t.origin s.group) to.ptr (own is) ld) c.word
          (as_kept to.addr c.word false is (k.cells.cells to.addr c at)).mine

      by : (b e : Bool) → is_kept kept to.addr ≡ b → is_fixed i to.addr ≡ e
          → Follows i kept wd md t (if b then outcome.Loads (to.addr, 3) rd (stepped t) else if e then kernel.sets t rd (exactly d.word) else kernel.sets t rd Any) → Loaded rd c.word
      by true e is fx g = held_loaded rd to.addr c (to.addr, 3) at is (itself to.addr) g
      by false true is fx g =
          let now = k.cells.fixed to.addr d was fx in
          let same : c ≡ d = cc in
          record {
            form = exactly d.word;
            up = g;
            fits = subst (λ (y : Cell). Fits i kept (Held i kept wd md t s) (exactly y.word) c.word) same
                (fits_exactly i kept (Held i kept wd md t s) c.word (word_clean to.addr c at) (left (exactly c.word) is));
          }
      by false false is fx g = any_loaded rd to c at is (own is) ld g

  set_ok : (post : Post) (f : Form) (v : Word) (to : AccessValue) (c : Cell) → cell_at m to.addr ≡ Some c → Fits i kept (Held i kept wd md t s) f v → Through v (load_kind post) to → CellOk i kept wd m (set_by post to.addr c)
  set_ok posts.Keep f v to c at h th = tt
  set_ok posts.Full f v to c at h th =
      let clean : Clean i to.ptr = subst (CleanWord i) th.is h.clean in
      record {
        old = c;
        stands = at;
        unfixed = unfixed_by i to.ptr to.addr clean
            (and_parts (can_load to.ptr.perm) (can_store to.ptr.perm) th.right).1 th.granted.inside;
        word = k.cells.cells to.addr c at;
      }
  set_ok posts.Empty f v to c at h th =
      let clean : Clean i to.ptr = subst (CleanWord i) th.is h.clean in
      record {
        old = c;
        stands = at;
        unfixed = unfixed_by i to.ptr to.addr clean
            (and_parts (can_load to.ptr.perm) (can_store to.ptr.perm) th.right).1 th.granted.inside;
        word = k.cells.cells to.addr c at;
      }

  got_ok : (x : Instr) (rd : ℕ) (post : Post) (f : Form) (v : Word) (to : AccessValue) (c : Cell) (split : Bool) → Ready s rd → cell_at m to.addr ≡ Some c → Fits i kept (Held i kept wd md t s) f v
      → Through v (load_kind post) to → Loaded rd c.word
      → Eff x (loaded split s rd post (Got to c))
  unfolding plain slot_after is_empty stepped
  got_ok x rd post f v to c false hd at h th l = record
      { own = writes_on i kept wd md core m k s t a rd l.form c.word hd l.up l.fits; cell = set_ok post f v to c at h th; pages = refl; queue = tt; other = tt }
  got_ok x rd post f v to c true hd at h th l = record {
    own = runs_on i kept wd md core m k s t a (with_form (stepped t) rd l.form)
        (with_issue (record (next_slot i kept wd md core m k s t a) { regs = slice_set s.regs rd (Int 0) }) (Some (record { reg = rd; word = c.word }))) refl l.up
        (match_issue i kept wd md (stepped t) (next_slot i kept wd md core m k s t a) rd l.form c.word (next_match i kept wd md core m k s t a) (next_sound i kept wd md core m k s t a) hd.small hd.free l.fits);
    cell = set_ok post f v to c at h th;
    pages = refl;
    queue = tt;
    other = tt;
  }

  -- the list of what a load can come to, by what its pointer is
  loads_both : (b : Bool) (x : Instr) (o : Outcome) → Alls (if b then kernel.fault t x ∷ o ∷ [] else kernel.fault t x ∷ []) → Follows i kept wd md t (kernel.fault t x)
  loads_both true x o g = g.0
  loads_both false x o g = g.0

  loads_second : (b : Bool) (x : Instr) (o : Outcome) → b ≡ true → Alls (if b then kernel.fault t x ∷ o ∷ [] else kernel.fault t x ∷ []) → Follows i kept wd md t o
  loads_second true x o e g = g.1.0
  loads_second false x o e g = cc

  -- a form that is no exact pointer: a fault is among its outcomes
  load_faults : (x : Instr) (rd : ℕ) (f : Form) (imm : ℤ) (pre : Pre) (kind : Kind)
      → ((p : Pointer) → f ≡ Exactly p → Alls (kernel.loaded_by i kept t x rd pre (check_result (Ptr p) imm kind)) → Follows i kept wd md t (kernel.fault t x))
      → Alls (kernel.loads i kept t x rd f imm pre kind) → Follows i kept wd md t (kernel.fault t x)
  unfolding kernel.loads
  load_faults x rd (Number n) imm pre kind ex g = g.0
  load_faults x rd Integer imm pre kind ex g = g.0
  load_faults x rd Any imm pre kind ex g = g.0
  load_faults x rd (Open perm) imm pre kind ex g = loads_both (allows perm kind) x (kernel.sets t rd Any) g
  load_faults x rd (Inside p) imm pre kind ex g = loads_both (allows p.perm kind) x (outcome.Loads (p.addr, p.log) rd (stepped t)) g
  load_faults x rd (Exactly p) imm pre kind ex g = ex p refl g

  waits_fault : (x : Instr) (pre : Pre) (full : Bool) → passes pre full ≡ false → Alls (kernel.waits t x pre) → Follows i kept wd md t (kernel.fault t x)
  waits_fault x pres.Any full e g = cc
  waits_fault x pres.Full full e g = g.0
  waits_fault x pres.Empty full e g = g.0

  -- what is loaded
  load_value : (x : Instr) (rd : ℕ) (f : Form) (v : Word) (imm : ℤ) (pre : Pre) (kind : Kind) (to : AccessValue) (c : Cell) → WholeForm kept f → Fits i kept (Held i kept wd md t s) f v → Through v kind to
      → check_result v imm kind ≡ Ok to → (is_kept kept to.addr ≡ false → wd.Own (party md t.origin s.group) to.ptr)
      → cell_at m to.addr ≡ Some c → Alls (kernel.loads i kept t x rd f imm pre kind) → Loaded rd c.word
  unfolding kernel.loads
  load_value x rd (Number n) v imm pre kind to c whole h th e own at g = let a = h.holds in let b = th.is in absurd (cc)
  load_value x rd Integer v imm pre kind to c whole h th e own at g = let a = h.holds in let b : is_pointer v ≡ true = ap is_pointer th.is in absurd (cc)
  load_value x rd Any v imm pre kind to c whole h th e own at g =
      let out = shared_unkept to (subst (IsShared i kept) th.is h.holds) (allows_loads to.ptr.perm kind th.right) th.granted in
      any_loaded rd to c at out (own out) (loads_at v kind to th) g.1.0
  load_value x rd (Open perm) v imm pre kind to c whole h th e own at g =
      let same : to.ptr.perm ≡ perm = subst (λ (y : Word). IsPointerAnd y (λ (p : Pointer). p.perm ≡ perm)) th.is h.holds.0 in
      let out = shared_unkept to (subst (IsShared i kept) th.is h.holds.1) (allows_loads to.ptr.perm kind th.right) th.granted in
      any_loaded rd to c at out (own out) (loads_at v kind to th)
      (loads_second (allows perm kind) x (kernel.sets t rd Any) (ap (λ (y : Perm). allows y kind) (sym same) ∙ th.right) g)
  load_value x rd (Inside p) v imm pre kind to c whole h th e own at g =
      let points : PointsInside p to.ptr = subst (λ (y : Word). IsPointerAnd y (PointsInside p)) th.is h.holds in
      let within : Within to.ptr p = points_within p to.ptr points in
      let part = word_in_part p to.ptr to.addr within (touched_in to th.granted) in
      let is : is_kept kept to.addr ≡ true = inside_kept kept p to.addr (within_all to.ptr p within to.addr (touched_in to th.granted)) whole in
      held_loaded rd to.addr c (p.addr, p.log) at is part
      (loads_second (allows p.perm kind) x (outcome.Loads (p.addr, p.log) rd (stepped t)) (ap (λ (y : Perm). allows y kind) (sym points.perm) ∙ th.right) g)
  load_value x rd (Exactly p) v imm pre kind to c whole h th e own at g =
      let there = k.cells.there to.addr c at in
      let ok : check_result (Ptr p) imm kind ≡ Ok to = ap (λ (y : Word). check_result y imm kind) (sym h.holds) ∙ e in
      let g2 : Alls (kernel.loaded_at i kept t x rd pre to.addr (cell_at i.memory to.addr)) = subst (λ r. Alls (kernel.loaded_by i kept t x rd pre r)) ok g in
      let g3 : Alls (kernel.loaded_at i kept t x rd pre to.addr (Some there.0)) = subst (λ o. Alls (kernel.loaded_at i kept t x rd pre to.addr o)) there.1 g2 in
      exact_loaded rd to c there.0 at there.1 own (loads_at v kind to th) g3.0

  pub load_ok : (x : Instr) (rd ra : ℕ) (f : Form) (v : Word) (imm : ℤ) (pre : Pre) (post : Post) → Ready s rd → Ready s ra → f ≡ form_in t ra → WholeForm kept f → IsWord v → Fits i kept (Held i kept wd md t s) f v
      → Alls (kernel.loads i kept t x rd f imm pre (load_kind post)) → Eff x (loaded core.split s rd post (reply core m s.number (reaching (check_result v imm (load_kind post)) pre)))
  unfolding reply
  load_ok x rd ra f v imm pre post hd ha fa whole ok h all = by (check_result v imm (load_kind post)) refl
    where
      kind : Kind
      kind = load_kind post

      held : (p : Pointer) → f ≡ Exactly p → v ≡ Ptr p
      held p e = (subst (λ (y : Form). Fits i kept (Held i kept wd md t s) y v) e h).holds

      -- an exact pointer, by the result of its check
      exactly_by : (r : Result AccessValue Cause) → check_result v imm kind ≡ r → (Alls (kernel.loaded_by i kept t x rd pre r) → Follows i kept wd md t (kernel.fault t x))
          → Follows i kept wd md t (kernel.fault t x)
      exactly_by r e f2 = load_faults x rd f imm pre kind
          (λ p is g. f2 (subst (λ y. Alls (kernel.loaded_by i kept t x rd pre y)) (ap (λ (y : Word). check_result y imm kind) (sym (held p is)) ∙ e) g)) all

      at_image : (to : AccessValue) (o : Option Cell) → cell_at i.memory to.addr ≡ o → Alls (kernel.loaded_by i kept t x rd pre (Ok to)) → Alls (kernel.loaded_at i kept t x rd pre to.addr o)
      at_image to o e g = subst (λ y. Alls (kernel.loaded_at i kept t x rd pre to.addr y)) e g

      missing : (to : AccessValue) → cell_at m to.addr ≡ None → Alls (kernel.loaded_by i kept t x rd pre (Ok to)) → Follows i kept wd md t (kernel.fault t x)
      missing to none g = go (cell_at i.memory to.addr) refl (at_image to (cell_at i.memory to.addr) refl g)
        where
          go : (o : Option Cell) → cell_at i.memory to.addr ≡ o → Alls (kernel.loaded_at i kept t x rd pre to.addr o) → Follows i kept wd md t (kernel.fault t x)
          go None e g = g.0
          go (Some d) e g = let back = k.cells.back to.addr d e in let is = back.1 in absurd (cc)

      synced : (to : AccessValue) (c : Cell) → cell_at m to.addr ≡ Some c → passes pre c.full ≡ false → Alls (kernel.loaded_by i kept t x rd pre (Ok to)) → Follows i kept wd md t (kernel.fault t x)
      synced to c at bad g =
          let there = k.cells.there to.addr c at in
          waits_fault x pre c.full bad (at_image to (Some there.0) there.1 g).1

      passed : (to : AccessValue) (c : Cell) (b : Bool) → check_result v imm kind ≡ Ok to → cell_at m to.addr ≡ Some c → passes pre c.full ≡ b
          → Eff x (loaded core.split s rd post (if b then Got to c else Refused cause.Sync))
      passed to c true e at p =
          let th = through v imm kind to ok e in
          got_ok x rd post f v to c core.split hd at h th (load_value x rd f v imm pre kind to c whole h th e (pointer_own ra f v kind to ha fa whole h th) at all)
      passed to c false e at p = exactly_by (Ok to) e (synced to c at p)

      found : (to : AccessValue) (o : Option Cell) → check_result v imm kind ≡ Ok to → cell_at m to.addr ≡ o → Eff x (loaded core.split s rd post (reached to pre o))
      found to None e at = exactly_by (Ok to) e (missing to at)
      found to (Some c) e at = passed to c (passes pre c.full) e at refl

      by : (r : Result AccessValue Cause) → check_result v imm kind ≡ r → Eff x (loaded core.split s rd post (reply core m s.number (reaching r pre)))
      by (Err c) e = exactly_by (Err c) e (λ g. g.0)
      by (Ok to) e = found to (cell_at m to.addr) e refl

  -- 5. Stores.

  pub record Stored (w : ℕ) (v : Word) : Type 0 where
    pub goes : Next i kept wd md (stepped t)
    pub word : WordOk i kept wd w v

  store_faults : (x : Instr) (rb : ℕ) (f : Form) (imm : ℤ) (pre : Pre)
      → ((p : Pointer) → f ≡ Exactly p → Alls (kernel.stored_by i kept t x rb pre (check_result (Ptr p) imm Store)) → Follows i kept wd md t (kernel.fault t x))
      → Alls (kernel.stores i kept t x f rb imm pre) → Follows i kept wd md t (kernel.fault t x)
  unfolding kernel.stores
  store_faults x rb (Number n) imm pre ex g = g.0
  store_faults x rb Integer imm pre ex g = g.0
  store_faults x rb Any imm pre ex g = g.0
  store_faults x rb (Open perm) imm pre ex g = both (allows perm Store) g
    where
      both : (b : Bool) → Alls (if b then kernel.fault t x ∷ kernel.stores_outside t rb ∷ outcome.Goes (stepped t) ∷ [] else kernel.fault t x ∷ []) → Follows i kept wd md t (kernel.fault t x)
      both true g = g.0
      both false g = g.0
  store_faults x rb (Inside p) imm pre ex g = both (allows p.perm Store) g
    where
      both : (b : Bool) → Alls (if b then kernel.fault t x ∷ outcome.Stores (p.addr, p.log) (stored_form (form_in t rb)) ∷ outcome.Goes (stepped t) ∷ [] else kernel.fault t x ∷ [])
          → Follows i kept wd md t (kernel.fault t x)
      both true g = g.0
      both false g = g.0
  store_faults x rb (Exactly p) imm pre ex g = ex p refl g

  stores_tail : (b : Bool) (x : Instr) (o : Outcome) → b ≡ true → Alls (if b then kernel.fault t x ∷ o ∷ outcome.Goes (stepped t) ∷ [] else kernel.fault t x ∷ [])
      → Follows i kept wd md t o × Next i kept wd md (stepped t)
  stores_tail true x o e g = (g.1.0, g.1.1.0)
  stores_tail false x o e g = cc

  outside_stored : (rb : ℕ) (to : AccessValue) (v : Word) → Ready s rb → Fits i kept (Held i kept wd md t s) (form_in t rb) v → is_kept kept to.addr ≡ false → wd.Own (party md t.origin s.group) to.ptr
      → StoresAt to.ptr to.addr → Follows i kept wd md t (kernel.stores_outside t rb) → WordOk i kept wd to.addr v
  outside_stored rb to v hb h out own st f =
      let p : Public i kept (form_in t rb) = f.1 in
      let exact = hands_exact i kept wd md t s rb (leak.Store t.ip.addr rb (form_in t rb)) a.matches a.next hb.small f.0 in
      let mine = public_mine i kept wd (party md t.origin s.group) md (form_in t rb) v p h exact in
      let left = leaves_in i kept wd md t.origin s.number s.group to.addr (form_in t rb) v to.ptr t.ip.addr rb a.matches.origin p h.holds f.0 own st mine in
      kept_as to.addr v false out (public_fits i kept (Held i kept wd md t s) (Left i kept wd to.addr) (form_in t rb) v p left h)

  held_stored : (rb w : ℕ) (v : Word) (c : Cell) (part : Segment) → cell_at i.memory w ≡ Some c → Fits i kept (Held i kept wd md t s) (form_in t rb) v → is_kept kept w ≡ true → lies_in w part ≡ true
      → Follows i kept wd md t (outcome.Stores part (stored_form (form_in t rb))) → WordOk i kept wd w v
  held_stored rb w v c part at h is inside f = kept_as w v true is (record {
    form = stored_form (form_in t rb);
    derived = f.1 w c at is inside;
    fits = fits_stored i kept (Held i kept wd md t s) (KeptFor i kept wd w) (form_in t rb) v
        (keeps_for i kept wd md t.origin s.number s.group w (form_in t rb) v c part a.matches.origin f.0 at is inside h) h;
  })

  exact_stored : (rb : ℕ) (to : AccessValue) (v : Word) (c : Cell) → Ready s rb → cell_at i.memory to.addr ≡ Some c → Fits i kept (Held i kept wd md t s) (form_in t rb) v
      → (is_kept kept to.addr ≡ false → wd.Own (party md t.origin s.group) to.ptr) → StoresAt to.ptr to.addr
      → Follows i kept wd md t (kernel.word_stored kept t rb to.addr) → WordOk i kept wd to.addr v
  exact_stored rb to v c hb at h own st f = by (is_kept kept to.addr) refl f
    where
      by : (b : Bool) → is_kept kept to.addr ≡ b → Follows i kept wd md t (if b then outcome.Stores (to.addr, 3) (stored_form (form_in t rb)) else kernel.stores_outside t rb) → WordOk i kept wd to.addr v
      by true e g = held_stored rb to.addr v c (to.addr, 3) at h e (itself to.addr) g
      by false e g = outside_stored rb to v hb h e (own e) st g

  store_value : (x : Instr) (rb : ℕ) (f : Form) (v u : Word) (imm : ℤ) (pre : Pre) (to : AccessValue) (c : Cell) → Ready s rb → WholeForm kept f → Fits i kept (Held i kept wd md t s) f u → Fits i kept (Held i kept wd md t s) (form_in t rb) v
      → Through u Store to → check_result u imm Store ≡ Ok to → (is_kept kept to.addr ≡ false → wd.Own (party md t.origin s.group) to.ptr)
      → cell_at m to.addr ≡ Some c → Alls (kernel.stores i kept t x f rb imm pre) → Stored to.addr v
  unfolding kernel.stores
  store_value x rb (Number n) v u imm pre to c hb whole h hv th e own at g = let a = h.holds in let b = th.is in absurd (cc)
  store_value x rb Integer v u imm pre to c hb whole h hv th e own at g = let a = h.holds in let b : is_pointer u ≡ true = ap is_pointer th.is in absurd (cc)
  store_value x rb Any v u imm pre to c hb whole h hv th e own at g =
      let out = shared_unkept to (subst (IsShared i kept) th.is h.holds) (allows_loads to.ptr.perm Store th.right) th.granted in
      record { goes = g.1.1.0; word = outside_stored rb to v hb hv out (own out) (stores_at u to th) g.1.0 }
  store_value x rb (Open perm) v u imm pre to c hb whole h hv th e own at g =
      let same : to.ptr.perm ≡ perm = subst (λ (y : Word). IsPointerAnd y (λ (p : Pointer). p.perm ≡ perm)) th.is h.holds.0 in
      let tail = stores_tail (allows perm Store) x (kernel.stores_outside t rb) (ap (λ (y : Perm). allows y Store) (sym same) ∙ th.right) g in
      let out = shared_unkept to (subst (IsShared i kept) th.is h.holds.1) (allows_loads to.ptr.perm Store th.right) th.granted in
      record { goes = tail.1; word = outside_stored rb to v hb hv out (own out) (stores_at u to th) tail.0 }
  store_value x rb (Inside p) v u imm pre to c hb whole h hv th e own at g =
      let points : PointsInside p to.ptr = subst (λ (y : Word). IsPointerAnd y (PointsInside p)) th.is h.holds in
      let within : Within to.ptr p = points_within p to.ptr points in
      let there = k.cells.there to.addr c at in
      let is : is_kept kept to.addr ≡ true = inside_kept kept p to.addr (within_all to.ptr p within to.addr (touched_in to th.granted)) whole in
      let tail = stores_tail (allows p.perm Store) x (outcome.Stores (p.addr, p.log) (stored_form (form_in t rb))) (ap (λ (y : Perm). allows y Store) (sym points.perm) ∙ th.right) g in
      record { goes = tail.1; word = held_stored rb to.addr v there.0 (p.addr, p.log) there.1 hv is (word_in_part p to.ptr to.addr within (touched_in to th.granted)) tail.0 }
  store_value x rb (Exactly p) v u imm pre to c hb whole h hv th e own at g =
      let there = k.cells.there to.addr c at in
      let ok : check_result (Ptr p) imm Store ≡ Ok to = ap (λ (y : Word). check_result y imm Store) (sym h.holds) ∙ e in
      let g2 : Alls (kernel.stored_at kept t x rb pre to.addr (cell_at i.memory to.addr)) = subst (λ r. Alls (kernel.stored_by i kept t x rb pre r)) ok g in
      let g3 : Alls (kernel.stored_at kept t x rb pre to.addr (Some there.0)) = subst (λ o. Alls (kernel.stored_at kept t x rb pre to.addr o)) there.1 g2 in
      record { goes = g3.1.0; word = exact_stored rb to v there.0 hb there.1 hv own (stores_at u to th) g3.0 }

  pub store_ok : (x : Instr) (rb ra : ℕ) (f : Form) (v u : Word) (imm : ℤ) (pre : Pre) (post : Post) → Ready s rb → Ready s ra → f ≡ form_in t ra → WholeForm kept f → IsWord u → Fits i kept (Held i kept wd md t s) f u → Fits i kept (Held i kept wd md t s) (form_in t rb) v
      → Alls (kernel.stores i kept t x f rb imm pre) → Eff x (stored s v post (reply core m s.number (reaching (check_result u imm Store) pre)))
  unfolding reply plain slot_after
  store_ok x rb ra f v u imm pre post hb ha fa whole ok h hv all = by (check_result u imm Store) refl
    where
      held : (p : Pointer) → f ≡ Exactly p → u ≡ Ptr p
      held p e = (subst (λ (y : Form). Fits i kept (Held i kept wd md t s) y u) e h).holds

      exactly_by : (r : Result AccessValue Cause) → check_result u imm Store ≡ r → (Alls (kernel.stored_by i kept t x rb pre r) → Follows i kept wd md t (kernel.fault t x))
          → Follows i kept wd md t (kernel.fault t x)
      exactly_by r e f2 = store_faults x rb f imm pre
          (λ p is g. f2 (subst (λ y. Alls (kernel.stored_by i kept t x rb pre y)) (ap (λ (y : Word). check_result y imm Store) (sym (held p is)) ∙ e) g)) all

      at_image : (to : AccessValue) (o : Option Cell) → cell_at i.memory to.addr ≡ o → Alls (kernel.stored_by i kept t x rb pre (Ok to)) → Alls (kernel.stored_at kept t x rb pre to.addr o)
      at_image to o e g = subst (λ y. Alls (kernel.stored_at kept t x rb pre to.addr y)) e g

      missing : (to : AccessValue) → cell_at m to.addr ≡ None → Alls (kernel.stored_by i kept t x rb pre (Ok to)) → Follows i kept wd md t (kernel.fault t x)
      missing to none g = go (cell_at i.memory to.addr) refl (at_image to (cell_at i.memory to.addr) refl g)
        where
          go : (o : Option Cell) → cell_at i.memory to.addr ≡ o → Alls (kernel.stored_at kept t x rb pre to.addr o) → Follows i kept wd md t (kernel.fault t x)
          go None e g = g.0
          go (Some d) e g = let back = k.cells.back to.addr d e in let is = back.1 in absurd (cc)

      synced : (to : AccessValue) (c : Cell) → cell_at m to.addr ≡ Some c → passes pre c.full ≡ false → Alls (kernel.stored_by i kept t x rb pre (Ok to)) → Follows i kept wd md t (kernel.fault t x)
      synced to c at bad g =
          let there = k.cells.there to.addr c at in
          waits_fault x pre c.full bad (at_image to (Some there.0) there.1 g).1.1

      passed : (to : AccessValue) (c : Cell) (b : Bool) → check_result u imm Store ≡ Ok to → cell_at m to.addr ≡ Some c → passes pre c.full ≡ b
          → Eff x (stored s v post (if b then Got to c else Refused cause.Sync))
      passed to c true e at p =
          let th = through u imm Store to ok e in
          let st = store_value x rb f v u imm pre to c hb whole h hv th e (pointer_own ra f u Store to ha fa whole h th) at all in
          let clean : Clean i to.ptr = subst (CleanWord i) th.is h.clean in
          record {
            own = steps_on i kept wd md core m k s t a st.goes;
            cell = record { old = c; stands = at; unfixed = unfixed_by i to.ptr to.addr clean th.right th.granted.inside; word = st.word };
            pages = refl;
            queue = tt;
            other = tt;
          }
      passed to c false e at p = exactly_by (Ok to) e (synced to c at p)

      found : (to : AccessValue) (o : Option Cell) → check_result u imm Store ≡ Ok to → cell_at m to.addr ≡ o → Eff x (stored s v post (reached to pre o))
      found to None e at = exactly_by (Ok to) e (missing to at)
      found to (Some c) e at = passed to c (passes pre c.full) e at refl

      by : (r : Result AccessValue Cause) → check_result u imm Store ≡ r → Eff x (stored s v post (reply core m s.number (reaching r pre)))
      by (Err c) e = exactly_by (Err c) e (λ g. g.0)
      by (Ok to) e = found to (cell_at m to.addr) e refl

  -- 6. Which parts of the kept segments a turn uses.

  pub record Part (o : Segment → Outcome) (w : ℕ) : Type 0 where
    pub part : Segment
    pub among : Only md (Contains (outcomes i kept t) (o part))
    pub here : lies_in w part ≡ true

  pub load_used : (x : Instr) (rd : ℕ) (f : Form) (v : Word) (imm : ℤ) (pre : Pre) (kind : Kind) (to : AccessValue) (c : Cell) → Fits i kept (Held i kept wd md t s) f v → Through v kind to
      → check_result v imm kind ≡ Ok to → is_kept kept to.addr ≡ true
      → cell_at i.memory to.addr ≡ Some c → Alls (kernel.loads i kept t x rd f imm pre kind) → Part (λ part. outcome.Loads part rd (stepped t)) to.addr
  unfolding kernel.loads
  load_used x rd (Number n) v imm pre kind to c h th e is at g = let a = h.holds in let b = th.is in absurd (cc)
  load_used x rd Integer v imm pre kind to c h th e is at g = let a = h.holds in let b : is_pointer v ≡ true = ap is_pointer th.is in absurd (cc)
  load_used x rd Any v imm pre kind to c h th e is at g =
      let out = shared_unkept to (subst (IsShared i kept) th.is h.holds) (allows_loads to.ptr.perm kind th.right) th.granted in absurd (cc)
  load_used x rd (Open perm) v imm pre kind to c h th e is at g =
      let out = shared_unkept to (subst (IsShared i kept) th.is h.holds.1) (allows_loads to.ptr.perm kind th.right) th.granted in absurd (cc)
  load_used x rd (Inside p) v imm pre kind to c h th e is at g =
      let points : PointsInside p to.ptr = subst (λ (y : Word). IsPointerAnd y (PointsInside p)) th.is h.holds in
      record {
        part = (p.addr, p.log);
        among = (loads_second (allows p.perm kind) x (outcome.Loads (p.addr, p.log) rd (stepped t)) (ap (λ (y : Perm). allows y kind) (sym points.perm) ∙ th.right) g).2;
        here = word_in_part p to.ptr to.addr (points_within p to.ptr points) (touched_in to th.granted);
      }
  load_used x rd (Exactly p) v imm pre kind to c h th e is at g =
      let ok : check_result (Ptr p) imm kind ≡ Ok to = ap (λ (y : Word). check_result y imm kind) (sym h.holds) ∙ e in
      let g2 : Alls (kernel.loaded_at i kept t x rd pre to.addr (cell_at i.memory to.addr)) = subst (λ r. Alls (kernel.loaded_by i kept t x rd pre r)) ok g in
      let g3 : Alls (kernel.loaded_at i kept t x rd pre to.addr (Some c)) = subst (λ o. Alls (kernel.loaded_at i kept t x rd pre to.addr o)) at g2 in
      record {
        part = (to.addr, 3);
        among = (subst (λ b. Follows i kept wd md t (if b then outcome.Loads (to.addr, 3) rd (stepped t) else if is_fixed i to.addr then kernel.sets t rd (exactly c.word) else kernel.sets t rd Any)) is g3.0).2;
        here = itself to.addr;
      }

  pub store_used : (x : Instr) (rb : ℕ) (f : Form) (u : Word) (imm : ℤ) (pre : Pre) (to : AccessValue) (c : Cell) → Fits i kept (Held i kept wd md t s) f u → Through u Store to
      → check_result u imm Store ≡ Ok to → is_kept kept to.addr ≡ true
      → cell_at i.memory to.addr ≡ Some c → Alls (kernel.stores i kept t x f rb imm pre) → Part (λ part. outcome.Stores part (stored_form (form_in t rb))) to.addr
  unfolding kernel.stores
  store_used x rb (Number n) u imm pre to c h th e is at g = let a = h.holds in let b = th.is in absurd (cc)
  store_used x rb Integer u imm pre to c h th e is at g = let a = h.holds in let b : is_pointer u ≡ true = ap is_pointer th.is in absurd (cc)
  store_used x rb Any u imm pre to c h th e is at g =
      let out = shared_unkept to (subst (IsShared i kept) th.is h.holds) (allows_loads to.ptr.perm Store th.right) th.granted in absurd (cc)
  store_used x rb (Open perm) u imm pre to c h th e is at g =
      let out = shared_unkept to (subst (IsShared i kept) th.is h.holds.1) (allows_loads to.ptr.perm Store th.right) th.granted in absurd (cc)
  store_used x rb (Inside p) u imm pre to c h th e is at g =
      let points : PointsInside p to.ptr = subst (λ (y : Word). IsPointerAnd y (PointsInside p)) th.is h.holds in
      record {
        part = (p.addr, p.log);
        among = (stores_tail (allows p.perm Store) x (outcome.Stores (p.addr, p.log) (stored_form (form_in t rb))) (ap (λ (y : Perm). allows y Store) (sym points.perm) ∙ th.right) g).0.2;
        here = word_in_part p to.ptr to.addr (points_within p to.ptr points) (touched_in to th.granted);
      }
  store_used x rb (Exactly p) u imm pre to c h th e is at g =
      let ok : check_result (Ptr p) imm Store ≡ Ok to = ap (λ (y : Word). check_result y imm Store) (sym h.holds) ∙ e in
      let g2 : Alls (kernel.stored_at kept t x rb pre to.addr (cell_at i.memory to.addr)) = subst (λ r. Alls (kernel.stored_by i kept t x rb pre r)) ok g in
      let g3 : Alls (kernel.stored_at kept t x rb pre to.addr (Some c)) = subst (λ o. Alls (kernel.stored_at kept t x rb pre to.addr o)) at g2 in
      record {
        part = (to.addr, 3);
        among = (subst (λ b. Follows i kept wd md t (if b then outcome.Stores (to.addr, 3) (stored_form (form_in t rb)) else kernel.stores_outside t rb)) is g3.0).2;
        here = itself to.addr;
      }
