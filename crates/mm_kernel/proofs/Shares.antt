-- Whose the pointers are that a thread gives to others.
use Rattle.std.proofs.Common.{◌≡◌, ℕ, ◌+◌, ◌/◌, ◌^◌, ◌<◌, ◌⊎◌, inl, inr, Bool, true, false, ◌&&◌, List, Some, None, Option}
use Rattle.std.proofs.Common.{if◌then◌else◌, refl, sym, ap, ◌∙◌, subst, arith, eqb-true}
use Rattle.std.proofs.lemmas.Bool.{and_parts, and_right, cases_eq}
use Rattle.std.specs.Prelude.{Contains}
use Rattle.mm_word.specs.declared.perm.Perm.{Perm, TheVariants.{Ro, Rw, Xu, Xp, Eu, Ep, Key}}
use Rattle.mm_word.specs.declared.word.Word.{Word, TheVariants.{Int, Ptr}}
use Rattle.mm_word.specs.{Perm.{can_move, can_fetch}, Pointer.{Pointer, in_segment, next_result}}
use Rattle.mm_word.proofs.Results.{next_result-IsBelow}
use Rattle.mm_word.specs.declared.word.Cell.{Cell}
use Rattle.mm_model.{specs.{Memory.cell_at, Slot.Slot, Image.Image, Turn.is_running, Reach.{LoadsAt, StoresAt}}, proofs.Filters.filter_contained}
use Rattle.mm_kernel.specs.Segments.{is_kept, lies_in}
use Rattle.mm_kernel.specs.Segments.{Segment, meets, runs_privileged, is_enter, is_door, is_open_as, is_open_pointer}
use Rattle.mm_kernel.specs.declared.form.Form.{Form}
use Rattle.mm_kernel.specs.declared.form.Form.TheVariants.{Number, Pointer as Exactly, Integer, Open, Any, Inside}
use Rattle.mm_kernel.specs.declared.fact.Leak.{Leak}
use Rattle.mm_kernel.specs.declared.thread.{Origin.{Origin, TheVariants.{Door, Slot as OfSlot}}, Thread.Thread}
use Rattle.mm_kernel.specs.{Forms.{carries, is_open_form, stored_form, around, around_as}, Threads.{form_in, with_form, is_free, is_kernel, serves_some}}
use Rattle.mm_kernel.proofs.Owns.{Who, Who.{Callers, Alone}, Mode, Mode.{AsAnyone, AsKernel}, World, Comes, GoesOn, GoesOn.{comes_free, leaves}}
use Rattle.mm_kernel.proofs.Owns.{Runs, Runs.{itself, through}, IsOf, IsOf.{with_group, by_itself}, ServedBy, IsPlain, IfPointer, each_pointer}
use Rattle.mm_kernel.proofs.Owns.{HandsOn, party, Kernels, Only, Mine, Has, Left, KeptFor, Seen}
use Rattle.mm_kernel.proofs.Segs.{Within, outside_within}
use Rattle.mm_kernel.proofs.Values.{open_as, Holds, Fits, fits_as, Public}
use Rattle.mm_kernel.proofs.{Ups.{Free, free_form, Next}, Anyone.next_perm, Results.{owes_like, open_carries, own_of}}
use Rattle.mm_kernel.proofs.Slots.{OriginOk, Held, Match, Came, form_same, form_other}
use Rattle.mm_kernel.specs.declared.outcome.Outcome.TheVariants as outcome
use Rattle.mm_kernel.specs.declared.fact.Leak.TheVariants as leak

-- 1. Pointers.

door_enters : (kept : List Segment) (p : Pointer) → is_door kept p ≡ true → is_enter p.perm ≡ true
unfolding is_door
door_enters kept p d = (and_parts (is_enter p.perm) (meets kept p) d).0

enter_no_key : (perm : Perm) → is_enter perm ≡ true → perm ≡ Key → ⊥
enter_no_key perm e key = let no : is_enter perm ≡ false = ap is_enter key in cc

-- a door is no key
pub door_no_key : (kept : List Segment) (p : Pointer) → is_door kept p ≡ true → p.perm ≡ Key → ⊥
door_no_key kept p d key = enter_no_key p.perm (door_enters kept p d) key

pub plain_outside : (kept : List Segment) (p : Pointer) → meets kept p ≡ false → runs_privileged p.perm ≡ false → IsPlain kept p
unfolding is_door
plain_outside kept p out user = (ap (is_open_as p.perm) out ∙ open_as p.perm user, and_right (is_enter p.perm) (meets kept p) out)

fetch_outside : (perm : Perm) (m : Bool) → can_fetch perm ≡ true → is_open_as perm m ≡ true → m ≡ false
fetch_outside Xu false e o = refl
fetch_outside Xu true e o = cc
fetch_outside Ro m e o = cc
fetch_outside Rw m e o = cc
fetch_outside Xp m e o = cc
fetch_outside Eu m e o = cc
fetch_outside Ep m e o = cc
fetch_outside Key m e o = cc

-- the pointer before the next one lies within that one's segment
next_back : (p q : Pointer) → next_result p ≡ Some q → Within p q
next_back p q e = by (can_move p.perm && in_segment p (p.addr + 8)) refl e
  where
    by : (b : Bool) → (can_move p.perm && in_segment p (p.addr + 8)) ≡ b → (if b then Some (record p { addr = p.addr + 8 }) else None) ≡ Some q → Within p q
    by true at r =
        let same : record p { addr = p.addr + 8 } ≡ q = cc in
        let parts = and_parts (can_move p.perm) (in_segment p (p.addr + 8)) at in
        subst (λ (x : Pointer). Within p x) same (record { shorter = omega arith; here = sym (eqb-true ((p.addr + 8) / 2 ^ p.log) (p.addr / 2 ^ p.log) parts.1) })
    by false at r = cc

module _ (i : Image) (kept : List Segment) (wd : World i kept) where
  -- 2. What a form that is handed out stands for.

  no_inside : (outer : Pointer) → Public i kept (Inside outer) → ⊥
  unfolding is_open_form
  no_inside outer p = let no = p.open_form in cc

  exact_opens : (q : Pointer) → Public i kept (Exactly q) → is_open_pointer kept q ≡ true
  unfolding is_open_form
  exact_opens q p = p.open_form

  -- a word of a public form is its holder's, if its exact pointer is
  pub public_mine : (x : Who) (md : Mode) (f : Form) (w : Word) → Public i kept f → Fits i kept (Has i kept wd x md) f w
      → Kernels md ((q : Pointer) → f ≡ Exactly q → is_open_pointer kept q ≡ true → wd.Own x q) → IfPointer w (Mine i kept wd x)
  public_mine x AsAnyone f w p h exact = each_pointer (Has i kept wd x AsAnyone f) (Mine i kept wd x) (λ q k. k tt) w h.mine
  public_mine x AsKernel (Number b) w p h exact = subst (λ (y : Word). IfPointer y (Mine i kept wd x)) (sym h.holds) tt
  public_mine x AsKernel (Exactly q) w p h exact = subst (λ (y : Word). IfPointer y (Mine i kept wd x)) (sym h.holds) (inr (exact q refl (exact_opens q p)))
  public_mine x AsKernel Integer (Int b) p h exact = tt
  public_mine x AsKernel Integer (Ptr q) p h exact = let no = h.holds in cc
  public_mine x AsKernel (Open perm) (Int b) p h exact = absurd h.holds.0
  public_mine x AsKernel (Open perm) (Ptr q) p h exact = by perm h.holds.0 h.mine
    where
      by : (c : Perm) → q.perm ≡ c → Has i kept wd x AsKernel (Open c) q → Mine i kept wd x q
      by Key e k = inl e
      by Ro e k = k refl
      by Rw e k = k refl
      by Xu e k = k refl
      by Xp e k = k refl
      by Eu e k = k refl
      by Ep e k = k refl
  public_mine x AsKernel Any w p h exact = each_pointer (Has i kept wd x AsKernel Any) (Mine i kept wd x) (λ q k. k refl) w h.mine
  public_mine x AsKernel (Inside outer) w p h exact = absurd (no_inside outer p)

  -- 3. The kernel's threads.

  pub runs_origin : (o : Origin) (n g : ℕ) → OriginOk i kept wd AsKernel o n g → Runs i kept wd.Own (party AsKernel o g) o
  runs_origin (Door d) n g h = through g d h.1 h.2
  runs_origin (OfSlot m) n g h = itself m h.1.is

  module _ (t : Thread) (s : Slot) (m : Match i kept wd AsKernel t s) (taken : wd.Taken t) where
    pub runs : Runs i kept wd.Own (party AsKernel t.origin s.group) t.origin
    runs = runs_origin t.origin s.number s.group m.origin

    -- an exact open pointer is its holder's: no door by itself, and a door that is let out
    pub exact_own : (r : ℕ) (q : Pointer) → r < 16 → form_in t r ≡ Exactly q → is_open_pointer kept q ≡ true → (is_door kept q ≡ true → wd.Own (party AsKernel t.origin s.group) q)
        → wd.Own (party AsKernel t.origin s.group) q
    exact_own r q lt e o lets = by (is_door kept q) refl
      where
        by : (b : Bool) → is_door kept q ≡ b → wd.Own (party AsKernel t.origin s.group) q
        by true d = lets d
        by false d = wd.rules.exact_register (party AsKernel t.origin s.group) q t r runs taken lt e (o, d)

    pub hand_own : (r : ℕ) (q : Pointer) (l : Leak) → r < 16 → form_in t r ≡ Exactly q → is_open_pointer kept q ≡ true → Comes i kept t.origin (outcome.HandsOut (form_in t r) l)
        → wd.Own (party AsKernel t.origin s.group) q
    hand_own r q l lt e o c =
        exact_own r q lt e o
        (λ d. wd.rules.lets_hand (party AsKernel t.origin s.group) t.origin q l runs d (subst (λ (f : Form). Comes i kept t.origin (outcome.HandsOut f l)) e c))

    pub ip_own : meets kept t.ip ≡ false → runs_privileged t.ip.perm ≡ false → wd.Own (party AsKernel t.origin s.group) t.ip
    ip_own out user = wd.rules.exact_ip (party AsKernel t.origin s.group) t runs taken (plain_outside kept t.ip out user)

    -- the pointer to the next word
    pub next_own : (q : Pointer) → next_result t.ip ≡ Some q → can_fetch t.ip.perm ≡ true → runs_privileged t.ip.perm ≡ false → is_open_pointer kept q ≡ true
        → wd.Own (party AsKernel t.origin s.group) q
    next_own q e runs user o =
        let perm : q.perm ≡ t.ip.perm = next_perm t.ip q e in
        let out : meets kept q ≡ false = fetch_outside q.perm (meets kept q) (ap can_fetch perm ∙ runs) o in
        wd.rules.below (party AsKernel t.origin s.group) t.ip q (ip_own (outside_within kept t.ip q (next_back t.ip q e) out) user) (next_result-IsBelow t.ip q e)

  -- the exact pointers of a form that is handed out
  pub hands_exact : (md : Mode) (t : Thread) (s : Slot) (r : ℕ) (l : Leak) → Match i kept wd md t s → Next i kept wd md t → r < 16
      → Kernels md (Comes i kept t.origin (outcome.HandsOut (form_in t r) l))
      → Kernels md ((q : Pointer) → form_in t r ≡ Exactly q → is_open_pointer kept q ≡ true → wd.Own (party md t.origin s.group) q)
  hands_exact AsAnyone t s r l m n lt comes = tt
  hands_exact AsKernel t s r l m n lt comes = λ q e o. hand_own t s m n r q l lt e o comes

  -- what a slot's thread has, the callers of its group have when it goes on as one of them
  pub own_callers : (md : Mode) (o : Origin) (s : Slot) (l : Thread) (q : Pointer) → OriginOk i kept wd md o s.number s.group → Came i kept wd s → Kernels md (GoesOn i kept wd.Taken o l)
      → wd.Own (party md o s.group) q → wd.Own (Callers s.group) q
  own_callers AsAnyone o s l q ok c going own = own
  own_callers AsKernel (Door d) s l q ok c going own = own
  own_callers AsKernel (OfSlot n) s l q ok c going own =
      let among : Contains i.slots c.slot = (filter_contained (λ (y : Slot). is_running y.state) i.slots c.slot c.among).0 in
      let number : c.slot.number ≡ s.number = ap (λ (y : ℕ × ℕ × Option ℕ). y.0) c.same in
      let group : c.slot.group ≡ s.group = ap (λ (y : ℕ × ℕ × Option ℕ). y.1) c.same in
      let same : n ≡ c.slot.number = ok.0 ∙ sym number in
      subst (λ g. wd.Own (Callers g) q) group
      (wd.rules.freed c.slot q l among (subst (λ k. wd.Own (Alone k) q) same own) (subst (λ k. GoesOn i kept wd.Taken (OfSlot k) l) same going))

  pub mine_callers : (md : Mode) (o : Origin) (s : Slot) (l : Thread) (q : Pointer) → OriginOk i kept wd md o s.number s.group → Came i kept wd s → Kernels md (GoesOn i kept wd.Taken o l)
      → Mine i kept wd (party md o s.group) q → Mine i kept wd (Callers s.group) q
  mine_callers md o s l q ok c going (inl key) = inl key
  mine_callers md o s l q ok c going (inr own) = inr (own_callers md o s l q ok c going own)

  -- 4. A thread that leaves.

  -- the exact pointers of a thread that are no doors
  pub plains_of : (md : Mode) (t : Thread) (s : Slot) → Match i kept wd md t s → Next i kept wd md t
      → Kernels md ((r : ℕ) (q : Pointer) → r < 16 → form_in t r ≡ Exactly q → IsPlain kept q → wd.Own (party md t.origin s.group) q)
  plains_of AsAnyone t s m n = tt
  plains_of AsKernel t s m n = λ r q lt e plain. wd.rules.exact_register (party AsKernel t.origin s.group) q t r (runs t s m n) n lt e plain

  -- and of one with the pointer to the next word in a register
  pub plains_linked : (md : Mode) (t : Thread) (s : Slot) (rd : ℕ) (back : Pointer) → Match i kept wd md t s → Next i kept wd md t → next_result t.ip ≡ Some back → can_fetch t.ip.perm ≡ true
      → runs_privileged t.ip.perm ≡ false
      → Kernels md ((r : ℕ) (q : Pointer) → r < 16 → form_in (with_form t rd (Exactly back)) r ≡ Exactly q → IsPlain kept q → wd.Own (party md t.origin s.group) q)
  plains_linked AsAnyone t s rd back m n e go user = tt
  plains_linked AsKernel t s rd back m n e go user = λ r q lt is plain. by r q lt is plain (cases_eq r rd)
    where
      by : (r : ℕ) (q : Pointer) → r < 16 → form_in (with_form t rd (Exactly back)) r ≡ Exactly q → IsPlain kept q → (r ≡ rd) ⊎ (r ≡ rd → ⊥) → wd.Own (party AsKernel t.origin s.group) q
      by r q lt is plain (inl same) =
          let one : form_in (with_form t r (Exactly back)) r ≡ Exactly back = form_same i kept wd AsKernel t r (Exactly back) m.long lt in
          let two : form_in (with_form t r (Exactly back)) r ≡ Exactly q = subst (λ d. form_in (with_form t d (Exactly back)) r ≡ Exactly q) (sym same) is in
          let both : Exactly back ≡ Exactly q = sym one ∙ two in
          let eq : back ≡ q = cc in
          next_own t s m n q (e ∙ ap (λ (y : Pointer). Some y) eq) go user plain.0
      by r q lt is plain (inr ne) = wd.rules.exact_register (party AsKernel t.origin s.group) q t r (runs t s m n) n lt (sym (form_other i kept wd AsKernel t rd r (Exactly back) ne) ∙ is) plain

  pub left_going : (md : Mode) (o z : Origin) (l : Thread) → z ≡ o → Kernels md (Comes i kept o (outcome.Leaves l)) → Kernels md (GoesOn i kept wd.Taken z l)
  left_going AsAnyone o z l e c = tt
  left_going AsKernel o z l e c = leaves (subst (λ y. Comes i kept y (outcome.Leaves l)) (sym e) c)

  left_exact : (md : Mode) (l : Thread) (s : Slot) (r : ℕ) → Match i kept wd md l s → Kernels md (GoesOn i kept wd.Taken l.origin l) → r < 16
      → Kernels md ((r : ℕ) (q : Pointer) → r < 16 → form_in l r ≡ Exactly q → IsPlain kept q → wd.Own (party md l.origin s.group) q)
      → Kernels md ((q : Pointer) → form_in l r ≡ Exactly q → is_open_pointer kept q ≡ true → wd.Own (party md l.origin s.group) q)
  left_exact AsAnyone l s r m going lt plains = tt
  left_exact AsKernel l s r m going lt plains = λ q e o. by q e o (is_door kept q) refl
    where
      by : (q : Pointer) → form_in l r ≡ Exactly q → is_open_pointer kept q ≡ true → (b : Bool) → is_door kept q ≡ b → wd.Own (party AsKernel l.origin s.group) q
      by q e o true d = wd.rules.lets_going (party AsKernel l.origin s.group) l.origin q l r (runs_origin l.origin s.number s.group m.origin) d going lt e
      by q e o false d = plains r q lt e (o, d)

  pub left_register : (md : Mode) (l : Thread) (s : Slot) (r : ℕ) (w : Word) → Match i kept wd md l s → Came i kept wd s → Kernels md (GoesOn i kept wd.Taken l.origin l) → r < 16
      → Kernels md ((r : ℕ) (q : Pointer) → r < 16 → form_in l r ≡ Exactly q → IsPlain kept q → wd.Own (party md l.origin s.group) q)
      → Public i kept (form_in l r) → Fits i kept (Held i kept wd md l s) (form_in l r) w → IfPointer w (Mine i kept wd (Callers s.group))
  left_register md l s r w m came going lt plains p h =
      each_pointer (Mine i kept wd (party md l.origin s.group)) (Mine i kept wd (Callers s.group)) (λ q k. mine_callers md l.origin s l q m.origin came going k) w
      (public_mine (party md l.origin s.group) md (form_in l r) w p h (left_exact md l s r m going lt plains))

  -- 5. A thread that is free at its turn.

  module _ (t : Thread) (s : Slot) (m : Match i kept wd AsKernel t s) (taken : wd.Taken t) (came : Came i kept wd s) (free : Free i kept t) (is : is_free kept t ≡ true) where
    going : GoesOn i kept wd.Taken t.origin t
    going = comes_free taken refl is

    pub freed_register : (r : ℕ) (w : Word) → r < 16 → Fits i kept (Held i kept wd AsKernel t s) (form_in t r) w → IfPointer w (Mine i kept wd (Callers s.group))
    freed_register r w lt h =
        each_pointer (Mine i kept wd (party AsKernel t.origin s.group)) (Mine i kept wd (Callers s.group)) (λ q k. mine_callers AsKernel t.origin s t q m.origin came going k) w
        (public_mine (party AsKernel t.origin s.group) AsKernel (form_in t r) w (free_form i kept t free r) h
        (λ q e o. exact_own t s m taken r q lt e o (λ d. wd.rules.lets_going (party AsKernel t.origin s.group) t.origin q t r (runs t s m taken) d going lt e)))

    pub freed_ip : runs_privileged t.ip.perm ≡ false → Mine i kept wd (Callers s.group) s.ip
    freed_ip user = subst (Mine i kept wd (Callers s.group)) m.ip (inr (own_callers AsKernel t.origin s t t.ip m.origin came going (ip_own t s m taken free.outside user)))

  -- 6. An exact pointer that is moved by what is not known, or used.

  pub exact_mine : (md : Mode) (t : Thread) (s : Slot) (r : ℕ) (p : Pointer) → Match i kept wd md t s → Next i kept wd md t → r < 16 → form_in t r ≡ Exactly p
      → Fits i kept (Held i kept wd md t s) (Exactly p) (Ptr p) → meets kept p ≡ false → Mine i kept wd (party md t.origin s.group) p
  exact_mine AsAnyone t s r p m n lt e h out = h.mine tt
  exact_mine AsKernel t s r p m n lt e h out =
      let plain = plain_outside kept p out h.clean.user in
      inr (wd.rules.exact_register (party AsKernel t.origin s.group) p t r (runs t s m n) n lt e plain)

  pub around_has : (md : Mode) (t : Thread) (s : Slot) (r : ℕ) (p : Pointer) → Match i kept wd md t s → Next i kept wd md t → r < 16 → form_in t r ≡ Exactly p
      → Fits i kept (Held i kept wd md t s) (Exactly p) (Ptr p) → Held i kept wd md t s (around kept p) p
  unfolding around
  around_has md t s r p m n lt e h = by (meets kept p) refl
    where
      by : (b : Bool) → meets kept p ≡ b → Held i kept wd md t s (around_as p b) p
      by true is = λ o. h.mine (owes_like md (around_as p true) (Exactly p) (λ c. c) o)
      by false is = λ o. exact_mine md t s r p m n lt e h is

  -- 7. Words that are stored and loaded.

  is_key : (perm : Perm) → (perm ≡ Key) ⊎ (perm ≡ Key → ⊥)
  is_key Key = inl refl
  is_key Ro = inr (λ e. cc)
  is_key Rw = inr (λ e. cc)
  is_key Xu = inr (λ e. cc)
  is_key Xp = inr (λ e. cc)
  is_key Eu = inr (λ e. cc)
  is_key Ep = inr (λ e. cc)

  -- a public form hands on each pointer for which it stands, if that is no key
  hands_on : (f : Form) (q : Pointer) → Public i kept f → Holds i kept f (Ptr q) → (q.perm ≡ Key → ⊥) → HandsOn q f
  hands_on (Number b) q p h ne = cc
  hands_on (Exactly o) q p h ne = let same : q ≡ o = cc in inl (ap (λ (y : Pointer). Exactly y) (sym same))
  hands_on Integer q p h ne = cc
  hands_on (Open perm) q p h ne = inr (open_carries perm (λ e. ne (h.0 ∙ e)))
  hands_on Any q p h ne = inr refl
  hands_on (Inside outer) q p h ne = absurd (no_inside outer p)

  -- a word that is stored where it is not kept
  pub leaves_in : (md : Mode) (o : Origin) (n g w : ℕ) (f : Form) (v : Word) (p : Pointer) (at reg : ℕ) → OriginOk i kept wd md o n g → Public i kept f → Holds i kept f v
      → Kernels md (Comes i kept o (outcome.HandsOut f (leak.Store at reg f))) → wd.Own (party md o g) p → StoresAt p w → IfPointer v (Mine i kept wd (party md o g))
      → IfPointer v (Left i kept wd w Any)
  leaves_in md o n g w f (Int b) p at reg ok pf h comes own st mine = tt
  leaves_in md o n g w f (Ptr q) p at reg ok pf h comes own st mine = λ x r has ld. by (is_key q.perm) mine x r has ld
    where
      to : (d : Mode) (z : Origin) → OriginOk i kept wd d z n g → Kernels d (Comes i kept z (outcome.HandsOut f (leak.Store at reg f))) → wd.Own (party d z g) p → wd.Own (party d z g) q
          → (q.perm ≡ Key → ⊥) → (x : Who) (r : Pointer) → wd.Own x r → LoadsAt r w → wd.Own x q
      to AsAnyone z k c op oq ne x r has ld = wd.rules.passed g x q p r w oq op st has ld
      to AsKernel (Door d) k c op oq ne x r has ld = wd.rules.passed g x q p r w oq op st has ld
      to AsKernel (OfSlot m) k c op oq ne x r has ld = wd.rules.stored m x q p r w f at reg oq c (hands_on f q pf h ne) op st has ld

      by : (q.perm ≡ Key) ⊎ (q.perm ≡ Key → ⊥) → Mine i kept wd (party md o g) q → (x : Who) (r : Pointer) → wd.Own x r → LoadsAt r w → Mine i kept wd x q
      by (inl key) k x r has ld = inl key
      by (inr ne) k x r has ld = inr (to md o ok comes own (own_of i kept wd (party md o g) q ne k) ne x r has ld)

  stored_carries : (f : Form) → carries (stored_form f) ≡ true → carries f ≡ true
  unfolding stored_form
  stored_carries (Number b) e = e
  stored_carries (Exactly p) e = e
  stored_carries Integer e = e
  stored_carries (Open perm) e = e
  stored_carries Any e = e
  stored_carries (Inside outer) e = e

  -- a word that is stored to a kept word
  pub keeps_for : (md : Mode) (o : Origin) (n g w : ℕ) (f : Form) (v : Word) (c : Cell) (part : Segment) → OriginOk i kept wd md o n g
      → Only md (Comes i kept o (outcome.Stores part (stored_form f))) → cell_at i.memory w ≡ Some c → is_kept kept w ≡ true → lies_in w part ≡ true
      → Fits i kept (Has i kept wd (party md o g) md) f v → IfPointer v (KeptFor i kept wd w (stored_form f))
  keeps_for AsAnyone o n g w f v c part ok comes at is inside h = absurd comes
  keeps_for AsKernel o n g w f v c part ok comes at is inside h = each_pointer (Has i kept wd (party AsKernel o g) AsKernel f) (KeptFor i kept wd w (stored_form f)) one v h.mine
    where
      one : (q : Pointer) → Has i kept wd (party AsKernel o g) AsKernel f q → KeptFor i kept wd w (stored_form f) q
      one q k = λ carried x to got reg next run loads there. by (k (stored_carries f carried)) carried x to got reg next run loads there
        where
          by : Mine i kept wd (party AsKernel o g) q → carries (stored_form f) ≡ true → (x : Who) (to : Origin) (got : Segment) (reg : ℕ) (next : Thread) → Runs i kept wd.Own x to
              → Comes i kept to (outcome.Loads got reg next) → lies_in w got ≡ true → Mine i kept wd x q
          by (inl key) carried x to got reg next run loads there = inl key
          by (inr own) carried x to got reg next run loads there =
              inr (wd.rules.kept_for (party AsKernel o g) x o to q w c part (stored_form f) got reg next own (runs_origin o n g ok) at is comes carried inside loads there run)

  -- a word that is loaded from a kept word
  pub loads_kept : (md : Mode) (o : Origin) (n g w : ℕ) (f : Form) (v : Word) (part : Segment) (reg : ℕ) (next : Thread) → OriginOk i kept wd md o n g
      → Only md (Comes i kept o (outcome.Loads part reg next)) → lies_in w part ≡ true → Fits i kept (KeptFor i kept wd w) f v → Fits i kept (Has i kept wd (party md o g) md) f v
  loads_kept AsAnyone o n g w f v part reg next ok comes inside h = absurd comes
  loads_kept AsKernel o n g w f v part reg next ok comes inside h =
      fits_as i kept (KeptFor i kept wd w) (Has i kept wd (party AsKernel o g) AsKernel) f v (λ q k carried. k carried (party AsKernel o g) o part reg next (runs_origin o n g ok) comes inside) h

  -- 8. Slots that serve, and slots that are served.

  -- whose thread runs in a slot that another has for its handler
  pub data Server (md : Mode) (o : Origin) (s : Slot) : Type 0 where
    of_kernel : is_kernel i kept s.number ≡ true → o ≡ OfSlot s.number → party md o s.group ≡ Alone s.number → md ≡ AsKernel → Server md o s
    of_callers : is_kernel i kept s.number ≡ false → party md o s.group ≡ Callers s.group → Server md o s

  left_false : (a b : Bool) → (a && b) ≡ false → b ≡ true → a ≡ false
  left_false true true e f = cc
  left_false false b e f = refl
  left_false true false e f = cc

  pub server_of : (md : Mode) (o : Origin) (s : Slot) → OriginOk i kept wd md o s.number s.group → serves_some i s.number ≡ true → Server md o s
  server_of AsAnyone o s h e = of_callers (left_false (is_kernel i kept s.number) (serves_some i s.number) h e) refl
  server_of AsKernel (Door d) s h e = of_callers (left_false (is_kernel i kept s.number) (serves_some i s.number) h.0 e) refl
  server_of AsKernel (OfSlot m) s h e = of_kernel (ap (is_kernel i kept) (sym h.0) ∙ h.1.is) (ap (λ (y : ℕ). OfSlot y) h.0) (ap (λ (y : ℕ). Alone y) h.0) refl

  pub kernels_of : (md : Mode) (A : Type 0) → md ≡ AsKernel → Kernels md A → A
  kernels_of md A e k = subst (λ (d : Mode). Kernels d A) e k

  pub among_all : (s : Slot) (c : Came i kept wd s) → Contains i.slots c.slot
  among_all s c = (filter_contained (λ (y : Slot). is_running y.state) i.slots c.slot c.among).0

  -- a slot is of its thread's holder
  is_of : (md : Mode) (o : Origin) (s : Slot) (c : Came i kept wd s) → OriginOk i kept wd md o s.number s.group → IsOf i kept c.slot (party md o s.group)
  is_of AsAnyone o s c h = subst (λ g. IsOf i kept c.slot (Callers g)) (ap (λ (y : ℕ × ℕ × Option ℕ). y.1) c.same) with_group
  is_of AsKernel (Door d) s c h = subst (λ g. IsOf i kept c.slot (Callers g)) (ap (λ (y : ℕ × ℕ × Option ℕ). y.1) c.same) with_group
  is_of AsKernel (OfSlot m) s c h =
      let same : c.slot.number ≡ m = ap (λ (y : ℕ × ℕ × Option ℕ). y.0) c.same ∙ sym h.0 in
      subst (λ k. IsOf i kept c.slot (Alone k)) same (by_itself (ap (is_kernel i kept) same ∙ h.1.is))

  pub served_by : (md : Mode) (o : Origin) (s : Slot) (n : ℕ) → Came i kept wd s → OriginOk i kept wd md o s.number s.group → s.handler ≡ Some n → is_kernel i kept n ≡ true
      → ServedBy i kept n (party md o s.group)
  served_by md o s n c h e k = record {
    of_kernel = k;
    served = c.slot;
    one = among_all s c;
    handled = ap (λ (y : ℕ × ℕ × Option ℕ). y.2) c.same ∙ e;
    party = is_of md o s c h;
  }

  -- what the words of a fault are, for its handler
  pub seen_of : (md : Mode) (o : Origin) (s : Slot) (n : ℕ) (q : Pointer) → Came i kept wd s → OriginOk i kept wd md o s.number s.group → s.handler ≡ Some n → Kernels md (is_kernel i kept n ≡ true)
      → Mine i kept wd (party md o s.group) q → Seen i kept wd n q
  seen_of md o s n q c h e k (inl key) = record { kernel = λ reg next is comes. inl key; caller = λ none server among number. inl key }
  seen_of md o s n q c h e k (inr own) = record {
    kernel = λ reg next is comes. inr (wd.rules.seen_event n (party md o s.group) q reg next own (served_by md o s n c h e is) comes);
    caller = λ none server among number. inr (by md k none server among number own);
  }
    where
      by : (d : Mode) → Kernels d (is_kernel i kept n ≡ true) → is_kernel i kept n ≡ false → (server : Slot) → Contains i.slots server → server.number ≡ n → wd.Own (party d o s.group) q
          → wd.Own (Callers server.group) q
      by AsAnyone k none server among number own =
          wd.rules.served_up c.slot server q (among_all s c) among (ap (λ (y : ℕ × ℕ × Option ℕ). y.2) c.same ∙ e ∙ ap (λ (y : ℕ). Some y) (sym number)) (ap (is_kernel i kept) number ∙ none)
          (subst (λ g. wd.Own (Callers g) q) (sym (ap (λ (y : ℕ × ℕ × Option ℕ). y.1) c.same)) own)
      by AsKernel k none server among number own = let yes : is_kernel i kept n ≡ true = k in absurd (cc)

  -- what the slot that takes an event gets to have
  pub takes_mine : (md : Mode) (o : Origin) (s : Slot) (q : Pointer) (reg : ℕ) (next : Thread) → Server md o s → Came i kept wd s → Kernels md (Comes i kept o (outcome.TakesEvent reg next))
      → Seen i kept wd s.number q → Mine i kept wd (party md o s.group) q
  takes_mine md o s q reg next (of_kernel k is p e) c comes seen =
      subst (λ z. Mine i kept wd z q) (sym p) (seen.kernel reg next k (subst (λ z. Comes i kept z (outcome.TakesEvent reg next)) is (kernels_of md (Comes i kept o (outcome.TakesEvent reg next)) e comes)))
  takes_mine md o s q reg next (of_callers k p) c comes seen =
      subst (λ z. Mine i kept wd z q) (sym p)
      (subst (λ g. Mine i kept wd (Callers g) q) (ap (λ (y : ℕ × ℕ × Option ℕ). y.1) c.same)
      (seen.caller k c.slot (among_all s c) (ap (λ (y : ℕ × ℕ × Option ℕ). y.0) c.same)))

  -- a slot and the one that it has for its handler
  module _ (s of : Slot) (c : Came i kept wd s) (d : Came i kept wd of) (handled : of.handler ≡ Some s.number) where
    handler_is : d.slot.handler ≡ Some c.slot.number
    handler_is = ap (λ (y : ℕ × ℕ × Option ℕ). y.2) d.same ∙ handled ∙ ap (λ (y : ℕ). Some y) (sym (ap (λ (y : ℕ × ℕ × Option ℕ). y.0) c.same))

    no_kernel : is_kernel i kept s.number ≡ false → is_kernel i kept c.slot.number ≡ false
    no_kernel k = ap (is_kernel i kept) (ap (λ (y : ℕ × ℕ × Option ℕ). y.0) c.same) ∙ k

    up : (q : Pointer) → is_kernel i kept s.number ≡ false → wd.Own (Callers of.group) q → wd.Own (Callers s.group) q
    up q k own =
        subst (λ g. wd.Own (Callers g) q) (ap (λ (y : ℕ × ℕ × Option ℕ). y.1) c.same)
        (wd.rules.served_up d.slot c.slot q (among_all of d) (among_all s c) handler_is (no_kernel k)
        (subst (λ g. wd.Own (Callers g) q) (sym (ap (λ (y : ℕ × ℕ × Option ℕ). y.1) d.same)) own))

    down : (q : Pointer) → is_kernel i kept s.number ≡ false → wd.Own (Callers s.group) q → wd.Own (Callers of.group) q
    down q k own =
        subst (λ g. wd.Own (Callers g) q) (ap (λ (y : ℕ × ℕ × Option ℕ). y.1) d.same)
        (wd.rules.served_down d.slot c.slot q (among_all of d) (among_all s c) handler_is (no_kernel k)
        (subst (λ g. wd.Own (Callers g) q) (sym (ap (λ (y : ℕ × ℕ × Option ℕ). y.1) c.same)) own))

    -- a register that is read
    pub read_mine : (md : Mode) (o : Origin) (mu : Mode) (uo : Origin) (q : Pointer) (reg from : ℕ) (next : Thread) → Server md o s → OriginOk i kept wd mu uo of.number of.group
        → Kernels mu (is_kernel i kept s.number ≡ true) → Kernels md (Comes i kept o (outcome.ReadsServed reg from next)) → Mine i kept wd (party mu uo of.group) q
        → Mine i kept wd (party md o s.group) q
    read_mine md o mu uo q reg from next sv h held comes (inl key) = inl key
    read_mine md o mu uo q reg from next (of_kernel k is p e) h held comes (inr own) =
        inr (subst (λ z. wd.Own z q) (sym p)
        (wd.rules.seen_register s.number (party mu uo of.group) q reg from next own (served_by mu uo of s.number d h handled k)
        (subst (λ z. Comes i kept z (outcome.ReadsServed reg from next)) is (kernels_of md (Comes i kept o (outcome.ReadsServed reg from next)) e comes))))
    read_mine md o AsAnyone uo q reg from next (of_callers k p) h held comes (inr own) = inr (subst (λ z. wd.Own z q) (sym p) (up q k own))
    read_mine md o AsKernel uo q reg from next (of_callers k p) h held comes (inr own) = let yes : is_kernel i kept s.number ≡ true = held in absurd (cc)

    -- a register that is written
    pub write_mine : (md : Mode) (o : Origin) (mu : Mode) (uo : Origin) (q : Pointer) (reg : ℕ) (f : Form) → Server md o s → OriginOk i kept wd mu uo of.number of.group
        → Kernels mu (is_kernel i kept s.number ≡ true) → Kernels md (Comes i kept o (outcome.WritesServed reg f)) → Public i kept f → Holds i kept f (Ptr q)
        → Mine i kept wd (party md o s.group) q
        → Mine i kept wd (party mu uo of.group) q
    write_mine md o mu uo q reg f sv h held comes pf hf mine = by (is_key q.perm) mine
      where
        to : (z : Mode) (zo : Origin) → OriginOk i kept wd z zo of.number of.group → Kernels z (is_kernel i kept s.number ≡ true) → Server md o s → (q.perm ≡ Key → ⊥)
            → wd.Own (party md o s.group) q → wd.Own (party z zo of.group) q
        to z zo h held (of_kernel k is p e) ne own =
            wd.rules.given s.number (party z zo of.group) q reg f (subst (λ y. wd.Own y q) p own) (served_by z zo of s.number d h handled k)
            (subst (λ y. Comes i kept y (outcome.WritesServed reg f)) is (kernels_of md (Comes i kept o (outcome.WritesServed reg f)) e comes)) (hands_on f q pf hf ne)
        to AsAnyone zo h held (of_callers k p) ne own = down q k (subst (λ y. wd.Own y q) p own)
        to AsKernel zo h held (of_callers k p) ne own = let yes : is_kernel i kept s.number ≡ true = held in absurd (cc)

        by : (q.perm ≡ Key) ⊎ (q.perm ≡ Key → ⊥) → Mine i kept wd (party md o s.group) q → Mine i kept wd (party mu uo of.group) q
        by (inl key) k = inl key
        by (inr ne) k = inr (to mu uo h held sv ne (own_of i kept wd (party md o s.group) q ne k))
