-- What holds at the start of a variant.
use Rattle.std.proofs.Common.{◌≡◌, ℕ, zero, suc, ◌%◌, ◌<◌, ◌≤◌, ◌⊎◌, inl, inr, Bool, true, false, ◌&&◌, ◌==◌, nat_eq}
use Rattle.std.proofs.Common.{eqb-true, eq-eqb, if◌then◌else◌, cond, List, [], ◌∷◌, map, replicate, length, slice_get}
use Rattle.std.proofs.Common.{slice_index_or, Option, Some, None, refl, sym, ap, ◌∙◌, subst, arith}
use Rattle.std.proofs.lemmas.Bool.{and_left, and_from, or_parts, or_from, or_left, or_right, not-true, cases_lt}
use Rattle.std.proofs.{lemmas.List.{get_or_past, length-map}, Math.ListN.get_or-map}
use Rattle.std.specs.{Prelude.Contains, List.{AllByRecursion, AllZip, flat_map, list_any}}
use Rattle.std.specs.{Ordering.{nat_cmp, eq_by_cmp}, FinMap.find}
use Rattle.mm_word.specs.{declared.word.{Word.{Word, TheVariants.{Int, Ptr}}, Cell.Cell}, Perm.can_fetch}
use Rattle.mm_word.specs.Pointer.{Pointer}
use Rattle.mm_model.specs.declared.slot.SlotState.{SlotState, TheVariants.{Running, Waiting, Taken, Halted}}
use Rattle.mm_model.specs.declared.slot.Pending.{Pending}
use Rattle.mm_model.specs.Memory.{Memory, IsPaged, cell_at, cell_in, page_at, page_of, place_of}
use Rattle.mm_model.specs.{Slot.{Slot, register}, State.slot_at, Image.{Image, slot_limit, start}}
use Rattle.mm_model.specs.{Spelling.{Begins, IsFresh, IsImage}, Fits.identity_of, Turn.is_running}
use Rattle.mm_model.proofs.CoreRows.{each_contained, slots_found}
use Rattle.mm_model.proofs.Memories.{aligned, page_of_cell, page_whole, place_within, cell_at-aligned}
use Rattle.mm_model.proofs.{EffectWords.each_or, Filters.contained_filter, Starts.{start_slots, start_formed}}
use Rattle.mm_kernel.specs.Segments.{Segment, is_kept, is_fixed, may_write, pointers_in, slot_pointers, page_pointers}
use Rattle.mm_kernel.specs.Segments.{running_slots, live_pointers, runs_privileged, is_user, is_open}
use Rattle.mm_kernel.specs.declared.{form.Form.TheVariants.Any, thread.{Origin.TheVariants.Door, Thread.Thread}}
use Rattle.mm_kernel.specs.Forms.{exactly, carries, zero_form}
use Rattle.mm_kernel.specs.Threads.{form_in, handler_of, is_kernel_slot, is_kernel, serves_some, own_thread}
use Rattle.mm_kernel.specs.Facts.{hand_out, Fact.HasForm}
use Rattle.mm_kernel.specs.Derived.{Derived, Keeps, first_form, cell_facts, Derived.begins_in_cell}
use Rattle.mm_kernel.specs.Variants.{IsShared, IsAnyCaller, IsVariantSlot, stays, Variant}
use Rattle.mm_kernel.proofs.Owns.{Who.{Callers, Alone}, Mode.{AsAnyone, AsKernel}, World, KernelOf, IfPointer, each_pointer}
use Rattle.mm_kernel.proofs.Owns.{falsely, Mine, Has, Left, KeptFor}
use Rattle.mm_kernel.proofs.Values.{CleanWord, open_is_user, Fits, fits_exactly, fits_any_int, fits_number}
use Rattle.mm_kernel.proofs.Values.{public_shared, holds_exactly}
use Rattle.mm_kernel.proofs.Serves.{any_contained}
use Rattle.mm_kernel.proofs.Ups.{handed_out, each_in, each_from, each_split, each_unflat}
use Rattle.mm_kernel.proofs.{Anyone.{anyone, anyone_free, any_register}, Slots.{RunningOk, SlotOk, SlotOkAs}}
use Rattle.mm_kernel.proofs.Cores.{RowOk, RowsOk, HeldIn, WordOk, WordOkAs, MemOk}
use Rattle.mm_kernel.specs.declared.fact.Leak.TheVariants as leak

-- 1. Lists.

none_any : {A : Type 0} (p : A → Bool) (xs : List A) → list_any p xs ≡ false → AllByRecursion (λ (x : A). p x ≡ false) xs
none_any p [] e = tt
none_any p (x ∷ xs) e = let parts = or_parts (p x) (list_any p xs) e in (parts.0, none_any p xs parts.1)

any_none : {A : Type 0} (p : A → Bool) (xs : List A) → AllByRecursion (λ (x : A). p x ≡ false) xs → list_any p xs ≡ false
any_none p [] h = refl
any_none p (x ∷ xs) h = or_from (p x) (list_any p xs) h.0 (any_none p xs h.1)

each_got : {A : Type 0} (P : A → Type 0) (xs : List A) (n : ℕ) (x : A) → AllByRecursion P xs → slice_get xs n ≡ Some x → P x
each_got P [] n x h e = cc
each_got P (y ∷ xs) zero x h e = let same : y ≡ x = cc in subst P same h.0
each_got P (y ∷ xs) (suc n) x h e = each_got P xs n x h.1 e

found_page : (P : List Cell → Type 0) (es : List (ℕ × List Cell)) (q : ℕ) (cells : List Cell) → AllByRecursion (λ (e : ℕ × List Cell). P e.1) es → find nat_cmp q es ≡ Some cells → P cells
found_page P [] q cells h is = cc
found_page P (e ∷ es) q cells h is = by (eq_by_cmp nat_cmp q e.0) is (λ at. found_page P es q cells h.1 at)
  where
    by : (b : Bool) → cond b (Some e.1) (find nat_cmp q es) ≡ Some cells → (find nat_cmp q es ≡ Some cells → P cells) → P cells
    by true found later = let same : e.1 ≡ cells = cc in subst P same h.0
    by false found later = later found

got : {A : Type 0} (xs : List A) (n : ℕ) → n < length xs → (x : A) × (slice_get xs n ≡ Some x)
got [] n lt = absurd (omega arith)
got (x ∷ xs) zero lt = (x, refl)
got (x ∷ xs) (suc n) lt = got xs n (omega arith)

-- 2. What holds of each live pointer of an image.

module _ (j : Image) (P : Pointer → Type 0) (all : AllByRecursion P (live_pointers j)) where
  live_parts : AllByRecursion P (flat_map slot_pointers (running_slots j)) × AllByRecursion P (flat_map page_pointers j.memory.pages)
  unfolding live_pointers
  live_parts = each_split P (flat_map slot_pointers (running_slots j)) (flat_map page_pointers j.memory.pages) all

  pub live_slot : (s : Slot) → Contains (running_slots j) s → AllByRecursion P (slot_pointers s)
  live_slot s c = each_contained (λ (x : Slot). AllByRecursion P (slot_pointers x)) (running_slots j) s (each_unflat P slot_pointers (running_slots j) live_parts.0) c

  pub live_registers : (s : Slot) → Contains (running_slots j) s → AllByRecursion (λ (w : Word). AllByRecursion P (pointers_in w)) s.regs
  live_registers s c = each_unflat P pointers_in s.regs (live_slot s c).1

  pub live_cell : (w : ℕ) (c : Cell) → cell_at j.memory w ≡ Some c → AllByRecursion P (pointers_in c.word)
  unfolding cell_at
  live_cell w c is = by (w % 8 == 0) is
    where
      inside : (o : Option (List Cell)) → page_at j.memory (page_of w) ≡ o → cell_in o (place_of w) ≡ Some c → AllByRecursion P (pointers_in c.word)
      inside None at e = cc
      inside (Some cells) at e =
          each_got (λ (x : Cell). AllByRecursion P (pointers_in x.word)) cells (place_of w) c
          (each_unflat P (λ (x : Cell). pointers_in x.word) cells
          (found_page (λ (cs : List Cell). AllByRecursion P (flat_map (λ (x : Cell). pointers_in x.word) cs)) j.memory.pages (page_of w) cells
          (each_unflat P page_pointers j.memory.pages live_parts.1) at)) e

      by : (b : Bool) → (if b then cell_in (page_at j.memory (page_of w)) (place_of w) else None) ≡ Some c → AllByRecursion P (pointers_in c.word)
      by true e = inside (page_at j.memory (page_of w)) refl e
      by false e = cc

-- 3. Two memories with the same pages have the same words.

find_some : (ps qs : List (ℕ × List Cell)) → map (λ (e : ℕ × List Cell). e.0) ps ≡ map (λ (e : ℕ × List Cell). e.0) qs → (q : ℕ) (cells : List Cell) → find nat_cmp q ps ≡ Some cells
    → (ds : List Cell) × (find nat_cmp q qs ≡ Some ds)
find_some [] qs e q cells is = cc
find_some (x ∷ ps) [] e q cells is = cc
find_some (x ∷ ps) (y ∷ qs) e q cells is =
    let head : x.0 ≡ y.0 = cc in
    let tail : map (λ (e : ℕ × List Cell). e.0) ps ≡ map (λ (e : ℕ × List Cell). e.0) qs = cc in
    by (eq_by_cmp nat_cmp q x.0) (eq_by_cmp nat_cmp q y.0) (ap (eq_by_cmp nat_cmp q) head) is (λ k. find_some ps qs tail q cells k)
  where
    by : (b c : Bool) → b ≡ c → cond b (Some x.1) (find nat_cmp q ps) ≡ Some cells → (find nat_cmp q ps ≡ Some cells → (ds : List Cell) × (find nat_cmp q qs ≡ Some ds))
        → (ds : List Cell) × (cond c (Some y.1) (find nat_cmp q qs) ≡ Some ds)
    by true true e k rest = (y.1, refl)
    by true false e k rest = cc
    by false true e k rest = cc
    by false false e k rest = rest k

pub cell_there : (a b : Memory) → IsPaged b → map (λ (e : ℕ × List Cell). e.0) a.pages ≡ map (λ (e : ℕ × List Cell). e.0) b.pages → (w : ℕ) (c : Cell) → cell_at a w ≡ Some c
    → (d : Cell) × (cell_at b w ≡ Some d)
cell_there a b h keys w c at =
    let page = page_of_cell a w c at in
    let other = find_some a.pages b.pages keys (page_of w) page.0 page.1 in
    let whole = page_whole b h (page_of w) other.0 other.1 in
    let long = whole.cells in
    let small = place_within w in
    let cell = got other.0 (place_of w) (omega arith) in
    (cell.0, cell_at-aligned b w (aligned a w c at) ∙ (ap (λ o. cell_in o (place_of w)) other.1 ∙ cell.1))

-- 4. What the image begins with.

module _ (i : Image) (kept : List Segment) (ks : Keeps i kept) where
  pub image_users : AllByRecursion (λ (p : Pointer). runs_privileged p.perm ≡ false) (live_pointers i)
  unfolding is_user
  image_users = none_any (λ (p : Pointer). runs_privileged p.perm) (live_pointers i) (not-true (list_any (λ (p : Pointer). runs_privileged p.perm) (live_pointers i)) ks.user)

  pub live_user : (s : Slot) → Contains (running_slots i) s → runs_privileged s.ip.perm ≡ false
  live_user s c = (live_slot i (λ (p : Pointer). runs_privileged p.perm ≡ false) image_users s c).0

  own_facts : (w : ℕ) (d : Cell) → cell_at i.memory w ≡ Some d → AllByRecursion (Derived i kept) (cell_facts i kept w d.word)
  own_facts w d at = each_from (Derived i kept) (cell_facts i kept w d.word) (λ fact k. begins_in_cell w d at k)

  pub cell_shared : (w : ℕ) (d : Cell) → cell_at i.memory w ≡ Some d → is_kept kept w ≡ false → IsShared i kept d.word
  cell_shared w d at out =
      let facts : AllByRecursion (Derived i kept) (hand_out kept (exactly d.word) (leak.Cell w (exactly d.word))) =
      subst (λ b. AllByRecursion (Derived i kept) (if b then HasForm w (first_form (is_fixed i w) d.word) ∷ [] else hand_out kept (exactly d.word) (leak.Cell w (exactly d.word)))) out
      (own_facts w d at) in
      public_shared i kept (exactly d.word) d.word (handed_out i kept ks (exactly d.word) (leak.Cell w (exactly d.word)) facts) (holds_exactly i kept d.word)

  pub cell_held : (w : ℕ) (d : Cell) → cell_at i.memory w ≡ Some d → is_kept kept w ≡ true → Derived i kept (HasForm w (first_form (is_fixed i w) d.word))
  cell_held w d at is =
      (subst (λ b. AllByRecursion (Derived i kept) (if b then HasForm w (first_form (is_fixed i w) d.word) ∷ [] else hand_out kept (exactly d.word) (leak.Cell w (exactly d.word)))) is
      (own_facts w d at)).0

-- 5. The pointers of a variant.

-- what a variant's callers have, and what its words hold that are not kept, is theirs and their readers'
pub record Begun (i j : Image) (kept : List Segment) (wd : World i kept) : Type 0 where
  pub registers : (u : Slot) → Contains j.slots u → u.state ≡ Running → is_kernel i kept u.number ≡ false
      → AllByRecursion (λ (w : Word). IfPointer w (Mine i kept wd (Callers u.group))) u.regs
  pub ip : (u : Slot) → Contains j.slots u → u.state ≡ Running → is_kernel i kept u.number ≡ false → Mine i kept wd (Callers u.group) u.ip
  pub cells : (w : ℕ) (c : Cell) → cell_at j.memory w ≡ Some c → is_kept kept w ≡ false → IfPointer c.word (Left i kept wd w Any)

module _ (i j : Image) (kept : List Segment) (img : IsImage i) (jmg : IsImage j) (ks : Keeps i kept) (v : Variant i kept j) (wd : World i kept) (bg : Begun i j kept wd) where
  abbrev Spares : Pointer → Type 0
  Spares p = (w : ℕ) (c : Cell) → cell_at i.memory w ≡ Some c → is_fixed i w ≡ true → may_write w p ≡ false

  abbrev User : Pointer → Type 0
  User p = runs_privileged p.perm ≡ false

  spared : AllByRecursion Spares (live_pointers j)
  unfolding is_fixed
  spared = each_from Spares (live_pointers j) (λ p among w c at fixed.
      each_contained (λ (x : Pointer). may_write w x ≡ false) (live_pointers j) p
      (none_any (may_write w) (live_pointers j) (not-true (list_any (may_write w) (live_pointers j)) (v.fixed w c at fixed))) among)

  users : AllByRecursion User (live_pointers i)
  users = image_users i kept ks

  clean_word : (w : Word) → AllByRecursion Spares (pointers_in w) → AllByRecursion User (pointers_in w) → CleanWord i w
  clean_word (Int bits) h u = tt
  clean_word (Ptr p) h u = record { user = u.0; spares = h.0 }

  open_users : (w : Word) → is_open kept w ≡ true → AllByRecursion User (pointers_in w)
  open_users (Int bits) o = tt
  open_users (Ptr p) o = (open_is_user kept p o, tt)

  -- 6. The slots.

  running_in : (x : Image) (s : Slot) → Contains x.slots s → s.state ≡ Running → Contains (running_slots x) s
  running_in x s c e = contained_filter (λ (y : Slot). is_running y.state) x.slots s c (ap is_running e)

  fresh_of : (x : Image) → IsImage x → (s : Slot) → Contains x.slots s → IsFresh (slot_limit x.version) x.slots s
  fresh_of x h s c = each_contained (IsFresh (slot_limit x.version) x.slots) x.slots s h.fresh c

  -- a slot of the kernel
  kernel_is : (s : Slot) → Contains i.slots s → is_kernel_slot kept s ≡ true → KernelOf i kept s.number s.group
  unfolding is_kernel
  kernel_is s c e = record {
    slot = s;
    among = c;
    number = refl;
    group = refl;
    kernel = e;
    is = any_contained (λ (x : Slot). (x.number == s.number) && is_kernel_slot kept x) i.slots s c (and_from (s.number == s.number) (is_kernel_slot kept s) (eq-eqb s.number s.number refl) e);
  }

  -- nothing is owed of an exact form
  none_owed : (M : Pointer → Type 0) (w : Word) → IfPointer w (λ (p : Pointer). carries (exactly w) ≡ true → M p)
  none_owed M (Int n) = tt
  none_owed M (Ptr p) = λ o. falsely o

  -- it begins as its own thread
  kernel_begins : (s : Slot) → Contains i.slots s → Contains j.slots s → is_kernel_slot kept s ≡ true → s.state ≡ Running → RunningOk i kept wd s
  unfolding form_in register
  kernel_begins s c d kernel e =
      let among = running_in i s c e in
      let fresh = fresh_of i img s c in
      let spares = live_slot j Spares spared s (running_in j s d e) in
      let user = live_slot i User users s among in
      let long = fresh.registers in
      record {
        came = record { slot = s; among = among; same = refl };
        mode = AsKernel;
        thread = own_thread i kept s;
        next = wd.rules.begins s among;
        matches = record {
          ip = refl;
          past = sym fresh.past;
          handler = refl;
          origin = (refl, kernel_is s c kernel);
          long = length-map s.regs exactly ∙ fresh.registers;
          clean = record { user = user.0; spares = spares.0 };
          mine = λ o. falsely o;
          registers = λ r ready.
              subst (λ f. Fits i kept (Has i kept wd (Alone s.number) AsKernel) f (slice_index_or s.regs r (Int 0))) (sym (get_or-map exactly s.regs r (Int 0)))
              (fits_exactly i kept (Has i kept wd (Alone s.number) AsKernel) (slice_index_or s.regs r (Int 0)) (each_or (CleanWord i) s.regs r (Int 0) (cleans s c d e) tt)
              (none_owed (Mine i kept wd (Alone s.number)) (slice_index_or s.regs r (Int 0))));
          pending = subst (AllByRecursion (λ (p : Pending). Fits i kept (Has i kept wd (Alone s.number) AsKernel) (form_in (own_thread i kept s) p.reg) p.word)) (sym fresh.pending) tt;
        };
      }
    where
      both : (ws : List Word) → AllByRecursion (λ (w : Word). AllByRecursion Spares (pointers_in w)) ws → AllByRecursion (λ (w : Word). AllByRecursion User (pointers_in w)) ws
          → AllByRecursion (CleanWord i) ws
      both [] h u = tt
      both (w ∷ ws) h u = (clean_word w h.0 u.0, both ws h.1 u.1)

      cleans : (s : Slot) → Contains i.slots s → Contains j.slots s → s.state ≡ Running → AllByRecursion (CleanWord i) s.regs
      cleans s c d e = both s.regs (live_registers j Spares spared s (running_in j s d e)) (live_registers i User users s (running_in i s c e))

  -- numbers are of one slot each
  one_slot : (s x : Slot) → Contains i.slots s → Contains i.slots x → x.number ≡ s.number → x ≡ s
  one_slot s x c d e =
      let found : AllByRecursion (λ (y : Slot). slot_at (start i).core y.number ≡ Some y) i.slots = subst (AllByRecursion (λ (y : Slot). slot_at (start i).core y.number ≡ Some y))
      (start_slots i) (slots_found (start i).core (start_formed i img.rising img.fresh).rising) in
      let a = each_contained (λ (y : Slot). slot_at (start i).core y.number ≡ Some y) i.slots s found c in
      let b = each_contained (λ (y : Slot). slot_at (start i).core y.number ≡ Some y) i.slots x found d in
      let two : ◌≡◌ {A = Option Slot} (Some x) (Some s) = sym b ∙ ap (slot_at (start i).core) e ∙ a in
      cc

  pub not_kernel : (s : Slot) → Contains i.slots s → is_kernel_slot kept s ≡ false → is_kernel i kept s.number ≡ false
  unfolding is_kernel
  not_kernel s c e =
      any_none (λ (x : Slot). (x.number == s.number) && is_kernel_slot kept x) i.slots
      (each_from (λ (x : Slot). ((x.number == s.number) && is_kernel_slot kept x) ≡ false) i.slots (λ x d. by x d (nat_eq x.number s.number) refl))
    where
      by : (x : Slot) → Contains i.slots x → (b : Bool) → nat_eq x.number s.number ≡ b → (b && is_kernel_slot kept x) ≡ false
      by x d true at = ap (is_kernel_slot kept) (one_slot s x c d (eqb-true x.number s.number at)) ∙ e
      by x d false at = refl

  caller_begins : (s u : Slot) → Contains i.slots s → Contains j.slots u → identity_of u ≡ identity_of s → s.state ≡ Running → u.state ≡ Running → is_kernel_slot kept s ≡ false
      → IsAnyCaller i kept u → RunningOk i kept wd u
  unfolding form_in register
  caller_begins s u c d same on run k h =
      let among = running_in j u d run in
      let fresh = fresh_of j jmg u d in
      let t : Thread = record { origin = Door u.ip; handler = handler_of i kept u.handler; ip = u.ip; past = u.past; forms = [] } in
      let user : runs_privileged u.ip.perm ≡ false = ap runs_privileged h.executable in
      let number : u.number ≡ s.number = ap (λ (x : ℕ × ℕ × Option ℕ). x.0) same in
      let none : is_kernel i kept u.number ≡ false = ap (is_kernel i kept) number ∙ not_kernel s c k in
      record {
        came = record { slot = s; among = running_in i s c on; same = sym same };
        mode = AsAnyone;
        thread = anyone t;
        next = anyone_free i kept wd t h.outside user (ap can_fetch h.executable);
        matches = record {
          ip = refl;
          past = refl;
          handler = refl;
          origin = and_left (is_kernel i kept u.number) (serves_some i u.number) none;
          long = refl;
          clean = record { user = user; spares = (live_slot j Spares spared u among).0 };
          mine = λ o. bg.ip u d run none;
          registers = λ r ready. one t r (cases_lt r 16) fresh.registers
              (each_or (λ (w : Word). Fits i kept (Has i kept wd (Callers u.group) AsAnyone) Any w) u.regs r (Int 0)
              (fits u.regs h.registers (live_registers j Spares spared u among) (bg.registers u d run none)) (fits_any_int i kept (Has i kept wd (Callers u.group) AsAnyone) 0));
          pending = subst (AllByRecursion (λ (p : Pending). Fits i kept (Has i kept wd (Callers u.group) AsAnyone) (form_in (anyone t) p.reg) p.word)) (sym fresh.pending) tt;
        };
      }
    where
      fits : (ws : List Word) → AllByRecursion (IsShared i kept) ws → AllByRecursion (λ (w : Word). AllByRecursion Spares (pointers_in w)) ws
          → AllByRecursion (λ (w : Word). IfPointer w (Mine i kept wd (Callers u.group))) ws → AllByRecursion (λ (w : Word). Fits i kept (Has i kept wd (Callers u.group) AsAnyone) Any w) ws
      fits [] h p own = tt
      fits (w ∷ ws) h p own = (
        record {
          holds = h.0;
          clean = clean_word w p.0 (open_users w h.0.open_word);
          mine = each_pointer (Mine i kept wd (Callers u.group)) (Has i kept wd (Callers u.group) AsAnyone Any) (λ q k o. k) w own.0;
        },
        fits ws h.1 p.1 own.1,
      )

      one : (t : Thread) (r : ℕ) → (r < 16) ⊎ (16 ≤ r) → length u.regs ≡ 16 → Fits i kept (Has i kept wd (Callers u.group) AsAnyone) Any (slice_index_or u.regs r (Int 0))
          → Fits i kept (Has i kept wd (Callers u.group) AsAnyone) (slice_index_or (replicate 16 Any) r zero_form) (slice_index_or u.regs r (Int 0))
      one t r (inl lt) long f = subst (λ x. Fits i kept (Has i kept wd (Callers u.group) AsAnyone) x (slice_index_or u.regs r (Int 0))) (sym (any_register t r lt)) f
      one t r (inr le) long f =
          subst (λ x. Fits i kept (Has i kept wd (Callers u.group) AsAnyone) x (slice_index_or u.regs r (Int 0))) (sym (get_or_past (replicate 16 Any) r zero_form (omega arith)))
          (subst (λ x. Fits i kept (Has i kept wd (Callers u.group) AsAnyone) zero_form x) (sym (get_or_past u.regs r (Int 0) (omega arith))) (fits_number i kept (Has i kept wd (Callers u.group) AsAnyone) 0))

  slot_begins : (s u : Slot) → Contains i.slots s → Contains j.slots u → IsVariantSlot i kept s u → SlotOk i kept wd u
  slot_begins s u c d h = by u.state refl (fresh_of j jmg u d).begins
    where
      caller : (b : Bool) → is_kernel_slot kept s ≡ b → u.state ≡ Running → RunningOk i kept wd u
      caller true e run =
          let same : u ≡ s = h.other (ap (λ z. if z then false else is_running s.state) e) in
          subst (RunningOk i kept wd) (sym same) (kernel_begins s c (subst (Contains j.slots) same d) e (sym h.state ∙ run))
      caller false e run =
          let on : s.state ≡ Running = sym h.state ∙ run in
          caller_begins s u c d h.identity on run e (h.caller (ap (λ z. if z then false else is_running s.state) e ∙ ap is_running on))

      by : (st : SlotState) → u.state ≡ st → Begins st → SlotOkAs i kept wd u st
      by Running e b = caller (is_kernel_slot kept s) refl e
      by Waiting e b = absurd b
      by Taken e b = absurd b
      by (Halted c) e b = tt

  rows_begin : (xs ys : List Slot) → AllZip (IsVariantSlot i kept) xs ys → AllByRecursion (Contains i.slots) xs → AllByRecursion (Contains j.slots) ys
      → AllByRecursion (RowOk i kept wd) (map (λ (s : Slot). record { slot = s; queue = [] }) ys)
  rows_begin [] [] z h k = tt
  rows_begin [] (y ∷ ys) z h k = absurd z
  rows_begin (x ∷ xs) [] z h k = absurd z
  rows_begin (x ∷ xs) (y ∷ ys) z h k = (record { slot = slot_begins x y h.0 k.0 z.0; queue = tt }, rows_begin xs ys z.1 h.1 k.1)

  pub start_rows : RowsOk i kept wd (start j).core
  unfolding start
  start_rows = rows_begin i.slots j.slots v.slots (each_in i.slots) (each_in j.slots)

  -- 7. The cells.

  there : (w : ℕ) (c : Cell) → cell_at j.memory w ≡ Some c → (d : Cell) × (cell_at i.memory w ≡ Some d)
  there w c at = cell_there j.memory i.memory img.paged v.pages w c at

  back : (w : ℕ) (c : Cell) → cell_at i.memory w ≡ Some c → (d : Cell) × (cell_at j.memory w ≡ Some d)
  back w c at = cell_there i.memory j.memory jmg.paged (sym v.pages) w c at

  same_cell : (w : ℕ) (c d : Cell) → cell_at j.memory w ≡ Some c → cell_at i.memory w ≡ Some d → stays i kept w ≡ true → d ≡ c
  same_cell w c d at was st = let now = v.same w d was st in cc

  spared_cell : (w : ℕ) (c : Cell) → cell_at j.memory w ≡ Some c → AllByRecursion Spares (pointers_in c.word)
  spared_cell w c at = live_cell j Spares spared w c at

  user_cell : (w : ℕ) (d : Cell) → cell_at i.memory w ≡ Some d → AllByRecursion User (pointers_in d.word)
  user_cell w d at = live_cell i User users w d at

  first_fits : (w : ℕ) (b : Bool) (v : Word) → CleanWord i v → Fits i kept (KeptFor i kept wd w) (first_form b v) v
  first_fits w true (Int n) h = record { holds = refl; clean = tt; mine = tt }
  first_fits w false (Int n) h = record { holds = refl; clean = tt; mine = tt }
  first_fits w true (Ptr p) h = record { holds = refl; clean = h; mine = λ carried. falsely carried }
  first_fits w false (Ptr p) h = record { holds = refl; clean = h; mine = λ carried. falsely carried }

  cell_begins : (w : ℕ) (c : Cell) → cell_at j.memory w ≡ Some c → WordOk i kept wd w c.word
  cell_begins w c at = by (is_kept kept w) (is_fixed i w) refl refl
    where
      was : (d : Cell) × (cell_at i.memory w ≡ Some d)
      was = there w c at

      clean_same : stays i kept w ≡ true → CleanWord i was.0.word
      clean_same st =
          let same : was.0 ≡ c = same_cell w c was.0 at was.1 st in
          clean_word was.0.word (subst (λ (x : Cell). AllByRecursion Spares (pointers_in x.word)) (sym same) (spared_cell w c at)) (user_cell w was.0 was.1)

      by : (b e : Bool) → is_kept kept w ≡ b → is_fixed i w ≡ e → WordOkAs i kept wd (is_kept kept w) w c.word
      by true e is fx =
          let st : stays i kept w ≡ true = or_left (is_kept kept w) (is_fixed i w) is in
          let same : was.0 ≡ c = same_cell w c was.0 at was.1 st in
          subst (λ z. WordOkAs i kept wd z w c.word) (sym is)
          (subst (λ (x : Cell). HeldIn i kept wd w x.word) same
          (record { form = first_form (is_fixed i w) was.0.word; derived = cell_held i kept ks w was.0 was.1 is; fits = first_fits w (is_fixed i w) was.0.word (clean_same st) }))
      by false true is fx =
          let st : stays i kept w ≡ true = or_right (is_kept kept w) (is_fixed i w) fx in
          let same : was.0 ≡ c = same_cell w c was.0 at was.1 st in
          subst (λ z. WordOkAs i kept wd z w c.word) (sym is)
          (record {
            holds = subst (λ (x : Cell). IsShared i kept x.word) same (cell_shared i kept ks w was.0 was.1 is);
            clean = subst (λ (x : Cell). CleanWord i x.word) same (clean_same st);
            mine = bg.cells w c at is;
          })
      by false false is fx =
          let shared = v.others w c at (or_from (is_kept kept w) (is_fixed i w) is fx) in
          subst (λ z. WordOkAs i kept wd z w c.word) (sym is)
          (record { holds = shared; clean = clean_word c.word (spared_cell w c at) (open_users c.word shared.open_word); mine = bg.cells w c at is })

  pub start_cells : MemOk i kept wd (start j).memory
  unfolding start
  start_cells = record {
    cells = cell_begins;
    fixed = λ w c at fx. v.same w c at (or_right (is_kept kept w) (is_fixed i w) fx);
    there = there;
    back = back;
  }
