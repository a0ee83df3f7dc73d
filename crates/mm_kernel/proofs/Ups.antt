-- What follows from what a derived thread can come to, where no leak is derived.
use Rattle.std.proofs.Common.{◌≡◌, ℕ, suc, ◌+◌, ◌<◌, ◌⊎◌, inl, inr, Bool, true, false, not, if◌then◌else◌, List, []}
use Rattle.std.proofs.Common.{◌∷◌, ◌++◌, length, slice_index_or, Some, refl, subst, arith}
use Rattle.std.proofs.lemmas.Bool.{and_parts, and_from, not-true, not_from_false}
use Rattle.std.proofs.lemmas.List.FromFn.{length-range_with_len, get_or-range_with_len}
use Rattle.std.specs.{Prelude.Contains, List.{AllByRecursion, flat_map, list_all, range_with_len}}
use Rattle.mm_word.specs.declared.word.Cell.{Cell}
use Rattle.mm_model.{specs.{Memory.cell_at, Image.Image}, proofs.{CoreRows.{each_map, each_get}, EffectWords.each_or}}
use Rattle.mm_kernel.specs.Segments.{Segment, lies_in, is_kept, meets}
use Rattle.mm_kernel.specs.declared.fact.{Leak.{Leak, TheVariants.{Jump, FaultPointer, Fault}}, Handling.Handling}
use Rattle.mm_kernel.specs.declared.{form.{Form.{Form, TheVariants.{Pointer as Exactly}}}, outcome.Outcome.Outcome}
use Rattle.mm_kernel.specs.declared.thread.Handler.{Handler, TheVariants.{Nobody, Kernel, Caller}}
use Rattle.mm_kernel.specs.declared.thread.{Origin.{TheVariants.{Slot as OfSlot}}, Thread.Thread}
use Rattle.mm_kernel.specs.{Forms.{is_open_form, zero_form}, Threads.{form_in, with_form, is_free}}
use Rattle.mm_kernel.specs.Facts.{Fact, let_out, hand_out, loose, take_up}
use Rattle.mm_kernel.specs.Facts.Fact.{HasThread, HasForm, HasEvent, HasFaulted, HasLeak}
use Rattle.mm_kernel.specs.Turns.{outcomes, with_event}
use Rattle.mm_kernel.specs.Derived.{Derived, Keeps, outcome_facts, fault_facts, shown, register_shown, register_left}
use Rattle.mm_kernel.specs.Derived.{resumed}
use Rattle.mm_kernel.specs.Derived.Derived.{turns, stores, writes_served}
use Rattle.mm_kernel.proofs.{Owns.{Mode, Mode.{AsAnyone, AsKernel}, World, Up, Comes, Kernels, Only}, Values.{Public, public_number}}
use Rattle.mm_kernel.specs.declared.outcome.Outcome.TheVariants as outcome

-- 1. Lists.

pub each_in : {A : Type 0} (xs : List A) → AllByRecursion (Contains xs) xs
each_in [] = tt
each_in (x ∷ xs) = (
  (0, omega arith, refl),
  each_map (Contains xs) (Contains (x ∷ xs)) (λ y c. (suc c.0, omega (arith, c.1), c.2)) xs (each_in xs),
)

pub each_from : {A : Type 0} (P : A → Type 0) (xs : List A) → ((x : A) → Contains xs x → P x) → AllByRecursion P xs
each_from P xs f = each_map (Contains xs) P f xs (each_in xs)

pub each_split : {A : Type 0} (P : A → Type 0) (xs ys : List A) → AllByRecursion P (xs ++ ys) → AllByRecursion P xs × AllByRecursion P ys
each_split P [] ys h = (tt, h)
each_split P (x ∷ xs) ys h = let r = each_split P xs ys h.1 in ((h.0, r.0), r.1)

pub each_join : {A : Type 0} (P : A → Type 0) (xs ys : List A) → AllByRecursion P xs → AllByRecursion P ys → AllByRecursion P (xs ++ ys)
each_join P [] ys h k = k
each_join P (x ∷ xs) ys h k = (h.0, each_join P xs ys h.1 k)

pub each_flat : {A B : Type 0} (P : B → Type 0) (f : A → List B) (xs : List A) → AllByRecursion (λ (x : A). AllByRecursion P (f x)) xs → AllByRecursion P (flat_map f xs)
each_flat P f [] h = tt
each_flat P f (x ∷ xs) h = each_join P (f x) (flat_map f xs) h.0 (each_flat P f xs h.1)

pub each_unflat : {A B : Type 0} (P : B → Type 0) (f : A → List B) (xs : List A) → AllByRecursion P (flat_map f xs) → AllByRecursion (λ (x : A). AllByRecursion P (f x)) xs
each_unflat P f [] h = tt
each_unflat P f (x ∷ xs) h = let r = each_split P (f x) (flat_map f xs) h in (r.0, each_unflat P f xs r.1)

-- what holds of each number below 16
pub each_register : (P : ℕ → Type 0) → AllByRecursion P (range_with_len 0 16) → (r : ℕ) → r < 16 → P r
each_register P h r lt =
    let long : length (range_with_len 0 16) ≡ 16 = length-range_with_len 0 16 in
    let at : slice_index_or (range_with_len 0 16) r 0 ≡ 0 + r = get_or-range_with_len 0 16 r 0 lt in
    let same : slice_index_or (range_with_len 0 16) r 0 ≡ r = omega arith in
    subst P same (each_get P (range_with_len 0 16) r 0 h (omega arith))

pub all_from : {A : Type 0} (p : A → Bool) (xs : List A) (d : A) → ((r : ℕ) → r < length xs → p (slice_index_or xs r d) ≡ true) → list_all p xs ≡ true
all_from p [] d f = refl
all_from p (x ∷ xs) d f = and_from (p x) (list_all p xs) (f 0 (omega arith)) (all_from p xs d (λ r lt. f (suc r) (omega arith)))

-- 2. A thread that is taken up.

pub record Free (i : Image) (kept : List Segment) (t : Thread) : Type 0 where
  pub outside : meets kept t.ip ≡ false
  pub forms : AllByRecursion (Public i kept) t.forms
  pub fast : AllByRecursion (Derived i kept) (loose i kept t.origin)

pub record Bound (i : Image) (kept : List Segment) (t : Thread) : Type 0 where
  pub not_free : is_free kept t ≡ false
  pub derived : Derived i kept (HasThread t)

module _ (i : Image) (kept : List Segment) where
  publics : (fs : List Form) → list_all (is_open_form kept) fs ≡ true → AllByRecursion (Derived i kept) (flat_map (let_out kept) fs) → AllByRecursion (Public i kept) fs
  publics [] e h = tt
  publics (f ∷ fs) e h =
      let parts = and_parts (is_open_form kept f) (list_all (is_open_form kept) fs) e in
      let r = each_split (Derived i kept) (let_out kept f) (flat_map (let_out kept) fs) h in
      (record { open_form = parts.0; out = r.0 }, publics fs parts.1 r.1)

  opens : (fs : List Form) → AllByRecursion (Public i kept) fs → list_all (is_open_form kept) fs ≡ true
  opens [] h = refl
  opens (f ∷ fs) h = and_from (is_open_form kept f) (list_all (is_open_form kept) fs) h.0.open_form (opens fs h.1)

  pub free_is : (t : Thread) → Free i kept t → is_free kept t ≡ true
  unfolding is_free
  free_is t h = and_from (not (meets kept t.ip)) (list_all (is_open_form kept) t.forms) (not_from_false (meets kept t.ip) h.outside) (opens t.forms h.forms)

  pub up_cases : (t : Thread) → Up i kept t → Free i kept t ⊎ Bound i kept t
  unfolding take_up is_free
  up_cases t h = by (is_free kept t) refl h
    where
      by : (b : Bool) → is_free kept t ≡ b → AllByRecursion (Derived i kept) (if b then flat_map (let_out kept) t.forms ++ loose i kept t.origin else HasThread t ∷ []) → Free i kept t ⊎ Bound i kept t
      by true e k =
          let parts = and_parts (not (meets kept t.ip)) (list_all (is_open_form kept) t.forms) e in
          let r = each_split (Derived i kept) (flat_map (let_out kept) t.forms) (loose i kept t.origin) k in
          inl (record { outside = not-true (meets kept t.ip) parts.0; forms = publics t.forms parts.1 r.0; fast = r.1 })
      by false e k = inr (record { not_free = e; derived = k.0 })

  pub free_form : (t : Thread) → Free i kept t → (r : ℕ) → Public i kept (form_in t r)
  unfolding form_in
  free_form t h r = each_or (Public i kept) t.forms r zero_form h.forms (public_number i kept 0)

-- 3. What follows from an outcome.

abbrev pub ByHandler : Image → List Segment → Thread → Handler → Form → Form → Type 0
ByHandler i kept t Nobody address value = Unit {0}
ByHandler i kept t (Kernel h) address value =
    Derived i kept (HasEvent h (record { ip = Exactly t.ip; address = address; value = value })) × Derived i kept (HasFaulted h t)
ByHandler i kept t Caller address value = ⊥

-- how a thread goes on: anyone's is free, and the kernel's is taken up
abbrev pub Next : (i : Image) (kept : List Segment) → World i kept → Mode → Thread → Type 0
Next i kept wd AsAnyone t = Free i kept t
Next i kept wd AsKernel t = wd.Taken t

abbrev pub Faulty : Image → List Segment → Mode → Thread → Form → Form → Type 0
Faulty i kept AsAnyone t address value = Free i kept t
Faulty i kept AsKernel t address value = ByHandler i kept t t.handler address value

abbrev pub Follows : (i : Image) (kept : List Segment) → World i kept → Mode → Thread → Outcome → Type 0
Follows i kept wd md t (outcome.Goes next) = Next i kept wd md next
Follows i kept wd md t (outcome.Loads part reg next) =
    Only md (Comes i kept t.origin (outcome.Loads part reg next))
    × ((w : ℕ) (f : Form) → Derived i kept (HasForm w f) → lies_in w part ≡ true → Next i kept wd md (with_form next reg f))
    × Only md (Contains (outcomes i kept t) (outcome.Loads part reg next))
Follows i kept wd md t (outcome.Stores part f) =
    Only md (Comes i kept t.origin (outcome.Stores part f))
    × ((w : ℕ) (c : Cell) → cell_at i.memory w ≡ Some c → is_kept kept w ≡ true → lies_in w part ≡ true → Derived i kept (HasForm w f))
    × Only md (Contains (outcomes i kept t) (outcome.Stores part f))
Follows i kept wd md t (outcome.HandsOut form leak) = Kernels md (Comes i kept t.origin (outcome.HandsOut form leak)) × Public i kept form
Follows i kept wd md t (outcome.Leaves linked) =
    Kernels md (Comes i kept t.origin (outcome.Leaves linked)) × ((r : ℕ) → r < 16 → Public i kept (form_in linked r)) × AllByRecursion (Derived i kept) (loose i kept linked.origin)
Follows i kept wd md t (outcome.Leaks leak) = ⊥
Follows i kept wd md t (outcome.Faults address value) = Faulty i kept md t address value
Follows i kept wd md t (outcome.TakesEvent reg next) =
    Kernels md (Comes i kept t.origin (outcome.TakesEvent reg next))
    × ((h : ℕ) (e : Handling) → t.origin ≡ OfSlot h → Derived i kept (HasEvent h e) → Next i kept wd md (with_event next reg e.ip e.address e.value))
Follows i kept wd md t (outcome.Resumes how) = (h : ℕ) (u next : Thread) → t.origin ≡ OfSlot h → Derived i kept (HasFaulted h u) → Contains (resumed how u) next → wd.Taken next
Follows i kept wd md t (outcome.ReadsServed reg from next) =
    Kernels md (Comes i kept t.origin (outcome.ReadsServed reg from next))
    × ((h : ℕ) (u : Thread) → t.origin ≡ OfSlot h → Derived i kept (HasFaulted h u) → Next i kept wd md (with_form next reg (form_in u from)))
Follows i kept wd md t (outcome.WritesServed reg f) =
    Kernels md (Comes i kept t.origin (outcome.WritesServed reg f))
    × ((h : ℕ) (u : Thread) → t.origin ≡ OfSlot h → Derived i kept (HasFaulted h u) → Derived i kept (HasFaulted h (with_form u reg f)))

module _ (i : Image) (kept : List Segment) (ks : Keeps i kept) where
  -- what is handed out is public
  handed : (f : Form) (leak : Leak) → AllByRecursion (Derived i kept) (hand_out kept f leak) → Public i kept f
  unfolding hand_out
  handed f leak h = by (is_open_form kept f) refl h
    where
      by : (b : Bool) → is_open_form kept f ≡ b → AllByRecursion (Derived i kept) (if b then let_out kept f else HasLeak leak ∷ []) → Public i kept f
      by true e k = record { open_form = e; out = k }
      by false e k = absurd (ks.no_leak leak k.0)

  pub handed_out : (f : Form) (leak : Leak) → AllByRecursion (Derived i kept) (hand_out kept f leak) → Public i kept f
  handed_out = handed

  module _ (wd : World i kept) (t : Thread) (long : length t.forms ≡ 16) (bound : Bound i kept t) where
    facts : (o : Outcome) → Contains (outcomes i kept t) o → AllByRecursion (Derived i kept) (outcome_facts i kept t o)
    facts o c = each_from (Derived i kept) (outcome_facts i kept t o) (λ fact k. turns t o bound.derived c k)

    -- all of a thread that a caller handles is seen, so it is free
    shown_free : AllByRecursion (Derived i kept) (shown kept t) → is_free kept t ≡ true
    unfolding is_free form_in
    shown_free h =
        let first : List Fact = if meets kept t.ip then HasLeak (FaultPointer t.ip.addr) ∷ [] else [] in
        let parts = each_split (Derived i kept) first (flat_map (register_shown kept t) (range_with_len 0 16)) h in
        let regs = each_unflat (Derived i kept) (register_shown kept t) (range_with_len 0 16) parts.1 in
        and_from (not (meets kept t.ip)) (list_all (is_open_form kept) t.forms) (not_from_false (meets kept t.ip) (out (meets kept t.ip) refl parts.0))
        (all_from (is_open_form kept) t.forms zero_form
        (λ r lt. shown_open r (is_open_form kept (form_in t r)) refl (each_register (λ (x : ℕ). AllByRecursion (Derived i kept) (register_shown kept t x)) regs r (omega arith))))
      where
        out : (b : Bool) → meets kept t.ip ≡ b → AllByRecursion (Derived i kept) (if b then HasLeak (FaultPointer t.ip.addr) ∷ [] else []) → meets kept t.ip ≡ false
        out true e k = absurd (ks.no_leak (FaultPointer t.ip.addr) k.0)
        out false e k = e

        shown_open : (r : ℕ) (b : Bool) → is_open_form kept (form_in t r) ≡ b → AllByRecursion (Derived i kept) (if b then [] else HasLeak (Fault t.ip.addr r (form_in t r)) ∷ [])
            → is_open_form kept (form_in t r) ≡ true
        shown_open r true e k = e
        shown_open r false e k = absurd (ks.no_leak (Fault t.ip.addr r (form_in t r)) k.0)

    handles : (h : Handler) (a v : Form) → AllByRecursion (Derived i kept) (fault_facts kept t h a v) → ByHandler i kept t h a v
    handles Nobody a v k = tt
    handles (Kernel h) a v k = (k.0, k.1.0)
    handles Caller a v k = let yes = shown_free k in let no = bound.not_free in cc

    pub comes : (o : Outcome) → Contains (outcomes i kept t) o → Comes i kept t.origin o
    comes o c = record { thread = t; derived = bound.derived; origin = refl; comes = c }

    -- each outcome of a derived thread has what follows from it
    pub derived_follows : (o : Outcome) → Contains (outcomes i kept t) o → Follows i kept wd AsKernel t o
    derived_follows (outcome.Goes next) c = wd.rules.goes t next bound.derived c
    derived_follows (outcome.Loads part reg next) c = (comes (outcome.Loads part reg next) c, (λ w f held inside. wd.rules.loads t next part reg w f bound.derived c held inside), c)
    derived_follows (outcome.Stores part f) c = (comes (outcome.Stores part f) c, (λ w cell at k inside. stores t part w cell f bound.derived c at k inside), c)
    derived_follows (outcome.HandsOut form leak) c = (comes (outcome.HandsOut form leak) c, handed form leak (facts (outcome.HandsOut form leak) c))
    derived_follows (outcome.Leaves linked) c =
        let parts = each_split (Derived i kept) (flat_map (register_left kept linked) (range_with_len 0 16)) (loose i kept linked.origin) (facts (outcome.Leaves linked) c) in
        let regs = each_unflat (Derived i kept) (register_left kept linked) (range_with_len 0 16) parts.0 in (
          comes (outcome.Leaves linked) c,
          (λ r lt. handed (form_in linked r) (Jump linked.ip.addr r (form_in linked r)) (each_register (λ (x : ℕ). AllByRecursion (Derived i kept) (register_left kept linked x)) regs r lt)),
          parts.1,
        )
    derived_follows (outcome.Leaks leak) c = ks.no_leak leak (facts (outcome.Leaks leak) c).0
    derived_follows (outcome.Faults address value) c = handles t.handler address value (facts (outcome.Faults address value) c)
    derived_follows (outcome.TakesEvent reg next) c = (comes (outcome.TakesEvent reg next) c, (λ h e from held. wd.rules.takes t next h reg e bound.derived from c held))
    derived_follows (outcome.Resumes how) c = λ h u next from held among. wd.rules.resumes t u next h how bound.derived from c held among
    derived_follows (outcome.ReadsServed reg from next) c =
        (comes (outcome.ReadsServed reg from next) c, (λ h u own held. wd.rules.reads t u next h reg from bound.derived own c held))
    derived_follows (outcome.WritesServed reg f) c = (comes (outcome.WritesServed reg f) c, (λ h u from held. writes_served t u h reg f bound.derived from c held))

    pub all_follow : AllByRecursion (Follows i kept wd AsKernel t) (outcomes i kept t)
    all_follow = each_from (Follows i kept wd AsKernel t) (outcomes i kept t) derived_follows
