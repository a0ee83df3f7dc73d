-- What is listed of threads is what they do, and all of it.
use Rattle.std.proofs.Common.{◌≡◌, ◌⊎◌, inl, inr, ℕ, zero, suc, ◌<◌, Bool, true, false, not, if◌then◌else◌, List, [], ◌∷◌, ◌++◌}
use Rattle.std.proofs.Common.{Option, Some, None, refl, sym, ap, ◌∙◌, subst, arith, eq-eqb, eqb-true}
use Rattle.std.proofs.lemmas.{Bool.{and_parts, and_from, not-true, not_from_false}, List.get_or_default}
use Rattle.std.proofs.lemmas.List.Elements.{Contains-append_left, Contains-append_right}
use Rattle.std.specs.{Prelude.{Contains, slice_index_or, slice_set}, List.{AllByRecursion, flat_map, list_all}}
use Rattle.mm_word.specs.{Pointer.{Pointer as PointerValue, enter_result}, declared.word.Word.{Word, TheVariants.{Int, Ptr}}}
use Rattle.mm_isa.specs.declared.instr.How.{How}
use Rattle.mm_model.specs.{Slot.Slot, Image.Image, Turn.is_running, Spelling.IsImage}
use Rattle.mm_model.proofs.CoreRows.{each_contained}
use Rattle.mm_kernel.specs.Segments.{Segment, is_door, is_fixed, is_open_pointer, lies_in, meets}
use Rattle.mm_kernel.specs.declared.fact.{Leak.Leak}
use Rattle.mm_kernel.specs.declared.form.Form.{Form}
use Rattle.mm_kernel.specs.declared.form.Form.TheVariants.{Number, Pointer as Exactly, Integer, Open, Any, Inside}
use Rattle.mm_kernel.specs.declared.thread.Origin.{Origin, TheVariants.{Door, Slot as OfSlot}}
use Rattle.mm_kernel.specs.declared.{outcome.Outcome.Outcome, thread.Thread.Thread}
use Rattle.mm_kernel.specs.{Forms.{is_open_form, zero_form}, Turns.{outcomes, with_event}}
use Rattle.mm_kernel.specs.Threads.{form_in, with_form, own_thread, thread_through, handler_of, is_free}
use Rattle.mm_kernel.specs.Facts.Fact.{HasThread, HasForm, HasDoor, HasEvent, HasFaulted}
use Rattle.mm_kernel.specs.Derived.{Derived, HasFirst, first_form, resumed, Derived.{stores as derived_stores}}
use Rattle.mm_kernel.proofs.Ups.{each_from, each_join, each_flat, up_cases, free_is}
use Rattle.mm_span.proofs.Members.{in_first, in_flat, flat_in, in_filter, filter_in}
use Rattle.mm_keep.specs.Searching.{comes_from}
use Rattle.mm_confine.specs.Taken.{TakenUp, TakenUp.{begins, enters, goes, loads, takes, resumes, reads_served}}
use Rattle.mm_confine.specs.Conduct.{carries, HasExactly, HasExactly.{runs_by, in_register}, ComesTo, SeesServed}
use Rattle.mm_confine.specs.Conduct.{GoesOn, GoesOn.{comes_free, leaves}, LetsOut.{by_going, by_hand}}
use Rattle.mm_confine.specs.Conduct.SeesServed.{takes_event, reads_register}
use Rattle.mm_confine.proofs.Taken.{taken_derived, derived_taken}
use Rattle.mm_hold.specs.declared.deed.Deed.{Deed}
use Rattle.mm_hold.specs.Deeds.{is_plain, plain_deeds, plain_in, had, door_in, goes_on, left, taken, handed, handed_by}
use Rattle.mm_hold.specs.Deeds.{handed_out, used_in, used, stored_in, loaded_with, loaded, took, went_on, read, sees}
use Rattle.mm_hold.specs.Deeds.{Findings, done_by, thread_deeds, slot_deeds, entry_deeds, entered_by, begin_deeds}
use Rattle.mm_hold.specs.Deeds.{all_deeds, carrying_in}
use Rattle.mm_hold.specs.Conducts.{AreFindings, AreDeeds, Means, HasOrLets, HasOrLets.{has, lets}, IsCarrying, StoresInside}
use Rattle.mm_hold.specs.Conducts.{Sends, Gives}
use Rattle.mm_hold.proofs.{Listing.{if_in, in_if, only_in}, Like.{outcome_like, SameForm}}
use Rattle.mm_hold.proofs.Long.{Long, thread_long, form_held, taken_long}
use Rattle.mm_hold.specs.declared.deed.Deed.TheVariants as deed
use Rattle.mm_kernel.specs.declared.fact.Leak.TheVariants as leak
use Rattle.mm_kernel.specs.declared.outcome.Outcome.TheVariants as outcome

-- 1. Forms, origins and lists.

forms_at : (fs : List Form) (r : ℕ) (q : PointerValue) → slice_index_or fs r zero_form ≡ Exactly q → Contains fs (Exactly q)
forms_at [] r q e = cc
forms_at (g ∷ fs) zero q e = subst (Contains (g ∷ fs)) e (in_first g fs)
forms_at (g ∷ fs) (suc r) q e = let h = forms_at fs r q e in let lt = h.1 in (suc h.0, omega (arith, lt), h.2)

pub has_form : (t : Thread) (r : ℕ) (q : PointerValue) → form_in t r ≡ Exactly q → Contains t.forms (Exactly q)
unfolding form_in
has_form t r q e = forms_at t.forms r q e

pub form_at : (t : Thread) → Long t → (g : Form) → Contains t.forms g → (r : ℕ) × (r < 16) × (form_in t r ≡ g)
unfolding form_in
form_at t long g c =
    let lt = c.1 in
    (c.0, omega (arith, lt, long), get_or_default t.forms c.0 zero_form g c.1 ∙ c.2)

from_slot : (o : Origin) (n : ℕ) → comes_from o n ≡ true → o ≡ OfSlot n
from_slot (Door d) n e = cc
from_slot (OfSlot m) n e = ap OfSlot (eqb-true m n e)

to_slot : (o : Origin) (n : ℕ) → o ≡ OfSlot n → comes_from o n ≡ true
to_slot (Door d) n e = cc
to_slot (OfSlot m) n e = let same : m ≡ n = cc in eq-eqb m n same

set_all : (p : Form → Bool) (fs : List Form) (r : ℕ) (g h : Form) → list_all p (slice_set fs r g) ≡ true → p h ≡ true → list_all p (slice_set fs r h) ≡ true
set_all p [] r g h e k = e
set_all p (x ∷ fs) zero g h e k = and_from (p h) (list_all p fs) k (and_parts (p g) (list_all p fs) e).1
set_all p (x ∷ fs) (suc r) g h e k =
    let parts = and_parts (p x) (list_all p (slice_set fs r g)) e in
    and_from (p x) (list_all p (slice_set fs r h)) parts.0 (set_all p fs r g h parts.1 k)

open_integer : (kept : List Segment) → is_open_form kept Integer ≡ true
unfolding is_open_form
open_integer kept = refl

free_with_integer : (kept : List Segment) (u : Thread) (r : ℕ) (g : Form) → is_free kept (with_form u r g) ≡ true → is_free kept (with_form u r Integer) ≡ true
unfolding is_free with_form
free_with_integer kept u r g e =
    let parts = and_parts (not (meets kept u.ip)) (list_all (is_open_form kept) (slice_set u.forms r g)) e in
    and_from (not (meets kept u.ip)) (list_all (is_open_form kept) (slice_set u.forms r Integer)) parts.0
    (set_all (is_open_form kept) u.forms r g Integer parts.1 (open_integer kept))

-- no form that a word has from the start carries
first_carries : (fixed : Bool) (w : Word) → carries (first_form fixed w) ≡ false
first_carries true (Int n) = refl
first_carries false (Int n) = refl
first_carries true (Ptr p) = refl
first_carries false (Ptr p) = refl

module _ (i : Image) (kept : List Segment) (img : IsImage i) (f : Findings) (fd : AreFindings i kept f) where
  -- 2. What is listed is done.

  abbrev M : List Deed → Type 0
  M ds = AllByRecursion (Means i kept) ds

  if_mean : (b : Bool) (ds : List Deed) → (b ≡ true → M ds) → M (if b then ds else [])
  if_mean true ds h = h refl
  if_mean false ds h = tt

  flat_mean : {A : Type 0} (g : A → List Deed) (xs : List A) → ((x : A) → Contains xs x → M (g x)) → M (flat_map g xs)
  flat_mean g xs h = each_flat (Means i kept) g xs (each_from (λ x. M (g x)) xs h)

  plain_mean : (t : Thread) → TakenUp i kept t → (p : PointerValue) → HasExactly t p → M (plain_deeds kept t.origin p)
  plain_mean t up p h = if_mean (is_plain kept p) (deed.Has t.origin p ∷ []) (λ e.
      let parts = and_parts (is_open_pointer kept p) (not (is_door kept p)) e in
      (has t up refl h (parts.0, not-true (is_door kept p) parts.1), tt))

  had_mean : (t : Thread) → TakenUp i kept t → M (had kept t)
  had_mean t up =
      each_join (Means i kept) (plain_deeds kept t.origin t.ip) (flat_map (plain_in kept t.origin) t.forms) (plain_mean t up t.ip (runs_by refl))
      (flat_mean (plain_in kept t.origin) t.forms by)
    where
      by : (g : Form) → Contains t.forms g → M (plain_in kept t.origin g)
      by (Exactly p) c = let r = form_at t (taken_long i kept img t up) (Exactly p) c in plain_mean t up p (in_register r.0 r.1 r.2)
      by (Number n) c = tt
      by Integer c = tt
      by (Open perm) c = tt
      by Any c = tt
      by (Inside p) c = tt

  left_mean : (t : Thread) → Long t → (o : Origin) → GoesOn i kept o t → M (goes_on o ++ flat_map (door_in kept o) t.forms)
  left_mean t long o going =
      each_join (Means i kept) (goes_on o) (flat_map (door_in kept o) t.forms) (first o going) (flat_mean (door_in kept o) t.forms by)
    where
      first : (x : Origin) → GoesOn i kept x t → M (goes_on x)
      first (Door d) g = tt
      first (OfSlot n) g = ((t, g), tt)

      by : (g : Form) → Contains t.forms g → M (door_in kept o g)
      by (Exactly p) c = if_mean (is_door kept p) (deed.Has o p ∷ []) (λ e.
          let r = form_at t long (Exactly p) c in
          (lets e (by_going t r.0 going r.1 r.2), tt))
      by (Number n) c = tt
      by Integer c = tt
      by (Open perm) c = tt
      by Any c = tt
      by (Inside p) c = tt

  taken_mean : (t : Thread) → TakenUp i kept t → M (taken kept t)
  taken_mean t up = if_mean (is_free kept t) (had kept t ++ left kept t) (λ e.
      each_join (Means i kept) (had kept t) (left kept t) (had_mean t up) (left_mean t (taken_long i kept img t up) t.origin (comes_free up refl e)))

  carrying_means : (w : ℕ) → Contains f.carrying w → IsCarrying i kept w
  carrying_means w c =
      let k = flat_in carrying_in f.tables.stored w ((fd.carrying w).0 c) in
      let r = if_in (carries k.source.1) (k.source.0 ∷ []) w k.has in
      let held = fd.exact.sound (HasForm k.source.0 k.source.1) (inr k.inside) in
      record {
        form = k.source.1;
        held = subst (λ v. Derived i kept (HasForm v k.source.1)) (only_in k.source.0 w r.1) held;
        carried = r.0;
      }

  slots_mean : M (flat_map (slot_deeds i kept) i.slots)
  slots_mean = flat_mean (slot_deeds i kept) i.slots (λ s c.
      if_mean (is_running s.state) (taken kept (own_thread i kept s)) (λ e.
      taken_mean (own_thread i kept s) (begins s (in_filter (λ (x : Slot). is_running x.state) i.slots s c e))))

  entered_mean : (d : PointerValue) → Derived i kept (HasDoor d) → (o : Option PointerValue) → enter_result d ≡ o → M (entered_by i kept d o)
  entered_mean d h None e = tt
  entered_mean d h (Some ip) e = flat_mean (entry_deeds i kept d ip) i.slots (λ s c.
      let t = thread_through d ip (handler_of i kept s.handler) in
      if_mean (is_running s.state) (taken kept t) (λ r.
      taken_mean t (enters d ip s h e (in_filter (λ (x : Slot). is_running x.state) i.slots s c r))))

  module _ (t : Thread) (d : Derived i kept (HasThread t)) where
    comes_by : (o : Origin) → t.origin ≡ o → (x : Outcome) → Contains (outcomes i kept t) x → ComesTo i kept o x
    comes_by o e x c = record { thread = t; derived = d; origin = e; comes = c }

    comes_to : (x : Outcome) → Contains (outcomes i kept t) x → ComesTo i kept t.origin x
    comes_to x c = comes_by t.origin refl x c

    loads_mean : (part : Segment) (reg : ℕ) (next : Thread) → Contains (outcomes i kept t) (outcome.Loads part reg next) → M (used deed.Loaded t.origin part f.carrying)
    loads_mean part reg next c = flat_mean (used_in deed.Loaded t.origin part) f.carrying (λ w k.
        if_mean (lies_in w part) (deed.Loaded w t.origin ∷ []) (λ e.
        (record { gets = carrying_means w k; part = part; reg = reg; next = next; loads = comes_to (outcome.Loads part reg next) c; here = e }, tt)))

    stores_mean : (part : Segment) (form : Form) → Contains (outcomes i kept t) (outcome.Stores part form) → M (stored_in f.carrying t.origin part form)
    stores_mean part form c = if_mean (carries form) (used deed.Stored t.origin part f.carrying) (λ carried.
        flat_mean (used_in deed.Stored t.origin part) f.carrying (λ w k.
        if_mean (lies_in w part) (deed.Stored w t.origin ∷ []) (λ e.
        let gets = carrying_means w k in (
          record {
            of_image = form_held i kept img w gets.form gets.held;
            part = part;
            form = form;
            stores = comes_to (outcome.Stores part form) c;
            carried = carried;
            here = e;
          },
          tt,
        ))))

    loaded_mean : (part : Segment) (reg : ℕ) (next : Thread) → Contains (outcomes i kept t) (outcome.Loads part reg next)
        → M (loaded kept f.first f.tables.stored part reg next)
    loaded_mean part reg next c =
        let by = loaded_with kept part reg next in
        if_mean (is_free kept (with_form next reg Integer)) (flat_map by f.first ++ flat_map by f.tables.stored) (λ e.
        each_join (Means i kept) (flat_map by f.first) (flat_map by f.tables.stored)
        (flat_mean by f.first (λ x k. one x (fd.exact.sound (HasForm x.0 x.1) (inl ((fd.first x.0 x.1).0 k)))))
        (flat_mean by f.tables.stored (λ x k. one x (fd.exact.sound (HasForm x.0 x.1) (inr k)))))
      where
        one : (x : ℕ × Form) → Derived i kept (HasForm x.0 x.1) → M (loaded_with kept part reg next x)
        one x held = if_mean (lies_in x.0 part) (taken kept (with_form next reg x.1)) (λ e.
            taken_mean (with_form next reg x.1) (loads t next part reg x.0 x.1 d c held e))

    doors_mean : (form : Form) (l : Leak) → Contains (outcomes i kept t) (outcome.HandsOut form l) → M (door_in kept t.origin form)
    doors_mean (Exactly p) l c = if_mean (is_door kept p) (deed.Has t.origin p ∷ []) (λ e. (lets e (by_hand l (comes_to (outcome.HandsOut (Exactly p) l) c)), tt))
    doors_mean (Number n) l c = tt
    doors_mean Integer l c = tt
    doors_mean (Open perm) l c = tt
    doors_mean Any l c = tt
    doors_mean (Inside p) l c = tt

    sends_mean : (at reg : ℕ) (form : Form) → Contains (outcomes i kept t) (outcome.HandsOut form (leak.Store at reg form)) → (o : Origin) → t.origin ≡ o
        → M (handed deed.Sends deed.Sent o form)
    sends_mean at reg form c (Door x) e = tt
    sends_mean at reg form c (OfSlot n) e = by form (record { at = at; reg = reg; stores = comes_by (OfSlot n) e (outcome.HandsOut form (leak.Store at reg form)) c })
      where
        some : (g : Form) → Sends i kept n g → M (if carries g then deed.Sends n ∷ [] else [])
        some g s = if_mean (carries g) (deed.Sends n ∷ []) (λ k. (record { form = g; carried = k; is = s }, tt))

        by : (g : Form) → Sends i kept n g → M (handed_by deed.Sends deed.Sent n g)
        by (Exactly p) s = (s, tt)
        by (Number k) s = tt
        by Integer s = tt
        by (Open perm) s = some (Open perm) s
        by Any s = some Any s
        by (Inside p) s = tt

    gives_mean : (reg : ℕ) (form : Form) → Contains (outcomes i kept t) (outcome.WritesServed reg form) → (o : Origin) → t.origin ≡ o
        → M (handed deed.Gives deed.Given o form)
    gives_mean reg form c (Door x) e = tt
    gives_mean reg form c (OfSlot n) e = by form (record { reg = reg; writes = comes_by (OfSlot n) e (outcome.WritesServed reg form) c })
      where
        some : (g : Form) → Gives i kept n g → M (if carries g then deed.Gives n ∷ [] else [])
        some g s = if_mean (carries g) (deed.Gives n ∷ []) (λ k. (record { form = g; carried = k; is = s }, tt))

        by : (g : Form) → Gives i kept n g → M (handed_by deed.Gives deed.Given n g)
        by (Exactly p) s = (s, tt)
        by (Number k) s = tt
        by Integer s = tt
        by (Open perm) s = some (Open perm) s
        by Any s = some Any s
        by (Inside p) s = tt

    hands_mean : (form : Form) (l : Leak) → Contains (outcomes i kept t) (outcome.HandsOut form l) → SameForm form l → M (handed_out kept t.origin form l)
    hands_mean form (leak.Store at reg g) c same =
        let own = subst (λ (h : Form). Contains (outcomes i kept t) (outcome.HandsOut form (leak.Store at reg h))) same c in
        each_join (Means i kept) (door_in kept t.origin form) (handed deed.Sends deed.Sent t.origin form) (doors_mean form (leak.Store at reg g) c)
        (sends_mean at reg form own t.origin refl)
    hands_mean form (leak.Across p) c same = doors_mean form (leak.Across p) c
    hands_mean form (leak.Cell w g) c same = doors_mean form (leak.Cell w g) c
    hands_mean form (leak.Code w) c same = doors_mean form (leak.Code w) c
    hands_mean form (leak.Jump at reg g) c same = doors_mean form (leak.Jump at reg g) c
    hands_mean form (leak.Enter at reg g) c same = doors_mean form (leak.Enter at reg g) c
    hands_mean form (leak.Give at reg g) c same = doors_mean form (leak.Give at reg g) c
    hands_mean form (leak.FaultPointer at) c same = doors_mean form (leak.FaultPointer at) c
    hands_mean form (leak.Fault at reg g) c same = doors_mean form (leak.Fault at reg g) c
    hands_mean form (leak.Loose n) c same = doors_mean form (leak.Loose n) c

    sees_mean : (o : Origin) → ((n : ℕ) → o ≡ OfSlot n → SeesServed i kept n) → M (sees o)
    sees_mean (Door x) h = tt
    sees_mean (OfSlot n) h = (h n refl, tt)

    took_mean : (reg : ℕ) (next : Thread) → Contains (outcomes i kept t) (outcome.TakesEvent reg next) → M (flat_map (took kept t.origin reg next) f.tables.events)
    took_mean reg next c = flat_mean (took kept t.origin reg next) f.tables.events (λ x k.
        let u = with_event next reg x.1.ip x.1.address x.1.value in
        if_mean (comes_from t.origin x.0) (taken kept u) (λ e.
        taken_mean u (takes t next x.0 reg x.1 d (from_slot t.origin x.0 e) c (fd.exact.sound (HasEvent x.0 x.1) k))))

    went_mean : (how : How) → Contains (outcomes i kept t) (outcome.Resumes how) → M (flat_map (went_on kept t.origin how) f.tables.faulted)
    went_mean how c = flat_mean (went_on kept t.origin how) f.tables.faulted (λ x k.
        if_mean (comes_from t.origin x.0) (flat_map (taken kept) (resumed how x.1)) (λ e.
        flat_mean (taken kept) (resumed how x.1) (λ u among.
        taken_mean u (resumes t x.1 x.0 how d (from_slot t.origin x.0 e) c (fd.exact.sound (HasFaulted x.0 x.1) k) among))))

    read_mean : (reg from : ℕ) (next : Thread) → Contains (outcomes i kept t) (outcome.ReadsServed reg from next)
        → M (flat_map (read kept t.origin reg from next) f.tables.faulted)
    read_mean reg from next c = flat_mean (read kept t.origin reg from next) f.tables.faulted (λ x k.
        let u = with_form next reg (form_in x.1 from) in
        if_mean (comes_from t.origin x.0) (taken kept u) (λ e.
        taken_mean u (reads_served t x.1 next x.0 reg from d (from_slot t.origin x.0 e) c (fd.exact.sound (HasFaulted x.0 x.1) k))))

    done_mean : (o : Outcome) → Contains (outcomes i kept t) o → M (done_by kept f t.origin o)
    done_mean (outcome.Goes next) c = taken_mean next (goes t d c)
    done_mean (outcome.Loads part reg next) c =
        each_join (Means i kept) (used deed.Loaded t.origin part f.carrying) (loaded kept f.first f.tables.stored part reg next)
        (loads_mean part reg next c) (loaded_mean part reg next c)
    done_mean (outcome.Stores part form) c = stores_mean part form c
    done_mean (outcome.HandsOut form l) c = hands_mean form l c (outcome_like i kept t (outcome.HandsOut form l) c).0
    done_mean (outcome.Leaves linked) c =
        let like = outcome_like i kept t (outcome.Leaves linked) c in
        left_mean linked (like.1 ∙ thread_long i kept img t d) linked.origin
        (subst (λ o. GoesOn i kept o linked) (sym like.0) (leaves (comes_to (outcome.Leaves linked) c)))
    done_mean (outcome.Leaks l) c = tt
    done_mean (outcome.Faults address value) c = tt
    done_mean (outcome.TakesEvent reg next) c =
        each_join (Means i kept) (sees t.origin) (flat_map (took kept t.origin reg next) f.tables.events)
        (sees_mean t.origin (λ n e. takes_event reg next (comes_by (OfSlot n) e (outcome.TakesEvent reg next) c))) (took_mean reg next c)
    done_mean (outcome.Resumes how) c = went_mean how c
    done_mean (outcome.ReadsServed reg from next) c =
        each_join (Means i kept) (sees t.origin) (flat_map (read kept t.origin reg from next) f.tables.faulted)
        (sees_mean t.origin (λ n e. reads_register reg from next (comes_by (OfSlot n) e (outcome.ReadsServed reg from next) c))) (read_mean reg from next c)
    done_mean (outcome.WritesServed reg form) c = gives_mean reg form c t.origin refl

    thread_mean : M (thread_deeds i kept f t)
    thread_mean =
        each_join (Means i kept) (had kept t) (flat_map (done_by kept f t.origin) (outcomes i kept t)) (had_mean t (derived_taken i kept t d))
        (flat_mean (done_by kept f t.origin) (outcomes i kept t) done_mean)

  all_mean : M (all_deeds i kept f)
  all_mean =
      let entered = flat_map (λ (d : PointerValue). entered_by i kept d (enter_result d)) f.tables.doors in
      each_join (Means i kept) (begin_deeds i kept f.tables.doors) (flat_map (thread_deeds i kept f) f.tables.threads)
      (each_join (Means i kept) (flat_map (slot_deeds i kept) i.slots) entered slots_mean
      (flat_mean (λ (d : PointerValue). entered_by i kept d (enter_result d)) f.tables.doors
      (λ d c. entered_mean d (fd.exact.sound (HasDoor d) c) (enter_result d) refl)))
      (flat_mean (thread_deeds i kept f) f.tables.threads (λ t c. thread_mean t (fd.exact.sound (HasThread t) c)))

  -- 3. What is done is listed.

  abbrev In : Deed → Type 0
  In x = Contains (all_deeds i kept f) x

  by_begin : (x : Deed) → Contains (begin_deeds i kept f.tables.doors) x → In x
  by_begin x c = Contains-append_left (begin_deeds i kept f.tables.doors) (flat_map (thread_deeds i kept f) f.tables.threads) x c

  by_thread : (t : Thread) → Derived i kept (HasThread t) → (x : Deed) → Contains (thread_deeds i kept f t) x → In x
  by_thread t d x c =
      Contains-append_right (begin_deeds i kept f.tables.doors) (flat_map (thread_deeds i kept f) f.tables.threads) x
      (in_flat (thread_deeds i kept f) f.tables.threads t x (fd.exact.whole (HasThread t) d) c)

  by_outcome : (t : Thread) → Derived i kept (HasThread t) → (o : Outcome) → Contains (outcomes i kept t) o → (x : Deed)
      → Contains (done_by kept f t.origin o) x → In x
  by_outcome t d o c x k =
      by_thread t d x
      (Contains-append_right (had kept t) (flat_map (done_by kept f t.origin) (outcomes i kept t)) x
      (in_flat (done_by kept f t.origin) (outcomes i kept t) o x c k))

  by_coming : (from : Origin) (o : Outcome) → ComesTo i kept from o → (x : Deed) → Contains (done_by kept f from o) x → In x
  by_coming from o ct x k =
      by_outcome ct.thread ct.derived o ct.comes x (subst (λ r. Contains (done_by kept f r o) x) (sym ct.origin) k)

  taken_in : (t : Thread) → TakenUp i kept t → (x : Deed) → Contains (taken kept t) x → In x
  taken_in t (begins s c) x k =
      let run = filter_in (λ (y : Slot). is_running y.state) i.slots s c in
      let entered = flat_map (λ (d : PointerValue). entered_by i kept d (enter_result d)) f.tables.doors in
      by_begin x
      (Contains-append_left (flat_map (slot_deeds i kept) i.slots) entered x
      (in_flat (slot_deeds i kept) i.slots s x run.0 (in_if (is_running s.state) (taken kept (own_thread i kept s)) x run.1 k)))
  taken_in t (enters d ip s h e c) x k =
      let run = filter_in (λ (y : Slot). is_running y.state) i.slots s c in
      let u = thread_through d ip (handler_of i kept s.handler) in
      let here = in_flat (entry_deeds i kept d ip) i.slots s x run.0 (in_if (is_running s.state) (taken kept u) x run.1 k) in
      by_begin x
      (Contains-append_right (flat_map (slot_deeds i kept) i.slots) (flat_map (λ (y : PointerValue). entered_by i kept y (enter_result y)) f.tables.doors) x
      (in_flat (λ (y : PointerValue). entered_by i kept y (enter_result y)) f.tables.doors d x (fd.exact.whole (HasDoor d) h)
      (subst (λ o. Contains (entered_by i kept d o) x) (sym e) here)))
  taken_in t (goes u d c) x k = by_outcome u d (outcome.Goes t) c x k
  taken_in t (loads u next part reg w g d c held lies) x k =
      let by = loaded_with kept part reg next in
      let free = (if_in (is_free kept (with_form next reg g)) (had kept (with_form next reg g) ++ left kept (with_form next reg g)) x k).0 in
      let here = in_if (lies_in w part) (taken kept (with_form next reg g)) x lies k in
      let both : Contains (flat_map by f.first ++ flat_map by f.tables.stored) x = elim (fd.exact.whole (HasForm w g) held) [
        | inl first ↦ Contains-append_left (flat_map by f.first) (flat_map by f.tables.stored) x (in_flat by f.first (w, g) x ((fd.first w g).1 first) here)
        | inr stored ↦ Contains-append_right (flat_map by f.first) (flat_map by f.tables.stored) x (in_flat by f.tables.stored (w, g) x stored here)
      ] in
      by_outcome u d (outcome.Loads part reg next) c x
      (Contains-append_right (used deed.Loaded u.origin part f.carrying) (loaded kept f.first f.tables.stored part reg next) x
      (in_if (is_free kept (with_form next reg Integer)) (flat_map by f.first ++ flat_map by f.tables.stored) x (free_with_integer kept next reg g free) both))
  taken_in t (takes u next h reg e d from c held) x k =
      let v = with_event next reg e.ip e.address e.value in
      by_outcome u d (outcome.TakesEvent reg next) c x
      (Contains-append_right (sees u.origin) (flat_map (took kept u.origin reg next) f.tables.events) x
      (in_flat (took kept u.origin reg next) f.tables.events (h, e) x (fd.exact.whole (HasEvent h e) held)
      (in_if (comes_from u.origin h) (taken kept v) x (to_slot u.origin h from) k)))
  taken_in t (resumes u served h how d from c held among) x k =
      by_outcome u d (outcome.Resumes how) c x
      (in_flat (went_on kept u.origin how) f.tables.faulted (h, served) x (fd.exact.whole (HasFaulted h served) held)
      (in_if (comes_from u.origin h) (flat_map (taken kept) (resumed how served)) x (to_slot u.origin h from)
      (in_flat (taken kept) (resumed how served) t x among k)))
  taken_in t (reads_served u served next h reg from d own c held) x k =
      let v = with_form next reg (form_in served from) in
      by_outcome u d (outcome.ReadsServed reg from next) c x
      (Contains-append_right (sees u.origin) (flat_map (read kept u.origin reg from next) f.tables.faulted) x
      (in_flat (read kept u.origin reg from next) f.tables.faulted (h, served) x (fd.exact.whole (HasFaulted h served) held)
      (in_if (comes_from u.origin h) (taken kept v) x (to_slot u.origin h own) k)))

  had_in : (t : Thread) → TakenUp i kept t → (x : Deed) → Contains (had kept t) x → In x
  had_in t up x c = by (is_free kept t) refl
    where
      by : (b : Bool) → is_free kept t ≡ b → In x
      by true e = taken_in t up x (in_if (is_free kept t) (had kept t ++ left kept t) x e (Contains-append_left (had kept t) (left kept t) x c))
      by false e = elim (up_cases i kept t (taken_derived i kept up)) [
        | inl free ↦ let no = free_is i kept t free in absurd (cc)
        | inr b ↦ by_thread t b.derived x (Contains-append_left (had kept t) (flat_map (done_by kept f t.origin) (outcomes i kept t)) x c)
      ]

  left_in : (t : Thread) → TakenUp i kept t → is_free kept t ≡ true → (x : Deed) → Contains (left kept t) x → In x
  left_in t up e x c = taken_in t up x (in_if (is_free kept t) (had kept t ++ left kept t) x e (Contains-append_right (had kept t) (left kept t) x c))

  -- a pointer that a thread has is listed for it
  plain_had : (t : Thread) (q : PointerValue) → HasExactly t q → is_plain kept q ≡ true → Contains (had kept t) (deed.Has t.origin q)
  plain_had t q h e = by h
    where
      one : Contains (plain_deeds kept t.origin q) (deed.Has t.origin q)
      one = in_if (is_plain kept q) (deed.Has t.origin q ∷ []) (deed.Has t.origin q) e (in_first (deed.Has t.origin q) [])

      by : HasExactly t q → Contains (had kept t) (deed.Has t.origin q)
      by (runs_by same) =
          Contains-append_left (plain_deeds kept t.origin t.ip) (flat_map (plain_in kept t.origin) t.forms) (deed.Has t.origin q)
          (subst (λ p. Contains (plain_deeds kept t.origin p) (deed.Has t.origin q)) (sym same) one)
      by (in_register r lt same) =
          Contains-append_right (plain_deeds kept t.origin t.ip) (flat_map (plain_in kept t.origin) t.forms) (deed.Has t.origin q)
          (in_flat (plain_in kept t.origin) t.forms (Exactly q) (deed.Has t.origin q) (has_form t r q same) one)

  door_one : (o : Origin) (q : PointerValue) → is_door kept q ≡ true → Contains (door_in kept o (Exactly q)) (deed.Has o q)
  door_one o q e = in_if (is_door kept q) (deed.Has o q ∷ []) (deed.Has o q) e (in_first (deed.Has o q) [])

  -- a door of a thread that goes on as a caller is listed
  door_left : (t : Thread) (r : ℕ) (q : PointerValue) → form_in t r ≡ Exactly q → is_door kept q ≡ true → Contains (left kept t) (deed.Has t.origin q)
  door_left t r q same e =
      Contains-append_right (goes_on t.origin) (flat_map (door_in kept t.origin) t.forms) (deed.Has t.origin q)
      (in_flat (door_in kept t.origin) t.forms (Exactly q) (deed.Has t.origin q) (has_form t r q same) (door_one t.origin q e))

  slot_left : (t : Thread) (n : ℕ) → t.origin ≡ OfSlot n → Contains (left kept t) (deed.GoesOn n)
  slot_left t n same =
      Contains-append_left (goes_on t.origin) (flat_map (door_in kept t.origin) t.forms) (deed.GoesOn n)
      (subst (λ o. Contains (goes_on o) (deed.GoesOn n)) (sym same) (in_first (deed.GoesOn n) []))

  hand_in : (o : Origin) (form : Form) (l : Leak) (x : Deed) → Contains (door_in kept o form) x → Contains (handed_out kept o form l) x
  hand_in o form (leak.Store at reg g) x c = Contains-append_left (door_in kept o form) (handed deed.Sends deed.Sent o form) x c
  hand_in o form (leak.Across p) x c = c
  hand_in o form (leak.Cell w g) x c = c
  hand_in o form (leak.Code w) x c = c
  hand_in o form (leak.Jump at reg g) x c = c
  hand_in o form (leak.Enter at reg g) x c = c
  hand_in o form (leak.Give at reg g) x c = c
  hand_in o form (leak.FaultPointer at) x c = c
  hand_in o form (leak.Fault at reg g) x c = c
  hand_in o form (leak.Loose n) x c = c

  carried_in : (all : ℕ → Deed) (one : ℕ → PointerValue → Deed) (n : ℕ) (form : Form) → carries form ≡ true → Contains (handed_by all one n form) (all n)
  carried_in all one n (Exactly p) e = cc
  carried_in all one n (Number k) e = cc
  carried_in all one n Integer e = cc
  carried_in all one n (Open perm) e = in_if (carries (Open perm)) (all n ∷ []) (all n) e (in_first (all n) [])
  carried_in all one n Any e = in_first (all n) []
  carried_in all one n (Inside p) e = cc

  carrying_all : (w : ℕ) → IsCarrying i kept w → Contains f.carrying w
  carrying_all w k = (fd.carrying w).1 (by (fd.exact.whole (HasForm w k.form) k.held))
    where
      by : HasFirst i kept w k.form ⊎ Contains f.tables.stored (w, k.form) → Contains (flat_map carrying_in f.tables.stored) w
      by (inl first) =
          let no = first_carries (is_fixed i w) first.cell.word in
          let same = ap carries first.first in
          let yes = k.carried in
          absurd (cc)
      by (inr stored) = in_flat carrying_in f.tables.stored (w, k.form) w stored (in_if (carries k.form) (w ∷ []) w k.carried (in_first w []))

  stores_carrying : (from : Origin) (w : ℕ) → StoresInside i kept from w → IsCarrying i kept w
  stores_carrying from w s = record {
    form = s.form;
    held = derived_stores s.stores.thread s.part w s.of_image.cell s.form s.stores.derived s.stores.comes s.of_image.at s.of_image.of_kept s.here;
    carried = s.carried;
  }

  leaves_origin : (from : Origin) (t : Thread) → ComesTo i kept from (outcome.Leaves t) → t.origin ≡ from
  leaves_origin from t ct = (outcome_like i kept ct.thread (outcome.Leaves t) ct.comes).0 ∙ ct.origin

  has_all : (from : Origin) (q : PointerValue) → HasOrLets i kept from q → In (deed.Has from q)
  has_all from q (has t up same h plain) =
      subst (λ o. In (deed.Has o q)) same
      (had_in t up (deed.Has t.origin q)
      (plain_had t q h (and_from (is_open_pointer kept q) (not (is_door kept q)) plain.0 (not_from_false (is_door kept q) plain.1))))
  has_all from q (lets e (by_going t r (comes_free up same free) lt is)) =
      subst (λ o. In (deed.Has o q)) same (left_in t up free (deed.Has t.origin q) (door_left t r q is e))
  has_all from q (lets e (by_going t r (leaves ct) lt is)) =
      subst (λ o. In (deed.Has o q)) (leaves_origin from t ct)
      (by_outcome ct.thread ct.derived (outcome.Leaves t) ct.comes (deed.Has t.origin q) (door_left t r q is e))
  has_all from q (lets e (by_hand l ct)) =
      by_coming from (outcome.HandsOut (Exactly q) l) ct (deed.Has from q) (hand_in from (Exactly q) l (deed.Has from q) (door_one from q e))

  goes_all : (n : ℕ) (t : Thread) → GoesOn i kept (OfSlot n) t → In (deed.GoesOn n)
  goes_all n t (comes_free up same free) = left_in t up free (deed.GoesOn n) (slot_left t n same)
  goes_all n t (leaves ct) =
      by_outcome ct.thread ct.derived (outcome.Leaves t) ct.comes (deed.GoesOn n) (slot_left t n (leaves_origin (OfSlot n) t ct))

  sees_all : (n : ℕ) → SeesServed i kept n → In (deed.Sees n)
  sees_all n (takes_event reg next ct) =
      by_coming (OfSlot n) (outcome.TakesEvent reg next) ct (deed.Sees n)
      (Contains-append_left (deed.Sees n ∷ []) (flat_map (took kept (OfSlot n) reg next) f.tables.events) (deed.Sees n) (in_first (deed.Sees n) []))
  sees_all n (reads_register reg from next ct) =
      by_coming (OfSlot n) (outcome.ReadsServed reg from next) ct (deed.Sees n)
      (Contains-append_left (deed.Sees n ∷ []) (flat_map (read kept (OfSlot n) reg from next) f.tables.faulted) (deed.Sees n) (in_first (deed.Sees n) []))

  sends_all : (n : ℕ) (form : Form) (x : Deed) → Sends i kept n form → Contains (handed_by deed.Sends deed.Sent n form) x → In x
  sends_all n form x s c =
      by_coming (OfSlot n) (outcome.HandsOut form (leak.Store s.at s.reg form)) s.stores x
      (Contains-append_right (door_in kept (OfSlot n) form) (handed_by deed.Sends deed.Sent n form) x c)

  all_in : (x : Deed) → Means i kept x → In x
  all_in (deed.Has from q) h = has_all from q h
  all_in (deed.Stored w from) s =
      by_coming from (outcome.Stores s.part s.form) s.stores (deed.Stored w from)
      (in_if (carries s.form) (used deed.Stored from s.part f.carrying) (deed.Stored w from) s.carried
      (in_flat (used_in deed.Stored from s.part) f.carrying w (deed.Stored w from) (carrying_all w (stores_carrying from w s))
      (in_if (lies_in w s.part) (deed.Stored w from ∷ []) (deed.Stored w from) s.here (in_first (deed.Stored w from) []))))
  all_in (deed.Loaded w from) l =
      by_coming from (outcome.Loads l.part l.reg l.next) l.loads (deed.Loaded w from)
      (Contains-append_left (used deed.Loaded from l.part f.carrying) (loaded kept f.first f.tables.stored l.part l.reg l.next) (deed.Loaded w from)
      (in_flat (used_in deed.Loaded from l.part) f.carrying w (deed.Loaded w from) (carrying_all w l.gets)
      (in_if (lies_in w l.part) (deed.Loaded w from ∷ []) (deed.Loaded w from) l.here (in_first (deed.Loaded w from) []))))
  all_in (deed.Sent n q) s = sends_all n (Exactly q) (deed.Sent n q) s (in_first (deed.Sent n q) [])
  all_in (deed.Given n q) s = by_coming (OfSlot n) (outcome.WritesServed s.reg (Exactly q)) s.writes (deed.Given n q) (in_first (deed.Given n q) [])
  all_in (deed.Sends n) k = sends_all n k.form (deed.Sends n) k.is (carried_in deed.Sends deed.Sent n k.form k.carried)
  all_in (deed.Gives n) k =
      by_coming (OfSlot n) (outcome.WritesServed k.is.reg k.form) k.is.writes (deed.Gives n) (carried_in deed.Gives deed.Given n k.form k.carried)
  all_in (deed.Sees n) h = sees_all n h
  all_in (deed.GoesOn n) h = goes_all n h.0 h.1

  pub deeds_are : AreDeeds i kept (all_deeds i kept f)
  deeds_are = record { each = λ x. (λ c. each_contained (Means i kept) (all_deeds i kept f) x all_mean c, all_in x) }
