-- A kernel that keeps its segments confines each group: the one induction of `mm_kernel`, for what is
use Rattle.std.proofs.Common.{◌≡◌, ℕ, ◌⊎◌, inl, inr, Bool, true, false, ◌&&◌, ◌==◌, if◌then◌else◌, List, Option, Some, refl, sym, ap}
use Rattle.std.proofs.Common.{◌∙◌, subst, eq-eqb}
use Rattle.std.{proofs.lemmas.Bool.and_from, specs.{Prelude.Contains, List.AllByRecursion}}
use Rattle.mm_word.specs.declared.perm.Kind.{Kind, TheVariants.{Fetch, Load, LoadSet, Store}}
use Rattle.mm_word.specs.{declared.word.{Word.{Word, TheVariants.{Int, Ptr}}, Cell.Cell}, Access.AccessValue, Pointer.Pointer}
use Rattle.mm_model.specs.declared.slot.SlotState.TheVariants.{Running}
use Rattle.mm_model.specs.{Memory.cell_at, Slot.Slot, State.{State, slot_at}, Image.{Image, start}, Spelling.IsImage}
use Rattle.mm_model.specs.{Turn.is_running, Run.{turn_of, after, run}, Trace.{touches, group_of, group_in}}
use Rattle.mm_model.proofs.{CoreRows.{each_map, identities_of, stays_by}, Filters.filter_contained}
use Rattle.mm_kernel.specs.Segments.{Segment, is_kept}
use Rattle.mm_kernel.specs.declared.form.{Form.{Form, TheVariants.{Pointer as Exactly, Any}}}
use Rattle.mm_kernel.specs.declared.{outcome.Outcome.Outcome, thread.{Origin.{Origin, TheVariants.{Door, Slot as OfSlot}}, Thread.Thread}}
use Rattle.mm_kernel.specs.{Threads.{is_kernel_slot, is_kernel}, Variants.{is_caller, Variant}, Derived.Keeps}
use Rattle.mm_kernel.proofs.Owns.{Who, Who.{Callers, Alone}, Mode.AsKernel, World, Comes, GoesOn as KernelGoesOn}
use Rattle.mm_kernel.proofs.Owns.{Runs as KernelRuns, Runs.{itself, through}, IsOf as KernelIsOf, IsOf.{with_group, by_itself}}
use Rattle.mm_kernel.proofs.Owns.{ServedBy, HandsOn as KernelHandsOn, IfPointer, Mine, Left}
use Rattle.mm_kernel.proofs.{Ups.each_from, Slots.{OriginOk, Came}, Serves.any_contained, Start.Begun}
use Rattle.mm_kernel.proofs.Turned.{Using, Reached, Behind, UsedBy}
use Rattle.mm_kernel.proofs.Runs.{Holding, turns_ok, after_holds, run_holds, start_holds, keepers_are_variants}
use Rattle.mm_confine.specs.declared.party.Party.{Party, TheVariants.{Group, KernelSlot}}
use Rattle.mm_confine.specs.{Taken.{TakenUp, TakenUp.{begins, enters, goes, loads, takes, resumes, reads_served}}}
use Rattle.mm_confine.specs.Conduct.{HandsOn, HandsOn.{exact, carried}, ComesTo, GoesOn, LetsOut.{by_going, by_hand}}
use Rattle.mm_confine.specs.Conduct.{SeesServed.{takes_event, reads_register}}
use Rattle.mm_confine.specs.Grants.{IsOf, Serves, Granted, Line.{Holds, Runs}}
use Rattle.mm_confine.specs.Reach.{Reaches, Reaches.{by_callers, by_slot}, IsNamed, IsNamed.{door as names_door, slot as names_slot}, UsesBy}
use Rattle.mm_confine.specs.{Reach.{IsBehind, IsConfined}, Laws.TurnsAreConfined}
use Rattle.mm_confine.proofs.Taken.{taken_derived}
use Rattle.mm_confine.specs.Conduct.{GoesOn.{comes_free as goes_free, leaves as goes_out}, HasExactly.{runs_by as has_ip, in_register as has_form}}
use Rattle.mm_kernel.proofs.Owns.GoesOn.{comes_free, leaves}
use Rattle.mm_confine.specs.Grants.{IsOf.{with_group as in_group, by_itself as alone}}
use Rattle.mm_confine.specs.Grants.Granted.{runs_itself, runs_through, in_register, runs_by, in_cell, below, passed}
use Rattle.mm_confine.specs.Grants.Granted.{entered, served, has_exactly, lets_out, kept_for, seen, given, freed}
use Rattle.mm_kernel.specs.declared.outcome.Outcome.TheVariants as outcome

-- 1. What is granted is held by the rules.

abbrev party_of : Who → Party
party_of (Callers g) = Group g
party_of (Alone n) = KernelSlot n

module _ (i : Image) (kept : List Segment) where
  abbrev Own : Who → Pointer → Type 0
  Own x p = Granted i kept (Holds (party_of x) p)

  comes : (from : Origin) (o : Outcome) → Comes i kept from o → ComesTo i kept from o
  comes from o c = record { thread = c.thread; derived = c.derived; origin = c.origin; comes = c.comes }

  going : (from : Origin) (t : Thread) → KernelGoesOn i kept (TakenUp i kept) from t → GoesOn i kept from t
  going from t (comes_free up same free) = goes_free up same free
  going from t (leaves c) = goes_out (comes from (outcome.Leaves t) c)

  runs : (x : Who) (from : Origin) → KernelRuns i kept Own x from → Granted i kept (Runs (party_of x) from)
  runs x from (itself n e) = runs_itself n e
  runs x from (through g d own is) = runs_through g d own is

  is_of : (s : Slot) (x : Who) → KernelIsOf i kept s x → IsOf i kept s (party_of x)
  is_of s x with_group = in_group
  is_of s x (by_itself e) = alone e

  serves : (n : ℕ) (x : Who) → ServedBy i kept n x → Serves i kept n (party_of x)
  serves n x h = record { of_kernel = h.of_kernel; served = h.served; one = h.one; handled = h.handled; party = is_of h.served x h.party }

  hands_on : (q : Pointer) (f : Form) → KernelHandsOn q f → HandsOn q f
  hands_on q f (inl e) = subst (HandsOn q) (sym e) exact
  hands_on q f (inr c) = carried c

  abbrev granting : World i kept
  granting = record {
    Own = Own;
    Taken = TakenUp i kept;
    rules = record {
      up = λ t h. taken_derived i kept h;
      begins = λ s c. begins s c;
      enters = λ door ip s d e c. enters door ip s d e c;
      goes = λ t next d c. goes t d c;
      loads = λ t next part reg w f d c held inside. loads t next part reg w f d c held inside;
      takes = λ t next h reg e d from c held. takes t next h reg e d from c held;
      resumes = λ t u next h how d from c held among. resumes t u h how d from c held among;
      reads = λ t u next h reg from d own c held. reads_served t u next h reg from d own c held;
      below = λ x p q own b. below (party_of x) p q own b;
      entered = λ x p q own eu none e. entered (party_of x) p q own eu none e;
      passed = λ g x q p r w own by st has ld. passed (Group g) (party_of x) q p r w own tt by st has ld;
      stored = λ n x q p r w f at reg own c hands by st has ld.
          passed (KernelSlot n) (party_of x) q p r w own
          (record { form = f; at = at; reg = reg; stores = comes (OfSlot n) (outcome.HandsOut f _) c; hands_on = hands_on q f hands }) by st has ld;
      served_up = λ from to q one other handled none own.
          served from.group to.group q own (record { served = from; server = to; one = one; other = other; handled = handled; caller = none; groups = inr (refl, refl) });
      served_down = λ from to q one other handled none own.
          served to.group from.group q own (record { served = from; server = to; one = one; other = other; handled = handled; caller = none; groups = inl (refl, refl) });
      seen_event = λ n y q reg next own h c. seen n (party_of y) q own (serves n y h) (takes_event reg next (comes (OfSlot n) (outcome.TakesEvent reg next) c));
      seen_register = λ n y q reg from next own h c.
          seen n (party_of y) q own (serves n y h) (reads_register reg from next (comes (OfSlot n) (outcome.ReadsServed reg from next) c));
      given = λ n x q reg f own h c hands.
          given n (party_of x) q own (serves n x h) (record { form = f; reg = reg; writes = comes (OfSlot n) (outcome.WritesServed reg f) c; hands_on = hands_on q f hands });
      exact_ip = λ x t run up plain. has_exactly (party_of x) t.origin t.ip t (runs x t.origin run) up refl (has_ip refl) plain;
      exact_register = λ x q t r run taken lt e plain. has_exactly (party_of x) t.origin q t (runs x t.origin run) taken refl (has_form r lt e) plain;
      lets_going = λ x from d t r run is goes_on lt e. lets_out (party_of x) from d (runs x from run) is (by_going t r (going from t goes_on) lt e);
      lets_hand = λ x from d l run is c. lets_out (party_of x) from d (runs x from run) is (by_hand l (comes from (outcome.HandsOut (Exactly d) l) c));
      kept_for = λ y x from to q w c put f got reg next own run at is stores carries here loads there run2.
          kept_for (party_of y) (party_of x) from to q own (runs y from run)
          (record {
            word = w;
            cell = c;
            at = at;
            of_kept = is;
            stored_in = put;
            form = f;
            stores = comes from (outcome.Stores put f) stores;
            carried = carries;
            here = here;
            loaded_from = got;
            reg = reg;
            next = next;
            loads = comes to (outcome.Loads got reg next) loads;
            there = there;
          }) (runs x to run2);
      freed = λ s q t among own goes_on. freed s q t among own (going (OfSlot s.number) t goes_on);
    };
  }

  -- 2. What holds at the start.

  no_kernel : (u : Slot) → Contains i.slots u → is_kernel i kept u.number ≡ false → is_kernel_slot kept u ≡ true → ⊥
  unfolding is_kernel
  no_kernel u c none e =
      let is = any_contained (λ (x : Slot). (x.number == u.number) && is_kernel_slot kept x) i.slots u c
      (and_from (u.number == u.number) (is_kernel_slot kept u) (eq-eqb u.number u.number refl) e) in
      cc

  caller : (u : Slot) → Contains i.slots u → u.state ≡ Running → is_kernel i kept u.number ≡ false → is_caller kept u ≡ true
  caller u c run none = by (is_kernel_slot kept u) refl
    where
      by : (b : Bool) → is_kernel_slot kept u ≡ b → (if b then false else is_running u.state) ≡ true
      by true e = absurd (no_kernel u c none e)
      by false e = ap is_running run

  begun : Begun i i kept granting
  begun = record {
    registers = λ u c run none. each_from (λ (w : Word). IfPointer w (Mine i kept granting (Callers u.group))) u.regs (λ w k. has_word u c (caller u c run none) w k);
    ip = λ u c run none. inr (runs_by u c (caller u c run none));
    cells = λ w c at out. left w c at out c.word refl;
  }
    where
      has_word : (u : Slot) → Contains i.slots u → is_caller kept u ≡ true → (w : Word) → Contains u.regs w → IfPointer w (Mine i kept granting (Callers u.group))
      has_word u c is (Int n) k = tt
      has_word u c is (Ptr q) k = inr (in_register u q c is k)

      left : (w : ℕ) (c : Cell) → cell_at i.memory w ≡ Some c → is_kept kept w ≡ false → (v : Word) → c.word ≡ v → IfPointer v (Left i kept granting w Any)
      left w c at out (Int n) e = tt
      left w c at out (Ptr q) e = λ x r own ld. inr (in_cell (party_of x) r q w c own ld out at e)

  -- 3. What a turn uses.

  module _ (img : IsImage i) (ks : Keeps i kept) (v : Variant i kept i) (s : State) (h : Holding i i kept img img ks v granting begun s) (n : ℕ) where
    used_group : (slot : Slot) → slot_at s.core slot.number ≡ Some slot → (turn_of s n).step.slot ≡ slot.number → group_in (turn_of s n) ≡ slot.group
    unfolding after
    used_group slot at number =
        let next = after_holds i i kept img img ks v granting begun s n h in
        let same : identities_of (turn_of s n).core ≡ identities_of s.core = next.fits.same_slots ∙ sym h.fits.same_slots in
        let now = stays_by s.core (turn_of s n).core slot.number slot same at in
        ap (λ (k : ℕ). group_of (slot_at (turn_of s n).core k)) number ∙ ap group_of now.is ∙ ap (λ (x : ℕ × ℕ × Option ℕ). x.1) now.same

    reaches : (slot : Slot) (c : Came i kept granting slot) (a : AccessValue) → Reached i kept granting slot a → Reaches i kept slot.group a.ptr
    reaches slot c a r = by r.whose
      where
        by : (r.who ≡ Callers slot.group) ⊎ (r.who ≡ Alone slot.number) → Reaches i kept slot.group a.ptr
        by (inl e) = by_callers (subst (λ (x : Who). Own x a.ptr) e r.owns)
        by (inr e) =
            let number : c.slot.number ≡ slot.number = ap (λ (y : ℕ × ℕ × Option ℕ). y.0) c.same in
            by_slot c.slot (filter_contained (λ (y : Slot). is_running y.state) i.slots c.slot c.among).0 (ap (λ (y : ℕ × ℕ × Option ℕ). y.1) c.same)
            (subst (λ (k : ℕ). Granted i kept (Holds (KernelSlot k) a.ptr)) (sym number) (subst (λ (x : Who). Own x a.ptr) e r.owns))

    names : (slot : Slot) (o : Origin) → OriginOk i kept granting AsKernel o slot.number slot.group → IsNamed i kept slot.group o
    names slot (Door d) ok = names_door d ok.2 ok.1
    names slot (OfSlot m) ok = let k = ok.1 in subst (λ (y : ℕ). IsNamed i kept slot.group (OfSlot y)) k.number (names_slot k.slot k.among k.group k.kernel)

    behind : (slot : Slot) (a : AccessValue) (c : Cell) → is_kept kept a.addr ≡ true → cell_at i.memory a.addr ≡ Some c → Behind i kept granting slot a → IsBehind i kept slot.group a
    behind slot a c is at b = record { origin = b.thread.origin; named = names slot b.thread.origin b.origin; used = by a.kind b.used }
      where
        by : (kind : Kind) → Using kind i kept b.thread a.addr → UsesBy kind i kept b.thread.origin a.addr
        by Fetch u = record { cell = c; at = at; of_kept = is; thread = b.thread; derived = b.derived; origin = refl; used = u }
        by Load u = record { cell = c; at = at; of_kept = is; thread = b.thread; derived = b.derived; origin = refl; used = u }
        by LoadSet u = (
          record { cell = c; at = at; of_kept = is; thread = b.thread; derived = b.derived; origin = refl; used = u.0 },
          record { cell = c; at = at; of_kept = is; thread = b.thread; derived = b.derived; origin = refl; used = u.1 },
        )
        by Store u = record { cell = c; at = at; of_kept = is; thread = b.thread; derived = b.derived; origin = refl; used = u }

    confined : (a : AccessValue) → UsedBy i kept granting s.core (turn_of s n) a → IsConfined i kept (group_in (turn_of s n)) a
    confined a u = subst (λ (g : ℕ). IsConfined i kept g a) (sym (used_group u.slot u.at u.number)) (record {
      others = λ out.
          let r = u.touch.others out in
          record { by = a.ptr; reached = reaches u.slot u.came a r; covers = r.granted.inside; right = r.granted.right };
      kept_words = λ is c at. behind u.slot a c is at (u.touch.kept_words is c at);
    })

    turn_confined : AllByRecursion (IsConfined i kept (group_in (turn_of s n))) (touches (turn_of s n).step)
    turn_confined = each_map (UsedBy i kept granting s.core (turn_of s n)) (IsConfined i kept (group_in (turn_of s n))) confined (touches (turn_of s n).step)
        (turns_ok i i kept img img ks v granting begun s h n).uses

-- after every list of items, a kernel that keeps its segments confines each group
pub kernels_confine : (i : Image) (kept : List Segment) (items : List ℕ) → IsImage i → Keeps i kept → TurnsAreConfined i kept (run (start i) items)
kernels_confine i kept items img ks = λ n.
    let v : Variant i kept i = keepers_are_variants i kept img ks in
    turn_confined i kept img ks v (run (start i) items)
    (run_holds i i kept img img ks v (granting i kept) (begun i kept) items (start i) (start_holds i i kept img img ks v (granting i kept) (begun i kept))) n
