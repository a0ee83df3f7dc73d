-- When a round adds nothing, the tables are closed under the rules, and so they are exact.
use Rattle.std.proofs.Common.{◌≡◌, inl, inr, ℕ, Bool, true, List, [], ◌∷◌, ◌++◌, length}
use Rattle.std.proofs.Common.{Some, refl, sym, ap, ◌∙◌, subst, arith, length-append, eq-eqb}
use Rattle.std.proofs.lemmas.{Bool.cases_Bool, List.append-nil}
use Rattle.std.proofs.lemmas.List.Elements.{Contains-append_left, Contains-append_right}
use Rattle.std.specs.{Prelude.{if◌then◌else◌, ◌==◌, Contains}, List.flat_map}
use Rattle.mm_word.specs.{Pointer.{Pointer, enter_result}, declared.word.Cell.Cell}
use Rattle.mm_isa.specs.declared.instr.How.{How}
use Rattle.mm_model.specs.{Memory.cell_at, Slot.Slot, Image.Image, Turn.is_running}
use Rattle.mm_kernel.specs.Segments.{Segment, is_kept, is_fixed, lies_in, live_pointers, running_slots}
use Rattle.mm_kernel.specs.declared.fact.{Leak.TheVariants.{Across, Cell as InCell}}
use Rattle.mm_kernel.specs.declared.{form.Form.Form, outcome.Outcome.Outcome, thread.{Handler.Handler, Thread.Thread}}
use Rattle.mm_kernel.specs.declared.thread.Origin.{Origin, TheVariants.{Door, Slot as OfSlot}}
use Rattle.mm_kernel.specs.{Forms.exactly, Threads.{form_in, with_form, handler_of, own_thread, thread_through}}
use Rattle.mm_kernel.specs.Facts.{Fact, hand_out, take_up, Fact.{HasForm, HasFaulted, HasLeak}}
use Rattle.mm_kernel.specs.Turns.{outcomes, with_event}
use Rattle.mm_kernel.specs.Derived.{HasFirst, first_form, cell_facts, outcome_facts, reaches_across, resumed}
use Rattle.mm_keep.specs.Claims.{Claim, Tables, Begins, Grows, Holds, HoldsFact, IsSound, sizes_of}
use Rattle.mm_keep.specs.{Claims.Claim.{IsFact, SomeResumes, SomeWrites}, Closed.IsClosed}
use Rattle.mm_keep.specs.Searching.{across_facts, first_in, first_at, handed_in, handed_at, page_first, page_handed}
use Rattle.mm_keep.specs.Searching.{words_below, slot_facts, handler_in, handlers_in, begin_facts, firsts_in}
use Rattle.mm_keep.specs.Searching.{loaded_facts, stored_facts, ResumesBy, WritesBy, FollowsAtOnce, SomeAtOnce}
use Rattle.mm_keep.specs.Searching.{comes_from, taken_facts, read_facts, follows_from, entered_facts, enter_facts}
use Rattle.mm_keep.specs.Searching.{resumed_facts, written_facts, goes_on_facts, IsExact}
use Rattle.mm_keep.proofs.{Members.{none_in, in_first, in_flat, filter_in}, Meant.{in_if, only_in}}
use Rattle.mm_keep.proofs.{Closes.holds_derived, Words.page_with}
use Rattle.mm_kernel.specs.declared.outcome.Outcome.TheVariants as outcome

-- 1. Tables that have grown by nothing.

begins_whole : {A : Type 0} (xs ys : List A) → Begins xs ys → length xs ≡ length ys → ys ≡ xs
begins_whole xs ys b e = by b.more b.whole
  where
    by : (more : List _) → ys ≡ xs ++ more → ys ≡ xs
    by [] whole = whole ∙ append-nil xs
    by (x ∷ more) whole =
        let long = ap length whole ∙ length-append xs (x ∷ more) in
        absurd (omega (arith, long, e))

pub same_tables : (a b : Tables) → Grows a b → sizes_of a ≡ sizes_of b → b ≡ a
same_tables a b g e =
    let threads : length a.threads ≡ length b.threads = cc in
    let doors : length a.doors ≡ length b.doors = cc in
    let leaks : length a.leaks ≡ length b.leaks = cc in
    let stored : length a.stored ≡ length b.stored = cc in
    let events : length a.events ≡ length b.events = cc in
    let faulted : length a.faulted ≡ length b.faulted = cc in
    let resumes : length a.resumes ≡ length b.resumes = cc in
    let writes : length a.writes ≡ length b.writes = cc in
    let e1 = begins_whole a.threads b.threads g.threads threads in
    let e2 = begins_whole a.doors b.doors g.doors doors in
    let e3 = begins_whole a.leaks b.leaks g.leaks leaks in
    let e4 = begins_whole a.stored b.stored g.stored stored in
    let e5 = begins_whole a.events b.events g.events events in
    let e6 = begins_whole a.faulted b.faulted g.faulted faulted in
    let e7 = begins_whole a.resumes b.resumes g.resumes resumes in
    let e8 = begins_whole a.writes b.writes g.writes writes in
    λ j. record {
      threads = e1 j;
      doors = e2 j;
      leaks = e3 j;
      stored = e4 j;
      events = e5 j;
      faulted = e6 j;
      resumes = e7 j;
      writes = e8 j;
    }

-- 2. What the image begins with.

to_slot : (origin : Origin) (slot : ℕ) → origin ≡ OfSlot slot → comes_from origin slot ≡ true
to_slot (Door d) slot e = cc
to_slot (OfSlot n) slot e = let same : n ≡ slot = cc in eq-eqb n slot same

module _ (i : Image) (kept : List Segment) where
  across_in : (p : Pointer) → Contains (live_pointers i) p → reaches_across kept p ≡ true → Contains (begin_facts i kept) (HasLeak (Across p))
  across_in p live over = Contains-append_left (flat_map (across_facts kept) (live_pointers i))
      (flat_map (page_handed i kept) i.memory.pages ++ flat_map (slot_facts i kept) i.slots) (HasLeak (Across p))
      (in_flat (across_facts kept) (live_pointers i) p (HasLeak (Across p)) live
      (in_if (reaches_across kept p) (HasLeak (Across p) ∷ []) (HasLeak (Across p)) over (in_first (HasLeak (Across p)) [])))

  handed_all : (w : ℕ) (c : Cell) (fact : Fact) → cell_at i.memory w ≡ Some c → Contains (handed_at i kept w) fact → Contains (begin_facts i kept) fact
  handed_all w c fact at h =
      let p = page_with i.memory w c at in
      let slots = flat_map (slot_facts i kept) i.slots in
      let pages = flat_map (page_handed i kept) i.memory.pages in
      Contains-append_right (flat_map (across_facts kept) (live_pointers i)) (pages ++ slots) fact
      (Contains-append_left pages slots fact
      (in_flat (page_handed i kept) i.memory.pages p.page fact p.inside
      (in_flat (handed_at i kept) (words_below p.page.0 512) w fact p.has h)))

  slot_all : (s : Slot) (fact : Fact) → Contains (running_slots i) s → Contains (take_up i kept (own_thread i kept s)) fact → Contains (begin_facts i kept) fact
  slot_all s fact runs h =
      let slots = flat_map (slot_facts i kept) i.slots in
      let pages = flat_map (page_handed i kept) i.memory.pages in
      let k = filter_in (λ (t : Slot). is_running t.state) i.slots s runs in
      Contains-append_right (flat_map (across_facts kept) (live_pointers i)) (pages ++ slots) fact
      (Contains-append_right pages slots fact
      (in_flat (slot_facts i kept) i.slots s fact k.0
      (in_if (is_running s.state) (take_up i kept (own_thread i kept s)) fact k.1 h)))

  pub first_listed : (w : ℕ) (f : Form) → HasFirst i kept w f → Contains (firsts_in i kept) (w, f)
  first_listed w f h =
      let form = first_form (is_fixed i w) h.cell.word in
      let p = page_with i.memory w h.cell h.at in
      let here : Contains {X = ℕ × Form} ((w, form) ∷ []) (w, f) =
      subst (λ (g : Form). Contains {X = ℕ × Form} ((w, form) ∷ []) (w, g)) h.first (in_first {X = ℕ × Form} (w, form) []) in
      let there : Contains (first_in i kept w (Some h.cell)) (w, f) =
      in_if {X = ℕ × Form} (is_kept kept w) ((w, form) ∷ []) (w, f) h.of_kept here in
      in_flat (page_first i kept) i.memory.pages p.page (w, f) p.inside
      (in_flat (first_at i kept) (words_below p.page.0 512) w (w, f) p.has
      (subst (λ o. Contains (first_in i kept w o) (w, f)) (sym h.at) there))

  handler_listed : (s : Slot) → Contains (running_slots i) s → Contains (handlers_in i kept) (handler_of i kept s.handler)
  handler_listed s runs =
      let k = filter_in (λ (t : Slot). is_running t.state) i.slots s runs in
      in_flat (handler_in i kept) i.slots s (handler_of i kept s.handler) k.0
      (in_if (is_running s.state) (handler_of i kept s.handler ∷ []) (handler_of i kept s.handler) k.1
      (in_first (handler_of i kept s.handler) []))

-- 3. Closure.

module _ (i : Image) (kept : List Segment) (tables : Tables)
    (begun : (fact : Fact) → Contains (begin_facts i kept) fact → HoldsFact i kept tables fact)
    (looked : (t : Thread) → Contains tables.threads t → (claim : Claim)
    → SomeAtOnce i kept (firsts_in i kept) t (outcomes i kept t) claim → Holds i kept tables claim)
    (entered : (fact : Fact) → Contains (flat_map (enter_facts i kept (handlers_in i kept)) tables.doors) fact → HoldsFact i kept tables fact)
    (read : (t : Thread) → Contains tables.threads t → (o : Outcome) → Contains (outcomes i kept t) o → (fact : Fact)
    → Contains (follows_from i kept tables t o) fact → HoldsFact i kept tables fact)
    (went_on : (fact : Fact) → Contains (flat_map (goes_on_facts i kept tables) tables.faulted) fact → HoldsFact i kept tables fact) where
  cell_held : (w : ℕ) (c : Cell) → cell_at i.memory w ≡ Some c → (fact : Fact) → Contains (cell_facts i kept w c.word) fact → HoldsFact i kept tables fact
  cell_held w c at fact inside =
      let form = first_form (is_fixed i w) c.word in
      let hands = hand_out kept (exactly c.word) (InCell w (exactly c.word)) in
      elim (cases_Bool (is_kept kept w)) [
        | inl on ↦
            let here : Contains (HasForm w form ∷ []) fact = subst (λ (b : Bool). Contains (if b then HasForm w form ∷ [] else hands) fact) on inside in
            let has : HoldsFact i kept tables (HasForm w form) = inl (record { cell = c; at = at; of_kept = on; first = refl }) in
            subst (HoldsFact i kept tables) (only_in (HasForm w form) fact here) has
        | inr off ↦
            let here : Contains hands fact = subst (λ (b : Bool). Contains (if b then HasForm w form ∷ [] else hands) fact) off inside in
            let there : Contains (handed_in i kept w (Some c)) fact = subst (λ (b : Bool). Contains (if b then [] else hands) fact) (sym off) here in
            begun fact (handed_all i kept w c fact at (subst (λ o. Contains (handed_in i kept w o) fact) (sym at) there))
      ]

  enter_held : (door ip : Pointer) (s : Slot) → Contains tables.doors door → enter_result door ≡ Some ip → Contains (running_slots i) s → (fact : Fact)
      → Contains (take_up i kept (thread_through door ip (handler_of i kept s.handler))) fact → HoldsFact i kept tables fact
  enter_held door ip s held enters runs fact inside =
      let h = handler_of i kept s.handler in
      let here = in_flat (λ (n : Handler). take_up i kept (thread_through door ip n)) (handlers_in i kept) h fact (handler_listed i kept s runs) inside in
      let there : Contains (enter_facts i kept (handlers_in i kept) door) fact =
      subst (λ o. Contains (entered_facts i kept (handlers_in i kept) door o) fact) (sym enters) here in
      entered fact (in_flat (enter_facts i kept (handlers_in i kept)) tables.doors door fact held there)

  once : (t : Thread) → Contains tables.threads t → (o : Outcome) → Contains (outcomes i kept t) o → (claim : Claim)
      → FollowsAtOnce i kept (firsts_in i kept) t o claim → Holds i kept tables claim
  once t held o comes claim follows = looked t held claim (record { outcome = o; comes = comes; follows = follows })

  turn_held : (t : Thread) (o : Outcome) → Contains tables.threads t → Contains (outcomes i kept t) o → (fact : Fact)
      → Contains (outcome_facts i kept t o) fact → HoldsFact i kept tables fact
  turn_held t (outcome.Goes next) held comes fact h = once t held (outcome.Goes next) comes (IsFact fact) h
  turn_held t (outcome.Loads part reg next) held comes fact h = absurd (none_in fact h)
  turn_held t (outcome.Stores part form) held comes fact h = absurd (none_in fact h)
  turn_held t (outcome.HandsOut form leak) held comes fact h = once t held (outcome.HandsOut form leak) comes (IsFact fact) h
  turn_held t (outcome.Leaves linked) held comes fact h = once t held (outcome.Leaves linked) comes (IsFact fact) h
  turn_held t (outcome.Leaks leak) held comes fact h = once t held (outcome.Leaks leak) comes (IsFact fact) h
  turn_held t (outcome.Faults address value) held comes fact h = once t held (outcome.Faults address value) comes (IsFact fact) h
  turn_held t (outcome.TakesEvent reg next) held comes fact h = absurd (none_in fact h)
  turn_held t (outcome.Resumes how) held comes fact h = absurd (none_in fact h)
  turn_held t (outcome.ReadsServed reg from next) held comes fact h = absurd (none_in fact h)
  turn_held t (outcome.WritesServed reg form) held comes fact h = absurd (none_in fact h)

  load_held : (t next : Thread) (part : Segment) (reg w : ℕ) (f : Form) → Contains tables.threads t
      → Contains (outcomes i kept t) (outcome.Loads part reg next) → HoldsFact i kept tables (HasForm w f) → lies_in w part ≡ true
      → (fact : Fact) → Contains (take_up i kept (with_form next reg f)) fact → HoldsFact i kept tables fact
  load_held t next part reg w f held comes form lies fact inside =
      let here = in_if (lies_in w part) (take_up i kept (with_form next reg f)) fact lies inside in
      elim form [
        | inl first ↦ once t held (outcome.Loads part reg next) comes (IsFact fact)
            (in_flat (loaded_facts i kept part reg next) (firsts_in i kept) (w, f) fact (first_listed i kept w f first) here)
        | inr stored ↦ read t held (outcome.Loads part reg next) comes fact
            (in_flat (loaded_facts i kept part reg next) tables.stored (w, f) fact stored here)
      ]

  store_held : (t : Thread) (part : Segment) (w : ℕ) (c : Cell) (f : Form) → Contains tables.threads t
      → Contains (outcomes i kept t) (outcome.Stores part f) → cell_at i.memory w ≡ Some c → is_kept kept w ≡ true
      → lies_in w part ≡ true → HoldsFact i kept tables (HasForm w f)
  store_held t part w c f held comes at of_kept lies =
      let form = first_form (is_fixed i w) c.word in
      let here = in_if (lies_in w part) (HasForm w f ∷ []) (HasForm w f) lies (in_first (HasForm w f) []) in
      let has : HasFirst i kept w form = record { cell = c; at = at; of_kept = of_kept; first = refl } in
      once t held (outcome.Stores part f) comes (IsFact (HasForm w f))
      (in_flat (stored_facts part f) (firsts_in i kept) (w, form) (HasForm w f) (first_listed i kept w form has) here)

  resumes_held : (t : Thread) (h : ℕ) (how : How) → Contains tables.threads t → t.origin ≡ OfSlot h
      → Contains (outcomes i kept t) (outcome.Resumes how) → Contains tables.resumes (h, how)
  resumes_held t h how held from comes = once t held (outcome.Resumes how) comes (SomeResumes h how)
      (subst (λ o. ResumesBy o how (SomeResumes h how)) (sym from) refl)

  writes_held : (t : Thread) (h reg : ℕ) (f : Form) → Contains tables.threads t → t.origin ≡ OfSlot h
      → Contains (outcomes i kept t) (outcome.WritesServed reg f) → Contains tables.writes (h, reg, f)
  writes_held t h reg f held from comes = once t held (outcome.WritesServed reg f) comes (SomeWrites h reg f)
      (subst (λ o. WritesBy o reg f (SomeWrites h reg f)) (sym from) refl)

  on_held : (h : ℕ) (u : Thread) (fact : Fact) → Contains tables.faulted (h, u) → Contains (goes_on_facts i kept tables (h, u)) fact → HoldsFact i kept tables fact
  on_held h u fact faulted inside = went_on fact (in_flat (goes_on_facts i kept tables) tables.faulted (h, u) fact faulted inside)

  same_slot : (h : ℕ) → (h == h) ≡ true
  same_slot h = eq-eqb h h refl

  pub closes : IsClosed i kept tables
  closes = record {
    begins_in_cell = cell_held;
    begins_in_slot = λ s runs fact inside. begun fact (slot_all i kept s fact runs inside);
    reaches = λ p live over. begun (HasLeak (Across p)) (across_in i kept p live over);
    enters = enter_held;
    turns = turn_held;
    loads = load_held;
    stores = store_held;
    takes = λ t next h reg e held from comes event fact inside. read t held (outcome.TakesEvent reg next) comes fact
        (in_flat (taken_facts i kept t.origin reg next) tables.events (h, e) fact event
        (in_if (comes_from t.origin h) (take_up i kept (with_event next reg e.ip e.address e.value)) fact (to_slot t.origin h from) inside));
    resumes = λ t u next h how held from comes faulted is fact inside. on_held h u fact faulted
        (Contains-append_left (flat_map (resumed_facts i kept h u) tables.resumes) (flat_map (written_facts h u) tables.writes) fact
        (in_flat (resumed_facts i kept h u) tables.resumes (h, how) fact (resumes_held t h how held from comes)
        (in_if (h == h) (flat_map (take_up i kept) (resumed how u)) fact (same_slot h)
        (in_flat (take_up i kept) (resumed how u) next fact is inside))));
    reads_served = λ t u next h reg from held origin comes faulted fact inside. read t held (outcome.ReadsServed reg from next) comes fact
        (in_flat (read_facts i kept t.origin reg from next) tables.faulted (h, u) fact faulted
        (in_if (comes_from t.origin h) (take_up i kept (with_form next reg (form_in u from))) fact (to_slot t.origin h origin) inside));
    writes_served = λ t u h reg f held from comes faulted. on_held h u (HasFaulted h (with_form u reg f)) faulted
        (Contains-append_right (flat_map (resumed_facts i kept h u) tables.resumes) (flat_map (written_facts h u) tables.writes) (HasFaulted h (with_form u reg f))
        (in_flat (written_facts h u) tables.writes (h, reg, f) (HasFaulted h (with_form u reg f)) (writes_held t h reg f held from comes)
        (in_if (h == h) (HasFaulted h (with_form u reg f) ∷ []) (HasFaulted h (with_form u reg f)) (same_slot h)
        (in_first (HasFaulted h (with_form u reg f)) []))));
  }

  pub exact : IsSound i kept tables → IsExact i kept tables
  exact s = record { sound = λ fact held. s.means (IsFact fact) held; whole = holds_derived i kept tables closes }
