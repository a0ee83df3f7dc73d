-- What a search puts in is derived.
use Rattle.std.proofs.Common.{◌≡◌, inl, inr, ℕ, Bool, true, false, List, [], ◌∷◌, ◌++◌, Option, Some, None, refl}
use Rattle.std.proofs.Common.{sym, ap, ◌∙◌, subst, eqb-true}
use Rattle.std.proofs.lemmas.List.Elements.{Contains-append_cases}
use Rattle.std.specs.{Prelude.{if◌then◌else◌, ◌==◌, Contains}, List.flat_map}
use Rattle.mm_word.specs.{Pointer.{Pointer as PointerValue, enter_result}, declared.word.Cell.Cell}
use Rattle.mm_isa.specs.declared.instr.How.{How}
use Rattle.mm_model.specs.{Memory.cell_at, Slot.Slot, Image.Image, Turn.is_running}
use Rattle.mm_kernel.specs.Segments.{Segment, is_kept, is_fixed, lies_in, live_pointers, running_slots}
use Rattle.mm_kernel.specs.declared.fact.{Leak.TheVariants.{Across, Cell as InCell}}
use Rattle.mm_kernel.specs.declared.{form.Form.Form, outcome.Outcome.Outcome, thread.{Handler.Handler, Thread.Thread}}
use Rattle.mm_kernel.specs.declared.thread.Origin.{Origin, TheVariants.{Door, Slot as OfSlot}}
use Rattle.mm_kernel.specs.{Forms.exactly, Threads.{form_in, with_form, handler_of, own_thread, thread_through}}
use Rattle.mm_kernel.specs.Facts.{Fact, hand_out, take_up}
use Rattle.mm_kernel.specs.Facts.Fact.{HasThread, HasForm, HasDoor, HasEvent, HasFaulted, HasLeak}
use Rattle.mm_kernel.specs.Turns.{outcomes, with_event}
use Rattle.mm_kernel.specs.Derived.{Derived, HasFirst, first_form, outcome_facts, reaches_across, resumed}
use Rattle.mm_kernel.specs.Derived.Derived.{begins_in_cell, begins_in_slot, reaches, enters, turns, loads, stores, takes}
use Rattle.mm_kernel.specs.Derived.Derived.{resumes, reads_served, writes_served}
use Rattle.mm_keep.specs.Claims.{Claim, Tables, Facts, IsSound, Means, SomeComesTo}
use Rattle.mm_keep.specs.Claims.Claim.{IsFact, SomeResumes, SomeWrites}
use Rattle.mm_keep.specs.Searching.{across_facts, first_in, first_at, handed_in, handed_at, page_first, page_handed}
use Rattle.mm_keep.specs.Searching.{words_below, slot_facts, handler_in}
use Rattle.mm_keep.specs.Searching.{handlers_in, begin_facts, firsts_in, loaded_facts, stored_facts, ResumesBy, WritesBy}
use Rattle.mm_keep.specs.Searching.{FollowsAtOnce, SomeAtOnce, comes_from, taken_facts, read_facts, follows_from}
use Rattle.mm_keep.specs.Searching.{entered_facts, enter_facts, resumed_facts, written_facts}
use Rattle.mm_keep.proofs.Members.{none_in, in_first, in_cases, in_filter, flat_in}
use Rattle.mm_kernel.specs.declared.outcome.Outcome.TheVariants as outcome

-- 1. Lists under a test, and lists of one.

module _ {X : Type 0} where
  pub if_in : (b : Bool) (xs : List X) (x : X) → Contains (if b then xs else []) x → (b ≡ true) × Contains xs x
  if_in true xs x h = (refl, h)
  if_in false xs x h = absurd (none_in x h)

  pub in_if : (b : Bool) (xs : List X) (x : X) → b ≡ true → Contains xs x → Contains (if b then xs else []) x
  in_if true xs x e h = h
  in_if false xs x e h = cc

  pub only_in : (x y : X) → Contains (x ∷ []) y → x ≡ y
  only_in x y h = elim (in_cases x [] y h) [ inl same ↦ same | inr none ↦ absurd (none_in y none) ]

-- no choice but the second
second : {X : Type 0} (b : Bool) (xs ys : List X) (x : X) → Contains (if b then [] else ys) x → Contains (if b then xs else ys) x
second true xs ys x h = absurd (none_in x h)
second false xs ys x h = h

pub from_slot : (origin : Origin) (slot : ℕ) → comes_from origin slot ≡ true → origin ≡ OfSlot slot
from_slot (Door d) slot e = cc
from_slot (OfSlot n) slot e = ap OfSlot (eqb-true n slot e)

module _ (i : Image) (kept : List Segment) where
  -- 2. What the image begins with.

  -- a handler, of a running slot
  pub record OfRunning (handler : Handler) : Type 0 where
    pub slot : Slot
    pub runs : Contains (running_slots i) slot
    pub is : handler ≡ handler_of i kept slot.handler

  pub runs_with : (handler : Handler) → Contains (handlers_in i kept) handler → OfRunning handler
  runs_with handler h =
      let k = flat_in (handler_in i kept) i.slots handler h in
      let r = if_in (is_running k.source.state) (handler_of i kept k.source.handler ∷ []) handler k.has in
      record {
        slot = k.source;
        runs = in_filter (λ (s : Slot). is_running s.state) i.slots k.source k.inside r.0;
        is = sym (only_in (handler_of i kept k.source.handler) handler r.1);
      }

  pub first_found : (w : ℕ) (f : Form) → Contains (firsts_in i kept) (w, f) → HasFirst i kept w f
  first_found w f h =
      let p = flat_in (page_first i kept) i.memory.pages (w, f) h in
      let k = flat_in (first_at i kept) (words_below p.source.0 512) (w, f) p.has in
      by k.source (cell_at i.memory k.source) refl k.has
    where
      by : (v : ℕ) (o : Option Cell) → cell_at i.memory v ≡ o → Contains (first_in i kept v o) (w, f) → HasFirst i kept w f
      by v None is inside = absurd (none_in (w, f) inside)
      by v (Some c) is inside =
          let form = first_form (is_fixed i v) c.word in
          let r = if_in (is_kept kept v) ((v, form) ∷ []) (w, f) inside in
          let same = only_in {X = ℕ × Form} (v, form) (w, f) r.1 in
          let found : HasFirst i kept v form = record { cell = c; at = is; of_kept = r.0; first = refl } in
          subst (λ (e : ℕ × Form). HasFirst i kept e.0 e.1) same found

  across_means : (fact : Fact) → Contains (flat_map (across_facts kept) (live_pointers i)) fact → Derived i kept fact
  across_means fact h =
      let k = flat_in (across_facts kept) (live_pointers i) fact h in
      let r = if_in (reaches_across kept k.source) (HasLeak (Across k.source) ∷ []) fact k.has in
      subst (Derived i kept) (only_in (HasLeak (Across k.source)) fact r.1) (reaches k.source k.inside r.0)

  handed_means : (fact : Fact) → Contains (flat_map (page_handed i kept) i.memory.pages) fact → Derived i kept fact
  handed_means fact h =
      let p = flat_in (page_handed i kept) i.memory.pages fact h in
      let k = flat_in (handed_at i kept) (words_below p.source.0 512) fact p.has in
      by k.source (cell_at i.memory k.source) refl k.has
    where
      by : (w : ℕ) (o : Option Cell) → cell_at i.memory w ≡ o → Contains (handed_in i kept w o) fact → Derived i kept fact
      by w None is inside = absurd (none_in fact inside)
      by w (Some c) is inside = begins_in_cell w c is
          (second (is_kept kept w) (HasForm w (first_form (is_fixed i w) c.word) ∷ [])
          (hand_out kept (exactly c.word) (InCell w (exactly c.word))) fact inside)

  slot_means : (fact : Fact) → Contains (flat_map (slot_facts i kept) i.slots) fact → Derived i kept fact
  slot_means fact h =
      let k = flat_in (slot_facts i kept) i.slots fact h in
      let r = if_in (is_running k.source.state) (take_up i kept (own_thread i kept k.source)) fact k.has in
      begins_in_slot k.source (in_filter (λ (s : Slot). is_running s.state) i.slots k.source k.inside r.0) r.1

  pub begun_means : (fact : Fact) → Contains (begin_facts i kept) fact → Derived i kept fact
  begun_means fact h =
      let handed = flat_map (page_handed i kept) i.memory.pages in
      let slots = flat_map (slot_facts i kept) i.slots in
      elim (Contains-append_cases (flat_map (across_facts kept) (live_pointers i)) (handed ++ slots) fact h) [
        | inl here ↦ across_means fact here
        | inr later ↦ elim (Contains-append_cases handed slots fact later) [
          | inl here ↦ handed_means fact here
          | inr there ↦ slot_means fact there
        ]
      ]

  -- 3. What follows from a turn by itself.

  pub facts_mean : (facts : List Fact) → ((fact : Fact) → Contains facts fact → Derived i kept fact) → (claim : Claim)
      → Facts facts claim → Means i kept claim
  facts_mean facts all (IsFact fact) h = all fact h
  facts_mean facts all (SomeResumes slot how) h = absurd h
  facts_mean facts all (SomeWrites slot reg form) h = absurd h

  -- a kept word has its first form
  pub first_derived : (w : ℕ) (f : Form) → HasFirst i kept w f → Derived i kept (HasForm w f)
  first_derived w f h =
      let form = first_form (is_fixed i w) h.cell.word in
      let hands = hand_out kept (exactly h.cell.word) (InCell w (exactly h.cell.word)) in
      let here : Contains (HasForm w form ∷ []) (HasForm w f) = subst (λ g. Contains (HasForm w form ∷ []) (HasForm w g)) h.first (in_first (HasForm w form) []) in
      begins_in_cell w h.cell h.at
      (subst (λ (b : Bool). Contains (if b then HasForm w form ∷ [] else hands) (HasForm w f)) (sym h.of_kept) here)

  module _ (t : Thread) (d : Derived i kept (HasThread t)) where
    loaded_mean : (part : Segment) (reg : ℕ) (next : Thread) → Contains (outcomes i kept t) (outcome.Loads part reg next)
        → (held : List (ℕ × Form)) → ((w : ℕ) (f : Form) → Contains held (w, f) → Derived i kept (HasForm w f)) → (fact : Fact)
        → Contains (flat_map (loaded_facts i kept part reg next) held) fact → Derived i kept fact
    loaded_mean part reg next comes held all fact h =
        let k = flat_in (loaded_facts i kept part reg next) held fact h in
        let r = if_in (lies_in k.source.0 part) (take_up i kept (with_form next reg k.source.1)) fact k.has in
        loads t next part reg k.source.0 k.source.1 d comes (all k.source.0 k.source.1 k.inside) r.0 r.1

    stored_mean : (part : Segment) (form : Form) → Contains (outcomes i kept t) (outcome.Stores part form)
        → (first : List (ℕ × Form)) → ((w : ℕ) (f : Form) → Contains first (w, f) → HasFirst i kept w f) → (fact : Fact)
        → Contains (flat_map (stored_facts part form) first) fact → Derived i kept fact
    stored_mean part form comes first all fact h =
        let k = flat_in (stored_facts part form) first fact h in
        let r = if_in (lies_in k.source.0 part) (HasForm k.source.0 form ∷ []) fact k.has in
        let has = all k.source.0 k.source.1 k.inside in
        subst (Derived i kept) (only_in (HasForm k.source.0 form) fact r.1)
        (stores t part k.source.0 has.cell form d comes has.at has.of_kept r.0)

    resumes_mean : (how : How) → Contains (outcomes i kept t) (outcome.Resumes how) → (origin : Origin) → t.origin ≡ origin
        → (claim : Claim) → ResumesBy origin how claim → Means i kept claim
    resumes_mean how comes (Door door) is claim h = absurd h
    resumes_mean how comes (OfSlot n) is claim same =
        let means : Means i kept (SomeResumes n how) = record { thread = t; derived = d; origin = is; comes = comes } in
        subst (Means i kept) same means

    writes_mean : (reg : ℕ) (form : Form) → Contains (outcomes i kept t) (outcome.WritesServed reg form) → (origin : Origin)
        → t.origin ≡ origin → (claim : Claim) → WritesBy origin reg form claim → Means i kept claim
    writes_mean reg form comes (Door door) is claim h = absurd h
    writes_mean reg form comes (OfSlot n) is claim same =
        let means : Means i kept (SomeWrites n reg form) = record { thread = t; derived = d; origin = is; comes = comes } in
        subst (Means i kept) same means

    turn_means : (o : Outcome) → Contains (outcomes i kept t) o → (claim : Claim) → Facts (outcome_facts i kept t o) claim
        → Means i kept claim
    turn_means o comes claim h = facts_mean (outcome_facts i kept t o) (λ fact inside. turns t o d comes inside) claim h

    once_means : (first : List (ℕ × Form)) → ((w : ℕ) (f : Form) → Contains first (w, f) → HasFirst i kept w f)
        → (o : Outcome) → Contains (outcomes i kept t) o → (claim : Claim) → FollowsAtOnce i kept first t o claim
        → Means i kept claim
    once_means first all (outcome.Goes next) comes claim h = turn_means (outcome.Goes next) comes claim h
    once_means first all (outcome.Loads part reg next) comes claim h =
        facts_mean (flat_map (loaded_facts i kept part reg next) first)
        (loaded_mean part reg next comes first (λ w f inside. first_derived w f (all w f inside))) claim h
    once_means first all (outcome.Stores part form) comes claim h =
        facts_mean (flat_map (stored_facts part form) first) (stored_mean part form comes first all) claim h
    once_means first all (outcome.HandsOut form leak) comes claim h = turn_means (outcome.HandsOut form leak) comes claim h
    once_means first all (outcome.Leaves linked) comes claim h = turn_means (outcome.Leaves linked) comes claim h
    once_means first all (outcome.Leaks leak) comes claim h = turn_means (outcome.Leaks leak) comes claim h
    once_means first all (outcome.Faults address value) comes claim h =
        turn_means (outcome.Faults address value) comes claim h
    once_means first all (outcome.TakesEvent reg next) comes claim h =
        turn_means (outcome.TakesEvent reg next) comes claim h
    once_means first all (outcome.Resumes how) comes claim h = resumes_mean how comes t.origin refl claim h
    once_means first all (outcome.ReadsServed reg from next) comes claim h =
        turn_means (outcome.ReadsServed reg from next) comes claim h
    once_means first all (outcome.WritesServed reg form) comes claim h =
        writes_mean reg form comes t.origin refl claim h

  pub at_once_means : (t : Thread) → Derived i kept (HasThread t) → (first : List (ℕ × Form)) → first ≡ firsts_in i kept
      → (claim : Claim) → SomeAtOnce i kept first t (outcomes i kept t) claim → Means i kept claim
  at_once_means t d first is claim h =
      once_means t d first (λ w f inside. first_found w f (subst (λ l. Contains l (w, f)) is inside)) h.outcome h.comes claim h.follows

  -- 4. What follows from what others leave.

  module _ (tables : Tables) (s : IsSound i kept tables) where
    pub enters_means : (fact : Fact) → Contains (flat_map (enter_facts i kept (handlers_in i kept)) tables.doors) fact
        → Derived i kept fact
    enters_means fact h =
        let k = flat_in (enter_facts i kept (handlers_in i kept)) tables.doors fact h in
        by k.source (s.means (IsFact (HasDoor k.source)) k.inside) (enter_result k.source) refl k.has
      where
        by : (door : PointerValue) → Derived i kept (HasDoor door) → (o : Option PointerValue) → enter_result door ≡ o
            → Contains (entered_facts i kept (handlers_in i kept) door o) fact → Derived i kept fact
        by door d None is inside = absurd (none_in fact inside)
        by door d (Some ip) is inside =
            let k = flat_in (λ (n : Handler). take_up i kept (thread_through door ip n)) (handlers_in i kept) fact inside in
            let r = runs_with k.source k.inside in
            enters door ip r.slot d is r.runs
            (subst (λ (n : Handler). Contains (take_up i kept (thread_through door ip n)) fact) r.is k.has)

    module _ (t : Thread) (d : Derived i kept (HasThread t)) where
      pub from_means : (o : Outcome) → Contains (outcomes i kept t) o → (fact : Fact)
          → Contains (follows_from i kept tables t o) fact → Derived i kept fact
      from_means (outcome.Goes next) comes fact h = absurd (none_in fact h)
      from_means (outcome.Loads part reg next) comes fact h = loaded_mean t d part reg next comes tables.stored
          (λ w f inside. s.means (IsFact (HasForm w f)) (inr inside)) fact h
      from_means (outcome.Stores part form) comes fact h = absurd (none_in fact h)
      from_means (outcome.HandsOut form leak) comes fact h = absurd (none_in fact h)
      from_means (outcome.Leaves linked) comes fact h = absurd (none_in fact h)
      from_means (outcome.Leaks leak) comes fact h = absurd (none_in fact h)
      from_means (outcome.Faults address value) comes fact h = absurd (none_in fact h)
      from_means (outcome.TakesEvent reg next) comes fact h =
          let k = flat_in (taken_facts i kept t.origin reg next) tables.events fact h in
          let e = k.source.1 in
          let r = if_in (comes_from t.origin k.source.0) (take_up i kept (with_event next reg e.ip e.address e.value)) fact k.has in
          takes t next k.source.0 reg e d (from_slot t.origin k.source.0 r.0) comes
          (s.means (IsFact (HasEvent k.source.0 e)) k.inside) r.1
      from_means (outcome.Resumes how) comes fact h = absurd (none_in fact h)
      from_means (outcome.ReadsServed reg from next) comes fact h =
          let k = flat_in (read_facts i kept t.origin reg from next) tables.faulted fact h in
          let u = k.source.1 in
          let r = if_in (comes_from t.origin k.source.0) (take_up i kept (with_form next reg (form_in u from))) fact k.has in
          reads_served t u next k.source.0 reg from d (from_slot t.origin k.source.0 r.0) comes
          (s.means (IsFact (HasFaulted k.source.0 u)) k.inside) r.1
      from_means (outcome.WritesServed reg form) comes fact h = absurd (none_in fact h)

    module _ (slot : ℕ) (u : Thread) (d : Derived i kept (HasFaulted slot u)) where
      pub resumed_means : (fact : Fact) → Contains (flat_map (resumed_facts i kept slot u) tables.resumes) fact → Derived i kept fact
      resumed_means fact h =
          let k = flat_in (resumed_facts i kept slot u) tables.resumes fact h in
          let how = k.source.1 in
          let r = if_in (k.source.0 == slot) (flat_map (take_up i kept) (resumed how u)) fact k.has in
          let n = flat_in (take_up i kept) (resumed how u) fact r.1 in
          let c : SomeComesTo i kept k.source.0 (outcome.Resumes how) = s.means (SomeResumes k.source.0 how) k.inside in
          resumes c.thread u n.source slot how c.derived (c.origin ∙ ap OfSlot (eqb-true k.source.0 slot r.0)) c.comes d n.inside n.has

      pub written_means : (fact : Fact) → Contains (flat_map (written_facts slot u) tables.writes) fact → Derived i kept fact
      written_means fact h =
          let k = flat_in (written_facts slot u) tables.writes fact h in
          let reg = k.source.1 in
          let form = k.source.2 in
          let r = if_in (k.source.0 == slot) (HasFaulted slot (with_form u reg form) ∷ []) fact k.has in
          let c : SomeComesTo i kept k.source.0 (outcome.WritesServed reg form) = s.means (SomeWrites k.source.0 reg form) k.inside in
          subst (Derived i kept) (only_in (HasFaulted slot (with_form u reg form)) fact r.1)
          (writes_served c.thread u slot reg form c.derived (c.origin ∙ ap OfSlot (eqb-true k.source.0 slot r.0)) c.comes d)
