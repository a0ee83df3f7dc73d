-- What becomes of a search in a round.
use Rattle.std.proofs.Common.{◌≡◌, inl, inr, ℕ, ◌+◌, ◌<◌, ◌≤◌, Bool, true, false, List, [], ◌∷◌, ◌++◌, length, take}
use Rattle.std.proofs.Common.{get_or, Option, Some, None, refl, sym, ap, ◌∙◌, subst, arith}
use Rattle.std.proofs.lemmas.Option.{slice_get_read, slice_get_within}
use Rattle.std.proofs.lemmas.{Bool.cases_lt, List.take_all}
use Rattle.std.proofs.lemmas.List.Elements.{Contains-append_left, Contains-append_right, Contains-append_cases}
use Rattle.std.specs.Prelude.{Contains, if◌then◌else◌, slice_get}
use Rattle.std.specs.List.{flat_map, list_any}
use Rattle.mm_model.specs.Image.{Image}
use Rattle.mm_word.specs.{Pointer.Pointer, declared.word.Cell.Cell}
use Rattle.mm_model.specs.Slot.{Slot}
use Rattle.mm_kernel.specs.{Segments.{Segment, live_pointers}, Uses.{AreDistinct, HasMore}}
use Rattle.mm_kernel.specs.declared.{form.Form.Form, outcome.Outcome.Outcome, thread.{Handler.Handler, Thread.Thread}}
use Rattle.mm_kernel.specs.{Facts.{Fact, Fact.{HasThread, HasForm, HasDoor, HasEvent, HasFaulted, HasLeak}}, Turns.outcomes, Derived.Derived}
use Rattle.mm_keep.specs.declared.search.Search.{Search}
use Rattle.mm_keep.specs.Claims.{Claim, Tables, Begins, Grows, Adds, AddsFacts, Holds, HoldsFact, IsSound, Means}
use Rattle.mm_keep.specs.Claims.{nothing, sizes_of}
use Rattle.mm_keep.specs.Claims.Claim.{IsFact, SomeResumes, SomeWrites}
use Rattle.mm_keep.specs.Searching.{across_facts, page_handed, page_first, slot_facts, handler_in}
use Rattle.mm_keep.specs.Searching.{handlers_in, begin_facts, firsts_in, loaded_facts, SomeAtOnce, taken_facts, read_facts}
use Rattle.mm_keep.specs.Searching.{follows_from, again_of, again_facts, depends, noted, enter_facts, resumed_facts}
use Rattle.mm_keep.specs.Searching.{written_facts, goes_on_facts, Derives, IsSearching, WentRound, IsExact}
use Rattle.mm_keep.proofs.Claims.{begins_has, grows_same, grows_then, holds_on, facts_then}
use Rattle.mm_keep.proofs.Loops.{begins_get, begins_slice, begins_long, begins_within, get_in, read_in, some_passes, flat_more}
use Rattle.mm_keep.proofs.Meant.{facts_mean, at_once_means, begun_means, enters_means, from_means, resumed_means, written_means}
use Rattle.mm_keep.proofs.Meant.{first_derived, only_in}
use Rattle.mm_keep.proofs.{Members.{none_in, in_first, flat_in, in_flat}, Closing.{same_tables, exact}}
use Rattle.mm_kernel.specs.declared.outcome.Outcome.TheVariants as outcome

-- 1. What follows from tables follows from them when they have grown.

flat_on : {X Y : Type 0} (f : X → List Y) (xs ys : List X) (y : Y) → Begins xs ys → Contains (flat_map f xs) y → Contains (flat_map f ys) y
flat_on f xs ys y b h = let k = flat_in f xs y h in in_flat f ys k.source y (begins_has xs ys k.source b k.inside) k.has

begins_back : {X : Type 0} (xs ys : List X) (k : ℕ) (x : X) → Begins xs ys → k < length xs → slice_get ys k ≡ Some x → slice_get xs k ≡ Some x
begins_back xs ys k x b lt e = slice_get_read xs (length xs) k x refl lt (begins_get xs ys k x b lt e)

module _ (i : Image) (kept : List Segment) where
  follows_on : (t : Thread) (o : Outcome) (a b : Tables) → Grows a b → (fact : Fact) → Contains (follows_from i kept a t o) fact
      → Contains (follows_from i kept b t o) fact
  follows_on t (outcome.Goes next) a b g fact h = h
  follows_on t (outcome.Loads part reg next) a b g fact h = flat_on (loaded_facts i kept part reg next) a.stored b.stored fact g.stored h
  follows_on t (outcome.Stores part form) a b g fact h = h
  follows_on t (outcome.HandsOut form leak) a b g fact h = h
  follows_on t (outcome.Leaves linked) a b g fact h = h
  follows_on t (outcome.Leaks leak) a b g fact h = h
  follows_on t (outcome.Faults address value) a b g fact h = h
  follows_on t (outcome.TakesEvent reg next) a b g fact h = flat_on (taken_facts i kept t.origin reg next) a.events b.events fact g.events h
  follows_on t (outcome.Resumes how) a b g fact h = h
  follows_on t (outcome.ReadsServed reg from next) a b g fact h = flat_on (read_facts i kept t.origin reg from next) a.faulted b.faulted fact g.faulted h
  follows_on t (outcome.WritesServed reg form) a b g fact h = h

  depends_on : (t : Thread) (o : Outcome) (a : Tables) (fact : Fact) → Contains (follows_from i kept a t o) fact → depends o ≡ true
  depends_on t (outcome.Goes next) a fact h = absurd (none_in fact h)
  depends_on t (outcome.Loads part reg next) a fact h = refl
  depends_on t (outcome.Stores part form) a fact h = absurd (none_in fact h)
  depends_on t (outcome.HandsOut form leak) a fact h = absurd (none_in fact h)
  depends_on t (outcome.Leaves linked) a fact h = absurd (none_in fact h)
  depends_on t (outcome.Leaks leak) a fact h = absurd (none_in fact h)
  depends_on t (outcome.Faults address value) a fact h = absurd (none_in fact h)
  depends_on t (outcome.TakesEvent reg next) a fact h = refl
  depends_on t (outcome.Resumes how) a fact h = absurd (none_in fact h)
  depends_on t (outcome.ReadsServed reg from next) a fact h = refl
  depends_on t (outcome.WritesServed reg form) a fact h = absurd (none_in fact h)

  -- a thread and an outcome from which a fact follows
  record FromThread (tables : Tables) (at : ℕ) (fact : Fact) : Type 0 where
    pub thread : Thread
    pub is : slice_get tables.threads at ≡ Some thread
    pub outcome : Outcome
    pub comes : Contains (outcomes i kept thread) outcome
    pub follows : Contains (follows_from i kept tables thread outcome) fact

  from_thread : (tables : Tables) (at : ℕ) (fact : Fact) → Contains (again_facts i kept tables at) fact → FromThread tables at fact
  from_thread tables at fact h = by (slice_get tables.threads at) refl h
    where
      by : (o : Option Thread) → slice_get tables.threads at ≡ o → Contains (again_of i kept tables o) fact → FromThread tables at fact
      by None is inside = absurd (none_in fact inside)
      by (Some t) is inside =
          let k = flat_in (follows_from i kept tables t) (outcomes i kept t) fact inside in
          record { thread = t; is = is; outcome = k.source; comes = k.inside; follows = k.has }

  again_in : (tables : Tables) (at : ℕ) (t : Thread) (o : Outcome) (fact : Fact) → slice_get tables.threads at ≡ Some t
      → Contains (outcomes i kept t) o → Contains (follows_from i kept tables t o) fact → Contains (again_facts i kept tables at) fact
  again_in tables at t o fact is comes h =
      subst (λ p. Contains (again_of i kept tables p) fact) (sym is) (in_flat (follows_from i kept tables t) (outcomes i kept t) o fact comes h)

  again_on : (at : ℕ) (a b : Tables) → Grows a b → (fact : Fact) → Contains (again_facts i kept a at) fact → Contains (again_facts i kept b at) fact
  again_on at a b g fact h =
      let f = from_thread a at fact h in
      again_in b at f.thread f.outcome fact (begins_slice a.threads b.threads at f.thread g.threads f.is) f.comes
      (follows_on f.thread f.outcome a b g fact f.follows)

  goes_on_on : (x : ℕ × Thread) (a b : Tables) → Grows a b → (fact : Fact) → Contains (goes_on_facts i kept a x) fact → Contains (goes_on_facts i kept b x) fact
  goes_on_on x a b g fact h =
      let resumed = resumed_facts i kept x.0 x.1 in
      let written = written_facts x.0 x.1 in
      elim (Contains-append_cases (flat_map resumed a.resumes) (flat_map written a.writes) fact h) [
        | inl here ↦ Contains-append_left (flat_map resumed b.resumes) (flat_map written b.writes) fact (flat_on resumed a.resumes b.resumes fact g.resumes here)
        | inr there ↦ Contains-append_right (flat_map resumed b.resumes) (flat_map written b.writes) fact (flat_on written a.writes b.writes fact g.writes there)
      ]

  all_go_on : (a b : Tables) → Grows a b → (fact : Fact) → Contains (flat_map (goes_on_facts i kept a) a.faulted) fact
      → Contains (flat_map (goes_on_facts i kept b) b.faulted) fact
  all_go_on a b g fact h =
      let k = flat_in (goes_on_facts i kept a) a.faulted fact h in
      in_flat (goes_on_facts i kept b) b.faulted k.source fact (begins_has a.faulted b.faulted k.source g.faulted k.inside)
      (goes_on_on k.source a b g fact k.has)

  -- 2. Loops that derive facts.

  pub derives_none : (a : Tables) → Derives i kept [] a a
  derives_none a = record { grows = grows_same a; holds = λ fact h. absurd (none_in fact h); sound = λ s. s }

  pub derives_same : (xs ys : List Fact) (a b : Tables) → xs ≡ ys → Derives i kept xs a b → Derives i kept ys a b
  derives_same xs ys a b e h = subst (λ l. Derives i kept l a b) e h

  -- one element more, of which other facts are added that hold these
  derives_more : {X : Type 0} (f : X → List Fact) (xs : List X) (k : ℕ) (x : X) (a b c : Tables) → k < length xs → x ≡ get_or xs k x
      → Derives i kept (flat_map f (take k xs)) a b → Grows b c → ((fact : Fact) → Contains (f x) fact → HoldsFact i kept c fact)
      → (IsSound i kept a → IsSound i kept b → IsSound i kept c) → Derives i kept (flat_map f (take (k + 1) xs)) a c
  derives_more f xs k x a b c lt is d g holds sound = record {
    grows = grows_then a b c d.grows g;
    holds = λ fact inside. elim (Contains-append_cases (flat_map f (take k xs)) (f x) fact (subst (λ l. Contains l fact) (flat_more f xs k x lt is) inside)) [
      | inl early ↦ holds_on i kept b c g (IsFact fact) (d.holds fact early)
      | inr here ↦ holds fact here
    ];
    sound = λ s. sound s (d.sound s);
  }

  pub derives_all : {X : Type 0} (f : X → List Fact) (xs : List X) (k : ℕ) (a b : Tables) → length xs ≤ k
      → Derives i kept (flat_map f (take k xs)) a b → Derives i kept (flat_map f xs) a b
  derives_all f xs k a b le d = derives_same (flat_map f (take k xs)) (flat_map f xs) a b (ap (flat_map f) (take_all k xs le)) d

  -- one outcome more of a thread that is looked at again
  pub outcome_more : (t : Thread) (os : List Outcome) (k : ℕ) (o : Outcome) (a b c : Tables) → Contains a.threads t → os ≡ outcomes i kept t
      → k < length os → o ≡ get_or os k o → Derives i kept (flat_map (follows_from i kept a t) (take k os)) a b
      → AddsFacts i kept (follows_from i kept b t o) b c → Derives i kept (flat_map (follows_from i kept a t) (take (k + 1) os)) a c
  outcome_more t os k o a b c inside all lt is d h =
      derives_more (follows_from i kept a t) os k o a b c lt is d h.grows
      (λ fact here. h.holds (IsFact fact) (follows_on t o a b d.grows fact here))
      (λ s sb. h.sound sb (facts_mean i kept (follows_from i kept b t o)
      (from_means i kept b sb t (s.means (IsFact (HasThread t)) inside) o (subst (λ l. Contains l o) all (read_in os k o lt is)))))

  -- a thread was looked at again
  pub looked_again : (t : Thread) (at : ℕ) (a b : Tables) → slice_get a.threads at ≡ Some t
      → Derives i kept (flat_map (follows_from i kept a t) (outcomes i kept t)) a b → Derives i kept (again_facts i kept a at) a b
  looked_again t at a b is d = subst (λ o. Derives i kept (again_of i kept a o) a b) (sym is) d

  -- one thread more that is looked at again
  pub reader_more : (readers : List ℕ) (k at : ℕ) (a b c : Tables) → k < length readers → at ≡ get_or readers k at
      → Derives i kept (flat_map (again_facts i kept a) (take k readers)) a b → Derives i kept (again_facts i kept b at) b c
      → Derives i kept (flat_map (again_facts i kept a) (take (k + 1) readers)) a c
  reader_more readers k at a b c lt is d h =
      derives_more (again_facts i kept a) readers k at a b c lt is d h.grows
      (λ fact here. h.holds fact (again_on at a b d.grows fact here)) (λ s sb. h.sound sb)

  -- one faulted thread more that goes on
  pub faulted_more : (k : ℕ) (x : ℕ × Thread) (a b c d : Tables) → k < length a.faulted → slice_get b.faulted k ≡ Some x
      → Derives i kept (flat_map (goes_on_facts i kept a) (take k a.faulted)) a b
      → AddsFacts i kept (flat_map (resumed_facts i kept x.0 x.1) b.resumes) b c
      → AddsFacts i kept (flat_map (written_facts x.0 x.1) c.writes) c d
      → Derives i kept (flat_map (goes_on_facts i kept a) (take (k + 1) a.faulted)) a d
  faulted_more k x a b c d lt got e r w =
      derives_more (goes_on_facts i kept a) a.faulted k x a b d lt is e (grows_then b c d r.grows w.grows) holds sound
    where
      is : x ≡ get_or a.faulted k x
      is = begins_get a.faulted b.faulted k x e.grows.faulted lt got

      inside : Contains a.faulted x
      inside = read_in a.faulted k x lt is

      holds : (fact : Fact) → Contains (goes_on_facts i kept a x) fact → HoldsFact i kept d fact
      holds fact here =
          elim (Contains-append_cases (flat_map (resumed_facts i kept x.0 x.1) a.resumes) (flat_map (written_facts x.0 x.1) a.writes) fact here) [
            | inl resumed ↦ holds_on i kept c d w.grows (IsFact fact)
                (r.holds (IsFact fact) (flat_on (resumed_facts i kept x.0 x.1) a.resumes b.resumes fact e.grows.resumes resumed))
            | inr written ↦ w.holds (IsFact fact)
                (flat_on (written_facts x.0 x.1) a.writes c.writes fact (grows_then a b c e.grows r.grows).writes written)
          ]

      sound : IsSound i kept a → IsSound i kept b → IsSound i kept d
      sound s sb =
          let has : Derived i kept (HasFaulted x.0 x.1) = s.means (IsFact (HasFaulted x.0 x.1)) inside in
          let sc = r.sound sb (facts_mean i kept (flat_map (resumed_facts i kept x.0 x.1) b.resumes) (resumed_means i kept b sb x.0 x.1 has)) in
          w.sound sc (facts_mean i kept (flat_map (written_facts x.0 x.1) c.writes) (written_means i kept c sc x.0 x.1 has))

  -- 3. A search.

  pub has_more : (tables : Tables) (limit : ℕ) → IsSound i kept tables → AreDistinct tables.threads → limit < length tables.threads → HasMore i kept limit
  has_more tables limit s distinct many = record {
    threads = tables.threads;
    distinct = distinct;
    derived = λ t inside. s.means (IsFact (HasThread t)) inside;
    many = many;
  }

  -- empty tables are sound: all that is held is the first forms of kept words
  nothing_sound : IsSound i kept nothing
  nothing_sound = record { means = means }
    where
      means : (claim : Claim) → Holds i kept nothing claim → Means i kept claim
      means (IsFact (HasThread t)) h = absurd (none_in t h)
      means (IsFact (HasForm w f)) (inl first) = first_derived i kept w f first
      means (IsFact (HasForm w f)) (inr later) = absurd (none_in (w, f) later)
      means (IsFact (HasDoor p)) h = absurd (none_in p h)
      means (IsFact (HasEvent n e)) h = absurd (none_in (n, e) h)
      means (IsFact (HasFaulted n t)) h = absurd (none_in (n, t) h)
      means (IsFact (HasLeak l)) h = absurd (none_in l h)
      means (SomeResumes n how) h = absurd (none_in (n, how) h)
      means (SomeWrites n reg f) h = absurd (none_in (n, reg, f) h)

  -- what the image begins with is there
  begins : (a b c : Tables) → AddsFacts i kept (flat_map (across_facts kept) (live_pointers i)) nothing a
      → AddsFacts i kept (flat_map (page_handed i kept) i.memory.pages) a b → AddsFacts i kept (flat_map (slot_facts i kept) i.slots) b c
      → AddsFacts i kept (begin_facts i kept) nothing c
  begins a b c g h k =
      let pages = flat_map (page_handed i kept) i.memory.pages in
      let slots = flat_map (slot_facts i kept) i.slots in
      facts_then i kept (flat_map (across_facts kept) (live_pointers i)) (pages ++ slots) nothing a c g (facts_then i kept pages slots a b c h k)

  -- a search begins
  pub begins_search : (s : Search) (was a b : Tables) (pointers : List Pointer) (pages : List (ℕ × List Cell)) (slots : List Slot)
      (first : List (ℕ × Form)) (handlers : List Handler)
      → was ≡ nothing → pointers ≡ live_pointers i → pages ≡ i.memory.pages → slots ≡ i.slots → first ≡ [] → handlers ≡ []
      → AddsFacts i kept (flat_map (across_facts kept) pointers) was a → AddsFacts i kept (flat_map (page_handed i kept) pages) a b
      → AddsFacts i kept (flat_map (slot_facts i kept) slots) b s.tables
      → s.first.items ≡ first ++ flat_map (page_first i kept) pages → s.handlers.items ≡ handlers ++ flat_map (handler_in i kept) slots
      → s.looked ≡ 0 → s.readers.items ≡ [] → IsSearching i kept s
  begins_search s was a b pointers pages slots first handlers empty all_pointers all_pages all_slots no_first no_handler one two three firsts handled none no_one =
      record {
        handlers = handled ∙ ap (λ l. l ++ flat_map (handler_in i kept) slots) no_handler ∙ ap (flat_map (handler_in i kept)) all_slots;
        first = firsts ∙ ap (λ l. l ++ flat_map (page_first i kept) pages) no_first ∙ ap (flat_map (page_first i kept)) all_pages;
        sound = whole.sound nothing_sound (facts_mean i kept (begin_facts i kept) (begun_means i kept));
        begun = λ fact inside. whole.holds (IsFact fact) inside;
        room = omega (arith, none);
        few = omega (arith, none);
        looked = λ k t lt at claim follows. absurd (omega (arith, none, lt));
        readers = λ k t lt at reads. absurd (omega (arith, none, lt));
        inside = λ k has. absurd (none_in k (subst (λ l. Contains l k) no_one has));
      }
    where
      whole : AddsFacts i kept (begin_facts i kept) nothing s.tables
      whole = begins a b s.tables
          (subst (λ t. AddsFacts i kept (flat_map (across_facts kept) (live_pointers i)) t a) empty
          (subst (λ l. AddsFacts i kept (flat_map (across_facts kept) l) was a) all_pointers one))
          (subst (λ l. AddsFacts i kept (flat_map (page_handed i kept) l) a b) all_pages two)
          (subst (λ l. AddsFacts i kept (flat_map (slot_facts i kept) l) b s.tables) all_slots three)

  -- a search of which the tables have grown
  pub search_grows : (s : Search) (now : Tables) → IsSearching i kept s → Grows s.tables now → IsSound i kept now
      → IsSearching i kept (record s { tables = now })
  search_grows s now h g sound = record {
    handlers = h.handlers;
    first = h.first;
    sound = sound;
    begun = λ fact inside. holds_on i kept s.tables now g (IsFact fact) (h.begun fact inside);
    room = (let le = begins_long s.tables.threads now.threads g.threads in let r = h.room in omega (arith, le, r));
    few = h.few;
    looked = λ k t lt at claim follows. holds_on i kept s.tables now g claim (h.looked k t lt (back k t lt at) claim follows);
    readers = λ k t lt at reads. h.readers k t lt (back k t lt at) reads;
    inside = λ k has. begins_within s.tables.threads now.threads k g.threads (h.inside k has);
  }
    where
      back : (k : ℕ) (t : Thread) → k < s.looked → slice_get now.threads k ≡ Some t → slice_get s.tables.threads k ≡ Some t
      back k t lt at = begins_back s.tables.threads now.threads k t g.threads (let r = h.room in omega (arith, r, lt)) at

  -- a search that has looked at one thread more
  pub looked_one : (s t : Search) (thread : Thread) → IsSearching i kept s → s.looked < length s.tables.threads
      → length s.tables.threads ≤ s.limit → slice_get s.tables.threads s.looked ≡ Some thread
      → Adds i kept (SomeAtOnce i kept s.first.items thread (outcomes i kept thread)) s.tables t.tables
      → t.limit ≡ s.limit → t.first.items ≡ s.first.items → t.handlers.items ≡ s.handlers.items → t.looked ≡ s.looked + 1
      → t.readers.items ≡ s.readers.items ++ noted s.looked (outcomes i kept thread) → IsSearching i kept t
  looked_one s t thread h next few got adds limit first handlers looked readers = record {
    handlers = handlers ∙ h.handlers;
    first = first ∙ h.first;
    sound = adds.sound h.sound (at_once_means i kept thread (h.sound.means (IsFact (HasThread thread)) (get_in s.tables.threads s.looked thread got)) s.first.items h.first);
    begun = λ fact inside. holds_on i kept s.tables t.tables adds.grows (IsFact fact) (h.begun fact inside);
    room = (let le = begins_long s.tables.threads t.tables.threads adds.grows.threads in omega (arith, le, next, looked));
    few = omega (arith, few, next, looked, limit);
    looked = λ k u lt at claim follows. seen k u lt at claim follows;
    readers = λ k u lt at reads. noted_all k u lt at reads;
    inside = λ k has. within k has;
  }
    where
      back : (k : ℕ) (u : Thread) → k < t.looked → slice_get t.tables.threads k ≡ Some u → slice_get s.tables.threads k ≡ Some u
      back k u lt at = begins_back s.tables.threads t.tables.threads k u adds.grows.threads (omega (arith, lt, looked, next)) at

      same : (k : ℕ) (u : Thread) → s.looked ≤ k → k < t.looked → slice_get t.tables.threads k ≡ Some u → u ≡ thread
      same k u le lt at =
          let is : k ≡ s.looked = omega (arith, le, lt, looked) in
          let one : slice_get s.tables.threads s.looked ≡ Some u = subst (λ m. slice_get s.tables.threads m ≡ Some u) is (back k u lt at) in
          let two : ◌≡◌ {A = Option Thread} (Some u) (Some thread) = sym one ∙ got in
          cc

      seen : (k : ℕ) (u : Thread) → k < t.looked → slice_get t.tables.threads k ≡ Some u → (claim : Claim)
          → SomeAtOnce i kept t.first.items u (outcomes i kept u) claim → Holds i kept t.tables claim
      seen k u lt at claim follows =
          let here = subst (λ l. SomeAtOnce i kept l u (outcomes i kept u) claim) first follows in
          elim (cases_lt k s.looked) [
            | inl less ↦ holds_on i kept s.tables t.tables adds.grows claim (h.looked k u less (back k u lt at) claim here)
            | inr more ↦ adds.holds claim (subst (λ v. SomeAtOnce i kept s.first.items v (outcomes i kept v) claim) (same k u more lt at) here)
          ]

      noted_all : (k : ℕ) (u : Thread) → k < t.looked → slice_get t.tables.threads k ≡ Some u → list_any depends (outcomes i kept u) ≡ true → Contains t.readers.items k
      noted_all k u lt at reads = subst (λ l. Contains l k) (sym readers) (elim (cases_lt k s.looked) [
        | inl less ↦ Contains-append_left s.readers.items (noted s.looked (outcomes i kept thread)) k (h.readers k u less (back k u lt at) reads)
        | inr more ↦
            let is : s.looked ≡ k = omega (arith, more, lt, looked) in
            let on : list_any depends (outcomes i kept thread) ≡ true = subst (λ v. list_any depends (outcomes i kept v) ≡ true) (same k u more lt at) reads in
            Contains-append_right s.readers.items (noted s.looked (outcomes i kept thread)) k
            (subst (λ (b : Bool). Contains (if b then s.looked ∷ [] else []) k) (sym on) (subst (λ m. Contains (s.looked ∷ []) m) is (in_first s.looked [])))
      ])

      within : (k : ℕ) → Contains t.readers.items k → k < length t.tables.threads
      within k has =
          let le = begins_long s.tables.threads t.tables.threads adds.grows.threads in
          elim (Contains-append_cases s.readers.items (noted s.looked (outcomes i kept thread)) k (subst (λ l. Contains l k) readers has)) [
            | inl early ↦ begins_within s.tables.threads t.tables.threads k adds.grows.threads (h.inside k early)
            | inr late ↦
                let is : s.looked ≡ k = one (list_any depends (outcomes i kept thread)) late in
                omega (arith, le, next, is)
          ]
        where
          one : (b : Bool) → Contains (if b then s.looked ∷ [] else []) k → s.looked ≡ k
          one true inside = only_in s.looked k inside
          one false inside = absurd (none_in k inside)

  -- the doors were entered
  pub doors_sound : (s : Search) (now : Tables) → IsSearching i kept s
      → AddsFacts i kept (flat_map (enter_facts i kept s.handlers.items) s.tables.doors) s.tables now → IsSound i kept now
  doors_sound s now h adds = adds.sound h.sound
      (facts_mean i kept (flat_map (enter_facts i kept s.handlers.items) s.tables.doors)
      (λ fact inside. enters_means i kept s.tables h.sound fact
      (subst (λ l. Contains (flat_map (enter_facts i kept l) s.tables.doors) fact) h.handlers inside)))

  -- a round went by: doors, faulted threads, threads not looked at, and threads that read what others leave
  pub went_round : (old : Search) (a b : Tables) (s : Search) (new : Tables) → IsSearching i kept old
      → AddsFacts i kept (flat_map (enter_facts i kept old.handlers.items) old.tables.doors) old.tables a
      → Derives i kept (flat_map (goes_on_facts i kept a) a.faulted) a b → Grows b s.tables
      → IsSearching i kept s → s.looked ≡ length s.tables.threads
      → Derives i kept (flat_map (again_facts i kept s.tables) s.readers.items) s.tables new
      → WentRound i kept old (record s { tables = new })
  went_round old a b s new h doors on looks is all again = record {
    grows = grows_then old.tables s.tables new to_s again.grows;
    all = (let le = begins_long old.tables.threads s.tables.threads to_s.threads in omega (arith, le, all));
    entered = λ fact inside. holds_on i kept a new from_a (IsFact fact)
        (doors.holds (IsFact fact) (subst (λ l. Contains (flat_map (enter_facts i kept l) old.tables.doors) fact) (sym h.handlers) inside));
    went_on = λ fact inside. holds_on i kept b new from_b (IsFact fact) (on.holds fact (all_go_on old.tables a doors.grows fact inside));
    read = λ k fact inside. reads k fact (again_on k old.tables s.tables to_s fact inside);
  }
    where
      to_s : Grows old.tables s.tables
      to_s = grows_then old.tables a s.tables doors.grows (grows_then a b s.tables on.grows looks)

      from_b : Grows b new
      from_b = grows_then b s.tables new looks again.grows

      from_a : Grows a new
      from_a = grows_then a b new on.grows from_b

      reads : (k : ℕ) (fact : Fact) → Contains (again_facts i kept s.tables k) fact → HoldsFact i kept new fact
      reads k fact inside =
          let f = from_thread s.tables k fact inside in
          let lt = slice_get_within s.tables.threads k f.thread f.is in
          let some = some_passes depends (outcomes i kept f.thread) f.outcome f.comes (depends_on f.thread f.outcome s.tables fact f.follows) in
          again.holds fact (in_flat (again_facts i kept s.tables) s.readers.items k fact
          (is.readers k f.thread (omega (arith, lt, all)) f.is some) inside)

  -- a round that added nothing
  pub exact_at_end : (old new : Search) → IsSearching i kept new → WentRound i kept old new → sizes_of old.tables ≡ sizes_of new.tables
      → IsExact i kept new.tables
  exact_at_end old new h went sizes =
      exact i kept new.tables h.begun looked
      (λ fact inside. went.entered fact (subst (λ l. Contains (flat_map (enter_facts i kept (handlers_in i kept)) l.doors) fact) same inside))
      read
      (λ fact inside. went.went_on fact (subst (λ l. Contains (flat_map (goes_on_facts i kept l) l.faulted) fact) same inside))
      h.sound
    where
      same : new.tables ≡ old.tables
      same = same_tables old.tables new.tables went.grows sizes

      place : (t : Thread) (has : Contains new.tables.threads t) → slice_get new.tables.threads has.0 ≡ Some t
      place t has = slice_get_read new.tables.threads (length new.tables.threads) has.0 t refl has.1 (sym has.2)

      looked : (t : Thread) → Contains new.tables.threads t → (claim : Claim)
          → SomeAtOnce i kept (firsts_in i kept) t (outcomes i kept t) claim → Holds i kept new.tables claim
      looked t has claim follows =
          let many : length new.tables.threads ≡ length old.tables.threads = ap (λ (l : Tables). length l.threads) same in
          let le = went.all in
          let lt = has.1 in
          h.looked has.0 t (omega (arith, many, le, lt)) (place t has) claim
          (subst (λ l. SomeAtOnce i kept l t (outcomes i kept t) claim) (sym h.first) follows)

      read : (t : Thread) → Contains new.tables.threads t → (o : Outcome) → Contains (outcomes i kept t) o → (fact : Fact)
          → Contains (follows_from i kept new.tables t o) fact → HoldsFact i kept new.tables fact
      read t has o comes fact inside =
          went.read has.0 fact (subst (λ l. Contains (again_facts i kept l has.0) fact) same (again_in new.tables has.0 t o fact (place t has) comes inside))
