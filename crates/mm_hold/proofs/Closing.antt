-- Marks that a round did not change are closed.
use Rattle.std.proofs.Common.{◌≡◌, inl, inr, ℕ, zero, suc, ◌+◌, ◌<◌, ◌≤◌, Bool, true, false, ◌||◌, List, [], ◌∷◌, length, slice_index}
use Rattle.std.proofs.Common.{Some, refl, sym, ap, ◌∙◌, subst, arith, eq-eqb}
use Rattle.std.proofs.lemmas.{Bool.{or_parts, cases_lt}, Nat.Bits.bit_at-lt}
use Rattle.std.specs.{Prelude.{All, Contains}, Int.bit_at}
use Rattle.mm_word.specs.declared.{perm.Perm.TheVariants.Eu, word.{Word.TheVariants.Ptr, Cell.Cell}}
use Rattle.mm_word.specs.Pointer.{Pointer, enter_result, bits_of}
use Rattle.mm_word.specs.PointerBits.{bits_of-pointer_of}
use Rattle.mm_model.specs.{Memory.cell_at, Slot.Slot, Image.Image, Spelling.IsImage, Reach.LoadsAt, Turn.is_handler}
use Rattle.mm_flow.specs.{Edges.{Edges, enters_at}, Flow.{Within}}
use Rattle.mm_flow.proofs.Bits.{and_both, zero_bit}
use Rattle.mm_graph.specs.{declared.canonical_ptr.CanonicalPtr.CanonicalPtr, Marked.node_pointer, Key.{IsKey, key_at, no_key}}
use Rattle.mm_kernel.specs.Segments.{Segment, is_door, is_kept}
use Rattle.mm_kernel.specs.declared.form.Form.{TheVariants.{Pointer as Exactly}}
use Rattle.mm_kernel.specs.declared.thread.{Origin.{Origin, TheVariants.{Door}}}
use Rattle.mm_kernel.specs.{Threads.is_kernel, Derived.{Keeps, Derived.stores as derived_stores}, Variants.IsShared}
use Rattle.mm_kernel.proofs.Segs.{below_within, outside_within}
use Rattle.mm_kernel.proofs.Values.{open_outside, moves_loads}
use Rattle.mm_confine.specs.declared.party.Party.{Party, TheVariants.{Group, KernelSlot}}
use Rattle.mm_confine.specs.Conduct.{PassesInside}
use Rattle.mm_confine.specs.Grants.{AreServed, Serves, IsOf, IsOf.with_group}
use Rattle.mm_confine.proofs.Open.{granted_is_open}
use Rattle.mm_hold.specs.declared.{marks.Marks.Marks, edges.Graph.Graph, conduct.Conduct.Conduct, rounds.Passes.Passes}
use Rattle.mm_hold.specs.Conducts.{AreConduct, HasOrLets, IsHeld, IsCarrying, StoresInside, LoadsInside, Sends, Gives, origin_numbers}
use Rattle.mm_hold.specs.Parties.{Small, Shares, ServedParty, PassesAlways, PassesBySlot.{of_kernel, of_caller}}
use Rattle.mm_hold.specs.Parties.{PassesByCaller.{serves, is_served}, PassesByKernel, PassesByKernel.{freed, gives, sees}}
use Rattle.mm_hold.specs.Marks.{Held, HasSize, room_of, MayPass, MeetAbove, Adds, Handed, SlotMeets, SharedAt}
use Rattle.mm_hold.specs.Passing.{DoorAt, Runs, Runs.{itself, through}}
use Rattle.mm_hold.specs.{Rounds.{Round}, Exactly.{Above, Covered, Covered.{powerless, above}, Running, Running.{itself as runs_itself, through as runs_through}}}
use Rattle.mm_hold.specs.Exactly.{StoresFor, CarriesOut, PassesAll, PassesAll.{by_store, by_service, by_word, by_look, by_gift, by_leave}}
use Rattle.mm_hold.specs.Exactly.{IsClosed, IsSound}
use Rattle.mm_hold.specs.Standing.{edges_in, Placed, Placed.{powerless as is_powerless, at}, LeadsTo, EntersTo, IsGraphOf, ArePasses, AreStarted, Grew}
use Rattle.mm_hold.proofs.Granting.{not_door}
use Rattle.mm_hold.proofs.Handed.{number_small, of_small, kernel_is, kernel_small, granted_party, party_small}
use Rattle.mm_hold.proofs.Keyed.{stored_noted, loaded_noted, sends_noted, gives_noted, sees_noted, goes_noted}

within_has : (a b g : ℕ) → Within a b → bit_at a g ≡ 1 → bit_at b g ≡ 1
within_has a b g w h = let le = w g in let lt = bit_at-lt b g in omega arith

past_zero : (xs : List ℕ) (k : ℕ) → length xs ≤ k → slice_index xs k ≡ 0
past_zero [] k le = refl
past_zero (x ∷ xs) zero le = absurd (omega arith)
past_zero (x ∷ xs) (suc k) le = past_zero xs k (omega arith)

marked_small : (xs : List ℕ) (size k g : ℕ) → length xs ≡ size → bit_at (slice_index xs k) g ≡ 1 → k < size
marked_small xs size k g len h = elim (cases_lt k size) [
  | inl lt ↦ lt
  | inr le ↦ absurd (zero_bit g (ap (λ v. bit_at v g) (sym (past_zero xs k (omega arith))) ∙ h))
]

module _ (more : Party → ℕ → Type 0) (old new : Marks) (changed : Bool) (a : Adds more old new changed) where
  adds_back : changed ≡ false → (x : Party) (k : ℕ) → Held new x k → Held old x k
  adds_back e x k h = elim ((a.each x k).0 h) [ inl before ↦ before | inr now ↦ a.still e x k now ]

  adds_on : (x : Party) (k : ℕ) → Held old x k → Held new x k
  adds_on x k h = (a.each x k).1 (inl h)

module _ (i : Image) (kept : List Segment) (img : IsImage i) (ks : Keeps i kept) (c : Conduct) (all : AreConduct i kept c) (g : Graph) (gr : IsGraphOf i kept g)
    (allkeys : All IsKey g.keys.items) (p : Passes) (ps : ArePasses i kept c g.keys.items p)
    (old new : Marks) (changed : Bool) (r : Round i kept c g p old new changed) (still : changed ≡ false) (size : HasSize old (length g.keys.items))
    (sound : IsSound i kept g.keys.items new) (start : AreStarted i kept g.keys.items new) where
  abbrev keys : List CanonicalPtr
  keys = g.keys.items

  abbrev node : ℕ → Pointer
  node k = node_pointer keys k

  abbrev E : Edges
  E = edges_in g

  abbrev S : Marks
  S = r.spread

  -- 1. Marks before and after.

  quiet : ((r.changes.0 || r.changes.1) ≡ false) × ((r.changes.2 || r.changes.3) ≡ false)
  quiet = or_parts (r.changes.0 || r.changes.1) (r.changes.2 || r.changes.3) (sym r.is ∙ still)

  first_two : (r.changes.0 ≡ false) × (r.changes.1 ≡ false)
  first_two = or_parts r.changes.0 r.changes.1 quiet.0

  last_two : (r.changes.2 ≡ false) × (r.changes.3 ≡ false)
  last_two = or_parts r.changes.2 r.changes.3 quiet.1

  from_last : (x : Party) (k : ℕ) → Held new x k → Held r.given x k
  from_last = adds_back (SharedAt (length r.given.groups.items) r.sharing r.given) r.given new r.changes.3 r.last last_two.1

  to_last : (x : Party) (k : ℕ) → Held r.given x k → Held new x k
  to_last = adds_on (SharedAt (length r.given.groups.items) r.sharing r.given) r.given new r.changes.3 r.last

  from_third : (x : Party) (k : ℕ) → Held r.given x k → Held r.sent x k
  from_third = adds_back (Handed p.given.items (ServedParty i kept i.slots)) r.sent r.given r.changes.2 r.third last_two.0

  to_third : (x : Party) (k : ℕ) → Held r.sent x k → Held r.given x k
  to_third = adds_on (Handed p.given.items (ServedParty i kept i.slots)) r.sent r.given r.changes.2 r.third

  from_second : (x : Party) (k : ℕ) → Held r.sent x k → Held r.behind x k
  from_second = adds_back (Handed p.sent.items (SlotMeets r.meets)) r.behind r.sent r.changes.1 r.second first_two.1

  to_second : (x : Party) (k : ℕ) → Held r.behind x k → Held r.sent x k
  to_second = adds_on (Handed p.sent.items (SlotMeets r.meets)) r.behind r.sent r.changes.1 r.second

  back : (x : Party) (k : ℕ) → Held new x k → Held S x k
  back x k h = r.first.same first_two.0 x k (from_second x k (from_third x k (from_last x k h)))

  fore : (x : Party) (k : ℕ) → Held S x k → Held new x k
  fore x k h = to_last x k (to_third x k (to_second x k (r.first.keeps x k h)))

  groups_len : length S.groups.items ≡ length keys
  groups_len = r.spreads.groups.len ∙ size.groups

  slots_len : length S.slots.items ≡ length keys
  slots_len = r.spreads.slots.len ∙ size.slots

  held_small : (x : Party) (k : ℕ) → Held new x k → k < length keys
  held_small (Group f) k h = marked_small S.groups.items (length keys) k f groups_len (back (Group f) k h)
  held_small (KernelSlot n) k h = marked_small S.slots.items (length keys) k n slots_len (back (KernelSlot n) k h)

  small_party : (x : Party) (k : ℕ) → Held new x k → Small x
  small_party x k h = party_small i kept img x (granted_party i kept img x (node k) (sound x k (held_small x k h) h))

  kernel_party : (n k : ℕ) → Held new (KernelSlot n) k → is_kernel i kept n ≡ true
  kernel_party n k h = granted_party i kept img (KernelSlot n) (node k) (sound (KernelSlot n) k (held_small (KernelSlot n) k h) h)

  placed : (nodes : ℕ → Type 0) (x : Party) (q : Pointer) → ((k : ℕ) → k < length keys → nodes k → Held new x k) → Placed kept keys nodes q → Covered kept keys new x q
  placed nodes x q f (is_powerless none pw) = powerless none pw
  placed nodes x q f (at k lt is b) = above (record { node = k; small = lt; held = f k lt is; below = b })

  -- 2. Edges.

  along : (x : Party) (a k : ℕ) → a < length keys → LeadsTo E a k → Held S x a → Held S x k
  along (Group f) a k lt l h =
      let len = groups_len in
      subst (λ v. Held S (Group f) v) l.is (within_has _ _ f ((r.spreads.groups.saturated a (omega arith)).cells l.at l.low l.high) h)
  along (KernelSlot n) a k lt l h =
      let len = slots_len in
      subst (λ v. Held S (KernelSlot n) v) l.is (within_has _ _ n ((r.spreads.slots.saturated a (omega arith)).cells l.at l.low l.high) h)

  by_entry : (x : Party) (a k : ℕ) → a < length keys → Small x → EntersTo E a k → Held S x a → Held S x k
  by_entry (Group f) a k lt small l h =
      let len = groups_len in
      subst (λ v. Held S (Group f) v) l.is
      (within_has _ _ f (r.spreads.groups.saturated a (omega arith)).entry (and_both (slice_index S.groups.items a) (enters_at E a) f h (l.all f small)))
  by_entry (KernelSlot n) a k lt small l h =
      let len = slots_len in
      subst (λ v. Held S (KernelSlot n) v) l.is
      (within_has _ _ n (r.spreads.slots.saturated a (omega arith)).entry (and_both (slice_index S.slots.items a) (enters_at E a) n h (l.all n small)))

  cells : (x : Party) (k w : ℕ) (cell : Cell) (q : Pointer) → k < length keys → Held new x k → LoadsAt (node k) w → is_kept kept w ≡ false
      → cell_at i.memory w ≡ Some cell → cell.word ≡ Ptr q → Covered kept keys new x q
  cells x k w cell q lt h ld out is holds =
      placed (LeadsTo E k) x q (λ j small l. fore x j (along x k j lt l (back x k h))) (gr.cells k w cell q lt ld out is holds)

  entries : (x : Party) (k : ℕ) (q : Pointer) → k < length keys → Held new x k → (node k).perm ≡ Eu → is_door kept (node k) ≡ false → enter_result (node k) ≡ Some q
      → Covered kept keys new x q
  entries x k q lt h eu none e =
      placed (EntersTo E k) x q (λ j small l. fore x j (by_entry x k j lt (small_party x k h) l (back x k h))) (gr.enters k q lt eu none e)

  -- 3. Doors.

  door_is : (x : Party) (d : Pointer) → is_door kept d ≡ true → (a : Above keys new x d) → d ≡ node a.node
  door_is x d e a = elim a.below [
    | inl same ↦ same
    | inr n ↦
        let up : IsShared i kept (Ptr (node a.node)) = granted_is_open i kept x (node a.node) img ks (sound x a.node a.small a.held) in
        let out = outside_within kept d (node a.node) (below_within d (node a.node) (inr n)) (open_outside kept (node a.node) up.open_word (moves_loads (node a.node).perm n.movable)) in
        let none = not_door kept d out in
        absurd (cc)
  ]

  door_at : (x : Party) (d : Pointer) → is_door kept d ≡ true → (a : Above keys new x d) → DoorAt kept keys (bits_of d) a.node
  door_at x d e a =
      let same = door_is x d e a in
      record {
        small = a.small;
        same = sym (bits_of-pointer_of (key_at keys a.node).bits (allkeys a.node no_key a.small).spells) ∙ ap bits_of (sym same);
        is = subst (λ v. is_door kept v ≡ true) same e;
      }

  runs_as : (x : Party) (from : Origin) → Running i kept keys new x from → Runs i kept keys S (origin_numbers from) x
  runs_as x from (runs_itself n e) = itself n e (kernel_small i kept img n e) refl refl
  runs_as x from (runs_through f d e a) = through a.node f refl (door_at (Group f) d e a) (back (Group f) a.node a.held) refl

  has_more : (x : Party) (from : Origin) (q : Pointer) → Running i kept keys new x from → HasOrLets i kept from q → Covered kept keys new x q
  has_more x from q (runs_itself n e) h = start.has n q e h
  has_more x from q (runs_through f d e a) h =
      let same = door_is (Group f) d e a in
      let k = a.node in
      placed (λ j. Contains p.behind.items (k, j)) (Group f) q
      (λ j small inside. fore (Group f) j (r.first.still first_two.0 f k j inside (back (Group f) k a.held)))
      (ps.behind.each k q a.small (subst (λ v. is_door kept v ≡ true) same e) (subst (λ v. HasOrLets i kept (Door v) q) same h))

  -- 4. Who passes on whatever it holds.

  stores_meet : (y x : Party) → StoresFor keys new y x → MeetAbove g.parents.items g.nodes.items S y x
  stores_meet y x s =
      let m = gr.meets s.stored s.loaded s.word s.small.0 s.small.1 s.stores s.loads in
      let lt = m.small in
      let len = groups_len in
      record {
        at = m.at;
        small = omega arith;
        stores = record { node = s.stored; up = m.left; held = back y s.stored s.held.0; kept = gr.stores s.stored s.word s.small.0 s.stores };
        loads = record { node = s.loaded; up = m.right; held = back x s.loaded s.held.1; kept = gr.loads s.loaded s.word s.small.1 s.loads };
      }

  meets : (y x : Party) → StoresFor keys new y x → Shares r.meets y x
  meets y x s = (r.meet y x).1 (stores_meet y x s)

  may_pass : (y x : Party) → StoresFor keys new y x → CarriesOut i kept y → MayPass c.senders y
  may_pass (Group f) x s out = tt
  may_pass (KernelSlot n) x s out = sends_noted i kept c all n (small_party (KernelSlot n) s.stored s.held.0) out

  served_party : (s : Slot) (n : ℕ) (x : Party) → Contains i.slots s → s.handler ≡ Some n → IsOf i kept s x → ServedParty i kept i.slots n x
  served_party s n x k e of = record { slot = s; inside = k; served = record { handled = ap (is_handler n) e ∙ eq-eqb n n refl; party = record { of = of; small = of_small i kept img s k of } } }

  always : (y x : Party) → PassesAlways i kept c i.slots y x → Shares r.sharing y x
  always y x h = (r.share y x).1 (inl (inl ((ps.sharing y x).1 h)))

  by_slot : (n : ℕ) → is_kernel i kept n ≡ true → (y x : Party) → ((s : Slot) → s.number ≡ n → s.number < 64 → PassesByKernel i kept c s y x) → Shares r.sharing y x
  by_slot n e y x f =
      let s = kernel_is i kept img n e in
      always y x (record {
        slot = s.slot;
        inside = s.inside;
        passes = of_kernel (ap (is_kernel i kept) s.number ∙ e) (f s.slot s.number (number_small i kept img s.slot s.inside));
      })

  by_serving : (h f : ℕ) → AreServed i kept f h → Shares r.sharing (Group h) (Group f)
  by_serving h f s = elim s.groups [
    | inl both ↦
        always (Group h) (Group f) (record {
          slot = s.server;
          inside = s.other;
          passes = of_caller s.caller (serves (ap Group (sym both.1)) (subst (λ v. v < 64) both.1 (of_small i kept img s.server s.other with_group)) tt
              (served_party s.served s.server.number (Group f) s.one s.handled (subst (λ v. IsOf i kept s.served (Group v)) both.0 with_group)));
        })
    | inr both ↦
        always (Group h) (Group f) (record {
          slot = s.server;
          inside = s.other;
          passes = of_caller s.caller (is_served tt (served_party s.served s.server.number (Group h) s.one s.handled (subst (λ v. IsOf i kept s.served (Group v)) both.0 with_group))
              (ap Group (sym both.1)) (subst (λ v. v < 64) both.1 (of_small i kept img s.server s.other with_group)));
        })
  ]

  at_word : (y x : Party) (from to : Origin) → Running i kept keys new y from → PassesInside i kept from to → Running i kept keys new x to → Shares r.sharing y x
  at_word y x from to ry w rx = (r.share y x).1 (inr (record {
    word = w.word;
    stores = record { origin = origin_numbers from; inside = stored_noted i kept c all from w.word stored; runs = runs_as y from ry };
    loads = record { origin = origin_numbers to; inside = loaded_noted i kept c all to w.word loaded; runs = runs_as x to rx };
  }))
    where
      held : IsHeld i kept w.word
      held = record { cell = w.cell; at = w.at; of_kept = w.of_kept }

      stored : StoresInside i kept from w.word
      stored = record { of_image = held; part = w.stored_in; form = w.form; stores = w.stores; carried = w.carried; here = w.here }

      gets : IsCarrying i kept w.word
      gets = record { form = w.form; held = derived_stores w.stores.thread w.stored_in w.word w.cell w.form w.stores.derived w.stores.comes w.at w.of_kept w.here; carried = w.carried }

      loaded : LoadsInside i kept to w.word
      loaded = record { gets = gets; part = w.loaded_from; reg = w.reg; next = w.next; loads = w.loads; here = w.there }

  shares : (y x : Party) (k : ℕ) → Held new y k → PassesAll i kept keys new y x → Shares r.sharing y x
  shares y x k h (by_store out s) = (r.share y x).1 (inl (inr (record { may = may_pass y x s out; meet = meets y x s })))
  shares y x k h (by_service a b s) = by_serving a b s
  shares y x k h (by_word from to ry w rx) = at_word y x from to ry w rx
  shares y x k h (by_look n sv looks) = by_slot n sv.of_kernel y (KernelSlot n) (λ s e lt.
      let own = subst (λ v. v < 64) e lt in
      sees (ap (bit_at c.seeing) e ∙ sees_noted i kept c all n own looks) (subst (λ v. ServedParty i kept i.slots v y) (sym e) (served_party sv.served n y sv.one sv.handled sv.party))
      (ap KernelSlot (sym e)) own)
  shares y x k h (by_gift n sv some) = by_slot n sv.of_kernel (KernelSlot n) x (λ s e lt.
      let own = subst (λ v. v < 64) e lt in
      gives (ap (bit_at c.givers) e ∙ gives_noted i kept c all n own some) (ap KernelSlot (sym e)) own
      (subst (λ v. ServedParty i kept i.slots v x) (sym e) (served_party sv.served n x sv.one sv.handled sv.party)))
  shares y x k h (by_leave s among going) =
      let lt = number_small i kept img s among in
      always (KernelSlot s.number) (Group s.group) (record {
        slot = s;
        inside = among;
        passes = of_kernel (kernel_party s.number k h) (freed (goes_noted i kept c all s.number lt going) refl lt refl (of_small i kept img s among with_group));
      })

  passes : (y x : Party) (k : ℕ) → PassesAll i kept keys new y x → Held new y k → Held new x k
  passes y x k all_on h =
      let lt = held_small y k h in
      let given_len = given_size in
      to_last x k (r.last.still last_two.1 x k (record { small = omega arith; shared = record { by = y; among = from_last y k h; shares = shares y x k h all_on } }))
    where
      given_size : length r.given.groups.items ≡ length keys
      given_size = r.third.grows.groups ∙ r.second.grows.groups ∙ r.first.grows.groups ∙ groups_len

  -- 5. Single pointers.

  sends : (n : ℕ) (q : Pointer) (x : Party) → Sends i kept n (Exactly q) → StoresFor keys new (KernelSlot n) x → Covered kept keys new (KernelSlot n) q → Covered kept keys new x q
  sends n q x s sf h =
      placed (λ k. Contains p.sent.items (n, k)) x q
      (λ k lt inside. to_last x k (to_third x k (to_second x k (r.second.still first_two.1 x k (record {
        slot = n;
        inside = inside;
        gets = record { small = small_party (KernelSlot n) sf.stored sf.held.0; meet = meets (KernelSlot n) x sf };
      })))))
      (ps.sent.each n q s)

  gives_on : (n : ℕ) (q : Pointer) (x : Party) → Gives i kept n (Exactly q) → Serves i kept n x → Covered kept keys new (KernelSlot n) q → Covered kept keys new x q
  gives_on n q x s sv h =
      placed (λ k. Contains p.given.items (n, k)) x q
      (λ k lt inside. to_last x k (to_third x k (r.third.still last_two.0 x k (record { slot = n; inside = inside; gets = served_party sv.served n x sv.one sv.handled sv.party }))))
      (ps.given.each n q s)

  pub round_closed : IsClosed i kept keys new
  round_closed = record {
    registers = start.registers;
    runs = start.runs;
    cells = cells;
    entries = entries;
    has = has_more;
    passes = passes;
    sends = sends;
    gives = gives_on;
  }

-- 6. Rounds take no mark back, and what they give takes room.

fall : (a b c d : Bool) (r0 r1 r2 r3 r4 : ℕ) → r1 ≤ r0 → r2 ≤ r1 → r3 ≤ r2 → r4 ≤ r3 → (a ≡ true → r1 + 1 ≤ r0) → (b ≡ true → r2 + 1 ≤ r1)
    → (c ≡ true → r3 + 1 ≤ r2) → (d ≡ true → r4 + 1 ≤ r3) → ((a || b) || (c || d)) ≡ true → r4 + 1 ≤ r0
fall true b c d r0 r1 r2 r3 r4 l1 l2 l3 l4 f1 f2 f3 f4 e = let x = f1 refl in omega arith
fall false true c d r0 r1 r2 r3 r4 l1 l2 l3 l4 f1 f2 f3 f4 e = let x = f2 refl in omega arith
fall false false true d r0 r1 r2 r3 r4 l1 l2 l3 l4 f1 f2 f3 f4 e = let x = f3 refl in omega arith
fall false false false true r0 r1 r2 r3 r4 l1 l2 l3 l4 f1 f2 f3 f4 e = let x = f4 refl in omega arith
fall false false false false r0 r1 r2 r3 r4 l1 l2 l3 l4 f1 f2 f3 f4 e = cc

module _ (i : Image) (kept : List Segment) (c : Conduct) (g : Graph) (p : Passes) (old new : Marks) (changed : Bool) (r : Round i kept c g p old new changed) where
  spread_room : room_of r.spread ≤ room_of old
  spread_room = let a = r.spreads.groups.no_rise in let b = r.spreads.slots.no_rise in omega arith

  pub round_falls : changed ≡ true → room_of new + 1 ≤ room_of old
  round_falls e =
      let f = fall r.changes.0 r.changes.1 r.changes.2 r.changes.3 (room_of r.spread) (room_of r.behind) (room_of r.sent) (room_of r.given) (room_of new)
      r.first.grows.no_rise r.second.grows.no_rise r.third.grows.no_rise r.last.grows.no_rise
      r.first.grows.falls r.second.grows.falls r.third.grows.falls r.last.grows.falls (sym r.is ∙ e) in
      let s = spread_room in
      omega arith

  spread_grew : Grew old r.spread
  spread_grew (Group f) k h = within_has _ _ f (r.spreads.groups.grows k) h
  spread_grew (KernelSlot n) k h = within_has _ _ n (r.spreads.slots.grows k) h

  pub round_grew : Grew old new
  round_grew x k h =
      (r.last.each x k).1 (inl ((r.third.each x k).1 (inl ((r.second.each x k).1 (inl (r.first.keeps x k (spread_grew x k h)))))))

module _ (i : Image) (kept : List Segment) (keys : List CanonicalPtr) (old new : Marks) (grew : Grew old new) where
  covered_on : (x : Party) (q : Pointer) → Covered kept keys old x q → Covered kept keys new x q
  covered_on x q (powerless none pw) = powerless none pw
  covered_on x q (above a) = above (record { node = a.node; small = a.small; held = grew x a.node a.held; below = a.below })

  pub started_on : AreStarted i kept keys old → AreStarted i kept keys new
  started_on s = record {
    registers = λ t q among caller inside. covered_on (Group t.group) q (s.registers t q among caller inside);
    runs = λ t among caller. covered_on (Group t.group) t.ip (s.runs t among caller);
    has = λ n q e h. covered_on (KernelSlot n) q (s.has n q e h);
  }
