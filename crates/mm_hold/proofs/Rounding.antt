-- A round keeps marks sound.
use Rattle.std.proofs.Common.{◌≡◌, ◌↔◌, inl, inr, ℕ, ◌<◌, ◌≤◌, Bool, true, false, List, length, slice_index, refl, sym, ap, ◌∙◌, subst, arith}
use Rattle.std.specs.{Prelude.Contains}
use Rattle.mm_word.specs.Pointer.{Pointer, bits_of, pointer_of}
use Rattle.mm_model.specs.{Slot.Slot, Image.Image, Spelling.IsImage}
use Rattle.mm_model.proofs.CoreSteps.{handler_is}
use Rattle.mm_flow.specs.{Edges.{Edges, entry_at}, Flow.{Has, Flows, Flows.{from as begins, along, through as by_entry}}, Sharing.{Up, Up.{here, over}}}
use Rattle.mm_graph.specs.{declared.canonical_ptr.CanonicalPtr.CanonicalPtr, Marked.node_pointer}
use Rattle.mm_kernel.specs.Segments.{Segment, is_door, lies_in}
use Rattle.mm_kernel.specs.declared.form.Form.{TheVariants.{Pointer as Exactly}}
use Rattle.mm_kernel.specs.declared.thread.Origin.{Origin, TheVariants.{Door, Slot as OfSlot}}
use Rattle.mm_kernel.specs.{Threads.is_kernel, Derived.Keeps}
use Rattle.mm_confine.specs.declared.party.Party.{Party, TheVariants.{Group, KernelSlot}}
use Rattle.mm_confine.specs.Conduct.{HandsOn.{exact, carried}, PassesInside}
use Rattle.mm_confine.specs.Grants.{Granted, Line.{Holds, Runs}, PassesOn, Serves}
use Rattle.mm_confine.specs.Grants.Granted.{runs_itself, runs_through, in_cell, below, passed, entered, served, has_exactly, lets_out, kept_for}
use Rattle.mm_confine.specs.Grants.Granted.{seen, given, freed}
use Rattle.mm_hold.specs.declared.{sharing.Sharing.Sharing, marks.Marks.Marks, edges.Graph.Graph, conduct.Conduct.Conduct, rounds.Passes.Passes}
use Rattle.mm_hold.specs.Conducts.{AreConduct, HasOrLets, HasOrLets.{has, lets}, origin_numbers, origin_from}
use Rattle.mm_hold.specs.Parties.{Shares, ServedParty, PassesAlways, PassesBySlot, PassesBySlot.{of_kernel, of_caller}, PassesByCaller}
use Rattle.mm_hold.specs.Parties.{PassesByCaller.{serves, is_served}, PassesByKernel, PassesByKernel.{freed as by_freed, gives, sees}}
use Rattle.mm_hold.specs.Marks.{HasSize, Spreads, MayPass, MeetAbove, PassesByStore, Behind, Behind.{held, behind}, GivesBehind, Adds}
use Rattle.mm_hold.specs.Marks.{Handed, SlotMeets}
use Rattle.mm_hold.specs.Passing.{Runs as RunsBy, Runs.{itself, through}, PassesAtWord}
use Rattle.mm_hold.specs.{Rounds.{Round, SharesNow}, Exactly.{IsSound, StoresFor}, Standing.{edges_in, IsGraphOf, ArePasses}}
use Rattle.mm_hold.proofs.Handed.{comes_kernel, sends_has, gives_has}
use Rattle.mm_hold.proofs.Keyed.{stored_means, loaded_means, sends_means, gives_means, sees_means, goes_means}
use Rattle.mm_hold.proofs.PartySets.{of_then}
use Rattle.mm_hold.specs.declared.deed.Deed.TheVariants as deed
use Rattle.mm_kernel.specs.declared.fact.Leak.TheVariants as leak
use Rattle.mm_kernel.specs.declared.outcome.Outcome.TheVariants as outcome

up_before : (par : List ℕ) (j k : ℕ) → Up par j k → j ≤ k
up_before par j k (here e) = omega arith
up_before par j k (over lt u) = let le = up_before par j (slice_index par k) u in omega arith

door_same : (a b : Pointer) → ◌≡◌ {A = Origin} (Door a) (Door b) → a ≡ b
door_same a b e = cc

module _ (i : Image) (kept : List Segment) (img : IsImage i) (ks : Keeps i kept) (c : Conduct) (all : AreConduct i kept c) (g : Graph) (gr : IsGraphOf i kept g) where
  abbrev keys : List CanonicalPtr
  keys = g.keys.items

  abbrev node : ℕ → Pointer
  node k = node_pointer keys k

  abbrev E : Edges
  E = edges_in g

  abbrev G : Party → Pointer → Type 0
  G x q = Granted i kept (Holds x q)

  abbrev Sound : Marks → Type 0
  Sound m = IsSound i kept keys m

  -- 1. Edges.

  flow_granted : (P : ℕ → Party) (start : List ℕ) → length start ≡ length keys → ((k x : ℕ) → k < length keys → Has start k x → G (P x) (node k))
      → (x k : ℕ) → k < length keys → Flows E start x k → G (P x) (node k)
  flow_granted P start len base x k lt (begins h) = base k x lt h
  flow_granted P start len base x k lt (along a j r la lo hi is) =
      let small : a < length keys = omega arith in
      let cell = gr.targets a j small lo hi in
      let got = in_cell (P x) (node a) cell.holds cell.word cell.cell (flow_granted P start len base x a small r) cell.loads cell.out cell.at cell.is in
      subst (λ v. G (P x) (node v)) is (below (P x) cell.holds (node (slice_index g.targets.items j)) got cell.below)
  flow_granted P start len base x k lt (by_entry a r la bit is) =
      let small : a < length keys = omega arith in
      let e = gr.entries a x small bit in
      let got = entered (P x) (node a) e.to (flow_granted P start len base x a small r) e.perm e.out e.enters in
      subst (λ v. G (P x) (node v)) is (below (P x) e.to (node (entry_at E a)) got e.below)

  pub spread_sound : (old new : Marks) → HasSize old (length keys) → Spreads E old new → Sound old → Sound new
  spread_sound old new size s h (Group x) k lt b = flow_granted Group old.groups.items size.groups (λ j y small there. h (Group y) j small there) x k lt (s.groups.sound k x b)
  spread_sound old new size s h (KernelSlot x) k lt b =
      flow_granted KernelSlot old.slots.items size.slots (λ j y small there. h (KernelSlot y) j small there) x k lt (s.slots.sound k x b)

  -- 2. Threads.

  by_threads : (x : Party) (from : Origin) (q : Pointer) → Granted i kept (Runs x from) → HasOrLets i kept from q → G x q
  by_threads x from q r (has t up same h plain) = has_exactly x from q t r up same h plain
  by_threads x from q r (lets e out) = lets_out x from q r e out

  by_itself : (n : ℕ) (q : Pointer) → is_kernel i kept n ≡ true → HasOrLets i kept (OfSlot n) q → G (KernelSlot n) q
  by_itself n q e h = by_threads (KernelSlot n) (OfSlot n) q (runs_itself n e) h

  runs_granted : (m : Marks) → Sound m → (from : Origin) → origin_from (origin_numbers from) ≡ from → (x : Party) → RunsBy i kept keys m (origin_numbers from) x
      → Granted i kept (Runs x from)
  runs_granted m h (Door d) read x (itself n e lt o same) = absurd (let no : ◌≡◌ {A = ℕ} 0 1 = ap (λ (v : ℕ × ℕ). v.0) o in omega (arith, no))
  runs_granted m h (Door d) read x (through k f z at there same) =
      let own : node k ≡ d = ap pointer_of at.same ∙ door_same (pointer_of (bits_of d)) d read in
      subst (λ v. Granted i kept (Runs v (Door d))) (sym same)
      (runs_through f d (subst (G (Group f)) own (h (Group f) k at.small there)) (subst (λ v. is_door kept v ≡ true) own at.is))
  runs_granted m h (OfSlot n) read x (itself s e lt o same) =
      let number : n ≡ s = ap (λ (v : ℕ × ℕ). v.1) o in
      subst (λ v. Granted i kept (Runs v (OfSlot n))) (sym same) (subst (λ v. Granted i kept (Runs (KernelSlot s) (OfSlot v))) (sym number) (runs_itself s e))
  runs_granted m h (OfSlot n) read x (through k f z at there same) = absurd (let no : ◌≡◌ {A = ℕ} 1 0 = z in omega (arith, no))

  -- 3. Stores.

  pub meet_stores : (m : Marks) (y x : Party) → length m.groups.items ≡ length keys → MeetAbove g.parents.items g.nodes.items m y x → StoresFor keys m y x
  meet_stores m y x len r =
      let lt = r.small in
      let small : r.at < length keys = omega arith in
      let a = r.stores in
      let b = r.loads in
      let la = up_before g.parents.items a.node r.at a.up in
      let lb = up_before g.parents.items b.node r.at b.up in
      let w = gr.meeting r.at a.node b.node small a.up b.up a.kept b.kept in
      record { stored = a.node; loaded = b.node; small = (omega arith, omega arith); held = (a.held, b.held); word = w.word; stores = w.stores; loads = w.loads }

  passed_by : (m : Marks) (y x : Party) (q : Pointer) → Sound m → StoresFor keys m y x → PassesOn i kept y q → G y q → G x q
  passed_by m y x q h s on got =
      passed y x q (node s.stored) (node s.loaded) s.word got on (h y s.stored s.small.0 s.held.0) s.stores (h x s.loaded s.small.1 s.held.1) s.loads

  store_sound : (m : Marks) (meets : Sharing) (y x : Party) (q : Pointer) → Sound m → length m.groups.items ≡ length keys
      → ((y x : Party) → Shares meets y x ↔ MeetAbove g.parents.items g.nodes.items m y x) → PassesByStore meets c.senders y x → G y q → G x q
  store_sound m meets y x q h len meet r got = passed_by m y x q h (meet_stores m y x len ((meet y x).0 r.meet)) (on y r.may) got
    where
      on : (z : Party) → MayPass c.senders z → PassesOn i kept z q
      on (Group f) may = tt
      on (KernelSlot n) may =
          let s = sends_means i kept c all n may in
          record { form = s.form; at = s.is.at; reg = s.is.reg; stores = s.is.stores; hands_on = carried s.carried }

  -- 4. Slots and what they serve.

  serves_of : (n : ℕ) (x : Party) → is_kernel i kept n ≡ true → ServedParty i kept i.slots n x → Serves i kept n x
  serves_of n x e r = record { of_kernel = e; served = r.slot; one = r.inside; handled = handler_is n r.slot.handler r.served.handled; party = r.served.party.of }

  by_caller : (s : Slot) → Contains i.slots s → is_kernel i kept s.number ≡ false → (y x : Party) → PassesByCaller i kept s y x → (q : Pointer) → G y q → G x q
  by_caller s k e y (Group f) (serves ey sy gx sp) q h =
      served s.group f q (subst (λ v. G v q) ey h) (record {
        served = sp.slot;
        server = s;
        one = sp.inside;
        other = k;
        handled = handler_is s.number sp.slot.handler sp.served.handled;
        caller = e;
        groups = inl (sym (of_then i kept sp.slot sp.served.party.of), refl);
      })
  by_caller s k e y (KernelSlot n) (serves ey sy gx sp) q h = absurd gx
  by_caller s k e (Group f) x (is_served gy sp ex sx) q h =
      subst (λ v. G v q) (sym ex) (served f s.group q h (record {
        served = sp.slot;
        server = s;
        one = sp.inside;
        other = k;
        handled = handler_is s.number sp.slot.handler sp.served.handled;
        caller = e;
        groups = inr (sym (of_then i kept sp.slot sp.served.party.of), refl);
      }))
  by_caller s k e (KernelSlot n) x (is_served gy sp ex sx) q h = absurd gy

  by_kernel : (s : Slot) → Contains i.slots s → is_kernel i kept s.number ≡ true → (y x : Party) → PassesByKernel i kept c s y x → (q : Pointer) → G y q → G x q
  by_kernel s k e y x (by_freed bit ey sy ex sx) q h =
      let t = goes_means i kept c all s.number bit in
      subst (λ v. G v q) (sym ex) (freed s q t.0 k (subst (λ v. G v q) ey h) t.1)
  by_kernel s k e y x (gives bit ey sy sp) q h =
      let w = gives_means i kept c all s.number bit in
      given s.number x q (subst (λ v. G v q) ey h) (serves_of s.number x e sp)
      (record { form = w.form; reg = w.is.reg; writes = w.is.writes; hands_on = carried w.carried })
  by_kernel s k e y x (sees bit sp ex sx) q h =
      subst (λ v. G v q) (sym ex) (seen s.number y q h (serves_of s.number y e sp) (sees_means i kept c all s.number bit))

  always_sound : (y x : Party) (q : Pointer) → PassesAlways i kept c i.slots y x → G y q → G x q
  always_sound y x q r h = by r.passes
    where
      by : PassesBySlot i kept c r.slot y x → G x q
      by (of_kernel e k) = by_kernel r.slot r.inside e y x k q h
      by (of_caller e k) = by_caller r.slot r.inside e y x k q h

  -- 5. Kept words.

  word_sound : (m : Marks) (y x : Party) (q : Pointer) → Sound m → PassesAtWord i kept keys m c.stored.keys c.loaded.keys y x → G y q → G x q
  word_sound m y x q h r got =
      let a = stored_means i kept c all (r.word, r.stores.origin) r.stores.inside in
      let b = loaded_means i kept c all (r.word, r.loads.origin) r.loads.inside in
      let ra = subst (λ o. RunsBy i kept keys m o y) (sym (ap (λ (v : ℕ × (ℕ × ℕ)). v.1) a.is)) r.stores.runs in
      let rb = subst (λ o. RunsBy i kept keys m o x) (sym (ap (λ (v : ℕ × (ℕ × ℕ)). v.1) b.is)) r.loads.runs in
      let word : b.word ≡ a.word = ap (λ (v : ℕ × (ℕ × ℕ)). v.0) b.is ∙ sym (ap (λ (v : ℕ × (ℕ × ℕ)). v.0) a.is) in
      let inside : PassesInside i kept a.origin b.origin = record {
        word = a.word;
        cell = a.means.of_image.cell;
        at = a.means.of_image.at;
        of_kept = a.means.of_image.of_kept;
        stored_in = a.means.part;
        form = a.means.form;
        stores = a.means.stores;
        carried = a.means.carried;
        here = a.means.here;
        loaded_from = b.means.part;
        reg = b.means.reg;
        next = b.means.next;
        loads = b.means.loads;
        there = subst (λ v. lies_in v b.means.part ≡ true) word b.means.here;
      } in
      kept_for y x a.origin b.origin q got (runs_granted m h a.origin (all.read (deed.Stored a.word a.origin) a.means) y ra) inside
      (runs_granted m h b.origin (all.read (deed.Loaded b.word b.origin) b.means) x rb)

  -- 6. The steps of a round.

  module _ (p : Passes) (ps : ArePasses i kept c keys p) where
    behind_sound : (m new : Marks) (changed : Bool) → GivesBehind p.behind.items m new changed → Sound m → Sound new
    behind_sound m new changed b h x k lt there = at (b.only x k there) lt
      where
        at : {y : Party} {j : ℕ} → Behind p.behind.items m y j → j < length keys → G y (node j)
        at (held y j old) small = h y j small old
        at (behind f d j r inside) small =
            let s = ps.behind.only d j inside in
            let runs = runs_through f (node d) (at r s.small) s.door in
            below (Group f) s.some.pointer (node j) (by_threads (Group f) (Door (node d)) s.some.pointer runs s.some.is) s.some.below

    sent_sound : (spread m new : Marks) (meets : Sharing) (changed : Bool) → Sound spread → length spread.groups.items ≡ length keys
        → ((y x : Party) → Shares meets y x ↔ MeetAbove g.parents.items g.nodes.items spread y x) → Adds (Handed p.sent.items (SlotMeets meets)) m new changed
        → Sound m → Sound new
    sent_sound spread m new meets changed hs len meet a h x k lt there = elim ((a.each x k).0 there) [
      | inl old ↦ h x k lt old
      | inr r ↦
          let s = ps.sent.only r.slot k r.inside in
          let q = s.pointer in
          let n = r.slot in
          let sf = meet_stores spread (KernelSlot n) x len ((meet (KernelSlot n) x).0 r.gets.meet) in
          let own = by_itself n q (comes_kernel i kept img n (outcome.HandsOut (Exactly q) (leak.Store s.is.at s.is.reg (Exactly q))) s.is.stores) (sends_has i kept img ks n q s.is) in
          let on : PassesOn i kept (KernelSlot n) q = record { form = Exactly q; at = s.is.at; reg = s.is.reg; stores = s.is.stores; hands_on = exact } in
          below x q (node k) (passed_by spread (KernelSlot n) x q hs sf on own) s.below
    ]

    given_sound : (m new : Marks) (changed : Bool) → Adds (Handed p.given.items (ServedParty i kept i.slots)) m new changed → Sound m → Sound new
    given_sound m new changed a h x k lt there = elim ((a.each x k).0 there) [
      | inl old ↦ h x k lt old
      | inr r ↦
          let s = ps.given.only r.slot k r.inside in
          let q = s.pointer in
          let n = r.slot in
          let kernel = comes_kernel i kept img n (outcome.WritesServed s.is.reg (Exactly q)) s.is.writes in
          let own = by_itself n q kernel (gives_has i kept img ks n q s.is) in
          below x q (node k) (given n x q own (serves_of n x kernel r.gets) (record { form = Exactly q; reg = s.is.reg; writes = s.is.writes; hands_on = exact })) s.below
    ]

    now_sound : (spread : Marks) (meets sharing : Sharing) → Sound spread → length spread.groups.items ≡ length keys
        → ((y x : Party) → Shares meets y x ↔ MeetAbove g.parents.items g.nodes.items spread y x) → SharesNow i kept c g p.sharing meets spread sharing
        → (y x : Party) (q : Pointer) → Shares sharing y x → G y q → G x q
    now_sound spread meets sharing hs len meet now y x q sh got = elim ((now y x).0 sh) [
      | inl more ↦ elim more [
        | inl always ↦ always_sound y x q ((ps.sharing y x).0 always) got
        | inr store ↦ store_sound spread meets y x q hs len meet store got
      ]
      | inr word ↦ word_sound spread y x q hs word got
    ]

    pub round_sound : (old new : Marks) (changed : Bool) → HasSize old (length keys) → Sound old → Round i kept c g p old new changed → Sound new
    round_sound old new changed size h r x k lt there = elim ((r.last.each x k).0 there) [
      | inl before ↦ hg x k lt before
      | inr s ↦ now_sound r.spread r.meets r.sharing hs len r.meet r.share s.shared.by x (node k) s.shared.shares (hg s.shared.by k lt s.shared.among)
    ]
      where
        len : length r.spread.groups.items ≡ length keys
        len = r.spreads.groups.len ∙ size.groups

        hs : Sound r.spread
        hs = spread_sound old r.spread size r.spreads h

        hg : Sound r.given
        hg = given_sound r.sent r.given r.changes.2 r.third
            (sent_sound r.spread r.behind r.sent r.meets r.changes.1 hs len r.meet r.second
            (behind_sound r.spread r.behind r.changes.0 r.first hs))
