-- What a core goes on to be where a slot is put, where one begins to wait and its event is queued, where an event is taken,
-- and where a byte is put out.
use Rattle.std.proofs.Common.{◌≡◌, ◌≢◌, ℕ, ◌+◌, ◌≤◌, inl, inr, Bool, true, false, nat_eq, if◌then◌else◌, List, [], ◌∷◌}
use Rattle.std.proofs.Common.{◌++◌, length, map, Option, Some, None, refl, sym, ap, ◌∙◌, subst, arith, eq-eqb, eqb-true}
use Rattle.std.proofs.{Common.{slice_index_or, length-set, get_or-set_other}, lemmas.Bool.{cases_eq, ne_eqb}}
use Rattle.std.specs.{Prelude.IfSome, List.AllByRecursion}
use Rattle.mm_model.specs.{declared.event.Event.Event, Flags.one_if, Slot.Slot}
use Rattle.mm_model.specs.State.{Core, slot_at, queue_at, put_slot, put_queue, output_of, put_output}
use Rattle.mm_model.specs.{Image.output_limit, Groups.has_group, Spelling.IsOther, Turn.{is_handler, is_taken}}
use Rattle.mm_model.specs.Fits.{is_waiting, waits_for, events_of, slots_of, identity_of, IsSlot, IsFormed, LoadsMatch}
use Rattle.mm_model.specs.Fits.{WaitsForSome, Matches, IsAtSlot, EventsAreAtSlots, LoadsAreConsistent, TakenBySome}
use Rattle.mm_model.specs.Fits.{IsConsistent, HandlersAreOthers}
use Rattle.mm_model.proofs.CoreRows.{each_map, each_both, each_push, each_set, slot_at-number, slot_at-put_same}
use Rattle.mm_model.proofs.CoreRows.{slot_at-put_other, queue_at-put_slot, AfterPut, put_slot-cases, slot_at-put_queue}
use Rattle.mm_model.proofs.CoreRows.{queue_at-put_same, queue_at-put_other, slots_of-put_queue, Rises, each_slot}
use Rattle.mm_model.proofs.CoreRows.{slot_has, other_at, other_in, identities_of, rises_by, has_group_by, stays_by}
use Rattle.mm_model.proofs.{CoreRows.identities_of-put_slot, SlotSteps.GoesOn}

-- 1. Events in a queue.

pub events_of-here : (n : ℕ) (e : Event) (es : List Event) → e.slot ≡ n → events_of n (e ∷ es) ≡ events_of n es + 1
events_of-here n e es is = ap (λ b. if b then events_of n es + 1 else events_of n es) (eq-eqb e.slot n is)

pub events_of-other : (n : ℕ) (e : Event) (es : List Event) → e.slot ≢ n → events_of n (e ∷ es) ≡ events_of n es
events_of-other n e es ne = ap (λ b. if b then events_of n es + 1 else events_of n es) (ne_eqb e.slot n ne)

pub events_of-push_same : (n : ℕ) (q : List Event) (e : Event) → e.slot ≡ n → events_of n (q ++ e ∷ []) ≡ events_of n q + 1
events_of-push_same n [] e is = events_of-here n e [] is
events_of-push_same n (x ∷ q) e is =
    let rest = events_of-push_same n q e is in
    elim (nat_eq x.slot n) as (λ b. (if b then events_of n (q ++ e ∷ []) + 1 else events_of n (q ++ e ∷ [])) ≡
    (if b then events_of n q + 1 else events_of n q) + 1) [ true ↦ omega arith | false ↦ rest ]

pub events_of-push_other : (n : ℕ) (q : List Event) (e : Event) → e.slot ≢ n → events_of n (q ++ e ∷ []) ≡ events_of n q
events_of-push_other n [] e ne = events_of-other n e [] ne
events_of-push_other n (x ∷ q) e ne =
    let rest = events_of-push_other n q e ne in
    elim (nat_eq x.slot n) as (λ b. (if b then events_of n (q ++ e ∷ []) + 1 else events_of n (q ++ e ∷ [])) ≡ (if b then events_of n q + 1 else events_of n q)) [ true ↦ omega arith | false ↦ rest ]

pub events_more : (n : ℕ) (e : Event) (es : List Event) → events_of n es ≤ events_of n (e ∷ es)
events_more n e es = elim (nat_eq e.slot n) as (λ b. events_of n es ≤ (if b then events_of n es + 1 else events_of n es)) [ true ↦ omega arith | false ↦ omega arith ]

-- each event of a slot counts as one
each_counts : (n : ℕ) (q : List Event) → AllByRecursion (λ (e : Event). e.slot ≡ n → 1 ≤ events_of n q) q
each_counts n [] = tt
each_counts n (e ∷ es) =
    let more = events_more n e es in (
      (λ is. let one = events_of-here n e es is in omega arith),
      each_map (λ (x : Event). x.slot ≡ n → 1 ≤ events_of n es) (λ (x : Event). x.slot ≡ n → 1 ≤ events_of n (e ∷ es)) (λ x f is. let some = f is in omega arith) es (each_counts n es),
    )

pub some_true : (b : Bool) → 1 ≤ one_if b → b ≡ true
some_true true h = refl
some_true false h = absurd (omega arith)

pub handler_is : (n : ℕ) (o : Option ℕ) → is_handler n o ≡ true → o ≡ Some n
handler_is n None e = cc
handler_is n (Some h) e = ap (λ (k : ℕ). Some k) (eqb-true h n e)

pub waits_for-says : (h : ℕ) (s : Slot) → waits_for h (Some s) ≡ true → (is_waiting s.state ≡ true) × (s.handler ≡ Some h)
waits_for-says h s e = by (is_waiting s.state) e
  where
    by : (b : Bool) → (if b then is_handler h s.handler else false) ≡ true → (b ≡ true) × (s.handler ≡ Some h)
    by true e = (refl, handler_is h s.handler e)
    by false e = cc

pub waits_for-rests : (h : ℕ) (s : Slot) → is_waiting s.state ≡ false → waits_for h (Some s) ≡ false
waits_for-rests h s e = ap (λ b. if b then is_handler h s.handler else false) e

pub waits_for-at : (h : ℕ) (s : Slot) → is_waiting s.state ≡ true → s.handler ≡ Some h → waits_for h (Some s) ≡ true
waits_for-at h s e is =
    ap (λ b. if b then is_handler h s.handler else false) e ∙ ap (is_handler h) is ∙ eq-eqb h h refl

waits_for-elsewhere : (g h : ℕ) (s : Slot) → s.handler ≡ Some h → h ≢ g → waits_for g (Some s) ≡ false
waits_for-elsewhere g h s is ne = by (is_waiting s.state)
  where
    by : (b : Bool) → (if b then is_handler g s.handler else false) ≡ false
    by true = ap (is_handler g) is ∙ ne_eqb h g ne
    by false = refl

-- a slot whose event is in a queue waits for the queue's owner
pub queued_waits : (core : Core) → Matches core → (n : ℕ) (s : Slot) → slot_at core n ≡ Some s → (h : ℕ)
    → AllByRecursion (λ (e : Event). e.slot ≡ n → (is_waiting s.state ≡ true) × (s.handler ≡ Some h)) (queue_at core h)
queued_waits core k n s is h =
    each_map (λ (e : Event). e.slot ≡ n → 1 ≤ events_of n (queue_at core h)) (λ (e : Event). e.slot ≡ n → (is_waiting s.state ≡ true) × (s.handler ≡ Some h))
    (λ e some at.
    let one : 1 ≤ one_if (waits_for h (slot_at core n)) = subst (λ x. 1 ≤ x) (k.events n h) (some at) in
    waits_for-says h s (sym (ap (waits_for h) is) ∙ some_true (waits_for h (slot_at core n)) one))
    (queue_at core h) (each_counts n (queue_at core h))

-- an event stays at its slot
event_stays : (core : Core) (new old : Slot) → slot_at core new.number ≡ Some old → (e : Event) → IsAtSlot core e → (e.slot ≡ new.number → old.ip ≡ new.ip) → IsAtSlot (put_slot core new) e
event_stays core new old is e at ip = elim (cases_eq e.slot new.number) [
  | inl same ↦
      let was : e.ip ≡ old.ip = subst (λ o. IfSome o (λ (s : Slot). e.ip ≡ s.ip)) (ap (slot_at core) same ∙ is) at in
      subst (λ o. IfSome o (λ (s : Slot). e.ip ≡ s.ip)) (sym (ap (slot_at (put_slot core new)) same ∙ slot_at-put_same core new old is)) (was ∙ ip same)
  | inr ne ↦ subst (λ o. IfSome o (λ (s : Slot). e.ip ≡ s.ip)) (sym (slot_at-put_other core new e.slot ne)) at
]

-- 2. What it is to go on.

-- what a core has of a state that fits an image
pub record Fitting (core : Core) : Type 0 where
  pub handlers : HandlersAreOthers core
  pub matched : Matches core

-- A core goes on with its slots, its version and its mode. What matched matches, and then what the types keep is kept.
pub record Keeps (core after : Core) : Type 0 where
  pub identities : identities_of after ≡ identities_of core
  pub version : after.version ≡ core.version
  pub split : after.split ≡ core.split
  pub formed : IsFormed after
  pub fitting : Fitting core → Fitting after
  pub kept : Fitting core → IsConsistent core → IsConsistent after

pub keeps_self : (core : Core) → IsFormed core → Keeps core core
keeps_self core h = record { identities = refl; version = refl; split = refl; formed = h; fitting = λ fit. fit; kept = λ fit kept. kept }

pub keeps_then : (a b c : Core) → Keeps a b → Keeps b c → Keeps a c
keeps_then a b c first second = record {
  identities = second.identities ∙ first.identities;
  version = second.version ∙ first.version;
  split = second.split ∙ first.split;
  formed = second.formed;
  fitting = λ fit. second.fitting (first.fitting fit);
  kept = λ fit kept. second.kept (first.fitting fit) (first.kept fit kept);
}

-- each slot's handler is another slot, where that was so and no identity changed
pub handlers_by : (core after : Core) → Rises core → HandlersAreOthers core → identities_of after ≡ identities_of core → HandlersAreOthers after
handlers_by core after up handlers e =
    each_slot (λ (s : Slot). IfSome s.handler (IsOther (slots_of after) s.number)) after (rises_by core after e up)
    (λ n s is.
    let was = stays_by after core n s (sym e) is in
    subst (λ (i : ℕ × ℕ × Option ℕ). IfSome i.2 (IsOther (slots_of after) i.0)) was.same
    (by was.now.handler was.now.number (slot_has (λ (t : Slot). IfSome t.handler (IsOther (slots_of core) t.number)) core n was.now handlers was.is)))
  where
    by : (o : Option ℕ) (n : ℕ) → IfSome o (IsOther (slots_of core) n) → IfSome o (IsOther (slots_of after) n)
    by None n k = tt
    by (Some g) n k =
        let other = other_at core up n g k in
        let there = stays_by core after g other.1.0 e other.1.1 in
        other_in after n g there.now other.0 there.is

-- 3. One slot in the place of another.

pub record Replaces (core : Core) (new : Slot) : Type 0 where
  pub old : Slot
  pub stands : slot_at core new.number ≡ Some old
  pub group : old.group ≡ new.group
  pub handler : old.handler ≡ new.handler
  -- as long as its event is queued, its instruction pointer stays
  pub ip : is_waiting old.state ≡ true → old.ip ≡ new.ip
  pub goes_on : GoesOn core.split old new

pub same_identity : (core : Core) (new : Slot) (r : Replaces core new) → identity_of r.old ≡ identity_of new
same_identity core new r =
    let number = slot_at-number core new.number r.old r.stands in
    let group = r.group in
    let handler = r.handler in
    cc

-- the same slots and the same outputs, but for this one slot
module _ (core after : Core) (new : Slot) (h : IsFormed core) (ids : identities_of after ≡ identities_of core) (version : after.version ≡ core.version) (split : after.split ≡ core.split)
    (outputs : after.outputs ≡ core.outputs) (slots : (n : ℕ) (s : Slot) → slot_at after n ≡ Some s → AfterPut core new n s) where
  each_put : (P : Slot → Type 0) → P new → AllByRecursion P (slots_of core) → AllByRecursion P (slots_of after)
  each_put P own others = each_slot P after (rises_by core after ids h.rising) (λ n s is. elim (slots n s is) [
    | AfterPut.here e f ↦ subst P (sym f) own
    | AfterPut.there ne at ↦ slot_has P core n s others at
  ])

  replaced_formed : IsSlot new → IsFormed after
  replaced_formed own = record { rising = rises_by core after ids h.rising; slots = each_put IsSlot own h.slots; outputs = ap length outputs ∙ h.outputs }

  module _ (r : Replaces core new) where
    -- where it waits for a handler, and its events are in its handler's queue
    replaced_fitting : Fitting core → WaitsForSome new → ((n k : ℕ) → events_of n (queue_at after k) ≡ one_if (waits_for k (slot_at after n))) → Fitting after
    replaced_fitting fit waits events = record {
      handlers = handlers_by core after h.rising fit.handlers ids;
      matched = record {
        events = events;
        waiting = each_put WaitsForSome waits fit.matched.waiting;
        loads = each_put LoadsMatch (r.goes_on.loads (slot_has LoadsMatch core new.number r.old fit.matched.loads r.stands)) fit.matched.loads;
      };
    }

    -- where it is taken by a handler, and its events are at their slots
    replaced_kept : Fitting core → IsConsistent core → TakenBySome new → EventsAreAtSlots after → IsConsistent after
    unfolding output_of
    replaced_kept fit kept taken in_place = record {
      in_place = in_place;
      loads = subst (λ (b : Bool). AllByRecursion (LoadsAreConsistent b) (slots_of after)) (sym split)
          (each_put (LoadsAreConsistent core.split)
          (r.goes_on.kept (slot_has LoadsMatch core new.number r.old fit.matched.loads r.stands)
          (slot_has (LoadsAreConsistent core.split) core new.number r.old kept.loads r.stands)) kept.loads);
      taken = each_put TakenBySome taken kept.taken;
      within = subst (λ v. AllByRecursion (λ (bytes : List ℕ). length bytes ≤ output_limit v) after.outputs)
          (sym version) (subst (AllByRecursion (λ (bytes : List ℕ). length bytes ≤ output_limit core.version))
          (sym outputs) kept.within);
      silent = λ g none. ap (λ (all : List (List ℕ)). slice_index_or all g []) outputs ∙ kept.silent g (sym (has_group_by core after g ids) ∙ none);
    }

-- an event in a queue stays at its slot
module _ (core : Core) (new : Slot) (r : Replaces core new) where
  replaced_events : Matches core → EventsAreAtSlots core → (k : ℕ) → AllByRecursion (IsAtSlot (put_slot core new)) (queue_at core k)
  replaced_events match in_place k =
      each_both (IsAtSlot core) (λ (e : Event). e.slot ≡ new.number → (is_waiting r.old.state ≡ true) × (r.old.handler ≡ Some k)) (IsAtSlot (put_slot core new))
      (λ e at waits. event_stays core new r.old r.stands e at (λ same. r.ip (waits same).0))
      (queue_at core k) (in_place k) (queued_waits core match new.number r.old r.stands k)

-- 4. A slot that is put, and waits as before or does not wait as before.

pub record Puts (core : Core) (new : Slot) : Type 0 where
  pub replaces : Replaces core new
  pub waits : is_waiting replaces.old.state ≡ is_waiting new.state
  pub taken : TakenBySome replaces.old → TakenBySome new

module _ (core : Core) (new : Slot) (p : Puts core new) where
  put_waits : (n k : ℕ) → waits_for k (slot_at core n) ≡ waits_for k (slot_at (put_slot core new) n)
  put_waits n k = elim (cases_eq n new.number) [
    | inl e ↦
        ap (waits_for k) (ap (slot_at core) e ∙ p.replaces.stands)
        ∙ by (is_waiting p.replaces.old.state) (is_waiting new.state) p.replaces.old.handler new.handler p.waits p.replaces.handler
        ∙ sym (ap (waits_for k) (ap (slot_at (put_slot core new)) e ∙ slot_at-put_same core new p.replaces.old p.replaces.stands))
    | inr ne ↦ sym (ap (waits_for k) (slot_at-put_other core new n ne))
  ]
    where
      by : (a b : Bool) (p q : Option ℕ) → a ≡ b → p ≡ q → (if a then is_handler k p else false) ≡ (if b then is_handler k q else false)
      by a b p q e f = ap (λ x. if x then is_handler k p else false) e ∙ ap (λ o. if b then is_handler k o else false) f

  put_events : Matches core → (n k : ℕ) → events_of n (queue_at (put_slot core new) k) ≡ one_if (waits_for k (slot_at (put_slot core new) n))
  put_events match n k = ap (events_of n) (queue_at-put_slot core new k) ∙ match.events n k ∙ ap one_if (put_waits n k)

  put_in_place : Matches core → EventsAreAtSlots core → EventsAreAtSlots (put_slot core new)
  put_in_place match in_place k = subst (AllByRecursion (IsAtSlot (put_slot core new))) (sym (queue_at-put_slot core new k)) (replaced_events core new p.replaces match in_place k)

  put_waits_for : Matches core → WaitsForSome new
  put_waits_for match w none = slot_has WaitsForSome core new.number p.replaces.old match.waiting p.replaces.stands (p.waits ∙ w) (p.replaces.handler ∙ none)

-- A slot is put in the place of one with its identity. That it goes on from that one need be known only where the core fits.
pub put_keeps : (core mid : Core) (new now : Slot) → Keeps core mid → slot_at mid new.number ≡ Some now
    → identity_of now ≡ identity_of new → IsSlot new → (Fitting core → Puts mid new) → Keeps core (put_slot mid new)
unfolding put_slot
put_keeps core mid new now to at same own puts =
    let ids = identities_of-put_slot mid new now to.formed.rising at same in
    let slots : (n : ℕ) (s : Slot) → slot_at (put_slot mid new) n ≡ Some s → AfterPut mid new n s = λ n s is. put_slot-cases mid new now n s at is in
    record {
      identities = ids ∙ to.identities;
      version = to.version;
      split = to.split;
      formed = replaced_formed mid (put_slot mid new) new to.formed ids refl refl refl slots own;
      fitting = λ fit.
          let p = puts fit in
          let match = (to.fitting fit).matched in
          replaced_fitting mid (put_slot mid new) new to.formed ids refl refl refl slots p.replaces (to.fitting fit) (put_waits_for mid new p match) (put_events mid new p match);
      kept = λ fit kept.
          let p = puts fit in
          let match = (to.fitting fit).matched in
          replaced_kept mid (put_slot mid new) new to.formed ids refl refl refl slots p.replaces (to.fitting fit) (to.kept fit kept)
          (p.taken (slot_has TakenBySome mid new.number p.replaces.old (to.kept fit kept).taken p.replaces.stands)) (put_in_place mid new p match (to.kept fit kept).in_place);
    }

-- the same where it is known
pub puts_keep : (core : Core) (new : Slot) → IsFormed core → Puts core new → Keeps core (put_slot core new)
puts_keep core new h p = put_keeps core core new p.replaces.old (keeps_self core h) p.replaces.stands (same_identity core new p.replaces) p.replaces.goes_on.slot (λ fit. p)

-- 5. A slot that begins to wait, and its event.

module _ (core : Core) (new : Slot) (g : ℕ) (e : Event) (h : IsFormed core) (r : Replaces core new) (rests : is_waiting r.old.state ≡ false) (waits : is_waiting new.state ≡ true)
    (taken : is_taken new.state ≡ false) (handler : new.handler ≡ Some g) (slot : e.slot ≡ new.number) (ip : e.ip ≡ new.ip) where
  put : Core
  put = put_slot core new

  queued : Core
  unfolding put
  queued = put_queue put g (queue_at put g ++ e ∷ [])

  slot_now : slot_at queued new.number ≡ Some new
  unfolding put queued
  slot_now = slot_at-put_queue put g (queue_at put g ++ e ∷ []) new.number ∙ slot_at-put_same core new r.old r.stands

  other_slot : (n : ℕ) → n ≢ new.number → slot_at queued n ≡ slot_at core n
  unfolding put queued
  other_slot n ne = slot_at-put_queue put g (queue_at put g ++ e ∷ []) n ∙ slot_at-put_other core new n ne

  other_queue : (k : ℕ) → k ≢ g → queue_at queued k ≡ queue_at core k
  unfolding put queued
  other_queue k ne = queue_at-put_other put g (queue_at put g ++ e ∷ []) k ne ∙ queue_at-put_slot core new k

  module _ (fit : Fitting core) where
    -- its handler is another slot
    handler_there : (u : Slot) × (slot_at put g ≡ Some u)
    unfolding put
    handler_there =
        let is_other = slot_has (λ (t : Slot). IfSome t.handler (IsOther (slots_of core) t.number)) core new.number r.old fit.handlers r.stands in
        let other = other_at core h.rising r.old.number g (subst (λ o. IfSome o (IsOther (slots_of core) r.old.number)) (r.handler ∙ handler) is_other) in
        let number = slot_at-number core new.number r.old r.stands in
        (other.1.0, slot_at-put_other core new g (λ same. other.0 (same ∙ sym number)) ∙ other.1.1)

    queue_now : queue_at queued g ≡ queue_at core g ++ e ∷ []
    unfolding put queued
    queue_now = queue_at-put_same put g (queue_at put g ++ e ∷ []) handler_there.0 handler_there.1 ∙ ap (λ q. q ++ e ∷ []) (queue_at-put_slot core new g)

    own_matched : (k : ℕ) → events_of new.number (queue_at queued k) ≡ one_if (waits_for k (Some new))
    own_matched k =
        let none : (j : ℕ) → events_of new.number (queue_at core j) ≡ 0 = λ j. fit.matched.events new.number j ∙ ap one_if (ap (waits_for j) r.stands ∙ waits_for-rests j r.old rests) in
        elim (cases_eq k g) [
          | inl same ↦
              ap (λ j. events_of new.number (queue_at queued j)) same
              ∙ ap (events_of new.number) queue_now
              ∙ events_of-push_same new.number (queue_at core g) e slot
              ∙ ap (λ x. x + 1) (none g)
              ∙ sym (ap one_if (waits_for-at k new waits (handler ∙ ap (λ (j : ℕ). Some j) (sym same))))
          | inr ne ↦
              ap (events_of new.number) (other_queue k ne) ∙ none k
              ∙ sym (ap one_if (waits_for-elsewhere k g new handler (λ same. ne (sym same))))
        ]

    others_matched : (n k : ℕ) → n ≢ new.number → events_of n (queue_at queued k) ≡ one_if (waits_for k (slot_at core n))
    others_matched n k other = elim (cases_eq k g) [
      | inl same ↦
          ap (λ j. events_of n (queue_at queued j)) same
          ∙ ap (events_of n) queue_now
          ∙ events_of-push_other n (queue_at core g) e (λ is. other (sym is ∙ slot))
          ∙ fit.matched.events n g
          ∙ ap (λ j. one_if (waits_for j (slot_at core n))) (sym same)
      | inr ne ↦ ap (events_of n) (other_queue k ne) ∙ fit.matched.events n k
    ]

    wait_matched : (n k : ℕ) → events_of n (queue_at queued k) ≡ one_if (waits_for k (slot_at queued n))
    wait_matched n k = elim (cases_eq n new.number) [
      | inl same ↦
          ap (λ j. events_of j (queue_at queued k)) same ∙ own_matched k
          ∙ sym (ap (λ o. one_if (waits_for k o)) (ap (slot_at queued) same ∙ slot_now))
      | inr other ↦ others_matched n k other ∙ sym (ap (λ o. one_if (waits_for k o)) (other_slot n other))
    ]

    queued_at : (x : Event) → IsAtSlot (put_slot core new) x → IsAtSlot queued x
    unfolding put queued
    queued_at x at = subst (λ o. IfSome o (λ (s : Slot). x.ip ≡ s.ip)) (sym (slot_at-put_queue put g (queue_at put g ++ e ∷ []) x.slot)) at

    wait_in_place : EventsAreAtSlots core → EventsAreAtSlots queued
    wait_in_place in_place k =
        let olds : (j : ℕ) → AllByRecursion (IsAtSlot queued) (queue_at core j) =
        λ j. each_map (IsAtSlot (put_slot core new)) (IsAtSlot queued) queued_at (queue_at core j) (replaced_events core new r fit.matched in_place j) in
        let first : IsAtSlot queued e = subst (λ o. IfSome o (λ (s : Slot). e.ip ≡ s.ip)) (sym (ap (slot_at queued) slot ∙ slot_now)) ip in
        elim (cases_eq k g) [
          | inl same ↦
              subst (λ j. AllByRecursion (IsAtSlot queued) (queue_at queued j)) (sym same)
              (subst (AllByRecursion (IsAtSlot queued)) (sym queue_now) (each_push (IsAtSlot queued) (queue_at core g) e (olds g) first))
          | inr ne ↦ subst (AllByRecursion (IsAtSlot queued)) (sym (other_queue k ne)) (olds k)
        ]

  pub wait_keeps : Keeps core (put_queue (put_slot core new) g (queue_at (put_slot core new) g ++ e ∷ []))
  unfolding put queued put_slot put_queue
  wait_keeps =
      let ids : identities_of queued ≡ identities_of core =
      ap (map identity_of) (slots_of-put_queue put g (queue_at put g ++ e ∷ [])) ∙ identities_of-put_slot core new r.old h.rising r.stands (same_identity core new r) in
      let slots : (n : ℕ) (s : Slot) → slot_at queued n ≡ Some s → AfterPut core new n s =
      λ n s is. put_slot-cases core new r.old n s r.stands (sym (slot_at-put_queue put g (queue_at put g ++ e ∷ []) n) ∙ is) in
      record {
        identities = ids;
        version = refl;
        split = refl;
        formed = replaced_formed core queued new h ids refl refl refl slots r.goes_on.slot;
        fitting = λ fit. replaced_fitting core queued new h ids refl refl refl slots r fit (λ w none. cc (handler, none)) (wait_matched fit);
        kept = λ fit kept. replaced_kept core queued new h ids refl refl refl slots r fit kept (λ t. cc (t, taken)) (wait_in_place fit kept.in_place);
      }

-- 6. An event that is taken from the front of its queue.

module _ (core : Core) (new : Slot) (n : ℕ) (e : Event) (rest : List Event) (h : IsFormed core) (r : Replaces core new) (queue : queue_at core n ≡ e ∷ rest) (slot : e.slot ≡ new.number)
    (rests : is_waiting new.state ≡ false) (server : Slot) (there : slot_at core n ≡ Some server) where
  taken : Core
  taken = put_queue (put_slot core new) n rest

  server_there : (u : Slot) × (slot_at (put_slot core new) n ≡ Some u)
  server_there = elim (cases_eq n new.number) [
    | inl same ↦ (new, ap (slot_at (put_slot core new)) same ∙ slot_at-put_same core new r.old r.stands)
    | inr ne ↦ (server, slot_at-put_other core new n ne ∙ there)
  ]

  rest_now : queue_at taken n ≡ rest
  unfolding taken
  rest_now = queue_at-put_same (put_slot core new) n rest server_there.0 server_there.1

  queue_then : (k : ℕ) → k ≢ n → queue_at taken k ≡ queue_at core k
  unfolding taken
  queue_then k ne = queue_at-put_other (put_slot core new) n rest k ne ∙ queue_at-put_slot core new k

  slot_then : slot_at taken new.number ≡ Some new
  unfolding taken
  slot_then = slot_at-put_queue (put_slot core new) n rest new.number ∙ slot_at-put_same core new r.old r.stands

  slots_then : (m : ℕ) → m ≢ new.number → slot_at taken m ≡ slot_at core m
  unfolding taken
  slots_then m ne = slot_at-put_queue (put_slot core new) n rest m ∙ slot_at-put_other core new m ne

  module _ (match : Matches core) where
    -- its slot waited for this handler
    pub waited : (is_waiting r.old.state ≡ true) × (r.old.handler ≡ Some n)
    waited = let all = subst (AllByRecursion (λ (x : Event). x.slot ≡ new.number → (is_waiting r.old.state ≡ true)
        × (r.old.handler ≡ Some n))) queue (queued_waits core match new.number r.old r.stands n) in all.0 slot

    taken_own : (k : ℕ) → events_of new.number (queue_at taken k) ≡ 0
    taken_own k = elim (cases_eq k n) [
      | inl same ↦
          let was : events_of new.number rest + 1 ≡ one_if (waits_for n (slot_at core new.number)) = sym
          (events_of-here new.number e rest slot) ∙ sym (ap (events_of new.number) queue) ∙ match.events new.number
          n in
          ap (λ j. events_of new.number (queue_at taken j)) same ∙ ap (events_of new.number) rest_now ∙ none_left (waits_for n (slot_at core new.number)) (events_of new.number rest) was
      | inr ne ↦
          ap (events_of new.number) (queue_then k ne) ∙ match.events new.number k
          ∙ ap one_if (ap (waits_for k) r.stands ∙ waits_for-elsewhere k n r.old waited.1 (λ same. ne (sym same)))
    ]
      where
        none_left : (b : Bool) (x : ℕ) → x + 1 ≡ one_if b → x ≡ 0
        none_left true x is = omega arith
        none_left false x is = absurd (omega arith)

    taken_others : (m k : ℕ) → m ≢ new.number → events_of m (queue_at taken k) ≡ one_if (waits_for k (slot_at core m))
    taken_others m k other = elim (cases_eq k n) [
      | inl same ↦
          ap (λ j. events_of m (queue_at taken j)) same
          ∙ ap (events_of m) rest_now
          ∙ sym (events_of-other m e rest (λ is. other (sym is ∙ slot)))
          ∙ sym (ap (events_of m) queue)
          ∙ match.events m n
          ∙ ap (λ j. one_if (waits_for j (slot_at core m))) (sym same)
      | inr ne ↦ ap (events_of m) (queue_then k ne) ∙ match.events m k
    ]

    taken_matched : (m k : ℕ) → events_of m (queue_at taken k) ≡ one_if (waits_for k (slot_at taken m))
    taken_matched m k = elim (cases_eq m new.number) [
      | inl same ↦
          ap (λ j. events_of j (queue_at taken k)) same ∙ taken_own k
          ∙ sym (ap one_if (ap (waits_for k) (ap (slot_at taken) same ∙ slot_then) ∙ waits_for-rests k new rests))
      | inr other ↦ taken_others m k other ∙ sym (ap (λ o. one_if (waits_for k o)) (slots_then m other))
    ]

    taken_at : (x : Event) → IsAtSlot (put_slot core new) x → IsAtSlot taken x
    unfolding taken
    taken_at x at = subst (λ o. IfSome o (λ (s : Slot). x.ip ≡ s.ip)) (sym (slot_at-put_queue (put_slot core new) n rest x.slot)) at

    taken_in_place : EventsAreAtSlots core → EventsAreAtSlots taken
    taken_in_place in_place k =
        let olds : (j : ℕ) → AllByRecursion (IsAtSlot taken) (queue_at core j) =
        λ j. each_map (IsAtSlot (put_slot core new)) (IsAtSlot taken) taken_at (queue_at core j) (replaced_events core new r match in_place j) in
        elim (cases_eq k n) [
          | inl same ↦
              subst (λ j. AllByRecursion (IsAtSlot taken) (queue_at taken j)) (sym same)
              (subst (AllByRecursion (IsAtSlot taken)) (sym rest_now) (subst (AllByRecursion (IsAtSlot taken)) queue (olds n)).1)
          | inr ne ↦ subst (AllByRecursion (IsAtSlot taken)) (sym (queue_then k ne)) (olds k)
        ]

  pub take_keeps : Keeps core (put_queue (put_slot core new) n rest)
  unfolding taken put_slot put_queue
  take_keeps =
      let ids : identities_of taken ≡ identities_of core =
      ap (map identity_of) (slots_of-put_queue (put_slot core new) n rest) ∙ identities_of-put_slot core new r.old h.rising r.stands (same_identity core new r) in
      let slots : (m : ℕ) (s : Slot) → slot_at taken m ≡ Some s → AfterPut core new m s =
      λ m s is. put_slot-cases core new r.old m s r.stands (sym (slot_at-put_queue (put_slot core new) n rest m) ∙ is) in
      record {
        identities = ids;
        version = refl;
        split = refl;
        formed = replaced_formed core taken new h ids refl refl refl slots r.goes_on.slot;
        fitting = λ fit. replaced_fitting core taken new h ids refl refl refl slots r fit (λ w. cc (w, rests)) (taken_matched fit.matched);
        kept = λ fit kept. replaced_kept core taken new h ids refl refl refl slots r fit kept (λ t none. cc ((waited fit.matched).1, r.handler, none)) (taken_in_place fit.matched kept.in_place);
      }

-- 7. A byte that is put out.

pub out_keeps : (core : Core) (g : ℕ) (bytes : List ℕ) → IsFormed core → has_group (slots_of core) g ≡ true → length bytes ≤ output_limit core.version → Keeps core (put_output core g bytes)
unfolding put_output output_of slot_at queue_at
out_keeps core g bytes h has few = record {
  identities = refl;
  version = refl;
  split = refl;
  formed = record { rising = h.rising; slots = h.slots; outputs = length-set core.outputs g bytes ∙ h.outputs };
  fitting = λ fit. record { handlers = fit.handlers; matched = record { events = fit.matched.events; waiting = fit.matched.waiting; loads = fit.matched.loads } };
  kept = λ fit kept. record {
    in_place = kept.in_place;
    loads = kept.loads;
    taken = kept.taken;
    within = each_set (λ (b : List ℕ). length b ≤ output_limit core.version) core.outputs g bytes kept.within few;
    silent = λ k none. get_or-set_other core.outputs g k bytes [] (λ same. cc (ap (has_group (slots_of core)) same, has, none)) ∙ kept.silent k none;
  };
}
