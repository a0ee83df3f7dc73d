-- Only the running slot that an item names takes a turn, so no slot takes more turns than there are cycles.
use Rattle.std.proofs.Common.{◌≡◌, ℕ, ◌+◌, ◌≤◌, ◌⊎◌, inl, inr, Bool, true, false, if◌then◌else◌, List, [], ◌∷◌, ◌++◌}
use Rattle.std.proofs.Common.{Option, Some, None, refl, sym, ap, ◌∙◌, subst, arith}
use Rattle.mm_word.specs.{declared.word.Word.TheVariants.Int, Access.AccessValue}
use Rattle.mm_isa.specs.declared.instr.Instr.{Instr}
use Rattle.mm_model.specs.declared.{slot.SlotState.TheVariants.{Running, Waiting, Halted}, event.Event.Event}
use Rattle.mm_model.specs.{Memory.Memory, Uses.Use, Slot.Slot}
use Rattle.mm_model.specs.State.{Core, State, slot_at, queue_at, put_slot, put_queue, put_output}
use Rattle.mm_model.specs.{Operands.{addr_operand, value_operand}, Ask.ask}
use Rattle.mm_model.specs.Effect.{Change, Effect, effect, delivered, Effect.{Fault, Block, Deliver, Do}}
use Rattle.mm_model.specs.Turn.{Turned, reply, slot_after, with_other, with_queue, with_out, core_after, stood, is_sync}
use Rattle.mm_model.specs.Turn.{event_of, core_faulted, faulted, touch_of, asked_use, blocked, ended, executed, idle}
use Rattle.mm_model.specs.{Turn.{is_running, turn}, Run.after, Fits.{IsFormed, Matches, TurnsWithin}, Outcomes.Runs}
use Rattle.mm_model.proofs.CoreRows.{slot_at-number, AfterPut, put_slot-cases, slot_at-put_queue, each_slot, slot_has}
use Rattle.mm_model.proofs.{SlotSteps.delivered_from, CoreSteps.Replaces, EffectSteps.{Moves, ChangeKeeps, EffectKeeps}}
use Rattle.mm_model.proofs.TurnKeeps.{turn_keeps, row_keeps, still_there, event_waited, changed_from}
use Rattle.mm_model.proofs.TurnShapes.{fetch_use, started_one, turn_by}

-- the turns of a slot stay, or rise by one where it is the running slot of this number
pub record TurnsFrom (core : Core) (n k : ℕ) (now : Slot) : Type 0 where
  pub was : Slot
  pub stands : slot_at core k ≡ Some was
  pub turns : (now.turns ≡ was.turns) ⊎ ((k ≡ n) × (is_running was.state ≡ true) × (now.turns ≡ was.turns + 1))

abbrev pub TakesTurns : Core → ℕ → Core → Type 0
TakesTurns core n later = (k : ℕ) (now : Slot) → slot_at later k ≡ Some now → TurnsFrom core n k now

module _ (core : Core) (n : ℕ) where
  none_takes : TakesTurns core n core
  none_takes k now is = record { was = now; stands = is; turns = inl refl }

  -- a slot with the turns of one takes its place
  same_takes : (mid : Core) (o old was : Slot) → TakesTurns core n mid → slot_at mid o.number ≡ Some old → slot_at core o.number ≡ Some was → o.turns ≡ was.turns → TakesTurns core n (put_slot mid o)
  same_takes mid o old was h there stands same k now is = elim (put_slot-cases mid o old k now there is) [
    | AfterPut.here e f ↦ record { was = was; stands = ap (slot_at core) e ∙ stands; turns = inl (ap (λ (x : Slot). x.turns) f ∙ same) }
    | AfterPut.there ne at ↦ h k now at
  ]

  -- the running slot takes its turn
  own_takes : (mid : Core) (new old s : Slot) → TakesTurns core n mid → slot_at mid new.number ≡ Some old
      → new.number ≡ n → Runs core n s → new.turns ≡ s.turns + 1 → TakesTurns core n (put_slot mid new)
  own_takes mid new old s h there number r more k now is = elim (put_slot-cases mid new old k now there is) [
    | AfterPut.here e f ↦ record { was = s; stands = ap (slot_at core) (e ∙ number) ∙ r.at; turns = inr (e ∙ number, r.running, ap (λ (x : Slot). x.turns) f ∙ more) }
    | AfterPut.there ne at ↦ h k now at
  ]

  queue_takes : (mid : Core) (g : ℕ) (q : List Event) → TakesTurns core n mid → TakesTurns core n (put_queue mid g q)
  queue_takes mid g q h k now is = h k now (sym (slot_at-put_queue mid g q k) ∙ is)

  later_takes : (mid : Core) (g : ℕ) (q : Option (List Event)) → TakesTurns core n mid → TakesTurns core n (with_queue mid g q)
  later_takes mid g None h = h
  later_takes mid g (Some q) h = queue_takes mid g q h

  byte_takes : (mid : Core) (g : ℕ) (o : Option ℕ) → TakesTurns core n mid → TakesTurns core n (with_out mid g o)
  unfolding put_output slot_at
  byte_takes mid g None h = h
  byte_takes mid g (Some byte) h = h

module _ (core : Core) (n : ℕ) (h : IsFormed core) (match : Matches core) (s : Slot) (r : Runs core n s) where
  number : s.number ≡ n
  number = slot_at-number core n s r.at

  own_at : slot_at core s.number ≡ Some s
  own_at = ap (slot_at core) number ∙ r.at

  -- another slot that does not run is put, and then the running slot
  other_takes : (o : Slot) (p : Replaces core o) → p.old.turns ≡ o.turns → is_running p.old.state ≡ false → (new : Slot)
      → new.number ≡ s.number → new.turns ≡ s.turns + 1 → TakesTurns core n (put_slot (put_slot core o) new)
  other_takes o p same runs_not new at more =
      own_takes core n (put_slot core o) new s s (same_takes core n core o p.old p.old (none_takes core n) p.stands p.stands (sym same))
      (ap (slot_at (put_slot core o)) at ∙ still_there core h s own_at r.running o p runs_not) (at ∙ number) r more

  stood_takes : (new : Slot) → new.number ≡ s.number → new.turns ≡ s.turns + 1 → TakesTurns core n (put_slot core new)
  stood_takes new at more = own_takes core n core new s s (none_takes core n) (ap (slot_at core) at ∙ own_at) (at ∙ number) r more

  moved_takes : (c : Change) → Moves core s.number c → (o : Option Slot) → c.other ≡ o → (new : Slot)
      → new.number ≡ s.number → new.turns ≡ s.turns + 1 → TakesTurns core n (put_slot (with_other core o) new)
  moved_takes c moves None is new at more = stood_takes new at more
  moved_takes c (Moves.keeps_all a b) (Some o) is new at more = cc (b, is)
  moved_takes c (Moves.frees p f a b) (Some o) is new at more =
      let two : ◌≡◌ {A = Option Slot} (Some p) (Some o) = sym b ∙ is in
      let one : p ≡ o = cc in
      subst (λ (x : Slot). TakesTurns core n (put_slot (put_slot core x) new)) one (other_takes p f.replaces f.turns f.runs_not new at more)
  moved_takes c (Moves.takes_event p rest t a b) (Some o) is new at more =
      let two : ◌≡◌ {A = Option Slot} (Some p) (Some o) = sym b ∙ is in
      let one : p ≡ o = cc in
      subst (λ (x : Slot). TakesTurns core n (put_slot (put_slot core x) new)) one (other_takes p t.replaces t.turns (event_waited core h s own_at r.running p rest t match) new at more)

  change_takes : (c : Change) → ChangeKeeps core s c → TakesTurns core n (core_after core s c)
  unfolding core_after
  change_takes c keeps =
      let from = changed_from s c in
      byte_takes core n (with_queue (put_slot (with_other core c.other) (slot_after s c)) s.number c.queue) s.group c.out
      (later_takes core n (put_slot (with_other core c.other) (slot_after s c)) s.number c.queue (moved_takes c keeps.moves c.other refl (slot_after s c) from.number from.turns))

  faulted_takes : (e : Event) (o : Option ℕ) → TakesTurns core n (core_faulted core s e o)
  unfolding core_faulted
  faulted_takes e (Some g) = queue_takes core n (put_slot core (stood s Waiting)) g (queue_at (put_slot core (stood s Waiting)) g ++ e ∷ []) (stood_takes (stood s Waiting) refl refl)
  faulted_takes e None = by (is_sync e.cause)
    where
      by : (b : Bool) → TakesTurns core n (if b then put_slot core (stood s Running) else put_slot core (stood s (Halted (Some e.cause))))
      by true = stood_takes (stood s Running) refl refl
      by false = stood_takes (stood s (Halted (Some e.cause))) refl refl

  ended_takes : (m : Memory) (i : Instr) (f : AccessValue) (t : Option AccessValue) (us : List Use) (x : Effect) → EffectKeeps core s x → TakesTurns core n (ended core m s i f t us x).core
  unfolding ended blocked faulted
  ended_takes m i f t us (Fault c) keeps = faulted_takes (event_of s c (addr_operand i s) (value_operand i s)) s.handler
  ended_takes m i f t us Block keeps = stood_takes (stood s Running) refl refl
  ended_takes m i f t us (Deliver o) keeps = other_takes o keeps.replaces keeps.turns keeps.runs_not (stood s Running) refl refl
  ended_takes m i f t us (Do c) keeps = change_takes c keeps

-- only the running slot that an item names takes a turn
pub turn_takes : (core : Core) (m : Memory) (n : ℕ) → IsFormed core → Matches core → TakesTurns core n (turn core m n).core
unfolding idle blocked executed faulted
turn_takes core m n h match = turn_by core m n P (record {
  idles = λ k none. none_takes core n;
  arrives_at = λ s p rest free port is.
      let from = delivered_from s in
      let own : slot_at core (delivered s).number ≡ Some s = ap (slot_at core) from.number ∙ port.at in
      same_takes core n core (delivered s) s s (none_takes core n) own own from.turns;
  starts = λ s r own. started_one core m s P (record {
    faults = λ c f done aim. faulted_takes core n h match s r (event_of s c (Int 0) (Int 0)) s.handler;
    lacks_register = λ f i aim is lacking. let from = delivered_from s in stood_takes core n h match s r (stood (delivered s) Running) from.number (ap (λ k. k + 1) from.turns);
    carries_out = λ f i aim is has.
        ended_takes core n h match s r m i f (touch_of (ask i s)) (fetch_use f ∷ asked_use m (ask i s)) (effect core.split i s (reply core m s.number (ask i s)))
        (row_keeps core h s own m i is.whole has);
  });
})
  where
    P : Turned → Type 0
    P t = TakesTurns core n t.core

-- no slot has taken more turns than there were cycles, after a turn as before
pub after_within : (s : State) (n : ℕ) → IsFormed s.core → Matches s.core → TurnsWithin s → TurnsWithin (after s n)
unfolding after
after_within s n h match few =
    each_slot (λ (slot : Slot). slot.turns ≤ s.cycles + 1) (turn s.core s.memory n).core (turn_keeps s.core s.memory h n).formed.rising
    (λ k now is.
    let from = turn_takes s.core s.memory n h match k now is in
    let before : from.was.turns ≤ s.cycles = slot_has (λ (slot : Slot). slot.turns ≤ s.cycles) s.core k from.was few from.stands in
    elim from.turns [ inl same ↦ omega arith | inr one ↦ let more = one.2 in omega arith ])
