-- A turn outside the groups changes nothing that they see, and tells nothing of them.
use Rattle.std.proofs.Common.{◌≡◌, ℕ, inl, inr, Bool, true, false, if◌then◌else◌, List, [], ◌∷◌, ◌++◌, Option, Some}
use Rattle.std.proofs.Common.{None, refl, sym, ap, ◌∙◌, subst, slice_index_or, get_or-set_other}
use Rattle.std.{proofs.lemmas.Bool.both_ways, specs.Prelude.IfSome}
use Rattle.mm_word.specs.{declared.{cause.Cause.Cause, word.Word.{Word, TheVariants.Int}}, Access.AccessValue}
use Rattle.mm_isa.specs.declared.instr.Instr.{Instr}
use Rattle.mm_model.specs.declared.slot.{SlotState.{SlotState, TheVariants.{Running, Waiting, Halted}}, Pending.Pending}
use Rattle.mm_model.specs.{declared.event.Event.Event, Memory.{Memory, cell_at}, Uses.Use, Slot.Slot}
use Rattle.mm_model.specs.{State.{Core, slot_at, queue_at, put_slot, output_of, put_output}, Image.Image}
use Rattle.mm_model.specs.{Spelling.IsOther, Fits.slots_of, Operands.{addr_operand, value_operand}, Ask.ask}
use Rattle.mm_model.specs.Effect.{Change, Effect, effect, delivered, Effect.{Fault, Block, Deliver, Do}}
use Rattle.mm_model.specs.Turn.{Turned, reply, slot_after, with_other, with_queue, with_out, core_after, stood, is_sync}
use Rattle.mm_model.specs.Turn.{event_of, core_faulted, faulted, touch_of, asked_use, blocked, ended, executed, started}
use Rattle.mm_model.specs.{Turn.{idle, arrives, turn}, Trace.{group_of, group_in, trace_line, step_line}}
use Rattle.mm_model.specs.{Reach.Entries.All, Worlds.{Touchable, Apart, is_turn_of}, Outcomes.IsPort}
use Rattle.mm_model.proofs.CoreRows.{slot_at-number, slot_has, other_at, identities_of, stays_by}
use Rattle.mm_model.proofs.{SlotSteps.delivered_from, TurnKeeps.{changed_from, turn_keeps}}
use Rattle.mm_model.proofs.TurnChanges.{same_output, fault_same, moved_same}
use Rattle.mm_model.proofs.TurnShapes.{fetch_uses, fetch_use, started_one, turn_by}
use Rattle.mm_laws.proofs.GrantedRows.{Stands, OtherGranted, OtherSlot, ChangeGranted, EffectGranted, effect_granted}
use Rattle.mm_laws.proofs.GrantedTurns.{turn_granted}
use Rattle.mm_laws.proofs.AlikeRows.{other_sames, own_sames, mine-with_out, output_of-put_slot, mine, Sames, sames_self}
use Rattle.mm_laws.proofs.{AlikeRows.{put_slot-sames, beside-put_slot, beside-put_queue}, AlikeWorlds.state_side}

-- what a turn of a slot leaves as it was for the groups
record QuietOf (c : ℕ → Bool) (core : Core) (s : Slot) (t : Turned) : Type 0 where
  rows : mine c t.core ≡ mine c core
  outputs : (g : ℕ) → c g ≡ true → output_of t.core g ≡ output_of core g
  slot : t.step.slot ≡ s.number

-- a turn that the groups do not see
pub record QuietTurn (i : Image) (c : ℕ → Bool) (core : Core) (m : Memory) (t : Turned) : Type 0 where
  pub rows : mine c t.core ≡ mine c core
  pub outputs : (g : ℕ) → c g ≡ true → output_of t.core g ≡ output_of core g
  pub cells : (w : ℕ) → Touchable i All c w → cell_at t.memory w ≡ cell_at m w
  pub line : (if is_turn_of c t then trace_line t else []) ≡ []

line_outside : (b : Bool) (l : List ℕ) → b ≡ false → (if b then l else []) ≡ []
line_outside true l e = cc
line_outside false l e = refl

line_idle : (b : Bool) (l : List ℕ) → l ≡ [] → (if b then l else []) ≡ []
line_idle true l e = e
line_idle false l e = refl

module _ (i : Image) (c : ℕ → Bool) (apart : Apart i All c) (core : Core) (m : Memory) (st : Stands i All core m) where
  pub idle_quiet : (k : ℕ) → QuietTurn i c core m (idle core m k)
  unfolding idle step_line
  idle_quiet k = record { rows = refl; outputs = λ g cg. refl; cells = λ w t. refl; line = line_idle (is_turn_of c (idle core m k)) (trace_line (idle core m k)) refl }

  sames : Sames core core
  sames = sames_self core st.formed.rising

  module _ (s : Slot) (at : slot_at core s.number ≡ Some s) (out : c s.group ≡ false) where
    abbrev Quiet : Turned → Type 0
    Quiet t = QuietOf c core s t

    stood_quiet : (mid : Core) → Sames core mid → (now : Slot) → now.number ≡ s.number → now.group ≡ s.group → (state : SlotState) → mine c (put_slot mid (stood now state)) ≡ mine c mid
    stood_quiet mid k now number group state = beside-put_slot core mid k c (stood now state) s (ap (slot_at core) number ∙ at) (sym group) (ap c group ∙ out)

    fault_quiet : (e : Event) (o : Option ℕ) → s.handler ≡ o → mine c (core_faulted core s e o) ≡ mine c core
    unfolding core_faulted
    fault_quiet e None is = by (is_sync e.cause)
      where
        by : (y : Bool) → mine c (if y then put_slot core (stood s Running) else put_slot core (stood s (Halted (Some e.cause)))) ≡ mine c core
        by true = stood_quiet core sames s refl refl Running
        by false = stood_quiet core sames s refl refl (Halted (Some e.cause))
    fault_quiet e (Some k) is =
        let handlers = slot_has (λ (x : Slot). IfSome x.handler (IsOther (slots_of core) x.number)) core s.number s st.fitting.handlers at in
        let other = other_at core st.formed.rising s.number k (subst (λ o. IfSome o (IsOther (slots_of core) s.number)) is handlers) in
        let number = slot_at-number core k other.1.0 other.1.1 in
        let side = state_side i c apart core st.same s.number k s other.1.0 at other.1.1 (is ∙ ap (λ (n : ℕ). Some n) (sym number)) in
        beside-put_queue core (put_slot core (stood s Waiting)) (put_slot-sames core core sames (stood s Waiting) s at
        refl) c k (queue_at (put_slot core (stood s Waiting)) k ++ e ∷ []) other.1.0 other.1.1 (sym side ∙ out)
        ∙ stood_quiet core sames s refl refl Waiting

    faulted_quiet : (cause : Cause) (v w : Word) (f t : Option AccessValue) (us : List Use) → Quiet (faulted core m s cause v w f t us)
    unfolding faulted
    faulted_quiet cause v w f t us =
        let e : Event = event_of s cause v w in
        record { rows = fault_quiet e s.handler refl; outputs = λ g cg. same_output core (core_faulted core s e s.handler) (fault_same core s e s.handler) g; slot = refl }

    blocked_quiet : (mid : Core) → Sames core mid → mine c mid ≡ mine c core
        → ((g : ℕ) → output_of mid g ≡ output_of core g) → (now : Slot) → now.number ≡ s.number → now.group ≡ s.group
        → (f : AccessValue) (t : Option AccessValue) (us : List Use)
        → Quiet (blocked mid m now f t us)
    unfolding blocked
    blocked_quiet mid k same outs now number group f t us = record {
      rows = stood_quiet mid k now number group Running ∙ same;
      outputs = λ g cg. output_of-put_slot mid (stood now Running) g ∙ outs g;
      slot = number;
    }

    -- another slot, which this one serves, is outside too
    other_out : (o : Slot) → OtherGranted i All core s.number o → c o.group ≡ false
    other_out o g = sym (ap c g.group) ∙ state_side i c apart core st.same o.number s.number g.old s g.stands at g.served ∙ out

    module _ (d : Change) (g : ChangeGranted i All core m s d) where
      other_quiet : (o : Option Slot) → OtherSlot i All core s.number o → mine c (with_other core o) ≡ mine c core
      other_quiet None k = refl
      other_quiet (Some o) k = beside-put_slot core core sames c o k.old k.stands k.group (other_out o k)

      own_quiet : mine c (put_slot (with_other core d.other) (slot_after s d)) ≡ mine c core
      own_quiet =
          let from = changed_from s d in
          beside-put_slot core (with_other core d.other) (other_sames i core st.formed.rising s.number d.other g.other)
          c (slot_after s d) s (ap (slot_at core) from.number ∙ at) (sym from.group) (ap c from.group ∙ out)
          ∙ other_quiet d.other g.other

      queue_quiet : (mid : Core) → Sames core mid → (o : Option (List Event)) → mine c (with_queue mid s.number o) ≡ mine c mid
      queue_quiet mid k None = refl
      queue_quiet mid k (Some q) = beside-put_queue core mid k c s.number q s at out

      change_rows : mine c (core_after core s d) ≡ mine c core
      unfolding core_after
      change_rows =
          mine-with_out c (with_queue (put_slot (with_other core d.other) (slot_after s d)) s.number d.queue) s.group d.out
          ∙ queue_quiet (put_slot (with_other core d.other) (slot_after s d)) (own_sames i core st.formed.rising s at d g.other) d.queue
          ∙ own_quiet

      byte_outputs : (mid : Core) → mid.outputs ≡ core.outputs → (o : Option ℕ) (k : ℕ) → c k ≡ true → output_of (with_out mid s.group o) k ≡ output_of core k
      unfolding output_of put_output
      byte_outputs mid e None k ck = ap (λ (l : List (List ℕ)). slice_index_or l k []) e
      byte_outputs mid e (Some byte) k ck =
          get_or-set_other mid.outputs s.group k (slice_index_or mid.outputs s.group [] ++ byte ∷ []) [] (λ same. both_ways (c k) (ap c same ∙ out) ck)
          ∙ ap (λ (l : List (List ℕ)). slice_index_or l k []) e

      change_outputs : (k : ℕ) → c k ≡ true → output_of (core_after core s d) k ≡ output_of core k
      unfolding core_after
      change_outputs k ck =
          byte_outputs (with_queue (put_slot (with_other core d.other) (slot_after s d)) s.number d.queue) (moved_same core d.other (slot_after s d) s.number d.queue).outputs d.out k ck

    ended_quiet : (instr : Instr) (f : AccessValue) (t : Option AccessValue) (us : List Use) (y : Effect) → EffectGranted i All core m s y → Quiet (ended core m s instr f t us y)
    unfolding ended
    ended_quiet instr f t us (Fault cause) g = faulted_quiet cause (addr_operand instr s) (value_operand instr s) (Some f) t us
    ended_quiet instr f t us Block g = blocked_quiet core sames refl (λ k. refl) s refl refl f t us
    ended_quiet instr f t us (Deliver o) g =
        blocked_quiet (put_slot core o) (other_sames i core st.formed.rising s.number (Some o) g) (beside-put_slot core core sames c o g.old g.stands g.group (other_out o g))
        (output_of-put_slot core o) s refl refl f t us
    ended_quiet instr f t us (Do d) g = record { rows = change_rows d g; outputs = change_outputs d g; slot = refl }

    started_quiet : Quiet (started core m s)
    unfolding executed
    started_quiet = started_one core m s Quiet (record {
      faults = λ cause f done aim. faulted_quiet cause (Int 0) (Int 0) f None (fetch_uses f done);
      lacks_register = λ f instr aim is lacking. blocked_quiet core sames refl (λ k. refl) (delivered s) (delivered_from s).number (delivered_from s).group f None (fetch_use f ∷ []);
      carries_out = λ f instr aim is has.
          ended_quiet instr f (touch_of (ask instr s)) (fetch_use f ∷ asked_use m (ask instr s)) (effect core.split instr s (reply core m s.number (ask instr s)))
          (effect_granted i All core m st s at instr);
    })

    arrived_quiet : (p : Pending) (rest : List Pending) → Quiet (arrives core m s (p ∷ rest))
    arrived_quiet p rest =
        let from = delivered_from s in
        record {
          rows = beside-put_slot core core sames c (delivered s) s (ap (slot_at core) from.number ∙ at) (sym from.group) (ap c from.group ∙ out);
          outputs = λ g cg. output_of-put_slot core (delivered s) g;
          slot = refl;
        }

    -- the turn of a slot outside
    own_turn_quiet : (n : ℕ) (t : Turned) → turn core m n ≡ t → Quiet t → QuietTurn i c core m t
    own_turn_quiet n t is q =
        let ids : identities_of t.core ≡ identities_of core = subst (λ (x : Turned). identities_of x.core ≡ identities_of core) is (turn_keeps core m st.formed n).identities in
        let now = stays_by core t.core s.number s ids at in
        let group : group_in t ≡ s.group = ap (λ k. group_of (slot_at t.core k)) q.slot ∙ ap group_of now.is ∙ ap (λ (x : ℕ × ℕ × Option ℕ). x.1) now.same in
        let outside : c (group_in t) ≡ false = ap c group ∙ out in
        record {
          rows = q.rows;
          outputs = q.outputs;
          cells = λ w touch. elim ((subst (Rattle.mm_laws.proofs.GrantedTurns.TurnGranted i All m) is (turn_granted i All core m st n)).changed w) [
            | inl same ↦ same
            | inr writes ↦ absurd (apart.writes (group_in t) w outside writes touch)
          ];
          line = line_outside (is_turn_of c t) (trace_line t) outside;
        }

  -- a turn of no slot of the groups, nor of a port of one
  pub turn_quiet : (n : ℕ) → ((s : Slot) → slot_at core n ≡ Some s → c s.group ≡ false) → ((s : Slot) (p : Pending) → IsPort core n s p → c s.group ≡ false) → QuietTurn i c core m (turn core m n)
  turn_quiet n out port_out = turn_by core m n (λ t. turn core m n ≡ t → QuietTurn i c core m t) (record {
    idles = λ k none e. idle_quiet k;
    arrives_at = λ s p rest free port is e. let outside = port_out s p port in own_turn_quiet s port.at outside n (arrives core m s (p ∷ rest)) e (arrived_quiet s port.at outside p rest);
    starts = λ s r own e. let outside = out s r.at in own_turn_quiet s own outside n (started core m s) e (started_quiet s own outside);
  }) refl
