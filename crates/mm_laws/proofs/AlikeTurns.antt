-- A turn of the groups is the same in two states that are alike to them.
use Rattle.std.proofs.Common.{◌≡◌, ℕ, zero, suc, ◌^◌, inl, inr, Bool, true, false, ◌&&◌, nat_lt, if◌then◌else◌, List}
use Rattle.std.proofs.Common.{[], ◌∷◌, ◌++◌, map, length, Option, Some, None, Result, Ok, Err, refl, sym, ap, ◌∙◌}
use Rattle.std.proofs.{Common.{subst, arith, slice_set, slice_index_or}, lemmas.Bool.{both_ways, cases_Bool, cases_eq}}
use Rattle.std.specs.{Prelude.IfSome, List.AllByRecursion}
use Rattle.mm_word.specs.declared.perm.Kind.TheVariants.{Store}
use Rattle.mm_word.specs.declared.cause.Cause.{Cause, TheVariants.{Bounds, Priv, NoSlot, OutFull}}
use Rattle.mm_word.specs.declared.word.{Pre.Pre, Word.{Word, TheVariants.Int}, Cell.Cell}
use Rattle.mm_word.specs.{Access.{AccessValue, check_result}, Word.word_bits}
use Rattle.mm_isa.specs.declared.instr.Instr.{Instr, TheVariants.{Out, Ld, St, Map, Unmap}}
use Rattle.mm_model.specs.declared.slot.{SlotState.{SlotState, TheVariants.{Running, Waiting, Halted}}, Pending.Pending}
use Rattle.mm_model.specs.declared.event.Event.{Event}
use Rattle.mm_model.specs.Memory.{Memory, cell_at, put_cell, map_page, unmap_page, can_map, is_mapped, IsPaged}
use Rattle.mm_model.specs.{Uses.Use, Slot.{Slot, register}}
use Rattle.mm_model.specs.State.{ThreadRow, Core, slot_at, queue_at, put_slot, put_queue, output_of, put_output}
use Rattle.mm_model.specs.{State.at_number, Image.{Image, output_limit}, Spelling.IsOther, Fits.{slots_of, is_waiting}}
use Rattle.mm_model.specs.Operands.{addr_operand, value_operand, lacks}
use Rattle.mm_model.specs.Ask.{Ask, ask, is_privileged, load_kind, reaching}
use Rattle.mm_model.specs.Ask.Ask.{Nothing, Refuse, Reach, MapPage, UnmapPage, NextEvent, Room, Serve}
use Rattle.mm_model.specs.Effect.{Change, Pages, Effect, effect, delivered}
use Rattle.mm_model.specs.Effect.{Reply.{Fine, Refused, Paged, Served}, Pages.{Keep, Add, Remove}}
use Rattle.mm_model.specs.Effect.Effect.{Fault, Block, Deliver, Do}
use Rattle.mm_model.specs.Turn.{Turned, reply, reached, event_reply, first_event, is_taken, is_handler, served}
use Rattle.mm_model.specs.Turn.{slot_after, with_other, with_queue, with_out, with_cell, with_pages, core_after}
use Rattle.mm_model.specs.Turn.{memory_after, stood, is_sync, event_of, core_faulted, faulted, touch_of, asked_use}
use Rattle.mm_model.specs.{Turn.{blocked, ended, executed, started, idle, arrives}, Reach.{Privileged, Entries.All}}
use Rattle.mm_model.specs.Worlds.{Touchable, IsPrivileged, Apart}
use Rattle.mm_model.proofs.CoreRows.{slot_at-number, queue_at-put_slot, slot_has, other_at}
use Rattle.mm_model.proofs.{CoreSteps.{handler_is, queued_waits}, SlotSteps.delivered_from}
use Rattle.mm_model.proofs.{Memories.{cell_at-put_same, cell_at-put_other}, TurnKeeps.changed_from}
use Rattle.mm_model.proofs.TurnChanges.{same_output, fault_same, moved_same}
use Rattle.mm_model.proofs.TurnShapes.{fetch_uses, fetch_use, FetchAlike, started_by}
use Rattle.mm_laws.specs.Granted.{TouchGranted}
use Rattle.mm_laws.proofs.GrantedWords.{slot_granted}
use Rattle.mm_laws.proofs.GrantedRows.{Stands, CellWritten, PagesGranted, OtherSlot, ChangeGranted, EffectGranted}
use Rattle.mm_laws.proofs.{GrantedRows.{effect_granted, is_xp}, GrantedTurns.{fetch_granted, touch_granted}}
use Rattle.mm_laws.proofs.AlikeRows.{other_sames, own_sames, mine-with_out, output_of-put_slot, mine, SameSlotAt}
use Rattle.mm_laws.proofs.AlikeRows.{same_at, Sames, sames_self, put_slot-sames, mine-put_slot, mine-put_queue}
use Rattle.mm_laws.proofs.AlikeWorlds.{state_side, touch_known, touches_all, whole_memory}

-- what is the same of two turns
pub record SameTurn (i : Image) (c : ℕ → Bool) (s t : Turned) : Type 0 where
  pub rows : mine c s.core ≡ mine c t.core
  pub outputs : (g : ℕ) → c g ≡ true → output_of s.core g ≡ output_of t.core g
  pub cells : (w : ℕ) → Touchable i All c w → cell_at s.memory w ≡ cell_at t.memory w
  pub step : s.step ≡ t.step

-- a state of each image, alike to the groups
pub record Both (i j : Image) (c : ℕ → Bool) (a b : Core) (ma mb : Memory) : Type 0 where
  pub one : Stands i All a ma
  pub other : Stands j All b mb
  pub one_apart : Apart i All c
  pub other_apart : Apart j All c
  pub one_paged : IsPaged ma
  pub other_paged : IsPaged mb
  pub frames : IsPrivileged i All c → ma.frames ≡ mb.frames
  pub version : a.version ≡ b.version
  pub split : a.split ≡ b.split
  pub rows : mine c a ≡ mine c b
  pub outputs : (g : ℕ) → c g ≡ true → output_of a g ≡ output_of b g
  pub cells : (w : ℕ) → Touchable i All c w → cell_at ma w ≡ cell_at mb w

set_alike : {A : Type 0} (a b : List A) (h m : ℕ) (x d : A) → length a ≡ length b → slice_index_or a m d ≡ slice_index_or b m d
    → slice_index_or (slice_set a h x) m d ≡ slice_index_or (slice_set b h x) m d
set_alike [] [] h m x d e k = refl
set_alike [] (y ∷ ys) h m x d e k = absurd (omega arith)
set_alike (z ∷ zs) [] h m x d e k = absurd (omega arith)
set_alike (z ∷ zs) (y ∷ ys) zero zero x d e k = refl
set_alike (z ∷ zs) (y ∷ ys) zero (suc m) x d e k = k
set_alike (z ∷ zs) (y ∷ ys) (suc h) zero x d e k = k
set_alike (z ∷ zs) (y ∷ ys) (suc h) (suc m) x d e k = set_alike zs ys h m x d (omega arith) k

-- what an instruction asks concerns the groups alone
abbrev Needs : Image → (ℕ → Bool) → Ask → Type 0
Needs i c (Reach t pre) = Touchable i All c t.addr
Needs i c (MapPage page) = IsPrivileged i All c
Needs i c (UnmapPage page) = IsPrivileged i All c
Needs i c (Room g) = c g ≡ true
Needs i c _ = Unit {0}

needs_reach : (i : Image) (c : ℕ → Bool) (g : ℕ) (r : Result AccessValue Cause) (pre : Pre) → c g ≡ true → IfSome (touch_of (reaching r pre)) (TouchGranted i All g) → Needs i c (reaching r pre)
needs_reach i c g (Err e) pre cg h = tt
needs_reach i c g (Ok t) pre cg h = touch_known i c g t cg h

needs_page : (i : Image) (c : ℕ → Bool) (a : Ask) (b d : Bool) → (b ≡ true → Needs i c a) → Needs i c (if b then (if d then a else Refuse Bounds) else Refuse Priv)
needs_page i c a true true h = h refl
needs_page i c a true false h = tt
needs_page i c a false d h = tt

refuses : (n : ℕ) (o : Option Slot) → ((y : Slot) → o ≡ Some y → is_handler n y.handler ≡ false) → served n o ≡ Refused NoSlot
refuses n None h = refl
refuses n (Some y) h = ap (λ b. if b && is_taken y.state then Served y else Refused NoSlot) (h y refl)

not_handled : (n : ℕ) (o : Option ℕ) → (o ≡ Some n → ⊥) → is_handler n o ≡ false
not_handled n o never = elim (cases_Bool (is_handler n o)) [
  | inl y ↦ absurd (never (handler_is n o y))
  | inr f ↦ f
]

module _ (i j : Image) (c : ℕ → Bool) (a b : Core) (ma mb : Memory) (h : Both i j c a b ma mb) where
  same_memory : IsPrivileged i All c → ma ≡ mb
  same_memory p = whole_memory ma mb h.one_paged h.other_paged (h.frames p) (λ w word near. h.cells w (touches_all i c p w word near))

  -- a slot of the groups on one side stands on the other
  over : (k : ℕ) (y : Slot) → slot_at a k ≡ Some y → c y.group ≡ true → SameSlotAt c a b k y
  over k y at cy = same_at c a b h.other.formed.rising h.rows k y at cy

  back : (k : ℕ) (y : Slot) → slot_at b k ≡ Some y → c y.group ≡ true → SameSlotAt c b a k y
  back k y at cy = same_at c b a h.one.formed.rising (sym h.rows) k y at cy

  abbrev Same : Turned → Turned → Type 0
  Same s t = SameTurn i c s t

  pub same_idle : (k : ℕ) → Same (idle a ma k) (idle b mb k)
  unfolding idle
  same_idle k = record { rows = h.rows; outputs = h.outputs; cells = h.cells; step = refl }

  module _ (x : Slot) (at_a : slot_at a x.number ≡ Some x) (at_b : slot_at b x.number ≡ Some x) (cx : c x.group ≡ true) where
    own_privilege : is_privileged x.ip.perm ≡ true → IsPrivileged i All c
    own_privilege y = record { group = x.group; member = cx; privileged = record { by = x.ip; granted = (slot_granted i All a h.one.rows x.number x at_a).ip; perm = is_xp x.ip.perm y } }

    -- the slots that this one serves are of the groups
    side_a : (k : ℕ) (y : Slot) → slot_at a k ≡ Some y → y.handler ≡ Some x.number → c y.group ≡ true
    side_a k y at handled = state_side i c h.one_apart a h.one.same k x.number y x at at_a handled ∙ cx

    side_b : (k : ℕ) (y : Slot) → slot_at b k ≡ Some y → y.handler ≡ Some x.number → c y.group ≡ true
    side_b k y at handled = state_side j c h.other_apart b h.other.same k x.number y x at at_b handled ∙ cx

    -- 1. The same is replied.

    same_event : (q : List Event) → queue_at a x.number ≡ q → first_event a q ≡ first_event b q
    same_event [] is = refl
    same_event (event ∷ rest) is = by (slot_at a event.slot) refl
      where
        waits : (y : Slot) → slot_at a event.slot ≡ Some y → y.handler ≡ Some x.number
        waits y at = ((subst (AllByRecursion (λ (e : Event). e.slot ≡ event.slot → (is_waiting y.state ≡ true)
            × (y.handler ≡ Some x.number))) is (queued_waits a h.one.fitting.matched event.slot y at x.number)).0
            refl).1

        none_there : slot_at a event.slot ≡ None → (o : Option Slot) → slot_at b event.slot ≡ o → event_reply event rest None ≡ event_reply event rest o
        none_there none None is_b = refl
        none_there none (Some y) is_b =
            let own_b : queue_at b x.number ≡ event ∷ rest = sym (over x.number x at_a cx).queue ∙ is in
            let handled = ((subst (AllByRecursion (λ (e : Event). e.slot ≡ event.slot → (is_waiting y.state ≡ true)
            × (y.handler ≡ Some x.number))) own_b (queued_waits b h.other.fitting.matched event.slot y is_b
            x.number)).0 refl).1 in
            let there = (back event.slot y is_b (side_b event.slot y is_b handled)).slot in
            absurd (cc (none, there))

        by : (o : Option Slot) → slot_at a event.slot ≡ o → event_reply event rest (slot_at a event.slot) ≡ event_reply event rest (slot_at b event.slot)
        by None at = ap (event_reply event rest) at ∙ none_there at (slot_at b event.slot) refl
        by (Some y) at = ap (event_reply event rest) (at ∙ sym (over event.slot y at (side_a event.slot y at (waits y at))).slot)

    same_served : (k : ℕ) → served x.number (slot_at a k) ≡ served x.number (slot_at b k)
    same_served k = by (slot_at a k) refl (slot_at b k) refl
      where
        by : (o : Option Slot) → slot_at a k ≡ o → (p : Option Slot) → slot_at b k ≡ p → served x.number o ≡ served x.number p
        by None is None is_b = refl
        by None is (Some z) is_b =
            sym (refuses x.number (Some z) (λ y e. not_handled x.number y.handler (λ handled.
            let at : slot_at b k ≡ Some y = is_b ∙ e in
            let there = (back k y at (side_b k y at handled)).slot in
            cc (is, there))))
        by (Some y) is p is_b = elim (cases_Bool (c y.group)) [
          | inl cy ↦ ap (served x.number) (sym is ∙ is) ∙ ap (served x.number) (sym (over k y is cy).slot ∙ is_b)
          | inr out ↦
              refuses x.number (Some y) (λ z e. not_handled x.number z.handler (λ handled. let at : slot_at a k ≡ Some z
              = is ∙ e in let same : y ≡ z = cc in both_ways (c z.group) (sym (ap (λ (v : Slot). c v.group) same)
              ∙ out) (side_a k z at handled)))
              ∙ sym (refuses x.number p (λ z e. not_handled x.number z.handler (λ handled.
              let at : slot_at b k ≡ Some z = is_b ∙ e in
              let cz = side_b k z at handled in
              let there : slot_at a k ≡ Some z = (back k z at cz).slot in
              let two : ◌≡◌ {A = Option Slot} (Some y) (Some z) = sym is ∙ there in
              let same : y ≡ z = cc in
              both_ways (c z.group) (sym (ap (λ (v : Slot). c v.group) same) ∙ out) cz)))
        ]

    same_reply : (asked : Ask) → Needs i c asked → reply a ma x.number asked ≡ reply b mb x.number asked
    unfolding reply
    same_reply Nothing k = refl
    same_reply (Refuse cause) k = refl
    same_reply (Reach t pre) k = ap (reached t pre) (h.cells t.addr k)
    same_reply (MapPage page) k = ap (λ m. Paged page (can_map m page)) (same_memory k)
    same_reply (UnmapPage page) k = ap (λ m. Paged page (is_mapped m page)) (same_memory k)
    same_reply NextEvent k = same_event (queue_at a x.number) refl ∙ ap (first_event b) (over x.number x at_a cx).queue
    same_reply (Room g) k =
        ap (λ (bytes : List ℕ). if nat_lt (length bytes) (output_limit a.version) then Fine else Refused OutFull) (h.outputs g k)
        ∙ ap (λ v. if nat_lt (length (output_of b g)) (output_limit v) then Fine else Refused OutFull) h.version
    same_reply (Serve k) need = same_served k

    needs : (instr : Instr) → Needs i c (ask instr x)
    unfolding ask
    needs (Out ra) = cx
    needs (Ld rd ra pre post imm) = needs_reach i c x.group (check_result (register x ra) imm (load_kind post)) pre cx (touch_granted i All a ma h.one x at_a (Ld rd ra pre post imm))
    needs (St ra rb pre post imm) = needs_reach i c x.group (check_result (register x ra) imm Store) pre cx (touch_granted i All a ma h.one x at_a (St ra rb pre post imm))
    needs (Map rd ra) = needs_page i c (MapPage (word_bits (register x ra))) (is_privileged x.ip.perm) (nat_lt (word_bits (register x ra)) (2 ^ 42)) own_privilege
    needs (Unmap rd ra) = needs_page i c (UnmapPage (word_bits (register x ra))) (is_privileged x.ip.perm) (nat_lt (word_bits (register x ra)) (2 ^ 42)) own_privilege
    needs _ = tt

    -- 2. The same is put.

    put_both : (p q : Core) → Sames a p → Sames b q → mine c p ≡ mine c q → (s was_a was_b : Slot) → slot_at a s.number
        ≡ Some was_a → was_a.group ≡ s.group → slot_at b s.number ≡ Some was_b → was_b.group ≡ s.group
        → mine c (put_slot p s) ≡ mine c (put_slot q s)
    put_both p q kp kq e s was_a was_b stands_a group_a stands_b group_b =
        mine-put_slot a p kp c s was_a stands_a group_a ∙ ap (map (at_number s.number (λ (row : ThreadRow). record row { slot = s }))) e ∙ sym (mine-put_slot b q kq c s was_b stands_b group_b)

    queue_both : (p q : Core) → Sames a p → Sames b q → mine c p ≡ mine c q → (n : ℕ) (u v : List Event) → u ≡ v → mine c (put_queue p n u) ≡ mine c (put_queue q n v)
    queue_both p q kp kq e n u v same =
        mine-put_queue a p kp c n u ∙ ap (map (at_number n (λ (row : ThreadRow). record row { queue = u }))) e
        ∙ ap (λ (l : List Event). map (at_number n (λ (row : ThreadRow). record row { queue = l })) (mine c q)) same
        ∙ sym (mine-put_queue b q kq c n v)

    sames_a : Sames a a
    sames_a = sames_self a h.one.formed.rising

    sames_b : Sames b b
    sames_b = sames_self b h.other.formed.rising

    -- the slot's standing alone changes
    stood_both : (p q : Core) → Sames a p → Sames b q → mine c p ≡ mine c q → (now : Slot) → now.number ≡ x.number
        → now.group ≡ x.group → (state : SlotState) → mine c (put_slot p (stood now state)) ≡ mine c
        (put_slot q (stood now state))
    stood_both p q kp kq e now number group state =
        put_both p q kp kq e (stood now state) x x (ap (slot_at a) number ∙ at_a) (sym group) (ap (slot_at b) number ∙ at_b) (sym group)

    stood_sames_a : (state : SlotState) → Sames a (put_slot a (stood x state))
    stood_sames_a state = put_slot-sames a a sames_a (stood x state) x at_a refl

    stood_sames_b : (state : SlotState) → Sames b (put_slot b (stood x state))
    stood_sames_b state = put_slot-sames b b sames_b (stood x state) x at_b refl

    -- an event goes to the end of the same queue
    handler_queue : (k : ℕ) → x.handler ≡ Some k → queue_at a k ≡ queue_at b k
    handler_queue k is =
        let handlers = slot_has (λ (s : Slot). IfSome s.handler (IsOther (slots_of a) s.number)) a x.number x h.one.fitting.handlers at_a in
        let other = other_at a h.one.formed.rising x.number k (subst (λ o. IfSome o (IsOther (slots_of a) x.number)) is handlers) in
        let number = slot_at-number a k other.1.0 other.1.1 in
        let side = state_side i c h.one_apart a h.one.same x.number k x other.1.0 at_a other.1.1 (is ∙ ap (λ (n : ℕ). Some n) (sym number)) in
        (over k other.1.0 other.1.1 (sym side ∙ cx)).queue

    fault_both : (e : Event) (o : Option ℕ) → x.handler ≡ o → mine c (core_faulted a x e o) ≡ mine c (core_faulted b x e o)
    unfolding core_faulted
    fault_both e None is = by (is_sync e.cause)
      where
        by : (y : Bool) → mine c (if y then put_slot a (stood x Running) else put_slot a
            (stood x (Halted (Some e.cause)))) ≡ mine c (if y then put_slot b (stood x Running) else put_slot b
            (stood x (Halted (Some e.cause))))
        by true = stood_both a b sames_a sames_b h.rows x refl refl Running
        by false = stood_both a b sames_a sames_b h.rows x refl refl (Halted (Some e.cause))
    fault_both e (Some k) is =
        let same : queue_at (put_slot a (stood x Waiting)) k ≡ queue_at (put_slot b (stood x Waiting)) k =
        queue_at-put_slot a (stood x Waiting) k ∙ handler_queue k is ∙ sym (queue_at-put_slot b (stood x Waiting) k) in
        queue_both (put_slot a (stood x Waiting)) (put_slot b (stood x Waiting)) (stood_sames_a Waiting) (stood_sames_b Waiting) (stood_both a b sames_a sames_b h.rows x refl refl Waiting) k
        (queue_at (put_slot a (stood x Waiting)) k ++ e ∷ []) (queue_at (put_slot b (stood x Waiting)) k ++ e ∷ []) (ap (λ (l : List Event). l ++ e ∷ []) same)

    faulted_output : (core : Core) (e : Event) (g : ℕ) → output_of (core_faulted core x e x.handler) g ≡ output_of core g
    faulted_output core e g = same_output core (core_faulted core x e x.handler) (fault_same core x e x.handler) g

    same_fault : (cause : Cause) (v w : Word) (f t : Option AccessValue) (us vs : List Use) → Same (faulted a ma x cause v w f t us) (faulted b mb x cause v w f t vs)
    unfolding faulted
    same_fault cause v w f t us vs = record {
      rows = fault_both (event_of x cause v w) x.handler refl;
      outputs = λ g cg. faulted_output a (event_of x cause v w) g ∙ h.outputs g cg ∙ sym (faulted_output b (event_of x cause v w) g);
      cells = h.cells;
      step = refl;
    }

    same_blocked : (p q : Core) → Sames a p → Sames b q → mine c p ≡ mine c q
        → ((g : ℕ) → c g ≡ true → output_of p g ≡ output_of q g) → (now : Slot) → now.number ≡ x.number
        → now.group ≡ x.group → (f : AccessValue) (t : Option AccessValue) (us vs : List Use)
        → Same (blocked p ma now f t us) (blocked q mb now f t vs)
    unfolding blocked
    same_blocked p q kp kq e outs now number group f t us vs = record {
      rows = stood_both p q kp kq e now number group Running;
      outputs = λ g cg. output_of-put_slot p (stood now Running) g ∙ outs g cg ∙ sym (output_of-put_slot q (stood now Running) g);
      cells = h.cells;
      step = refl;
    }

    -- 3. The same change.

    module _ (d : Change) (ga : ChangeGranted i All a ma x d) (gb : ChangeGranted j All b mb x d) where
      other_both : (o : Option Slot) → OtherSlot i All a x.number o → OtherSlot j All b x.number o → mine c (with_other a o) ≡ mine c (with_other b o)
      other_both None ka kb = h.rows
      other_both (Some o) ka kb = put_both a b sames_a sames_b h.rows o ka.old kb.old ka.stands ka.group kb.stands kb.group

      own_both : mine c (put_slot (with_other a d.other) (slot_after x d)) ≡ mine c (put_slot (with_other b d.other) (slot_after x d))
      own_both =
          let from = changed_from x d in
          put_both (with_other a d.other) (with_other b d.other) (other_sames i a h.one.formed.rising x.number d.other ga.other)
          (other_sames j b h.other.formed.rising x.number d.other gb.other) (other_both d.other ga.other gb.other) (slot_after x d) x x
          (ap (slot_at a) from.number ∙ at_a) (sym from.group) (ap (slot_at b) from.number ∙ at_b) (sym from.group)

      queue_kept : (p q : Core) → Sames a p → Sames b q → mine c p ≡ mine c q → (o : Option (List Event)) → mine c (with_queue p x.number o) ≡ mine c (with_queue q x.number o)
      queue_kept p q kp kq e None = e
      queue_kept p q kp kq e (Some u) = queue_both p q kp kq e x.number u u refl

      rows_both : mine c (core_after a x d) ≡ mine c (core_after b x d)
      unfolding core_after
      rows_both =
          mine-with_out c (with_queue (put_slot (with_other a d.other) (slot_after x d)) x.number d.queue) x.group d.out
          ∙ queue_kept (put_slot (with_other a d.other) (slot_after x d)) (put_slot (with_other b d.other) (slot_after x d))
          (own_sames i a h.one.formed.rising x at_a d ga.other) (own_sames j b h.other.formed.rising x at_b d gb.other) own_both d.queue
          ∙ sym (mine-with_out c (with_queue (put_slot (with_other b d.other) (slot_after x d)) x.number d.queue) x.group d.out)

      byte_outputs : (p q : Core) → p.outputs ≡ a.outputs → q.outputs ≡ b.outputs → (o : Option ℕ) (g : ℕ) → c g ≡ true → output_of (with_out p x.group o) g ≡ output_of (with_out q x.group o) g
      unfolding output_of put_output
      byte_outputs p q ep eq None g cg = ap (λ (l : List (List ℕ)). slice_index_or l g []) ep ∙ h.outputs g cg ∙ sym (ap (λ (l : List (List ℕ)). slice_index_or l g []) eq)
      byte_outputs p q ep eq (Some byte) g cg =
          let own : slice_index_or p.outputs x.group [] ≡ slice_index_or q.outputs x.group [] = ap
          (λ (l : List (List ℕ)). slice_index_or l x.group []) ep ∙ h.outputs x.group cx
          ∙ sym (ap (λ (l : List (List ℕ)). slice_index_or l x.group []) eq) in
          let this : slice_index_or p.outputs g [] ≡ slice_index_or q.outputs g [] = ap
          (λ (l : List (List ℕ)). slice_index_or l g []) ep ∙ h.outputs g cg
          ∙ sym (ap (λ (l : List (List ℕ)). slice_index_or l g []) eq) in
          let long : length p.outputs ≡ length q.outputs = ap length ep ∙ h.one.formed.outputs ∙ sym h.other.formed.outputs ∙ sym (ap length eq) in
          ap (λ (l : List ℕ). slice_index_or (slice_set p.outputs x.group (l ++ byte ∷ [])) g []) own
          ∙ set_alike p.outputs q.outputs x.group g (slice_index_or q.outputs x.group [] ++ byte ∷ []) [] long this

      outputs_both : (g : ℕ) → c g ≡ true → output_of (core_after a x d) g ≡ output_of (core_after b x d) g
      unfolding core_after
      outputs_both g cg =
          byte_outputs (with_queue (put_slot (with_other a d.other) (slot_after x d)) x.number d.queue) (with_queue (put_slot (with_other b d.other) (slot_after x d)) x.number d.queue)
          (moved_same a d.other (slot_after x d) x.number d.queue).outputs (moved_same b d.other (slot_after x d) x.number d.queue).outputs d.out g cg

      cell_both : (o : Option (ℕ × Cell)) → CellWritten i All ma x.group o → CellWritten j All mb x.group o → (w : ℕ) → Touchable i All c w → cell_at (with_cell ma o) w ≡ cell_at (with_cell mb o) w
      cell_both None ka kb w k = h.cells w k
      cell_both (Some p) ka kb w k = elim (cases_eq w p.0) [
        | inl e ↦
            ap (cell_at (put_cell ma p.0 p.1)) e ∙ cell_at-put_same ma p.0 p.1 ka.old ka.stands
            ∙ sym (ap (cell_at (put_cell mb p.0 p.1)) e ∙ cell_at-put_same mb p.0 p.1 kb.old kb.stands)
        | inr ne ↦ cell_at-put_other ma p.0 w p.1 ka.writes.stores.word ne ∙ h.cells w k ∙ sym (cell_at-put_other mb p.0 w p.1 kb.writes.stores.word ne)
      ]

      granted_privilege : Privileged i All x.group → IsPrivileged i All c
      granted_privilege p = record { group = x.group; member = cx; privileged = p }

      cells_both : (p : Pages) → PagesGranted i All x.group p → (w : ℕ) → Touchable i All c w → cell_at (with_pages (with_cell ma d.cell) p) w ≡ cell_at (with_pages (with_cell mb d.cell) p) w
      cells_both Keep k w t = cell_both d.cell ga.cell gb.cell w t
      cells_both (Add page) k w t = ap (λ m. cell_at (map_page (with_cell m d.cell) page) w) (same_memory (granted_privilege k.privileged))
      cells_both (Remove page) k w t = ap (λ m. cell_at (unmap_page (with_cell m d.cell) page) w) (same_memory (granted_privilege k.privileged))

      memory_both : (w : ℕ) → Touchable i All c w → cell_at (memory_after ma d) w ≡ cell_at (memory_after mb d) w
      unfolding memory_after
      memory_both w t = cells_both d.pages ga.pages w t

    same_ended : (instr : Instr) (f : AccessValue) (t : Option AccessValue) (us vs : List Use) (y : Effect) → EffectGranted i All a
        ma x y → EffectGranted j All b mb x y → Same (ended a ma x instr f t us y) (ended b mb x instr f t vs y)
    unfolding ended
    same_ended instr f t us vs (Fault cause) ga gb = same_fault cause (addr_operand instr x) (value_operand instr x) (Some f) t us vs
    same_ended instr f t us vs Block ga gb = same_blocked a b sames_a sames_b h.rows h.outputs x refl refl f t us vs
    same_ended instr f t us vs (Deliver o) ga gb =
        same_blocked (put_slot a o) (put_slot b o) (other_sames i a h.one.formed.rising x.number (Some o) ga) (other_sames j b h.other.formed.rising x.number (Some o) gb)
        (put_both a b sames_a sames_b h.rows o ga.old gb.old ga.stands ga.group gb.stands gb.group)
        (λ g cg. output_of-put_slot a o g ∙ h.outputs g cg ∙ sym (output_of-put_slot b o g)) x refl refl f t us vs
    same_ended instr f t us vs (Do d) ga gb = record { rows = rows_both d ga gb; outputs = outputs_both d ga gb; cells = memory_both d ga gb; step = refl }

    same_executed : (f : AccessValue) (u v : Use) (instr : Instr) → Same (executed a ma x f u instr) (executed b mb x f v instr)
    unfolding executed
    same_executed f u v instr =
        let e : effect a.split instr x (reply a ma x.number (ask instr x)) ≡ effect b.split instr x (reply b mb x.number (ask instr x)) =
        ap (λ y. effect y instr x (reply a ma x.number (ask instr x))) h.split ∙ ap (effect b.split instr x) (same_reply (ask instr x) (needs instr)) in
        subst (λ y. Same (ended a ma x instr f (touch_of (ask instr x)) (u ∷ asked_use ma (ask instr x))
        (effect a.split instr x (reply a ma x.number (ask instr x)))) (ended b mb x instr f (touch_of (ask instr x))
        (v ∷ asked_use mb (ask instr x)) y)) e
        (same_ended instr f (touch_of (ask instr x)) (u ∷ asked_use ma (ask instr x)) (v ∷ asked_use mb (ask instr x))
        (effect a.split instr x (reply a ma x.number (ask instr x))) (effect_granted i All a ma h.one x at_a instr)
        (subst (EffectGranted j All b mb x) (sym e) (effect_granted j All b mb h.other x at_b instr)))

    fetch_alike : FetchAlike a b ma mb x x
    fetch_alike = record {
      past = refl;
      ip = refl;
      cells = λ f aim. h.cells f.addr (touch_known i c x.group f cx (fetch_granted i All a ma h.one x at_a f aim));
      lacking = λ instr. ap (λ y. y && lacks instr x) h.split;
    }

    pub same_started : Same (started a ma x) (started b mb x)
    same_started = started_by a b ma mb x x fetch_alike Same (record {
      faults = λ cause f done aim. same_fault cause (Int 0) (Int 0) f None (fetch_uses f done) (fetch_uses f done);
      lacks_register = λ f instr aim is lacking.
          same_blocked a b sames_a sames_b h.rows h.outputs (delivered x) (delivered_from x).number (delivered_from x).group f None (fetch_use f ∷ []) (fetch_use f ∷ []);
      carries_out = λ f instr aim is has. same_executed f (fetch_use f) (fetch_use f) instr;
    })

    pub same_arrives : (ps : List Pending) → Same (arrives a ma x ps) (arrives b mb x ps)
    same_arrives [] = same_idle x.number
    same_arrives (p ∷ rest) =
        let from = delivered_from x in
        record {
          rows = put_both a b sames_a sames_b h.rows (delivered x) x x (ap (slot_at a) from.number ∙ at_a) (sym from.group) (ap (slot_at b) from.number ∙ at_b) (sym from.group);
          outputs = λ g cg. output_of-put_slot a (delivered x) g ∙ h.outputs g cg ∙ sym (output_of-put_slot b (delivered x) g);
          cells = h.cells;
          step = refl;
        }
