-- The rows that branch and jump.
use Rattle.std.proofs.Common.{◌≡◌, ℕ, ◌+◌, ◌<◌, ◌≤◌, ◌⊎◌, inl, inr, Bool, true, false, ◌==◌, if◌then◌else◌, ℤ, pos}
use Rattle.std.proofs.Common.{◌+ℤ◌, ◌*ℤ◌, List, [], ◌∷◌, slice_set, slice_index_or, is_some, Option, Some, None, Result}
use Rattle.std.proofs.{Common.{Ok, Err, refl, sym, ap, ◌∙◌, subst, arith}, lemmas.{Bool.{cases_lt, and_right}, List.get_or_past}}
use Rattle.std.specs.{Prelude.option_map, List.AllByRecursion}
use Rattle.mm_word.specs.declared.{perm.Perm.{Perm, TheVariants.{Xu, Eu, Key}}, cause.Cause.Cause}
use Rattle.mm_word.specs.{declared.word.Word.{Word, TheVariants.{Int, Ptr}}, Perm.{can_fetch, execute_form}}
use Rattle.mm_word.specs.{Pointer.{Pointer, enter_result, moved_to, next_result, IsBelow}, Word.word_bits}
use Rattle.mm_word.proofs.Results.{next_result-IsBelow}
use Rattle.mm_isa.specs.declared.instr.Instr.{Instr}
use Rattle.mm_model.specs.{declared.slot.{SlotState.TheVariants.Running, Pending.Pending}, Memory.Memory, State.Core}
use Rattle.mm_model.{specs.Slot.{Slot, register, is_empty}, proofs.CoreRows.each_map}
use Rattle.mm_model.specs.{Image.Image, Fits.identity_of}
use Rattle.mm_model.specs.Effect.{Effect, plain, sets_pointer, if_pointer, branches, at_distance, jumps, links}
use Rattle.mm_model.specs.{Effect.Effect.{Fault, Do}, Turn.slot_after}
use Rattle.mm_kernel.specs.Segments.{Segment, meets, runs_privileged, is_enter, is_door}
use Rattle.mm_kernel.specs.declared.fact.Leak.TheVariants.{Enter}
use Rattle.mm_kernel.specs.declared.form.Form.{Form}
use Rattle.mm_kernel.specs.declared.form.Form.TheVariants.{Number, Pointer as Exactly, Integer, Open, Any, Inside}
use Rattle.mm_kernel.specs.{declared.{outcome.Outcome.Outcome, thread.Thread.Thread}, Forms.{exact_bits, zero_form}}
use Rattle.mm_kernel.specs.Threads.{form_in, with_form, stepped, going_to, handler_of, thread_through}
use Rattle.mm_kernel.specs.{Facts.Fact.HasDoor, Derived.{Derived, Keeps}, Variants.IsShared}
use Rattle.mm_kernel.proofs.Owns.{Who, Who.Callers, Mode, Mode.{AsAnyone, AsKernel}, World, GoesOn, IsPlain, IfPointer, party, Kernels, falsely, Mine, Has}
use Rattle.mm_kernel.proofs.Values.{Clean, clean_below, Holds, Fits, fits_as, Public, public_number}
use Rattle.mm_kernel.proofs.{Ups.{Next, Follows}, Anyone.{anyone, anyone_free, distance_below}}
use Rattle.mm_kernel.proofs.Slots.{guards, Held, Match, match_write, match_at, match_anyone, any_fits, origin_guards, Came}
use Rattle.mm_kernel.proofs.{Slots.{came_like, RunningOk}, Results.{exact_bits_is, own_of, owes_any, owes_open, owes_like}}
use Rattle.mm_kernel.proofs.Shares.{door_no_key, own_callers, mine_callers, plains_of, plains_linked, left_going}
use Rattle.mm_kernel.proofs.Shares.{left_register}
use Rattle.mm_kernel.proofs.Rows.{Machine, Acts, Ready, EffectOk, sound, ip_below, runs_on, plain_ok, sets_ok}
use Rattle.mm_kernel.proofs.Places.{Entered, Entered.{runs, goes_in}, entered, clean_entered, entered_perm, entered_meets}
use Rattle.mm_kernel.proofs.Places.{entered_outside}
use Rattle.mm_word.specs.declared.cause.Cause.TheVariants as cause
use Rattle.mm_kernel.specs.declared.outcome.Outcome.TheVariants as outcome
use Rattle.mm_kernel.specs.Turns as kernel

enters_no_key : (perm to : Perm) → execute_form perm ≡ Some to → perm ≡ Key → ⊥
enters_no_key perm to e key = let no : execute_form perm ≡ None = ap execute_form key in cc

-- what an open pointer that is no door becomes in a jump is its holder's
entered_mine : (i : Image) (kept : List Segment) (wd : World i kept) (x : Who) (p to : Pointer) → Entered p to → enter_result p ≡ Some to → is_door kept p ≡ false → Mine i kept wd x p → Mine i kept wd x to
entered_mine i kept wd x p to (runs at is) e d mine = subst (Mine i kept wd x) (sym is) mine
entered_mine i kept wd x p to (goes_in at is) e d (inl key) = let no : Eu ≡ Key = sym at ∙ key in cc
entered_mine i kept wd x p to (goes_in at is) e d (inr own) = inr (wd.rules.entered x p to own at d e)

followed_mine : (i : Image) (kept : List Segment) (wd : World i kept) (x : Who) (md : Mode) (n : Thread) (p to : Pointer) → n.ip ≡ to → enter_result p ≡ Some to → Entered p to → Has i kept wd x md (Exactly p) p
    → Next i kept wd md n → Has i kept wd x md (Exactly to) to
unfolding is_door
followed_mine i kept wd x AsAnyone n p to at e en has free =
    let out : meets kept p ≡ false = sym (entered_meets kept p to en) ∙ (ap (meets kept) (sym at) ∙ free.outside) in
    λ o. entered_mine i kept wd x p to en e (and_right (is_enter p.perm) (meets kept p) out) (has tt)
followed_mine i kept wd x AsKernel n p to at e en has taken = λ o. falsely o

-- one of two statements, by a test
abbrev pub Chosen : Type 0 → Type 0 → Bool → Type 0
Chosen P Q true = P
Chosen P Q false = Q

module _ (i : Image) (kept : List Segment) (wd : World i kept) (md : Mode) (core : Core) (m : Memory) (k : Machine i kept wd core m) (s : Slot) (t : Thread) (a : Acts i kept wd md core s t) (ks : Keeps i kept) where
  abbrev Alls : List Outcome → Type 0
  Alls os = AllByRecursion (Follows i kept wd md t) os

  abbrev Eff : Instr → Effect → Type 0
  Eff x e = EffectOk i kept wd md core m k s t a x e

  fetches : can_fetch s.ip.perm ≡ true
  fetches = k.runs s.number s a.at

  -- 1. Branches.

  to_below : (q : Pointer) (imm : ℤ) → at_distance s imm ≡ Ok q → IsBelow q s.ip
  to_below q imm e = distance_below s.ip q imm fetches e

  same_distance : (imm : ℤ) → kernel.at_distance t imm ≡ at_distance s imm
  same_distance imm = ap (λ (p : Pointer). moved_to p (pos p.addr +ℤ (pos 8 *ℤ imm))) a.matches.ip

  goes_there : (q : Pointer) → Clean i q → Held i kept wd md t s (Exactly q) q → Next i kept wd md (going_to t q) → RunningOk i kept wd (record s { ip = q; past = false; turns = s.turns + 1; state = Running })
  goes_there q c mine up =
      runs_on i kept wd md core m k s t a (going_to t q) (record s { ip = q; past = false; turns = s.turns + 1; state = Running }) refl up
      (match_at i kept wd md t s q q false false (s.turns + 1) Running a.matches refl refl c mine)

  pub branch_ok : (x : Instr) (imm : ℤ) → Follows i kept wd md t (kernel.branches t x imm) → Eff x (branches s (at_distance s imm))
  unfolding kernel.branches plain slot_after
  branch_ok x imm f = by (at_distance s imm) refl (subst (λ r. Follows i kept wd md t (kernel.branched t x r)) (same_distance imm) f)
    where
      by : (r : Result Pointer Cause) → at_distance s imm ≡ r → Follows i kept wd md t (kernel.branched t x r) → Eff x (branches s r)
      by (Ok q) e g = record { own = goes_there q (clean_below i q s.ip (to_below q imm e) a.matches.clean) (ip_below i kept wd md core m k s t a q (to_below q imm e)) g; cell = tt; pages = refl; queue = tt; other = tt }
      by (Err c) e g = g

  pub branch_if_zero : (x : Instr) (f : Form) (w : Word) (imm : ℤ) → Holds i kept f w → Alls (kernel.branches_if true t x (exact_bits f) imm)
      → Eff x (if word_bits w == 0 then branches s (at_distance s imm) else Do (plain s))
  branch_if_zero x f w imm h all = go (exact_bits f) refl all
    where
      on : (b : Bool) → Chosen (Follows i kept wd md t (kernel.branches t x imm)) (Follows i kept wd md t (outcome.Goes (stepped t))) b → Eff x (if b then branches s (at_distance s imm) else Do (plain s))
      on true f = branch_ok x imm f
      on false f = plain_ok i kept wd md core m k s t a x f

      one : (b : Bool) → Alls ((if b then kernel.branches t x imm else outcome.Goes (stepped t)) ∷ [])
          → Chosen (Follows i kept wd md t (kernel.branches t x imm)) (Follows i kept wd md t (outcome.Goes (stepped t))) b
      one true g = g.0
      one false g = g.0

      either : (b : Bool) → Alls (kernel.branches t x imm ∷ outcome.Goes (stepped t) ∷ []) → Chosen (Follows i kept wd md t (kernel.branches t x imm)) (Follows i kept wd md t (outcome.Goes (stepped t))) b
      either true g = g.0
      either false g = g.1.0

      go : (o : Option ℕ) → exact_bits f ≡ o → Alls (kernel.branches_if true t x o imm) → Eff x (if word_bits w == 0 then branches s (at_distance s imm) else Do (plain s))
      go None e g = on (word_bits w == 0) (either (word_bits w == 0) g)
      go (Some n) e g = subst (λ y. Eff x (if y == 0 then branches s (at_distance s imm) else Do (plain s))) (exact_bits_is i kept f w h n e) (on (n == 0) (one (n == 0) g))

  pub branch_if_not : (x : Instr) (f : Form) (w : Word) (imm : ℤ) → Holds i kept f w → Alls (kernel.branches_if false t x (exact_bits f) imm)
      → Eff x (if word_bits w == 0 then Do (plain s) else branches s (at_distance s imm))
  branch_if_not x f w imm h all = go (exact_bits f) refl all
    where
      on : (b : Bool) → Chosen (Follows i kept wd md t (outcome.Goes (stepped t))) (Follows i kept wd md t (kernel.branches t x imm)) b → Eff x (if b then Do (plain s) else branches s (at_distance s imm))
      on false f = branch_ok x imm f
      on true f = plain_ok i kept wd md core m k s t a x f

      one : (b : Bool) → Alls ((if b then outcome.Goes (stepped t) else kernel.branches t x imm) ∷ [])
          → Chosen (Follows i kept wd md t (outcome.Goes (stepped t))) (Follows i kept wd md t (kernel.branches t x imm)) b
      one true g = g.0
      one false g = g.0

      either : (b : Bool) → Alls (kernel.branches t x imm ∷ outcome.Goes (stepped t) ∷ []) → Chosen (Follows i kept wd md t (outcome.Goes (stepped t))) (Follows i kept wd md t (kernel.branches t x imm)) b
      either false g = g.0
      either true g = g.1.0

      go : (o : Option ℕ) → exact_bits f ≡ o → Alls (kernel.branches_if false t x o imm) → Eff x (if word_bits w == 0 then Do (plain s) else branches s (at_distance s imm))
      go None e g = on (word_bits w == 0) (either (word_bits w == 0) g)
      go (Some n) e g = subst (λ y. Eff x (if y == 0 then Do (plain s) else branches s (at_distance s imm))) (exact_bits_is i kept f w h n e) (on (n == 0) (one (n == 0) g))

  pub lip_ok : (x : Instr) (rd : ℕ) (imm : ℤ) → Ready s rd → Alls (kernel.moved t x rd (kernel.at_distance t imm)) → Eff x (sets_pointer s rd (at_distance s imm))
  lip_ok x rd imm hd all = by (at_distance s imm) refl (subst (λ r. Alls (kernel.moved t x rd r)) (same_distance imm) all)
    where
      by : (r : Result Pointer Cause) → at_distance s imm ≡ r → Alls (kernel.moved t x rd r) → Eff x (sets_pointer s rd r)
      by (Ok q) e g = sets_ok i kept wd md core m k s t a x rd (Exactly q) (Ptr q) hd g.0 (record { holds = refl; clean = clean_below i q s.ip (to_below q imm e) a.matches.clean; mine = ip_below i kept wd md core m k s t a q (to_below q imm e) })
      by (Err c) e g = g.0

  -- 2. A jump of a thread l, which stands for the slot with its link in a register.

  module _ (l : Thread) (sl : Slot) (same : identity_of s ≡ identity_of sl) (origin : l.origin ≡ t.origin) (whose : party md l.origin sl.group ≡ party md t.origin s.group) (ml : Match i kept wd md l sl)
      (plains : Kernels md ((r : ℕ) (q : Pointer) → r < 16 → form_in l r ≡ Exactly q → IsPlain kept q → wd.Own (party md l.origin sl.group) q)) where
    abbrev target : Pointer → Slot
    target to = record sl { ip = to; past = false; turns = s.turns + 1; state = Running }

    arrives : (to : Pointer) → Clean i to → Held i kept wd md l sl (Exactly to) to → Match i kept wd md (going_to l to) (target to)
    arrives to c mine = match_at i kept wd md l sl to to false false (s.turns + 1) Running ml refl refl c mine

    came : (to : Pointer) → Came i kept wd (target to)
    came to = came_like i kept wd s (target to) same a.came

    came_sl : Came i kept wd sl
    came_sl = came_like i kept wd s sl same a.came

    -- an exact pointer is followed
    followed : (p to : Pointer) → Clean i p → enter_result p ≡ Some to → Held i kept wd md l sl (Exactly p) p → Next i kept wd md (going_to l to) → RunningOk i kept wd (target to)
    followed p to c e has up =
        let en = entered p to c.user e in
        record {
          came = came to;
          mode = md;
          thread = going_to l to;
          next = up;
          matches = arrives to (clean_entered i p to c en) (followed_mine i kept wd (party md l.origin sl.group) md (going_to l to) p to refl e en has up);
        }

    public_all : ((r : ℕ) → r < 16 → Public i kept (form_in l r)) → (r : ℕ) → Public i kept (form_in l r)
    unfolding form_in
    public_all h r = by (cases_lt r 16)
      where
        by : (r < 16) ⊎ (16 ≤ r) → Public i kept (slice_index_or l.forms r zero_form)
        by (inl lt) = h r lt
        by (inr le) = let long = ml.long in subst (Public i kept) (sym (get_or_past l.forms r zero_form (omega arith))) (public_number i kept 0)

    -- any shared pointer: outside, or through a door
    left : (p to : Pointer) → IsShared i kept (Ptr p) → Mine i kept wd (party md l.origin sl.group) p → Clean i p → enter_result p ≡ Some to → Follows i kept wd md t (outcome.Leaves l)
        → RunningOk i kept wd (target to)
    unfolding form_in register is_empty
    left p to sh mine c e f = by (is_door kept p) refl
      where
        en : Entered p to
        en = entered p to c.user e

        ct : Clean i to
        ct = clean_entered i p to c en

        outs : guards i kept sl.number ≡ false
        outs = origin_guards i kept wd md ks l.origin sl.number sl.group ml.origin f.2

        going : Kernels md (GoesOn i kept wd.Taken l.origin l)
        going = left_going i kept wd md t.origin l.origin l origin f.0

        words : (r : ℕ) (w : Word) → r < 16 → Fits i kept (Held i kept wd md l sl) (form_in l r) w → IfPointer w (Mine i kept wd (Callers sl.group))
        words r w lt h = left_register i kept wd md l sl r w ml came_sl going lt plains (f.1 r lt) h

        xu : to.perm ≡ Xu
        xu = entered_perm p to en

        through : is_door kept p ≡ true → Derived i kept (HasDoor p) → RunningOk i kept wd (target to)
        through door d =
            let c0 = came to in
            let h : handler_of i kept c0.slot.handler ≡ handler_of i kept sl.handler = ap (λ (y : ℕ × ℕ × Option ℕ). handler_of i kept y.2) c0.same in
            let own : wd.Own (Callers sl.group) p = own_callers i kept wd md l.origin sl l p ml.origin came_sl going
            (own_of i kept wd (party md l.origin sl.group) p (door_no_key kept p door) mine) in
            record {
              came = c0;
              mode = AsKernel;
              thread = thread_through p to (handler_of i kept c0.slot.handler);
              next = wd.rules.enters p to c0.slot d e c0.among;
              matches = record {
                ip = refl;
                past = refl;
                handler = h;
                origin = (outs, own, door);
                long = refl;
                clean = ct;
                mine = λ o. falsely o;
                registers = λ r ready. kerneled (form_in (anyone l) r) (register sl r)
                    (any_fits i kept wd md l sl ml.long r (register sl r) (public_all f.1 r) (λ lt. words r (register sl r) lt (ml.registers r ready)) (ml.registers r ready));
                pending =
                    each_map (λ (y : Pending). Fits i kept (Held i kept wd md l sl) (form_in l y.reg) y.word)
                    (λ (y : Pending). Fits i kept (Has i kept wd (Callers sl.group) AsKernel) (form_in (anyone l) y.reg) y.word)
                    (λ y h. kerneled (form_in (anyone l) y.reg) y.word (any_fits i kept wd md l sl ml.long y.reg y.word (public_all f.1 y.reg) (λ lt. words y.reg y.word lt h) h)) sl.pending ml.pending;
              };
            }
          where
            kerneled : (g : Form) (w : Word) → Fits i kept (Has i kept wd (Callers sl.group) AsAnyone) g w → Fits i kept (Has i kept wd (Callers sl.group) AsKernel) g w
            kerneled g w h = fits_as i kept (Has i kept wd (Callers sl.group) AsAnyone) (Has i kept wd (Callers sl.group) AsKernel) g w (λ q k o. k tt) h

        by : (b : Bool) → is_door kept p ≡ b → RunningOk i kept wd (target to)
        by true d = through d (sh.door d)
        by false d =
            let has : Mine i kept wd (party md l.origin sl.group) to = entered_mine i kept wd (party md l.origin sl.group) p to en e d mine in
            record {
              came = came to;
              mode = AsAnyone;
              thread = anyone (going_to l to);
              next = anyone_free i kept wd (going_to l to) (entered_outside kept p to sh.open_word d en) ct.user (ap can_fetch xu);
              matches = match_anyone i kept wd md (going_to l to) (target to) (arrives to ct (λ o. has)) (public_all f.1) outs
                  (mine_callers i kept wd md l.origin sl l to ml.origin came_sl going has) words;
            }

    ours : (p : Pointer) → Mine i kept wd (party md t.origin s.group) p → Mine i kept wd (party md l.origin sl.group) p
    ours p mine = subst (λ x. Mine i kept wd x p) (sym whose) mine

    -- whatever the jump does with its target
    pub jumps_ok : (x : Instr) (ra : ℕ) (f : Form) (v : Word) (K : Pointer → Effect) → Fits i kept (Held i kept wd md t s) f v
        → ((p : Pointer) → enter_result p ≡ None → Follows i kept wd md t (kernel.fault t x) → Eff x (K p))
        → ((p to : Pointer) → enter_result p ≡ Some to → RunningOk i kept wd (target to) → Eff x (K p))
        → (Follows i kept wd md t (kernel.fault t x) → Eff x (Fault cause.NotPointer))
        → Alls (kernel.jumps t l x ra f) → Eff x (if_pointer v K)
    unfolding kernel.jumps
    jumps_ok x ra (Number n) (Int b) K h kf kg kn g = kn g.0
    jumps_ok x ra (Number n) (Ptr p) K h kf kg kn g = let no = h.holds in cc
    jumps_ok x ra Integer (Int b) K h kf kg kn g = kn g.0
    jumps_ok x ra Integer (Ptr p) K h kf kg kn g = let no = h.holds in cc
    jumps_ok x ra Any (Int b) K h kf kg kn g = kn g.0
    jumps_ok x ra Any (Ptr p) K h kf kg kn g = by (enter_result p) refl
      where
        by : (o : Option Pointer) → enter_result p ≡ o → Eff x (K p)
        by None e = kf p e g.0
        by (Some to) e = kg p to e (left p to h.holds (ours p (h.mine (owes_any md))) h.clean e g.1.0)
    jumps_ok x ra (Open perm) (Int b) K h kf kg kn g = absurd h.holds.0
    jumps_ok x ra (Open perm) (Ptr p) K h kf kg kn g = by (execute_form perm) (execute_form p.perm) refl (ap execute_form h.holds.0) g
      where
        by : (o q : Option Perm) → execute_form p.perm ≡ q → q ≡ o → Alls (if is_some o then outcome.Leaves l ∷ [] else kernel.fault t x ∷ []) → Eff x (K p)
        by None None e d j = kf p (ap (option_map (λ (y : Perm). record p { perm = y })) e) j.0
        by None (Some c) e d j = cc
        by (Some c) None e d j = cc
        by (Some b) (Some c) e d j =
            let to : Pointer = record p { perm = c } in
            let is : enter_result p ≡ Some to = ap (option_map (λ (y : Perm). record p { perm = y })) e in
            kg p to is (left p to h.holds.1 (ours p (h.mine (owes_open md perm (λ key. enters_no_key p.perm c e (h.holds.0 ∙ key))))) h.clean is j.0)
    jumps_ok x ra (Inside o) (Int b) K h kf kg kn g = absurd h.holds
    jumps_ok x ra (Inside o) (Ptr p) K h kf kg kn g = by (execute_form o.perm) (execute_form p.perm) refl (ap execute_form h.holds.perm) g
      where
        by : (z q : Option Perm) → execute_form p.perm ≡ q → q ≡ z → Alls (if is_some z then outcome.Leaks (Enter t.ip.addr ra (Inside o)) ∷ [] else kernel.fault t x ∷ []) → Eff x (K p)
        by None None e d j = kf p (ap (option_map (λ (y : Perm). record p { perm = y })) e) j.0
        by None (Some c) e d j = cc
        by (Some c) q e d j = absurd j.0
    jumps_ok x ra (Exactly q) (Int b) K h kf kg kn g = let no = h.holds in cc
    jumps_ok x ra (Exactly q) (Ptr p) K h kf kg kn g = by (enter_result q) refl g
      where
        is : p ≡ q
        is = let held : Ptr p ≡ Ptr q = h.holds in cc

        by : (o : Option Pointer) → enter_result q ≡ o → Alls (kernel.jumped t l x o) → Eff x (K p)
        by None e j = kf p (ap enter_result is ∙ e) j.0
        by (Some to) e j =
            let at : enter_result p ≡ Some to = ap enter_result is ∙ e in
            kg p to at (followed p to h.clean at (λ o. ours p (h.mine (owes_like md (Exactly p) (Exactly q) (λ c. c) o))) j.0)

  -- 3. The rows.

  pub jmp_ok : (x : Instr) (ra : ℕ) (f : Form) (v : Word) → Fits i kept (Held i kept wd md t s) f v → Alls (kernel.jumps t t x ra f) → Eff x (if_pointer v (λ p. jumps s p (enter_result p)))
  unfolding plain slot_after
  jmp_ok x ra f v h all =
      jumps_ok t s refl refl refl a.matches (plains_of i kept wd md t s a.matches a.next) x ra f v (λ p. jumps s p (enter_result p)) h
      (λ p e fault. subst (λ o. Eff x (jumps s p o)) (sym e) fault)
      (λ p to e ok. subst (λ o. Eff x (jumps s p o)) (sym e) (record { own = ok; cell = tt; pages = refl; queue = tt; other = tt }))
      (λ fault. fault) all

  pub jal_ok : (x : Instr) (rd ra : ℕ) (f : Form) (v : Word) → Ready s rd → Fits i kept (Held i kept wd md t s) f v → f ≡ form_in t ra → Alls (kernel.links t x rd ra (next_result t.ip))
      → Eff x (if_pointer v (λ p. links s rd p (enter_result p) (next_result s.ip)))
  unfolding plain slot_after with_form
  jal_ok x rd ra f v hd h fe all = by (next_result s.ip) refl (subst (λ (y : Pointer). Alls (kernel.links t x rd ra (next_result y))) a.matches.ip all)
    where
      by : (o : Option Pointer) → next_result s.ip ≡ o → Alls (kernel.links t x rd ra o) → Eff x (if_pointer v (λ p. links s rd p (enter_result p) o))
      by None e g = none v
        where
          entering : (p : Pointer) (o : Option Pointer) → Eff x (links s rd p o None)
          entering p None = g.0
          entering p (Some to) = g.0

          none : (v : Word) → Eff x (if_pointer v (λ p. links s rd p (enter_result p) None))
          none (Int b) = g.0
          none (Ptr p) = entering p (enter_result p)
      by (Some back) e g =
          let clean : Clean i back = clean_below i back s.ip (next_result-IsBelow s.ip back e) a.matches.clean in
          let linked : Thread = with_form t rd (Exactly back) in
          let ml : Match i kept wd md linked (record s { regs = slice_set s.regs rd (Ptr back) }) =
          match_write i kept wd md t s rd (Exactly back) (Ptr back) a.matches (sound i kept wd md core m k s t a) hd.small hd.free (record { holds = refl; clean = clean; mine = ip_below i kept wd md core m k s t a back (next_result-IsBelow s.ip back e) }) in
          let ip : t.ip ≡ s.ip = a.matches.ip in
          let plains = plains_linked i kept wd md t s rd back a.matches a.next (ap next_result ip ∙ e) (ap (λ (y : Pointer). can_fetch y.perm) ip ∙ fetches)
          (ap (λ (y : Pointer). runs_privileged y.perm) ip ∙ a.matches.clean.user) in
          jumps_ok linked (record s { regs = slice_set s.regs rd (Ptr back) }) refl refl refl ml plains x ra f v (λ p. links s rd p (enter_result p) (Some back)) h
          (λ p e fault. subst (λ o. Eff x (links s rd p o (Some back))) (sym e) fault)
          (λ p to e ok. subst (λ o. Eff x (links s rd p o (Some back))) (sym e) (record { own = ok; cell = tt; pages = refl; queue = tt; other = tt }))
          (λ fault. fault) (subst (λ (y : Form). Alls (kernel.jumps t linked x ra y)) (sym fe) g)
