-- Two runs whose items of the groups are the same, by induction over both lists.
use Rattle.std.proofs.Common.{◌≡◌, ℕ, Bool, true, false, cond, if◌then◌else◌, List, [], ◌∷◌, ◌++◌, map, Option, Some}
use Rattle.std.proofs.{Common.{refl, sym, ap, ◌∙◌, subst, inl, inr}, lemmas.Bool.cases_Bool}
use Rattle.std.specs.List.{filter}
use Rattle.mm_word.specs.Access.{AccessValue}
use Rattle.mm_isa.specs.declared.instr.Instr.{Instr}
use Rattle.mm_model.specs.{declared.{step.Step.Step, slot.Pending.Pending}, Memory.Memory, Uses.Use, Slot.Slot}
use Rattle.mm_model.specs.{State.{ThreadRow, Core, State, slot_at, output_of}, Image.{Image, start}}
use Rattle.mm_model.specs.{Schedule.{is_kept, only}, Ask.ask}
use Rattle.mm_model.specs.Effect.{Effect, effect, Effect.{Fault, Block, Deliver, Do}}
use Rattle.mm_model.specs.Turn.{Turned, reply, faulted, touch_of, asked_use, blocked, ended, executed, started, idle}
use Rattle.mm_model.specs.{Turn.{arrives, taken_by_port, taken_by, is_running, turn}, Run.{turn_of, after, run}}
use Rattle.mm_model.specs.{Trace.{group_of, turns_of, step_line, trace_line, traced}, Reach.Entries.All}
use Rattle.mm_model.specs.Worlds.{is_turn_of, trace_of}
use Rattle.mm_model.proofs.{CoreRows.{slot_at-number, stays_by}, SlotSteps.delivered_from}
use Rattle.mm_model.proofs.{Starts.{start_state, start_fits}, TurnKeeps.turn_keeps, TurnShapes.{fetch_use, started_one}}
use Rattle.mm_model.proofs.Filters.{filter_takes, filter_drops}
use Rattle.mm_laws.specs.Isolated.{is_row_of, Alike, AgreeApart, Worlds}
use Rattle.mm_laws.proofs.{GrantedRuns.start_granted, AlikeRows.same_at, OutsideTurns.QuietTurn}
use Rattle.mm_laws.proofs.TwoRuns.{Item, item, same_turns, quiet_s, quiet_t, both_go_on, one_goes_on, other_goes_on}

-- 1. The slot that a turn is about.

module _ (core : Core) (m : Memory) (s : Slot) where
  ended_slot : (instr : Instr) (f : AccessValue) (t : Option AccessValue) (us : List Use) (y : Effect) → (ended core m s instr f t us y).step.slot ≡ s.number
  unfolding ended faulted blocked
  ended_slot instr f t us (Fault cause) = refl
  ended_slot instr f t us Block = refl
  ended_slot instr f t us (Deliver o) = refl
  ended_slot instr f t us (Do d) = refl

  started_slot : (started core m s).step.slot ≡ s.number
  unfolding executed faulted blocked
  started_slot = started_one core m s (λ t. t.step.slot ≡ s.number) (record {
    faults = λ cause f done aim. refl;
    lacks_register = λ f instr aim is lacking. (delivered_from s).number;
    carries_out = λ f instr aim is has.
        ended_slot instr f (touch_of (ask instr s)) (fetch_use f ∷ asked_use m (ask instr s)) (effect core.split instr s (reply core m s.number (ask instr s)));
  })

-- a turn of an item of the groups is about a slot of them
record IsAbout (c : ℕ → Bool) (core : Core) (t : Turned) : Type 0 where
  slot : Slot
  stands : slot_at core slot.number ≡ Some slot
  member : c slot.group ≡ true
  about : t.step.slot ≡ slot.number

about_of : (c : ℕ → Bool) (core : Core) (m : Memory) (n : ℕ) → Item c core n → IsAbout c core (turn core m n)
unfolding turn idle
about_of c core m n (Item.names x at cx) =
    let number = slot_at-number core n x at in
    subst (λ o. IsAbout c core (taken_by core m n o)) (sym at) (by number (ap (slot_at core) number ∙ at) (is_running x.state))
  where
    by : x.number ≡ n → slot_at core x.number ≡ Some x → (b : Bool) → IsAbout c core (if b then started core m x else idle core m n)
    by number stands true = record { slot = x; stands = stands; member = cx; about = started_slot core m x }
    by number stands false = record { slot = x; stands = stands; member = cx; about = sym number }
about_of c core m n (Item.ports x none port at cx) =
    subst (λ o. IsAbout c core (taken_by core m n o)) (sym none) (subst (λ o. IsAbout c core (taken_by_port core m n o)) (sym port) (by x.pending))
  where
    by : (ps : List Pending) → IsAbout c core (arrives core m x ps)
    by [] = record { slot = x; stands = at; member = cx; about = refl }
    by (p ∷ rest) = record { slot = x; stands = at; member = cx; about = refl }

-- 2. Lines of the trace.

-- the line of a turn, where it is one of the groups
abbrev line_of : (ℕ → Bool) → Turned → List ℕ
line_of c t = if is_turn_of c t then trace_line t else []

abbrev slot_line_of : (ℕ → Bool) → Option Slot → Step → List ℕ
slot_line_of c o step = if c (group_of o) then step_line (turns_of o) step step.tick else []

module _ (i j : Image) (c : ℕ → Bool) (g : AgreeApart i j c) where
  same_line : (a b : State) (n : ℕ) → Worlds i j c a b → is_kept i c n ≡ true → line_of c (turn_of a n) ≡ line_of c (turn_of b n)
  unfolding after
  same_line a b n w kept =
      let about = about_of c a.core a.memory n (item i c a w.one_state w.one n kept) in
      let same = same_turns i j c g a b w n kept in
      let later = both_go_on i j c g a b w n kept in
      let now = stays_by a.core (turn_of a n).core about.slot.number about.slot (turn_keeps a.core a.memory w.one_state.core n).identities about.stands in
      let member : c now.now.group ≡ true = ap (λ (x : ℕ × ℕ × Option ℕ). c x.1) now.same ∙ about.member in
      let here : slot_at (turn_of a n).core (turn_of a n).step.slot ≡ Some now.now = ap (slot_at (turn_of a n).core) about.about ∙ now.is in
      let there : slot_at (turn_of b n).core (turn_of b n).step.slot ≡ Some now.now =
      ap (λ (x : Step). slot_at (turn_of b n).core x.slot) (sym same.step)
      ∙ (same_at c (turn_of a n).core (turn_of b n).core later.other_state.core.rising same.rows
      (turn_of a n).step.slot now.now here member).slot in
      ap (λ o. slot_line_of c o (turn_of a n).step) (here ∙ sym there) ∙ ap (slot_line_of c (slot_at (turn_of b n).core (turn_of b n).step.slot)) same.step

  -- 3. Both lists.

  -- what two runs leave
  pub record Ends (a b : State) (s t : List ℕ) : Type 0 where
    pub worlds : Worlds i j c (run a s) (run b t)
    pub lines : trace_of c a s ≡ trace_of c b t

  only_takes : (k : Image) (n : ℕ) (items : List ℕ) → is_kept k c n ≡ true → only k (n ∷ items) c ≡ n ∷ only k items c
  unfolding only
  only_takes k n items kept = filter_takes (is_kept k c) n items kept

  only_drops : (k : Image) (n : ℕ) (items : List ℕ) → is_kept k c n ≡ false → only k (n ∷ items) c ≡ only k items c
  unfolding only
  only_drops k n items kept = filter_drops (is_kept k c) n items kept

  only_none : (k : Image) → only k [] c ≡ []
  unfolding only
  only_none k = refl

  trace_step : (a : State) (n : ℕ) (items : List ℕ) → trace_of c a (n ∷ items) ≡ line_of c (turn_of a n) ++ trace_of c (after a n) items
  unfolding trace_of traced
  trace_step a n items = refl

  trace_none : (a : State) → trace_of c a [] ≡ []
  unfolding trace_of traced
  trace_none a = refl

  run_step : (a : State) (n : ℕ) (items : List ℕ) → run a (n ∷ items) ≡ run (after a n) items
  unfolding run
  run_step a n items = refl

  run_none : (a : State) → run a [] ≡ a
  unfolding run
  run_none a = refl

  quiet_step : (b : State) (m : ℕ) (items : List ℕ) → QuietTurn j c b.core b.memory (turn_of b m) → trace_of c b (m ∷ items) ≡ trace_of c (after b m) items
  quiet_step b m items q = trace_step b m items ∙ ap (λ l. l ++ trace_of c (after b m) items) q.line

  -- items that are none of the groups
  record Drained (a b : State) (t : List ℕ) : Type 0 where
    worlds : Worlds i j c a (run b t)
    lines : trace_of c b t ≡ []

  drain : (t : List ℕ) (a b : State) → Worlds i j c a b → only j t c ≡ [] → Drained a b t
  drain [] a b w e = record { worlds = subst (Worlds i j c a) (sym (run_none b)) w; lines = trace_none b }
  drain (m ∷ t) a b w e = elim (cases_Bool (is_kept j c m)) [
    | inl kept ↦ let taken = only_takes j m t kept in cc (e, taken)
    | inr kept ↦
        let rest = drain t a (after b m) (other_goes_on i j c g a b w m kept) (sym (only_drops j m t kept) ∙ e) in
        record { worlds = subst (Worlds i j c a) (sym (run_step b m t)) rest.worlds; lines = quiet_step b m t (quiet_t i j c g a b w m kept) ∙ rest.lines }
  ]

  -- the first item of the groups, and what was before it
  record Reaches (a b : State) (t : List ℕ) (n : ℕ) (items : List ℕ) : Type 0 where
    state : State
    rest : List ℕ
    worlds : Worlds i j c a state
    only_rest : only j rest c ≡ items
    runs : run b t ≡ run (after state n) rest
    lines : trace_of c b t ≡ line_of c (turn_of state n) ++ trace_of c (after state n) rest

  reach : (t : List ℕ) (a b : State) (n : ℕ) (items : List ℕ) → Worlds i j c a b → only j t c ≡ n ∷ items → Reaches a b t n items
  reach [] a b n items w e = let none = only_none j in cc (e, none)
  reach (m ∷ t) a b n items w e = elim (cases_Bool (is_kept j c m)) [
    | inl kept ↦
        let taken : m ∷ only j t c ≡ n ∷ items = sym (only_takes j m t kept) ∙ e in
        let number : m ≡ n = cc in
        let others : only j t c ≡ items = cc in
        record {
          state = b;
          rest = t;
          worlds = w;
          only_rest = others;
          runs = run_step b m t ∙ ap (λ k. run (after b k) t) number;
          lines = trace_step b m t ∙ ap (λ k. line_of c (turn_of b k) ++ trace_of c (after b k) t) number;
        }
    | inr kept ↦
        let later = reach t a (after b m) n items (other_goes_on i j c g a b w m kept) (sym (only_drops j m t kept) ∙ e) in
        record {
          state = later.state;
          rest = later.rest;
          worlds = later.worlds;
          only_rest = later.only_rest;
          runs = run_step b m t ∙ later.runs;
          lines = quiet_step b m t (quiet_t i j c g a b w m kept) ∙ later.lines;
        }
  ]

  pub two_lists : (s t : List ℕ) (a b : State) → Worlds i j c a b → only i s c ≡ only j t c → Ends a b s t
  two_lists [] t a b w e =
      let drained = drain t a b w (sym e ∙ only_none i) in
      record { worlds = subst (λ x. Worlds i j c x (run b t)) (sym (run_none a)) drained.worlds; lines = trace_none a ∙ sym drained.lines }
  two_lists (n ∷ s) t a b w e = elim (cases_Bool (is_kept i c n)) [
    | inl kept ↦
        let first = reach t a b n (only i s c) w (sym e ∙ only_takes i n s kept) in
        let rest = two_lists s first.rest (after a n) (after first.state n) (both_go_on i j c g a first.state first.worlds n kept) (sym first.only_rest) in
        record {
          worlds = subst (λ x. Worlds i j c x (run b t)) (sym (run_step a n s)) (subst (λ x. Worlds i j c (run (after a n) s) x) (sym first.runs) rest.worlds);
          lines =
              trace_step a n s
              ∙ ap (λ l. l ++ trace_of c (after a n) s) (same_line a first.state n first.worlds kept)
              ∙ ap (λ l. line_of c (turn_of first.state n) ++ l) rest.lines
              ∙ sym first.lines;
        }
    | inr kept ↦
        let rest = two_lists s t (after a n) b (one_goes_on i j c g a b w n kept) (sym (only_drops i n s kept) ∙ e) in
        let quiet = quiet_s i j c g a b w n kept in
        record {
          worlds = subst (λ x. Worlds i j c x (run b t)) (sym (run_step a n s)) rest.worlds;
          lines = trace_step a n s ∙ ap (λ l. l ++ trace_of c (after a n) s) quiet.line ∙ rest.lines;
        }
  ]

  -- 4. The starts are alike.

  start_rows : (slots : List Slot) → filter (is_row_of c) (map (λ (s : Slot). record { slot = s; queue = [] }) slots) ≡
      map (λ (s : Slot). record { slot = s; queue = [] }) (filter (λ (s : Slot). c s.group) slots)
  start_rows [] = refl
  start_rows (s ∷ slots) = by (c s.group) (start_rows slots)
    where
      by : (b : Bool) → filter (is_row_of c) (map (λ (x : Slot). record { slot = x; queue = [] }) slots) ≡ map (λ (x : Slot). record { slot = x; queue = [] }) (filter (λ (x : Slot). c x.group) slots)
          → cond b (record { slot = s; queue = [] } ∷ filter (is_row_of c)
          (map (λ (x : Slot). record { slot = x; queue = [] }) slots))
          (filter (is_row_of c) (map (λ (x : Slot). record { slot = x; queue = [] }) slots))
          ≡ map (λ (x : Slot). record { slot = x; queue = [] }) (cond b (s ∷ filter (λ (x : Slot). c x.group) slots) (filter (λ (x : Slot). c x.group) slots))
      by true rest = ap (λ (l : List ThreadRow). record { slot = s; queue = [] } ∷ l) rest
      by false rest = rest

  start_alike : Alike i c (start i) (start j)
  unfolding start output_of
  start_alike = record {
    rows = start_rows i.slots ∙ ap (map (λ (s : Slot). record { slot = s; queue = [] })) g.agree.slots ∙ sym (start_rows j.slots);
    outputs = λ k ck. refl;
    cells = g.agree.cells;
  }

  pub start_worlds : Worlds i j c (start i) (start j)
  start_worlds = record {
    one_state = start_state i g.one;
    one = start_fits i g.one;
    one_words = start_granted i g.one All;
    other_state = start_state j g.other;
    other = start_fits j g.other;
    other_words = start_granted j g.other All;
    alike = start_alike;
  }

  pub two_runs : (s t : List ℕ) → only i s c ≡ only j t c → Ends (start i) (start j) s t
  two_runs s t e = two_lists s t (start i) (start j) start_worlds e
