-- Runs, reports, traces and what groups reach, in two versions.
use Rattle.std.proofs.Common.{◌≡◌, ℕ, ◌≤◌, ◌⊎◌, inl, inr, Bool, true, false, ◌==◌, if◌then◌else◌, List, [], ◌∷◌, ◌++◌}
use Rattle.std.proofs.Common.{Option, refl, sym, ap, ◌∙◌, subst, arith, eqb-true}
use Rattle.std.specs.{Prelude.Contains, List.{AllByRecursion, flat_map}}
use Rattle.mm_word.specs.{declared.cause.Cause.TheVariants.OutFull, Pointer.Pointer}
use Rattle.mm_model.specs.{declared.{counts.Counts.Counts, step.{Step.Step, Tick.TheVariants.Faulted}}, Memory.cell_at}
use Rattle.mm_model.specs.{Slot.Slot, State.{Core, State, slot_at, output_of}, Image.{Image, output_limit, start}}
use Rattle.mm_model.specs.{Turn.Turned, Run.{turn_of, state_of, after, run, steps, uses}}
use Rattle.mm_model.specs.Report.{cycles_line, section, groups_of, page_lines, cell_lines, count_line, report}
use Rattle.mm_model.specs.Trace.{trace_line, traced, trace}
use Rattle.mm_model.specs.Reach.{Entries, Grants, Serves, CanTouch, CanWrite, Grants.below}
use Rattle.mm_model.{specs.Worlds.{Touchable, Apart, migrated}, proofs.TurnChanges.turn_changes}
use Rattle.mm_laws.specs.Migration.{NoOutputIsFull, ShowsTheSame}
use Rattle.mm_laws.proofs.VersionTurns.{core_as, turned_as, MeetsNoLimit, turn_as}

-- 1. Runs.

abbrev pub state_as : ℕ → State → State
state_as v s = record s { core = core_as v s.core }

-- outputs have the same limit in the version, or no lower one and no turn of the run meets any
abbrev RunMeetsNoLimit : ℕ → State → List ℕ → Type 0
RunMeetsNoLimit v s items =
    (output_limit v ≡ output_limit s.core.version) ⊎ ((output_limit s.core.version ≤ output_limit v) × AllByRecursion (λ (step : Step). step.tick ≡ Faulted OutFull → ⊥) (steps s items))

module _ (v : ℕ) where
  first_meets : (s : State) (n : ℕ) (items : List ℕ) → RunMeetsNoLimit v s (n ∷ items) → MeetsNoLimit v s.core (turn_of s n)
  unfolding steps
  first_meets s n items (inl same) = inl same
  first_meets s n items (inr k) = inr (k.0, k.1.0)

  rest_meets : (s : State) (n : ℕ) (items : List ℕ) → RunMeetsNoLimit v s (n ∷ items) → RunMeetsNoLimit v (after s n) items
  unfolding steps after
  rest_meets s n items (inl same) = inl (same ∙ ap output_limit (sym (turn_changes s.core s.memory n).version))
  rest_meets s n items (inr k) = inr (subst (λ w. output_limit w ≤ output_limit v) (sym (turn_changes s.core s.memory n).version) k.0, k.1.1)

  turn_of_as : (s : State) (n : ℕ) (items : List ℕ) → RunMeetsNoLimit v s (n ∷ items) → turn_of (state_as v s) n ≡ turned_as v (turn_of s n)
  turn_of_as s n items h = turn_as v s.core s.memory n (first_meets s n items h)

  after_as : (s : State) (n : ℕ) (items : List ℕ) → RunMeetsNoLimit v s (n ∷ items) → after (state_as v s) n ≡ state_as v (after s n)
  unfolding after
  after_as s n items h = ap (state_of s) (turn_of_as s n items h)

  run_as : (s : State) (items : List ℕ) → RunMeetsNoLimit v s items → run (state_as v s) items ≡ state_as v (run s items)
  unfolding run
  run_as s [] h = refl
  run_as s (n ∷ items) h = ap (λ t. run t items) (after_as s n items h) ∙ run_as (after s n) items (rest_meets s n items h)

  uses_as : (s : State) (items : List ℕ) → RunMeetsNoLimit v s items → uses (state_as v s) items ≡ uses s items
  unfolding uses
  uses_as s [] h = refl
  uses_as s (n ∷ items) h =
      ap (λ (t : Turned). t.uses ++ uses (after (state_as v s) n) items) (turn_of_as s n items h)
      ∙ ap (λ t. (turn_of s n).uses ++ uses t items) (after_as s n items h)
      ∙ ap (λ us. (turn_of s n).uses ++ us) (uses_as (after s n) items (rest_meets s n items h))

  line_as : (t : Turned) → trace_line (turned_as v t) ≡ trace_line t
  unfolding slot_at
  line_as t = refl

  traced_as : (s : State) (items : List ℕ) → RunMeetsNoLimit v s items → traced (λ t. true) (state_as v s) items ≡ traced (λ t. true) s items
  unfolding traced
  traced_as s [] h = refl
  traced_as s (n ∷ items) h =
      ap (λ (t : Turned). trace_line t ++ traced (λ t. true) (after (state_as v s) n) items) (turn_of_as s n items h)
      ∙ ap (λ line. line ++ traced (λ t. true) (after (state_as v s) n) items) (line_as (turn_of s n))
      ∙ ap (λ t. trace_line (turn_of s n) ++ traced (λ t. true) t items) (after_as s n items h)
      ∙ ap (λ lines. trace_line (turn_of s n) ++ lines) (traced_as (after s n) items (rest_meets s n items h))

  trace_as : (s : State) (items : List ℕ) → RunMeetsNoLimit v s items → trace (state_as v s) items ≡ trace s items
  unfolding trace
  trace_as s items h = traced_as s items h

  -- 2. Reports.

  sections_as : (core : Core) (gs : List ℕ) → flat_map (section (core_as v core)) gs ≡ flat_map (section core) gs
  unfolding section output_of
  sections_as core [] = refl
  sections_as core (g ∷ gs) = ap (λ lines. section core g ++ lines) (sections_as core gs)

  report_as : (s : State) (i : Image) (split : Bool) (counts : Option Counts) → report (state_as v s) (migrated i split) counts ≡ report s i counts
  unfolding report
  report_as s i split counts =
      ap (λ lines. cycles_line s.cycles ++ lines ++ page_lines s.memory i.memory ++ cell_lines s.memory i.memory ++ count_line counts) (sections_as s.core (groups_of s.core))

-- 3. What groups reach, in two images with the same slots and cells.

module _ (i j : Image) (slots : (s : Slot) → Contains i.slots s → Contains j.slots s) (cells : (w : ℕ) → cell_at j.memory w ≡ cell_at i.memory w) (e : Entries) where
  serves_as : (g h : ℕ) → Serves i g h → Serves j g h
  serves_as g h k = record { served = k.served; server = k.server; one = slots k.served k.one; other = slots k.server k.other; handled = k.handled; groups = k.groups }

  grants_as : {g : ℕ} {q : Pointer} → Grants i e g q → Grants j e g q
  grants_as (Grants.in_register s a b c) = Grants.in_register s (slots s a) b c
  grants_as (Grants.runs_by s a b c) = Grants.runs_by s (slots s a) b c
  grants_as (Grants.in_cell p w c h a b d) = Grants.in_cell p w c (grants_as h) a (cells w ∙ b) d
  grants_as (below p h a) = below p (grants_as h) a
  grants_as (Grants.passed h w p r a b c d k) = Grants.passed h w p r (grants_as a) (grants_as b) c (grants_as d) k
  grants_as (Grants.entered p h a b c) = Grants.entered p (grants_as h) a b c
  grants_as (Grants.served {g = g} h a b) = Grants.served h (grants_as a) (serves_as g h b)
  grants_as (Grants.made p h a b) = Grants.made p (grants_as h) a b

  touch_as : (g w : ℕ) → CanTouch i e g w → CanTouch j e g w
  touch_as g w h = record { by = h.by; granted = grants_as h.granted; loads = h.loads }

  write_as : (g w : ℕ) → CanWrite i e g w → CanWrite j e g w
  write_as g w h = record { by = h.by; granted = grants_as h.granted; stores = h.stores }

  touchable_as : (c : ℕ → Bool) (w : ℕ) → Touchable i e c w → Touchable j e c w
  touchable_as c w h = record { group = h.group; member = h.member; touches = touch_as h.group w h.touches }

-- what stands apart in one image stands apart in another that reaches no more
apart_as : (i j : Image) (e : Entries) (c : ℕ → Bool) → ((s : Slot) → Contains j.slots s → Contains i.slots s) → ((g w : ℕ) → CanWrite j e g w → CanWrite i e g w)
    → ((w : ℕ) → Touchable j e c w → Touchable i e c w) → Apart i e c → Apart j e c
apart_as i j e c slots writes touches h = record {
  writes = λ g w out write touch. h.writes g w out (writes g w write) (touches w touch);
  handlers = λ s k one other handled. h.handlers s k (slots s one) (slots k other) handled;
}

-- 4. Migration.

module _ (i : Image) (split : Bool) where
  abbrev Other : Image
  Other = migrated i split

  there : (s : Slot) → Contains i.slots s → Contains Other.slots s
  there s h = h

  back : (s : Slot) → Contains Other.slots s → Contains i.slots s
  back s h = h

  same_touch : (e : Entries) (g w : ℕ) → (CanTouch i e g w → CanTouch Other e g w) × (CanTouch Other e g w → CanTouch i e g w)
  same_touch e g w = (touch_as i Other there (λ a. refl) e g w, touch_as Other i back (λ a. refl) e g w)

  same_write : (e : Entries) (g w : ℕ) → (CanWrite i e g w → CanWrite Other e g w) × (CanWrite Other e g w → CanWrite i e g w)
  same_write e g w = (write_as i Other there (λ a. refl) e g w, write_as Other i back (λ a. refl) e g w)

  same_apart : (e : Entries) (c : ℕ → Bool) → (Apart i e c → Apart Other e c) × (Apart Other e c → Apart i e c)
  same_apart e c = (
    apart_as i Other e c back (write_as Other i back (λ a. refl) e) (touchable_as Other i back (λ a. refl) e c),
    apart_as Other i e c there (write_as i Other there (λ a. refl) e) (touchable_as i Other there (λ a. refl) e c),
  )

-- the migrated image starts as the image does, in version 2
start_migrated : (i : Image) → i.split ≡ false → start (migrated i false) ≡ state_as 2 (start i)
unfolding start
start_migrated i plain = ap (λ (split : Bool). start (migrated i split)) (sym plain)

meets_none : (i : Image) (items : List ℕ) → (i.version ≡ 1 → NoOutputIsFull i items) → RunMeetsNoLimit 2 (start i) items
unfolding start
meets_none i items fits = by (i.version == 1) refl
  where
    by : (b : Bool) → (i.version == 1) ≡ b → RunMeetsNoLimit 2 (start i) items
    by true e =
        let least : output_limit i.version ≡ 4096 = ap (λ (b : Bool). if b then 4096 else 65536) e in
        inr (subst (λ l. l ≤ output_limit 2) (sym least) (omega arith), fits (eqb-true i.version 1 e))
    by false e = inl (sym (ap (λ (b : Bool). if b then 4096 else 65536) e))

pub migration_keeps : (i : Image) (items : List ℕ) → i.split ≡ false → (i.version ≡ 1 → NoOutputIsFull i items) → ShowsTheSame i (migrated i false) items
migration_keeps i items plain fits =
    let meets = meets_none i items fits in
    let begins = start_migrated i plain in
    record {
      report = λ tells.
          sym (ap (λ s. report (run s items) (migrated i false) (tells (uses s items))) begins
          ∙ ap (λ s. report s (migrated i false) (tells (uses (state_as 2 (start i)) items))) (run_as 2 (start i) items meets)
          ∙ ap (λ us. report (state_as 2 (run (start i) items)) (migrated i false) (tells us)) (uses_as 2 (start i) items meets)
          ∙ report_as 2 (run (start i) items) i false (tells (uses (start i) items)));
      trace = sym (ap (λ s. trace s items) begins ∙ trace_as 2 (start i) items meets);
      can_touch = same_touch i false;
      can_write = same_write i false;
      apart = same_apart i false;
    }
