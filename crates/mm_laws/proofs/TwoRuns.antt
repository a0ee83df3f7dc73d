-- Two worlds, step by step, and by induction over both lists of items.
use Rattle.std.proofs.Common.{◌≡◌, ℕ, ◌-◌, ◌≤◌, inl, inr, Bool, true, false, ◌&&◌, nat_le, if◌then◌else◌, map, Option}
use Rattle.std.proofs.Common.{Some, None, refl, sym, ap, ◌∙◌, subst, arith, leb-true}
use Rattle.std.proofs.lemmas.Bool.{le-leb, or_cases, or_parts, and_parts}
use Rattle.mm_model.specs.{Slot.Slot, declared.slot.Pending.Pending, Outcomes.IsPort, State.{Core, State, slot_at}}
use Rattle.mm_model.specs.{Image.{Image, slot_in, start}, Fits.{identity_of, IsSlot, IsState, Fits}}
use Rattle.mm_model.specs.Schedule.{in_groups, is_kept}
use Rattle.mm_model.specs.Turn.{Turned, started, idle, taken_by_port, taken_by, port_of, is_running, turn}
use Rattle.mm_model.specs.{Run.{turn_of, after}, Reach.Entries.All}
use Rattle.mm_model.proofs.{Starts.{start_at, start_slots}, Fitted.paged_of}
use Rattle.mm_model.proofs.CoreRows.{slot_at-number, slot_has, identities_of, identity_at}
use Rattle.mm_laws.specs.{Granted.StepGranted, Isolated.{AgreeApart, Worlds, WorldsGoOn}}
use Rattle.mm_laws.proofs.{GrantedRows.Stands, GrantedTurns.{stands_of, step_granted}, AlikeRows.same_at}
use Rattle.mm_laws.proofs.AlikeWorlds.{touchable_other}
use Rattle.mm_laws.proofs.AlikeTurns.{SameTurn, Both, same_idle, same_started, same_arrives}
use Rattle.mm_laws.proofs.OutsideTurns.{QuietTurn, turn_quiet}

-- 1. Items of the groups, by the image and by a state.

groups_by : (c : ℕ → Bool) (o p : Option Slot) → Rattle.std.specs.Prelude.option_map identity_of o ≡ Rattle.std.specs.Prelude.option_map identity_of p → in_groups c o ≡ in_groups c p
groups_by c None None e = refl
groups_by c None (Some y) e = cc
groups_by c (Some x) None e = cc
groups_by c (Some x) (Some y) e = let same : identity_of x ≡ identity_of y = cc in ap (λ (k : ℕ × ℕ × Option ℕ). c k.1) same

-- a slot of the state is of the groups where that of the image is
state_groups : (i : Image) (c : ℕ → Bool) (core : Core) → identities_of core ≡ map identity_of i.slots → (n : ℕ) → in_groups c (slot_at core n) ≡ in_groups c (slot_in i.slots n)
state_groups i c core same n =
    groups_by c (slot_at core n) (slot_in i.slots n)
    (identity_at (start i).core core n (same ∙ sym (ap (map identity_of) (start_slots i))) ∙ ap (Rattle.std.specs.Prelude.option_map identity_of) (start_at i n))

member : (c : ℕ → Bool) (o : Option Slot) → in_groups c o ≡ true → (x : Slot) × (o ≡ Some x) × (c x.group ≡ true)
member c None e = cc
member c (Some x) e = (x, refl, e)

-- an item of the groups is a slot of them, or the port of one
pub data Item (c : ℕ → Bool) (core : Core) (n : ℕ) : Type 0 where
  names : (x : Slot) → slot_at core n ≡ Some x → c x.group ≡ true → Item c core n
  ports : (x : Slot) → slot_at core n ≡ None → port_of core n ≡ Some x → slot_at core x.number ≡ Some x → c x.group ≡ true → Item c core n

module _ (i : Image) (c : ℕ → Bool) (s : State) (state : IsState s) (fits : Fits i s) where
  no_slot_at : (n : ℕ) → 128 ≤ n → slot_at s.core n ≡ None
  no_slot_at n high = by (slot_at s.core n) refl
    where
      by : (o : Option Slot) → slot_at s.core n ≡ o → slot_at s.core n ≡ None
      by None is = is
      by (Some x) is =
          let own = slot_has IsSlot s.core n x state.core.slots is in
          let number = slot_at-number s.core n x is in
          let low = own.number in
          absurd (omega arith)

  pub item : (n : ℕ) → is_kept i c n ≡ true → Item c s.core n
  item n kept = elim (or_cases (in_groups c (slot_in i.slots n)) (i.split && nat_le 128 n && in_groups c (slot_in i.slots (n - 128))) kept) [
    | inl named ↦
        let x = member c (slot_at s.core n) (state_groups i c s.core fits.same_slots n ∙ named) in
        names x.0 x.1 x.2
    | inr ported ↦
        let two = and_parts (i.split && nat_le 128 n) (in_groups c (slot_in i.slots (n - 128))) ported in
        let x = member c (slot_at s.core (n - 128)) (state_groups i c s.core fits.same_slots (n - 128) ∙ two.1) in
        let on : (s.core.split && nat_le 128 n) ≡ true = ap (λ b. b && nat_le 128 n) fits.split ∙ two.0 in
        let high : 128 ≤ n = leb-true 128 n (and_parts i.split (nat_le 128 n) two.0).1 in
        ports x.0 (no_slot_at n high) (ap (λ b. if b then slot_at s.core (n - 128) else None) on ∙ x.1) (ap (slot_at s.core) (slot_at-number s.core (n - 128) x.0 x.1) ∙ x.1) x.2
  ]

  outside : (n : ℕ) → is_kept i c n ≡ false → (x : Slot) → slot_at s.core n ≡ Some x → c x.group ≡ false
  outside n kept x is =
      let none = (or_parts (in_groups c (slot_in i.slots n)) (i.split && nat_le 128 n && in_groups c (slot_in i.slots (n - 128))) kept).0 in
      sym (ap (in_groups c) is) ∙ state_groups i c s.core fits.same_slots n ∙ none

  port_outside : (n : ℕ) → is_kept i c n ≡ false → (x : Slot) (p : Pending) → IsPort s.core n x p → c x.group ≡ false
  port_outside n kept x p port =
      let number = port.number in
      let back : n - 128 ≡ x.number = omega arith in
      let none = (or_parts (in_groups c (slot_in i.slots n)) (i.split && nat_le 128 n && in_groups c (slot_in i.slots (n - 128))) kept).1 in
      let on : (i.split && nat_le 128 n) ≡ true = ap (λ b. b && nat_le 128 n) (sym fits.split ∙ port.split) ∙ le-leb 128 n (omega arith) in
      sym (ap (in_groups c) (ap (slot_at s.core) back ∙ port.at)) ∙ state_groups i c s.core fits.same_slots (n - 128)
      ∙ sym (ap (λ b. b && in_groups c (slot_in i.slots (n - 128))) on) ∙ none

-- 2. One step.

module _ (i j : Image) (c : ℕ → Bool) (g : AgreeApart i j c) (s t : State) (w : Worlds i j c s t) where
  stands_s : Stands i All s.core s.memory
  stands_s = stands_of i All s g.one w.one_state w.one w.one_words

  stands_t : Stands j All t.core t.memory
  stands_t = stands_of j All t g.other w.other_state w.other w.other_words

  both_worlds : Both i j c s.core t.core s.memory t.memory
  both_worlds = record {
    one = stands_s;
    other = stands_t;
    one_apart = g.one_apart;
    other_apart = g.other_apart;
    one_paged = paged_of i s w.one_state w.one;
    other_paged = paged_of j t w.other_state w.other;
    frames = λ p. w.one.frames ∙ g.agree.frames p ∙ sym w.other.frames;
    version = w.one.version ∙ g.agree.version ∙ sym w.other.version;
    split = w.one.split ∙ g.agree.mode ∙ sym w.other.split;
    rows = w.alike.rows;
    outputs = w.alike.outputs;
    cells = w.alike.cells;
  }

  step_s : (n : ℕ) → StepGranted i All s n
  step_s n = step_granted i All s n g.one w.one_state w.one w.one_words

  step_t : (n : ℕ) → StepGranted j All t n
  step_t n = step_granted j All t n g.other w.other_state w.other w.other_words

  abbrev SameOf : Turned → Turned → Type 0
  SameOf a b = SameTurn i c a b

  over : (n : ℕ) (x : Slot) → slot_at s.core n ≡ Some x → c x.group ≡ true → slot_at t.core n ≡ Some x
  over n x at cx = (same_at c s.core t.core w.other_state.core.rising w.alike.rows n x at cx).slot

  at_its_number : (n : ℕ) (x : Slot) → slot_at s.core n ≡ Some x → slot_at s.core x.number ≡ Some x
  at_its_number n x is = ap (slot_at s.core) (slot_at-number s.core n x is) ∙ is

  -- the port of a slot of the groups is that of the same slot
  port_over : (n : ℕ) (x : Slot) → port_of s.core n ≡ Some x → c x.group ≡ true → port_of t.core n ≡ Some x
  port_over n x is cx = by (s.core.split && nat_le 128 n) refl is
    where
      by : (b : Bool) → (s.core.split && nat_le 128 n) ≡ b → (if b then slot_at s.core (n - 128) else None) ≡ Some x → port_of t.core n ≡ Some x
      by false on e = cc
      by true on e =
          let on_t : (t.core.split && nat_le 128 n) ≡ true = ap (λ b. b && nat_le 128 n) (sym both_worlds.split) ∙ on in
          ap (λ b. if b then slot_at t.core (n - 128) else None) on_t ∙ over (n - 128) x e cx

  same_turn_of : (n : ℕ) → Item c s.core n → SameOf (turn s.core s.memory n) (turn t.core t.memory n)
  unfolding turn
  same_turn_of n (names x at cx) =
      subst (λ o. SameOf (taken_by s.core s.memory n o) (taken_by t.core t.memory n (slot_at t.core n))) (sym at)
      (subst (λ o. SameOf (taken_by s.core s.memory n (Some x)) (taken_by t.core t.memory n o)) (sym (over n x at cx)) (by (is_running x.state)))
    where
      by : (b : Bool) → SameOf (if b then started s.core s.memory x else idle s.core s.memory n) (if b then started t.core t.memory x else idle t.core t.memory n)
      by true = same_started i j c s.core t.core s.memory t.memory both_worlds x (at_its_number n x at) (over x.number x (at_its_number n x at) cx) cx
      by false = same_idle i j c s.core t.core s.memory t.memory both_worlds n
  same_turn_of n (ports x none port at cx) =
      subst (λ o. SameOf (taken_by s.core s.memory n o) (taken_by t.core t.memory n (slot_at t.core n))) (sym none)
      (subst (λ o. SameOf (taken_by s.core s.memory n None) (taken_by t.core t.memory n o)) (sym (no_slot_at j c t w.other_state w.other n (high (s.core.split && nat_le 128 n) refl port)))
      (subst (λ o. SameOf (taken_by_port s.core s.memory n o) (taken_by_port t.core t.memory n (port_of t.core n))) (sym port)
      (subst (λ o. SameOf (taken_by_port s.core s.memory n (Some x)) (taken_by_port t.core t.memory n o)) (sym (port_over n x port cx))
      (same_arrives i j c s.core t.core s.memory t.memory both_worlds x at (over x.number x at cx) cx x.pending))))
    where
      high : (b : Bool) → (s.core.split && nat_le 128 n) ≡ b → (if b then slot_at s.core (n - 128) else None) ≡ Some x → 128 ≤ n
      high true on e = leb-true 128 n (and_parts s.core.split (nat_le 128 n) on).1
      high false on e = cc

  pub same_turns : (n : ℕ) → is_kept i c n ≡ true → SameTurn i c (turn_of s n) (turn_of t n)
  same_turns n kept = same_turn_of n (item i c s w.one_state w.one n kept)

  pub quiet_s : (n : ℕ) → is_kept i c n ≡ false → QuietTurn i c s.core s.memory (turn_of s n)
  quiet_s n kept = turn_quiet i c g.one_apart s.core s.memory stands_s n (outside i c s w.one_state w.one n kept) (port_outside i c s w.one_state w.one n kept)

  pub quiet_t : (n : ℕ) → is_kept j c n ≡ false → QuietTurn j c t.core t.memory (turn_of t n)
  quiet_t n kept = turn_quiet j c g.other_apart t.core t.memory stands_t n (outside j c t w.other_state w.other n kept) (port_outside j c t w.other_state w.other n kept)

  pub both_go_on : (n : ℕ) → is_kept i c n ≡ true → Worlds i j c (after s n) (after t n)
  unfolding after
  both_go_on n kept =
      let same = same_turns n kept in
      record {
        one_state = (step_s n).state;
        one = (step_s n).fits;
        one_words = (step_s n).words;
        other_state = (step_t n).state;
        other = (step_t n).fits;
        other_words = (step_t n).words;
        alike = record { rows = same.rows; outputs = same.outputs; cells = same.cells };
      }

  pub one_goes_on : (n : ℕ) → is_kept i c n ≡ false → Worlds i j c (after s n) t
  unfolding after
  one_goes_on n kept =
      let quiet = quiet_s n kept in
      record {
        one_state = (step_s n).state;
        one = (step_s n).fits;
        one_words = (step_s n).words;
        other_state = w.other_state;
        other = w.other;
        other_words = w.other_words;
        alike = record { rows = quiet.rows ∙ w.alike.rows; outputs = λ k ck. quiet.outputs k ck ∙ w.alike.outputs k ck; cells = λ v touch. quiet.cells v touch ∙ w.alike.cells v touch };
      }

  pub other_goes_on : (n : ℕ) → is_kept j c n ≡ false → Worlds i j c s (after t n)
  unfolding after
  other_goes_on n kept =
      let quiet = quiet_t n kept in
      record {
        one_state = w.one_state;
        one = w.one;
        one_words = w.one_words;
        other_state = (step_t n).state;
        other = (step_t n).fits;
        other_words = (step_t n).words;
        alike = record {
          rows = w.alike.rows ∙ sym quiet.rows;
          outputs = λ k ck. w.alike.outputs k ck ∙ sym (quiet.outputs k ck);
          cells = λ v touch. w.alike.cells v touch ∙ sym (quiet.cells v (touchable_other i j c g.agree g.one_apart v touch));
        };
      }

pub worlds_go_on : (i j : Image) (c : ℕ → Bool) (s t : State) (n : ℕ) → AgreeApart i j c → Worlds i j c s t → WorldsGoOn i j c s t n
worlds_go_on i j c s t n g w = record {
  both = both_go_on i j c g s t w n;
  step = λ kept. (same_turns i j c g s t w n kept).step;
  one = one_goes_on i j c g s t w n;
  other = other_goes_on i j c g s t w n;
}
