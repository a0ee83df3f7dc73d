-- What a turn showed tells the slots and the outputs that it changes.
use Rattle.std.proofs.Common.{◌≡◌, ◌≢◌, ◌⊎◌, ℕ, ◌<◌, ◌≤◌, inl, inr, Bool, true, false, nat_lt, if◌then◌else◌, List, []}
use Rattle.std.proofs.Common.{◌++◌, length, drop, map, Some, refl, sym, ap, ◌∙◌, subst, arith, append-nil}
use Rattle.std.proofs.{Math.Seq.drop-length, lemmas.Bool.{cases_eq, lt-ltb, le-ltb, Decides.nat_tests}}
use Rattle.mm_isa.specs.declared.instr.Instr.{Instr}
use Rattle.mm_model.specs.{Memory.{Memory}, Slot.Slot}
use Rattle.mm_model.specs.{State.{Core, slot_at, output_of}, Fits.{IsSlot, IsFormed}}
use Rattle.mm_model.specs.Ask.{Ask}
use Rattle.mm_model.proofs.CoreRows.{slot_at-number, slot_has}
use Rattle.mm_thread.specs.declared.told.Was.{Was}
use Rattle.mm_thread.specs.Told.{There, was_of, other_registers, slot_there, event_there, there_at}
use Rattle.mm_log.specs.{Lines.{Line, Line.Puts}, Changes.{changes_between, each_number, slots_changed, put_out_by}}
use Rattle.mm_log.specs.Seen.{seen_of, in_order, with_there}
use Rattle.mm_thread.proofs.Rows.{OtherMove}
use Rattle.mm_log.proofs.Left.{AreNamed, Kept, between_left}
use Rattle.mm_log.proofs.Numbers.{one_number, two_numbers, changes_none}

-- 1. The other slot.

module _ (core : Core) (os : Slot → List ℕ) where
  -- another slot that was shown: the machine's own, with its registers
  pub record IsOf (w : Was) : Type 0 where
    pub of : Slot
    pub is : w ≡ was_of of (os of)
    pub at : slot_at core of.number ≡ Some of
    pub names : AreNamed (os of)

  abbrev pub IsThere : There → Type 0
  IsThere (There.SlotAt w) = IsOf w
  IsThere _ = Unit {0}

-- a number is not that of another slot that was shown
abbrev pub Apart : ℕ → There → Type 0
Apart k (There.SlotAt w) = k ≢ w.number
Apart k _ = Unit {0}

-- a slot that the turn changes besides its own was shown
pub other_shown : (core : Core) (m : Memory) (n : ℕ) (i : Instr) (asked : Ask) (o : Slot) → OtherMove core n asked o → (k : ℕ) → Apart k (there_at core m n i asked) → k ≢ o.number
other_shown core m n i asked o (OtherMove.serves old is at move turns) k apart =
    let here : there_at core m n i asked ≡ There.SlotAt (was_of old (other_registers core.split i old)) = ap (there_at core m n i) is ∙ ap (slot_there core.split i) at in
    let ne : k ≢ old.number = subst (Apart k) here apart in
    λ e. ne (e ∙ sym (slot_at-number core o.number old at))
other_shown core m n i asked o (OtherMove.takes_first old e rest is queue slot at made) k apart =
    let here : there_at core m n i asked ≡ There.SlotAt (was_of old (other_registers core.split i old)) =
    ap (there_at core m n i) is ∙ ap (event_there core i) queue ∙ ap (slot_there core.split i) (ap (slot_at core) slot ∙ at) in
    let ne : k ≢ old.number = subst (Apart k) here apart in
    λ e. ne (e ∙ sym (slot_at-number core o.number old at))

-- 2. The lines of the slots.

order_same : (a b : ℕ) (first second : List Line) → a ≡ b → in_order a b first second ≡ first
order_same a b first second e =
    ap (λ t. (if t then second else []) ++ first ++ (if nat_lt a b then second else [])) (le-ltb b a (omega arith))
    ∙ ap (λ t. first ++ (if t then second else [])) (le-ltb a b (omega arith)) ∙ append-nil first

order_less : (a b : ℕ) (first second : List Line) → a < b → in_order a b first second ≡ first ++ second
order_less a b first second lt =
    ap (λ t. (if t then second else []) ++ first ++ (if nat_lt a b then second else [])) (le-ltb b a (omega arith))
    ∙ ap (λ t. first ++ (if t then second else [])) (lt-ltb a b lt)

order_more : (a b : ℕ) (first second : List Line) → b < a → in_order a b first second ≡ second ++ first
order_more a b first second lt =
    ap (λ t. (if t then second else []) ++ first ++ (if nat_lt a b then second else [])) (lt-ltb b a lt)
    ∙ ap (λ t. second ++ first ++ (if t then second else [])) (le-ltb a b (omega arith)) ∙ append-nil (second ++ first)

apart_ways : (a b : ℕ) → a ≢ b → (a < b) ⊎ (b < a)
apart_ways a b ne = by (nat_lt a b) refl
  where
    by : (t : Bool) → nat_lt a b ≡ t → (a < b) ⊎ (b < a)
    by true e = inl (grind (arith, nat_tests))
    by false e = inr (let high : b ≤ a = grind (arith, nat_tests) in omega arith)

module _ (core : Core) (formed : IsFormed core) (s : Slot) (at : slot_at core s.number ≡ Some s) (later : Core) where
  few : (o : Slot) → slot_at core o.number ≡ Some o → o.number < 64
  few o is = (slot_has IsSlot core o.number o formed.slots is).number

  abbrev told_at : ℕ → List Line
  told_at k = changes_between (slot_at core k) (slot_at later k)

  told_is : (o : Slot) (rs : List ℕ) → AreNamed rs → slot_at core o.number ≡ Some o → Kept o rs (slot_at later o.number) → told_at o.number ≡ seen_of later (was_of o rs)
  told_is o rs names is kept = ap (λ x. changes_between x (slot_at later o.number)) is ∙ between_left o rs names (slot_at later o.number) kept

  module _ (rs : List ℕ) (names : AreNamed rs) (kept : Kept s rs (slot_at later s.number)) (os : Slot → List ℕ)
      (others : (of : Slot) → slot_at core of.number ≡ Some of → s.number ≢ of.number → Kept of (os of) (slot_at later of.number)) where
    abbrev own : List Line
    own = seen_of later (was_of s rs)

    own_is : told_at s.number ≡ own
    own_is = told_is s rs names at kept

    -- no other slot changes
    alone : ((k : ℕ) → k ≢ s.number → slot_at later k ≡ slot_at core k) → slots_changed core later ≡ own
    alone h = one_number told_at s.number (few s at) (λ k ne. changes_none (slot_at core k) (slot_at later k) (h k ne)) ∙ own_is

    -- one other slot may change
    beside : (w : Was) → IsOf core os w → ((k : ℕ) → k ≢ s.number → k ≢ w.number → slot_at later k ≡ slot_at core k) → slots_changed core later ≡ in_order s.number w.number own (seen_of later w)
    beside w o h =
        let j : ℕ = o.of.number in
        let second : List Line = seen_of later (was_of o.of (os o.of)) in
        let other : s.number ≢ j → told_at j ≡ second = λ ne. told_is o.of (os o.of) o.names o.at (others o.of o.at ne) in
        let low = few o.of o.at in
        let apart : (k : ℕ) → k ≢ s.number → k ≢ j → slot_at later k ≡ slot_at core k = λ k a b. h k a (λ e. b (e ∙ ap (λ (x : Was). x.number) o.is)) in
        both j second other low apart ∙ ap (λ (x : Was). in_order s.number x.number own (seen_of later x)) (sym o.is)
      where
        both : (j : ℕ) (second : List Line) → (s.number ≢ j → told_at j ≡ second) → j < 64 → ((k : ℕ) → k ≢ s.number → k ≢ j → slot_at later k ≡ slot_at core k)
            → slots_changed core later ≡ in_order s.number j own second
        both j second other low apart = elim (cases_eq s.number j) [
          | inl e ↦ alone (λ k ne. apart k ne (λ same. ne (same ∙ sym e))) ∙ sym (order_same s.number j own second e)
          | inr ne ↦ elim (apart_ways s.number j ne) [
            | inl less ↦
                two_numbers told_at s.number j less low (λ k a b. changes_none (slot_at core k) (slot_at later k) (apart k a b))
                ∙ ap (λ l. l ++ told_at j) own_is ∙ ap (λ l. own ++ l) (other ne) ∙ sym (order_less s.number j own second less)
            | inr more ↦
                two_numbers told_at j s.number more (few s at) (λ k a b. changes_none (slot_at core k) (slot_at later k) (apart k b a))
                ∙ ap (λ l. told_at j ++ l) own_is ∙ ap (λ l. l ++ own) (other ne) ∙ sym (order_more s.number j own second more)
          ]
        ]

    pub slots_seen_by : (x : There) → IsThere core os x → ((k : ℕ) → k ≢ s.number → Apart k x → slot_at later k ≡ slot_at core k) → slots_changed core later ≡ with_there later (was_of s rs) x
    slots_seen_by (There.SlotAt w) is h = beside w is h
    slots_seen_by There.Nothing is h = alone (λ k ne. h k ne tt)
    slots_seen_by (There.CellAt a c) is h = alone (λ k ne. h k ne tt)
    slots_seen_by (There.PageAt p b) is h = alone (λ k ne. h k ne tt)

  -- 3. The lines of what groups put out.

  pub outs_seen_by : s.group < 64 → ((g : ℕ) → g ≢ s.group → output_of later g ≡ output_of core g)
      → each_number (put_out_by core later) ≡ map (Puts s.group) (drop (length (output_of core s.group)) (output_of later s.group))
  outs_seen_by low h = one_number (put_out_by core later) s.group low
      (λ g ne. ap (λ l. map (Puts g) (drop (length (output_of core g)) l)) (h g ne) ∙ ap (map (Puts g)) (drop-length (output_of core g)))
