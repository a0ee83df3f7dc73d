-- What stays of a list of items for groups.
use Rattle.std.proofs.Common.{◌≡◌, ℕ, suc, ◌+◌, ◌-◌, ◌<◌, ◌≤◌, inl, inr, Bool, true, false, ◌&&◌, ◌||◌, nat_eq, nat_le}
use Rattle.std.proofs.Common.{cond, if◌then◌else◌, List, [], ◌∷◌, ◌++◌, map, Option, Some, None, refl, sym, ap, ◌∙◌}
use Rattle.std.proofs.Common.{arith, eqb-true, eq-eqb}
use Rattle.std.proofs.lemmas.Bool.{or_cases, or_left, or_right, ne_eqb, leb-true, le-leb}
use Rattle.std.specs.{Prelude.{Contains, ◌↔◌}, List.{filter, AllByRecursion, Sorted.IsStrictlyIncreasing}}
use Rattle.mm_model.specs.{Slot.Slot, State.{State, slot_at}, Image.{Image, slot_in, start}, Groups.HasSlotAt}
use Rattle.mm_model.specs.{Spelling.{numbers_of, IsImage}, Schedule.{in_groups, is_kept, only}, Turn.turn}
use Rattle.mm_model.specs.{Run.{after, run}, Fits.{slots_of, identity_of, IsSlot, IsState, Fits}}
use Rattle.mm_model.proofs.CoreRows.{each_map, each_both, each_contained, above_first, rest_rises, slot_at-number}
use Rattle.mm_model.proofs.{CoreRows.{each_slot, slot_has, stays_by, numbers_above}, TurnKeeps.turn_keeps}
use Rattle.mm_model.proofs.{StateKeeps.{after_state, after_fits}, TurnBounds.turn_takes}
use Rattle.mm_model.proofs.Starts.{start_at, start_slots, start_state, start_fits, start_within}
use Rattle.mm_laws.specs.Restrictions.{Belongs}

-- 1. Slots of a list by their numbers.

from_slot : (c : ℕ → Bool) (slots : List Slot) (n : ℕ) → in_groups c (slot_in slots n) ≡ true → HasSlotAt slots c n
from_slot c [] n e = cc
from_slot c (s ∷ slots) n e = by (nat_eq s.number n) refl e (λ k. from_slot c slots n k)
  where
    by : (b : Bool) → nat_eq s.number n ≡ b → in_groups c (if b then Some s else slot_in slots n) ≡ true → (in_groups c (slot_in slots n) ≡ true → HasSlotAt slots c n) → HasSlotAt (s ∷ slots) c n
    by true at e later = record { slot = s; stands = (0, omega arith, refl); number = eqb-true s.number n at; member = e }
    by false at e later =
        let rest = later e in
        let k = rest.stands in
        record { slot = rest.slot; stands = (suc k.0, omega (arith, k.1), k.2); number = rest.number; member = rest.member }

in_behind : (x s : Slot) (slots : List Slot) → x.number < s.number → slot_in slots s.number ≡ Some s → slot_in (x ∷ slots) s.number ≡ Some s
in_behind x s slots lt is = ap (λ b. if b then Some x else slot_in slots s.number) (ne_eqb x.number s.number (λ e. omega arith)) ∙ is

-- where numbers rise, each slot is found at its number
found_each : (slots : List Slot) → IsStrictlyIncreasing (numbers_of slots) → AllByRecursion (λ (s : Slot). slot_in slots s.number ≡ Some s) slots
found_each [] h = tt
found_each (x ∷ slots) h = (
  ap (λ b. if b then Some x else slot_in slots x.number) (eq-eqb x.number x.number refl),
  each_both (λ (s : Slot). x.number < s.number) (λ (s : Slot). slot_in slots s.number ≡ Some s) (λ (s : Slot). slot_in (x ∷ slots) s.number ≡ Some s) (λ s lt is. in_behind x s slots lt is) slots
      (numbers_above x.number slots (above_first x.number (numbers_of slots) h)) (found_each slots (rest_rises x.number (numbers_of slots) h)),
)

slot_is : (i : Image) → IsImage i → (s : Slot) → Contains i.slots s → slot_in i.slots s.number ≡ Some s
slot_is i h s k = each_contained (λ (x : Slot). slot_in i.slots x.number ≡ Some x) i.slots s (found_each i.slots h.rising) k

-- 2. An item belongs to the groups exactly where it is kept.

to_slot : (i : Image) → IsImage i → (c : ℕ → Bool) (n : ℕ) → HasSlotAt i.slots c n → in_groups c (slot_in i.slots n) ≡ true
to_slot i h c n has = ap (in_groups c) (ap (slot_in i.slots) (sym has.number) ∙ slot_is i h has.slot has.stands) ∙ has.member

all_true : (a b d : Bool) → (a && b && d) ≡ true → (a ≡ true) × (b ≡ true) × (d ≡ true)
all_true true true true e = (refl, refl, refl)
all_true true true false e = cc
all_true true false d e = cc
all_true false b d e = cc

true_all : (a b d : Bool) → a ≡ true → b ≡ true → d ≡ true → (a && b && d) ≡ true
true_all true true true p q r = refl
true_all true true false p q r = r
true_all true false d p q r = cc
true_all false b d p q r = cc

pub kept_belongs : (i : Image) (c : ℕ → Bool) (n : ℕ) → is_kept i c n ≡ true → Belongs i c n
kept_belongs i c n e = elim (or_cases (in_groups c (slot_in i.slots n)) (i.split && nat_le 128 n && in_groups c (slot_in i.slots (n - 128))) e) [
  | inl own ↦ inl (from_slot c i.slots n own)
  | inr port ↦
      let all = all_true i.split (nat_le 128 n) (in_groups c (slot_in i.slots (n - 128))) port in
      let low = leb-true 128 n all.1 in
      inr (all.0, (n - 128, omega arith, from_slot c i.slots (n - 128) all.2))
]

pub belongs_kept : (i : Image) → IsImage i → (c : ℕ → Bool) (n : ℕ) → Belongs i c n → is_kept i c n ≡ true
belongs_kept i h c n (inl own) = or_left (in_groups c (slot_in i.slots n)) (i.split && nat_le 128 n && in_groups c (slot_in i.slots (n - 128))) (to_slot i h c n own)
belongs_kept i h c n (inr port) =
    let k : ℕ = port.1.0 in
    let is : n ≡ 128 + k = port.1.1 in
    let back : n - 128 ≡ k = omega arith in
    or_right (in_groups c (slot_in i.slots n)) (i.split && nat_le 128 n && in_groups c (slot_in i.slots (n - 128)))
    (true_all i.split (nat_le 128 n) (in_groups c (slot_in i.slots (n - 128))) port.0 (le-leb 128 n (omega arith)) (ap (λ m. in_groups c (slot_in i.slots m)) back ∙ to_slot i h c k port.1.2))

-- 3. Lists of items.

pub stays : (i : Image) (c : ℕ → Bool) (n : ℕ) → IsImage i → (only i (n ∷ []) c ≡ n ∷ []) ↔ Belongs i c n
unfolding only
stays i c n h = (λ e. kept_belongs i c n (by (is_kept i c n) e), λ b. ap (λ t. cond t (n ∷ []) []) (belongs_kept i h c n b))
  where
    by : (b : Bool) → cond b (n ∷ []) [] ≡ n ∷ [] → b ≡ true
    by true e = refl
    by false e = cc

pub goes : (i : Image) (c : ℕ → Bool) (n : ℕ) → IsImage i → (only i (n ∷ []) c ≡ []) ↔ (¬ Belongs i c n)
unfolding only
goes i c n h = (λ e b. no (is_kept i c n) e (belongs_kept i h c n b), λ none. yes_none (is_kept i c n) refl none)
  where
    no : (b : Bool) → cond b (n ∷ []) [] ≡ [] → b ≡ true → ⊥
    no true e k = cc
    no false e k = cc

    yes_none : (b : Bool) → is_kept i c n ≡ b → (¬ Belongs i c n) → cond b (n ∷ []) [] ≡ []
    yes_none true e none = absurd (none (kept_belongs i c n e))
    yes_none false e none = refl

filter_parts : (p : ℕ → Bool) (a b : List ℕ) → filter p (a ++ b) ≡ filter p a ++ filter p b
filter_parts p [] b = refl
filter_parts p (n ∷ a) b = by (p n) (filter_parts p a b)
  where
    by : (t : Bool) → filter p (a ++ b) ≡ filter p a ++ filter p b → cond t (n ∷ filter p (a ++ b)) (filter p (a ++ b)) ≡ cond t (n ∷ filter p a) (filter p a) ++ filter p b
    by true rest = ap (λ (xs : List ℕ). n ∷ xs) rest
    by false rest = rest

pub by_parts : (i : Image) (c : ℕ → Bool) (a b : List ℕ) → only i (a ++ b) c ≡ only i a c ++ only i b c
unfolding only
by_parts i c a b = filter_parts (is_kept i c) a b

none_in : (o : Option Slot) → in_groups (λ g. false) o ≡ false
none_in None = refl
none_in (Some s) = refl

none_kept : (i : Image) (n : ℕ) → is_kept i (λ g. false) n ≡ false
none_kept i n = by (in_groups (λ g. false) (slot_in i.slots n)) i.split (nat_le 128 n)
    (in_groups (λ g. false) (slot_in i.slots (n - 128))) (none_in (slot_in i.slots n))
    (none_in (slot_in i.slots (n - 128)))
  where
    by : (a b d e : Bool) → a ≡ false → e ≡ false → (a || (b && d && e)) ≡ false
    by true b d e p q = p
    by false false d e p q = refl
    by false true false e p q = refl
    by false true true e p q = q

pub to_none : (i : Image) (items : List ℕ) → only i items (λ g. false) ≡ []
unfolding only
to_none i [] = refl
to_none i (n ∷ items) = ap (λ t. cond t (n ∷ filter (is_kept i (λ g. false)) items) (filter (is_kept i (λ g. false)) items)) (none_kept i n) ∙ to_none i items

filters_commute : (p q : ℕ → Bool) (xs : List ℕ) → filter q (filter p xs) ≡ filter p (filter q xs)
filters_commute p q [] = refl
filters_commute p q (n ∷ xs) = by (p n) (q n) refl refl (filters_commute p q xs)
  where
    by : (a b : Bool) → p n ≡ a → q n ≡ b → filter q (filter p xs) ≡ filter p (filter q xs) → filter q (cond a (n ∷ filter p xs) (filter p xs)) ≡ filter p (cond b (n ∷ filter q xs) (filter q xs))
    by true true ea eb rest =
        ap (λ t. cond t (n ∷ filter q (filter p xs)) (filter q (filter p xs))) eb ∙ ap (λ (ys : List ℕ). n ∷ ys) rest
        ∙ sym (ap (λ t. cond t (n ∷ filter p (filter q xs)) (filter p (filter q xs))) ea)
    by true false ea eb rest = ap (λ t. cond t (n ∷ filter q (filter p xs)) (filter q (filter p xs))) eb ∙ rest
    by false true ea eb rest = rest ∙ sym (ap (λ t. cond t (n ∷ filter p (filter q xs)) (filter p (filter q xs))) ea)
    by false false ea eb rest = rest

pub commute : (i : Image) (items : List ℕ) (c d : ℕ → Bool) → only i (only i items c) d ≡ only i (only i items d) c
unfolding only
commute i items c d = filters_commute (is_kept i c) (is_kept i d) items

-- 4. A run of a restricted list.

-- slots outside the groups have taken no turn
abbrev Quiet : (ℕ → Bool) → State → Type 0
Quiet c s = AllByRecursion (λ (x : Slot). c x.group ≡ false → x.turns ≡ 0) (slots_of s.core)

-- a running slot that a kept item names is one of the groups
named_inside : (i : Image) (s : State) (c : ℕ → Bool) (n : ℕ) (x : Slot) → IsState s → Fits i s → is_kept i c n ≡ true → slot_at s.core n ≡ Some x → c x.group ≡ true
named_inside i s c n x h fits kept is = elim (or_cases (in_groups c (slot_in i.slots n)) (i.split && nat_le 128 n && in_groups c (slot_in i.slots (n - 128))) kept) [
  | inl own ↦
      let was = stays_by s.core (start i).core n x (ap (map identity_of) (start_slots i) ∙ sym fits.same_slots) is in
      let there : slot_in i.slots n ≡ Some was.now = sym (start_at i n) ∙ was.is in
      let group : was.now.group ≡ x.group = ap (λ (k : ℕ × ℕ × Option ℕ). k.1) was.same in
      sym (ap c group) ∙ sym (ap (in_groups c) there) ∙ own
  | inr port ↦
      let all = all_true i.split (nat_le 128 n) (in_groups c (slot_in i.slots (n - 128))) port in
      let low = leb-true 128 n all.1 in
      let own = slot_has IsSlot s.core n x h.core.slots is in
      let number = slot_at-number s.core n x is in
      absurd (omega (arith, own.number))
]

quiet_after : (i : Image) (s : State) (c : ℕ → Bool) (n : ℕ) → IsState s → Fits i s → is_kept i c n ≡ true → Quiet c s → Quiet c (after s n)
unfolding after
quiet_after i s c n h fits kept quiet =
    let keeps = turn_keeps s.core s.memory h.core n in
    each_slot (λ (x : Slot). c x.group ≡ false → x.turns ≡ 0) (turn s.core s.memory n).core keeps.formed.rising
    (λ k now is outside.
    let from = turn_takes s.core s.memory n h.core fits.matched k now is in
    let same = stays_by s.core (turn s.core s.memory n).core k from.was keeps.identities from.stands in
    let two : ◌≡◌ {A = Option Slot} (Some same.now) (Some now) = sym same.is ∙ is in
    let one : same.now ≡ now = cc in
    let group : now.group ≡ from.was.group = sym (ap (λ (x : Slot). x.group) one) ∙ ap (λ (j : ℕ × ℕ × Option ℕ). j.1) same.same in
    let before : c from.was.group ≡ false = sym (ap c group) ∙ outside in
    elim from.turns [
      | inl stay ↦ stay ∙ slot_has (λ (x : Slot). c x.group ≡ false → x.turns ≡ 0) s.core k from.was quiet from.stands before
      | inr takes ↦
          let inside = named_inside i s c n from.was h fits kept (ap (slot_at s.core) (sym takes.0) ∙ from.stands) in
          cc (inside, before)
    ])

quiet_run : (i : Image) (s : State) (c : ℕ → Bool) (items : List ℕ) → IsImage i → IsState s → Fits i s → Quiet c s → Quiet c (run s (filter (is_kept i c) items))
unfolding run
quiet_run i s c [] img h fits quiet = quiet
quiet_run i s c (n ∷ items) img h fits quiet =
    by (is_kept i c n) refl (λ k. quiet_run i (after s n) c items img (after_state s n h) (after_fits i s n img h fits) k) (quiet_run i s c items img h fits quiet)
  where
    by : (b : Bool) → is_kept i c n ≡ b → (Quiet c (after s n) → Quiet c (run (after s n) (filter (is_kept i c) items)))
        → Quiet c (run s (filter (is_kept i c) items))
        → Quiet c (run s (cond b (n ∷ filter (is_kept i c) items) (filter (is_kept i c) items)))
    by true kept with_it without = with_it (quiet_after i s c n h fits kept quiet)
    by false kept with_it without = without

pub others_rest : (i : Image) (items : List ℕ) (c : ℕ → Bool) → IsImage i → (n : ℕ) (s : Slot) → slot_at (run (start i) (only i items c)).core n ≡ Some s → c s.group ≡ false → s.turns ≡ 0
unfolding only start
others_rest i items c h n s is outside =
    let none = start_within i h in
    let quiet : Quiet c (start i) = each_map (λ (x : Slot). x.turns ≤ (start i).cycles) (λ (x : Slot). c x.group ≡ false
    → x.turns ≡ 0) (λ x few out. let zero : (start i).cycles ≡ 0 = start_cycles i in omega arith)
    (slots_of (start i).core) none in
    slot_has (λ (x : Slot). c x.group ≡ false → x.turns ≡ 0) (run (start i) (filter (is_kept i c) items)).core n s (quiet_run i (start i) c items h (start_state i h) (start_fits i h) quiet) is outside
  where
    start_cycles : (i : Image) → (start i).cycles ≡ 0
    start_cycles i = refl
