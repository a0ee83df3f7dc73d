-- Which items the members of an image keep.
use Rattle.std.proofs.Common.{◌≡◌, ℕ, zero, suc, ◌+◌, inl, inr, Bool, true, false, ◌==◌, if◌then◌else◌, List, [], ◌∷◌}
use Rattle.std.proofs.Common.{◌++◌, refl, sym, ap, ◌∙◌, subst, arith, eqb-true, eq-eqb}
use Rattle.std.proofs.lemmas.{Bool.{or_cases, or_left, or_right}, List.{Elements.filter_agree, Folds.list_any-append}}
use Rattle.std.specs.{Prelude.Contains, List.{filter, list_any}}
use Rattle.mm_model.specs.{Slot.Slot, Image.Image, Groups.{own_slots, HasSlotAt}, Spelling.IsImage}
use Rattle.mm_model.specs.{Schedule.{is_kept, only}, Worlds.alone}
use Rattle.mm_model.proofs.Filters.{contained_filter, filter_contained}
use Rattle.mm_laws.{specs.Restrictions.Belongs, proofs.Restricting.{kept_belongs, belongs_kept}}
use Rattle.mm_top.specs.Groups.{named, members_of}

-- 1. A number is among the members exactly where the item belongs to the groups.

named_has : (from n : ℕ) (slots : List Slot) → list_any (λ m. m == n) (named from slots) ≡ true → (s : Slot) × Contains slots s × (n ≡ from + s.number)
named_has from n [] e = cc
named_has from n (s ∷ slots) e = elim (or_cases (from + s.number == n) (list_any (λ m. m == n) (named from slots)) e) [
  | inl here ↦ (s, (0, omega arith, refl), sym (eqb-true (from + s.number) n here))
  | inr later ↦ let rest = named_has from n slots later in (rest.0, (suc rest.1.0, omega (arith, rest.1.1), rest.1.2), rest.2)
]

has_named : (from n : ℕ) (slots : List Slot) (s : Slot) → Contains slots s → n ≡ from + s.number → list_any (λ m. m == n) (named from slots) ≡ true
has_named from n [] s c e = absurd (omega (arith, c.1))
has_named from n (x ∷ slots) s (zero, lt, is) e =
    let same : from + x.number ≡ n = ap (λ (y : Slot). from + y.number) is ∙ sym e in
    or_left (from + x.number == n) (list_any (λ m. m == n) (named from slots)) (eq-eqb (from + x.number) n same)
has_named from n (x ∷ slots) s (suc k, lt, is) e =
    or_right (from + x.number == n) (list_any (λ m. m == n) (named from slots)) (has_named from n slots s (k, omega arith, is) e)

own_slot : (i : Image) (c : ℕ → Bool) (from n : ℕ) → list_any (λ m. m == n) (named from (own_slots c i.slots)) ≡ true → (k : ℕ) × (n ≡ from + k) × HasSlotAt i.slots c k
own_slot i c from n e =
    let found = named_has from n (own_slots c i.slots) e in
    let inside = filter_contained (λ (s : Slot). c s.group) i.slots found.0 found.1 in
    (found.0.number, found.2, record { slot = found.0; stands = inside.0; number = refl; member = inside.1 })

slot_own : (i : Image) (c : ℕ → Bool) (from n k : ℕ) → HasSlotAt i.slots c k → n ≡ from + k → list_any (λ m. m == n) (named from (own_slots c i.slots)) ≡ true
slot_own i c from n k has e =
    has_named from n (own_slots c i.slots) has.slot (contained_filter (λ (s : Slot). c s.group) i.slots has.slot has.stands has.member) (e ∙ ap (λ (x : ℕ). from + x) (sym has.number))

abbrev ports : Bool → List Slot → List ℕ
ports split slots = if split then named 128 slots else []

port_own : (i : Image) (c : ℕ → Bool) (n : ℕ) (split : Bool) → list_any (λ m. m == n) (ports split (own_slots c i.slots)) ≡ true → (split ≡ true) × ((k : ℕ) × (n ≡ 128 + k) × HasSlotAt i.slots c k)
port_own i c n true e = (refl, own_slot i c 128 n e)
port_own i c n false e = cc

own_port : (i : Image) (c : ℕ → Bool) (n k : ℕ) (split : Bool) → split ≡ true → n ≡ 128 + k → HasSlotAt i.slots c k → list_any (λ m. m == n) (ports split (own_slots c i.slots)) ≡ true
own_port i c n k true is e has = slot_own i c 128 n k has e
own_port i c n k false is e has = cc

member_belongs : (i : Image) (c : ℕ → Bool) (n : ℕ) → list_any (λ m. m == n) (named 0 (own_slots c i.slots) ++ ports i.split (own_slots c i.slots)) ≡ true → Belongs i c n
member_belongs i c n e =
    elim (or_cases (list_any (λ m. m == n) (named 0 (own_slots c i.slots)))
    (list_any (λ m. m == n) (ports i.split (own_slots c i.slots)))
    (sym (list_any-append (λ m. m == n) (named 0 (own_slots c i.slots)) (ports i.split (own_slots c i.slots))) ∙ e)) [
      | inl slot ↦ let found = own_slot i c 0 n slot in let same : n ≡ found.0 = omega (arith, found.1) in inl (subst (HasSlotAt i.slots c) (sym same) found.2)
      | inr port ↦ inr (port_own i c n i.split port)
    ]

belongs_member : (i : Image) (c : ℕ → Bool) (n : ℕ) → Belongs i c n → list_any (λ m. m == n) (named 0 (own_slots c i.slots) ++ ports i.split (own_slots c i.slots)) ≡ true
belongs_member i c n (inl slot) =
    list_any-append (λ m. m == n) (named 0 (own_slots c i.slots)) (ports i.split (own_slots c i.slots))
    ∙ or_left (list_any (λ m. m == n) (named 0 (own_slots c i.slots))) (list_any (λ m. m == n) (ports i.split (own_slots c i.slots))) (slot_own i c 0 n n slot (omega arith))
belongs_member i c n (inr port) =
    list_any-append (λ m. m == n) (named 0 (own_slots c i.slots)) (ports i.split (own_slots c i.slots))
    ∙ or_right (list_any (λ m. m == n) (named 0 (own_slots c i.slots))) (list_any (λ m. m == n) (ports i.split (own_slots c i.slots))) (own_port i c n port.1.0 i.split port.0 port.1.1 port.1.2)

same_test : (a b : Bool) → (a ≡ true → b ≡ true) → (b ≡ true → a ≡ true) → a ≡ b
same_test true b f g = sym (f refl)
same_test false true f g = g refl
same_test false false f g = refl

member_kept : (i : Image) (c : ℕ → Bool) → IsImage i → (n : ℕ) → list_any (λ m. m == n) (named 0 (own_slots c i.slots) ++ ports i.split (own_slots c i.slots)) ≡ is_kept i c n
member_kept i c img n =
    same_test (list_any (λ m. m == n) (named 0 (own_slots c i.slots) ++ ports i.split (own_slots c i.slots))) (is_kept i c n)
    (λ e. belongs_kept i img c n (member_belongs i c n e)) (λ e. belongs_member i c n (kept_belongs i c n e))

-- 2. So the items that are among them are those of the groups.

pub members_keep : (i : Image) (c : ℕ → Bool) → IsImage i → (items : List ℕ) → filter (λ n. list_any (λ m. m == n) (members_of (alone i c))) items ≡ only i items c
unfolding alone only
members_keep i c img items =
    filter_agree (λ n. list_any (λ m. m == n) (members_of (alone i c))) (is_kept i c) (member_kept i c img) items
