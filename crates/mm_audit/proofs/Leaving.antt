-- The first slot of some groups whose handler is outside.
use Rattle.std.proofs.Common.{◌≡◌, ℕ, zero, suc, ◌+◌, ◌*◌, ◌/◌, ◌%◌, ◌^◌, ◌<◌, ◌≤◌, ◌↔◌, inl, inr, bit_and}
use Rattle.std.proofs.Common.{bit_or, Bool, true, false, ◌==◌, if◌then◌else◌, List, [], ◌∷◌, ◌++◌, length, get_or, drop}
use Rattle.std.proofs.Common.{drop-cons, Option, Some, None, refl, sym, ap, ◌∙◌, subst, arith, eqb-true, eq-eqb}
use Rattle.std.proofs.lemmas.Bool.{both_ways, false_from_ne_true, true_from_ne_false, and_parts, and_from}
use Rattle.std.proofs.lemmas.Bool.{cases_eq}
use Rattle.std.proofs.lemmas.Nat.Bits.{bit_at-lt, bit_at-zero, shr_and_one, bit_at_set_same, bit_at_set_other}
use Rattle.std.proofs.lemmas.List.Folds.{Any-from_list_any, list_any_at}
use Rattle.std.proofs.lemmas.List.Elements.{All-from_recursion, All-contains, Contains-append_left, Contains-push}
use Rattle.std.proofs.lemmas.List.Elements.{Contains-push_cases}
use Rattle.std.specs.{Prelude.{Contains, IfSome}, List.list_any, Int.{bit_at, w64}}
use Rattle.mm_model.specs.{Slot.Slot, Image.{Image, slot_limit}}
use Rattle.mm_model.specs.Groups.{HasSlot, HasNoGroup, HandlersStayInside, HasSlotAt}
use Rattle.mm_model.{specs.Spelling.{IsImage, IsFresh, IsOther}, proofs.OwnSlots.{Ascends, ascends}}
use Rattle.mm_graph.proofs.KeyLists.{contains_here, contains_rest, contains_cases}
use Rattle.mm_audit.specs.{Inside.{is_out, leaves, first_leaving}, Refusals.{CrossesOut, FirstCrossing}}
use Rattle.mm_audit.proofs.Granted.{limit_small}

-- 1. Slots by their numbers.

above : (s t : Slot) (slots : List Slot) → Ascends (s ∷ slots) → Contains slots t → s.number < t.number
above s t slots h m = All-contains (λ (x : Slot). s.number < x.number) slots t (All-from_recursion _ slots h.0) m

-- one slot has a number
same_slot : (slots : List Slot) → Ascends slots → (s t : Slot) → Contains slots s → Contains slots t → s.number ≡ t.number → s ≡ t
same_slot [] h s t ms mt e = absurd (omega (arith, ms.1))
same_slot (x ∷ slots) h s t ms mt e = elim (contains_cases x s slots ms) [
  | inl here ↦ elim (contains_cases x t slots mt) [
    | inl there ↦ sym here ∙ there
    | inr later ↦ absurd (let lt = above x t slots h later in let number = ap (λ (v : Slot). v.number) here in omega arith)
  ]
  | inr old ↦ elim (contains_cases x t slots mt) [
    | inl there ↦ absurd (let lt = above x s slots h old in let number = ap (λ (v : Slot). v.number) there in omega arith)
    | inr later ↦ same_slot slots h.1 s t old later e
  ]
]

-- 2. The mask of the numbers of slots, with one slot more.

abbrev pub IsNumbers : ℕ → List Slot → (ℕ → Bool) → Type 0
IsNumbers inside slots c = (n : ℕ) → (bit_at inside n ≡ 1) ↔ HasSlotAt slots c n

pub no_numbers : (c : ℕ → Bool) → IsNumbers 0 [] c
no_numbers c n = (λ bit. absurd (let z = bit_at-zero n in omega arith), λ x. absurd (let lt = x.stands.1 in omega arith))

module _ (inside : ℕ) (slots : List Slot) (c : ℕ → Bool) (s : Slot) (h : IsNumbers inside slots c) where
  pub numbers_more : s.number < 64 → c s.group ≡ true → IsNumbers (bit_or inside (1 * 2 ^ s.number % 2 ^ 64)) (slots ++ s ∷ []) c
  numbers_more lt member n = elim (cases_eq n s.number) [
    | inl e ↦ (
      λ bit. record { slot = s; stands = Contains-push slots s; number = sym e; member = member },
      λ x. ap (bit_at (bit_or inside (1 * 2 ^ s.number % 2 ^ 64))) e ∙ bit_at_set_same w64 inside s.number lt,
    )
    | inr ne ↦
        let same : bit_at (bit_or inside (1 * 2 ^ s.number % 2 ^ 64)) n ≡ bit_at inside n = bit_at_set_other w64 inside s.number lt n ne in (
          λ bit. let x = (h n).0 (sym same ∙ bit) in record { slot = x.slot; stands = Contains-append_left slots (s ∷ []) x.slot x.stands; number = x.number; member = x.member },
          λ x. same ∙ (h n).1 (elim (Contains-push_cases slots s x.slot x.stands) [
            | inl old ↦ record { slot = x.slot; stands = old; number = x.number; member = x.member }
            | inr e ↦ absurd (ne (sym x.number ∙ ap (λ (v : Slot). v.number) (sym e)))
          ]),
        )
  ]

  pub numbers_skip : c s.group ≡ false → IsNumbers inside (slots ++ s ∷ []) c
  numbers_skip out n = (
    λ bit. let x = (h n).0 bit in record { slot = x.slot; stands = Contains-append_left slots (s ∷ []) x.slot x.stands; number = x.number; member = x.member },
    λ x. (h n).1 (elim (Contains-push_cases slots s x.slot x.stands) [
      | inl old ↦ record { slot = x.slot; stands = old; number = x.number; member = x.member }
      | inr e ↦ absurd (both_ways (c x.slot.group) (sym (ap (λ (v : Slot). c v.group) e) ∙ out) x.member)
    ]),
  )

-- 3. The first of a list.

pub none_leaves : (inside : ℕ) (slots : List Slot) → first_leaving inside slots ≡ None → (s : Slot) → Contains slots s → leaves inside s ≡ false
none_leaves inside [] e s m = absurd (omega (arith, m.1))
none_leaves inside (x ∷ slots) e s m = by (leaves inside x) refl e (λ none later. none_leaves inside slots none s later)
  where
    by : (b : Bool) → leaves inside x ≡ b → (if b then Some x.number else first_leaving inside slots) ≡ None
        → (first_leaving inside slots ≡ None → Contains slots s → leaves inside s ≡ false) → leaves inside s ≡ false
    by true t none rest = cc
    by false f none rest = elim (contains_cases x s slots m) [ inl here ↦ sym (ap (leaves inside) here) ∙ f | inr later ↦ rest none later ]

pub record First (inside : ℕ) (slots : List Slot) (n : ℕ) : Type 0 where
  pub slot : Slot
  pub stands : Contains slots slot
  pub out : leaves inside slot ≡ true
  pub number : slot.number ≡ n
  pub least : (t : Slot) → Contains slots t → leaves inside t ≡ true → n ≤ t.number

pub first_leaves : (inside : ℕ) (slots : List Slot) (n : ℕ) → Ascends slots → first_leaving inside slots ≡ Some n → First inside slots n
first_leaves inside [] n up e = cc
first_leaves inside (x ∷ slots) n up e = by (leaves inside x) refl e (λ is. first_leaves inside slots n up.1 is)
  where
    by : (b : Bool) → leaves inside x ≡ b → (if b then Some x.number else first_leaving inside slots) ≡ Some n
        → (first_leaving inside slots ≡ Some n → First inside slots n) → First inside (x ∷ slots) n
    by true t is rest =
        let number : x.number ≡ n = cc in
        record {
          slot = x;
          stands = contains_here x slots;
          out = t;
          number = number;
          least = λ s m out. elim (contains_cases x s slots m) [
            | inl here ↦ let same = ap (λ (v : Slot). v.number) here in omega arith
            | inr later ↦ let lt = above x s slots up later in omega arith
          ];
        }
    by false f is rest =
        let r = rest is in
        record {
          slot = r.slot;
          stands = contains_rest x r.slot slots r.stands;
          out = r.out;
          number = r.number;
          least = λ s m out. elim (contains_cases x s slots m) [
            | inl here ↦ absurd (both_ways (leaves inside s) (sym (ap (leaves inside) here) ∙ f) out)
            | inr later ↦ r.least s later out
          ];
        }

-- from a place on

pub leaving_here : (inside : ℕ) (slots : List Slot) (k : ℕ) (s : Slot) → k < length slots → s ≡ get_or slots k s → leaves inside s ≡ true → first_leaving inside (drop k slots) ≡ Some s.number
leaving_here inside slots k s lt is t =
    ap (first_leaving inside) (drop-cons slots k s lt ∙ ap (λ v. v ∷ drop (suc k) slots) (sym is)) ∙ ap (λ b. if b then Some s.number else first_leaving inside (drop (suc k) slots)) t

pub leaving_later : (inside : ℕ) (slots : List Slot) (k : ℕ) (s : Slot) → k < length slots → s ≡ get_or slots k s
    → leaves inside s ≡ false → first_leaving inside (drop k slots) ≡ first_leaving inside (drop (k + 1) slots)
leaving_later inside slots k s lt is f =
    ap (first_leaving inside) (drop-cons slots k s lt ∙ ap (λ v. v ∷ drop (suc k) slots) (sym is)) ∙ ap (λ b. if b then Some s.number else first_leaving inside (drop (suc k) slots)) f
    ∙ ap (λ n. first_leaving inside (drop n slots)) (let e : suc k ≡ k + 1 = omega arith in e)

pub leaving_end : (inside : ℕ) (slots : List Slot) (k : ℕ) → length slots ≤ k → first_leaving inside (drop k slots) ≡ None
leaving_end inside [] zero le = refl
leaving_end inside [] (suc k) le = refl
leaving_end inside (s ∷ slots) zero le = absurd (omega arith)
leaving_end inside (s ∷ slots) (suc k) le = leaving_end inside slots k (omega arith)

-- 4. A slot leaves just where it crosses.

module _ (i : Image) (img : IsImage i) where
  pub fresh : (s : Slot) → Contains i.slots s → IsFresh (slot_limit i.version) i.slots s
  fresh s m = All-contains (IsFresh (slot_limit i.version) i.slots) i.slots s (All-from_recursion _ i.slots img.fresh) m

  pub number_small : (s : Slot) → Contains i.slots s → s.number < 64
  number_small s m = let a = (fresh s m).number in let b = limit_small i img in omega arith

  other_small : (n : ℕ) (o : Option ℕ) → IfSome o (IsOther i.slots n) → IfSome o (λ h. h < 64)
  other_small n None h = tt
  other_small n (Some v) h = let lt = number_small h.1.0 h.1.1 in let e = h.1.2 in omega arith

  pub handler_small : (s : Slot) → Contains i.slots s → IfSome s.handler (λ h. h < 64)
  handler_small s m = other_small s.number s.handler (fresh s m).handler

  module _ (c : ℕ → Bool) (inside : ℕ) (numbers : IsNumbers inside i.slots c) where
    member_from : (s : Slot) → Contains i.slots s → bit_at inside s.number ≡ 1 → c s.group ≡ true
    member_from s m bit =
        let x = (numbers s.number).0 bit in
        ap (λ (v : Slot). c v.group) (same_slot i.slots (ascends i.slots img.rising) s x.slot m x.stands (sym x.number)) ∙ x.member

    bit_from : (s : Slot) → Contains i.slots s → c s.group ≡ true → bit_at inside s.number ≡ 1
    bit_from s m member = (numbers s.number).1 (record { slot = s; stands = m; number = refl; member = member })

    clear_from : (s : Slot) → Contains i.slots s → c s.group ≡ false → bit_at inside s.number ≡ 0
    clear_from s m out = only (bit_at inside s.number) (bit_at-lt inside s.number) (λ bit. both_ways (c s.group) out (member_from s m bit))
      where
        only : (b : ℕ) → b < 2 → (b ≡ 1 → ⊥) → b ≡ 0
        only zero lt ne = refl
        only (suc zero) lt ne = absurd (ne refl)
        only (suc (suc n)) lt ne = absurd (omega arith)

    crosses_from : (s : Slot) → Contains i.slots s → leaves inside s ≡ true → CrossesOut i c s.number
    crosses_from s m out =
        let t = and_parts (bit_and (inside / 2 ^ s.number) 1 == 1) (is_out inside s.handler) out in
        by (member_from s m (sym (shr_and_one inside s.number) ∙ eqb-true _ _ t.0)) s.handler refl (fresh s m).handler t.1
      where
        by : c s.group ≡ true → (o : Option ℕ) → s.handler ≡ o → IfSome o (IsOther i.slots s.number) → is_out inside o ≡ true → CrossesOut i c s.number
        by member None e h x = cc
        by member (Some v) e h x =
            let t = h.1.0 in
            let clear : bit_at inside v ≡ 0 = sym (shr_and_one inside v) ∙ eqb-true _ _ x in
            let out : c t.group ≡ false = false_from_ne_true (c t.group) (λ member_too. let bit = bit_from t h.1.1 member_too in let same = ap (bit_at inside) h.1.2 in omega arith) in
            record {
              crosses = record {
                served = s;
                server = t;
                one = m;
                other = h.1.1;
                number = refl;
                handled = e ∙ ap (λ (y : ℕ). Some y) (sym h.1.2);
                sides = λ same. both_ways (c t.group) out (sym same ∙ member);
              };
              inside = member;
            }

    leaves_from : (s h : Slot) → Contains i.slots s → Contains i.slots h → s.handler ≡ Some h.number → c s.group ≡ true → c h.group ≡ false → leaves inside s ≡ true
    leaves_from s h ms mh handled member out =
        and_from (bit_and (inside / 2 ^ s.number) 1 == 1) (is_out inside s.handler) (eq-eqb _ _ (shr_and_one inside s.number ∙ bit_from s ms member))
        (ap (is_out inside) handled ∙ eq-eqb _ _ (shr_and_one inside h.number ∙ clear_from h mh out))

    crossing_leaves : (n : ℕ) (x : CrossesOut i c n) → leaves inside x.crosses.served ≡ true
    crossing_leaves n x =
        let y = x.crosses in
        leaves_from y.served y.server y.one y.other y.handled x.inside (false_from_ne_true (c y.server.group) (λ t. y.sides (x.inside ∙ sym t)))

    pub all_stay : first_leaving inside i.slots ≡ None → HandlersStayInside i c
    all_stay e s h ms mh handled member =
        true_from_ne_false (c h.group) (λ out. both_ways (leaves inside s) (none_leaves inside i.slots e s ms) (leaves_from s h ms mh handled member out))

    pub first_crosses : (n : ℕ) → first_leaving inside i.slots ≡ Some n → FirstCrossing i c n
    first_crosses n e =
        let f = first_leaves inside i.slots n (ascends i.slots img.rising) e in
        record {
          crosses = subst (CrossesOut i c) f.number (crosses_from f.slot f.stands f.out);
          least = λ m x. let le = f.least x.crosses.served x.crosses.one (crossing_leaves m x) in let number = x.crosses.number in omega arith;
        }

-- 5. Whether a slot is of one of the groups.

pub no_group : (i : Image) (c : ℕ → Bool) → list_any (λ (s : Slot). c s.group) i.slots ≡ false → HasNoGroup i c
no_group i c none s m = false_from_ne_true (c s.group)
    (λ t. both_ways (list_any (λ (v : Slot). c v.group) i.slots) none (list_any_at (λ (v : Slot). c v.group) i.slots m.0 s m.1 (ap (λ (v : Slot). c v.group) m.2 ∙ t)))

pub some_group : (i : Image) (c : ℕ → Bool) → list_any (λ (s : Slot). c s.group) i.slots ≡ true → HasSlot i c
some_group i c some = let a = Any-from_list_any (λ (s : Slot). c s.group) i.slots some in record { slot = a.1; stands = (a.0, a.2, a.3); member = a.4 }
