-- The pending loads of a slot, register by register.
use Rattle.std.proofs.Common.{◌≡◌, ℕ, ◌+◌, ◌<◌, ◌≤◌, inl, inr, Bool, true, false, cond, eqb, eq-eqb, List, [], ◌∷◌}
use Rattle.std.proofs.Common.{length, refl, sym, ap, ◌∙◌, arith}
use Rattle.std.proofs.lemmas.{Bool.{cases_lt, Decides.nat_tests}, List.{get_or_past, Recursion.is_count_by}}
use Rattle.std.specs.List.{AllByRecursion, count_by}
use Rattle.mm_model.proofs.Bytes.Bitmaps.{length-flags}
use Rattle.mm_model.specs.{declared.slot.Pending.Pending, Flags.flags, Slot.{Slot, is_empty}, Fits.loads_for}
use Rattle.mm_machine.{specs.Snapshot.{RegisterStands, IsPending}, proofs.Steps.add_one}

pub sixteen_flags : (n : ℕ) → length (flags 16 n) ≡ 16
sixteen_flags n = length-flags 16 n

abbrev AreSmall : List Pending → Type 0
AreSmall ps = AllByRecursion (λ (p : Pending). p.reg < 16) ps

pub loads_counted : (r : ℕ) (ps : List Pending) → loads_for r ps ≡ count_by (λ (p : Pending). eqb p.reg r) ps
loads_counted r ps = is_count_by (loads_for r) (λ (p : Pending). eqb p.reg r) refl (λ p qs. add_one (eqb p.reg r) (loads_for r qs)) ps

differs : (a b : ℕ) → a < 16 → 16 ≤ b → eqb a b ≡ false
differs a b small large = grind (arith, nat_tests)

none_large : (ps : List Pending) (r : ℕ) → 16 ≤ r → AreSmall ps → loads_for r ps ≡ 0
none_large [] r large h = refl
none_large (p ∷ ps) r large h = rw (differs p.reg r h.0 large) (none_large ps r large h.1)

-- a register past the last one is not empty
never_empty : (s : Slot) (r : ℕ) → length s.empty ≡ 16 → 16 ≤ r → is_empty s r ≡ false
unfolding is_empty
never_empty s r long large = get_or_past s.empty r false (omega arith)

pub pending_all : (s : Slot) → length s.empty ≡ 16 → AreSmall s.pending → ((r : ℕ) → r < 16 → RegisterStands s r) → IsPending s
pending_all s long small each r = elim (cases_lt r 16) as (λ _. RegisterStands s r) [
  | inl lt ↦ each r lt
  | inr ge ↦ record {
    loads = sym (loads_counted r s.pending) ∙ none_large s.pending r ge small ∙ ap (λ b. cond {A = ℕ} b 1 0) (sym (never_empty s r long ge));
    zero = λ is. absurd (cc (is, never_empty s r long ge));
  }
]

later_none : (b : Bool) (n : ℕ) → cond b (n + 1) n ≡ 0 → n ≡ 0
later_none true n is = omega (arith, is)
later_none false n is = is

one_counted : (p : Pending) (ps : List Pending) → loads_for p.reg (p ∷ ps) ≡ 0 → ⊥
one_counted p ps is = let e : loads_for p.reg ps + 1 ≡ 0 = rw (eq-eqb p.reg p.reg refl) at is in omega (arith, e)

-- no entry is for a register past the last one
small_all : (ps : List Pending) → ((r : ℕ) → 16 ≤ r → loads_for r ps ≡ 0) → AreSmall ps
small_all [] none = tt
small_all (p ∷ ps) none = (
  elim (cases_lt p.reg 16) as (λ _. p.reg < 16) [ inl lt ↦ lt | inr ge ↦ absurd (one_counted p ps (none p.reg ge)) ],
  small_all ps (λ r large. later_none (eqb p.reg r) (loads_for r ps) (none r large)),
)

pub pending_small : (s : Slot) → length s.empty ≡ 16 → IsPending s → AreSmall s.pending
pending_small s long h = small_all s.pending (λ r large. loads_counted r s.pending ∙ (h r).loads ∙ ap (λ b. cond {A = ℕ} b 1 0) (never_empty s r long large))
