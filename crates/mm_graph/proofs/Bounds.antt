-- A pointer covers the words between the base and the end of its segment.
use Rattle.std.proofs.Math.Nat.{div-mul-le_self, lt-div-mul-add, div-eq_of_lt-le}
use Rattle.std.proofs.Common.{◌≡◌, ℕ, ◌+◌, ◌-◌, ◌*◌, ◌/◌, ◌%◌, ◌^◌, ◌<◌, ◌≤◌, ◌⊎◌, inl, inr, Bool, true, false, ◌&&◌}
use Rattle.std.proofs.Common.{nat_le, refl, sym, ap, ◌∙◌, subst, arith, pow_pos, pow-add}
use Rattle.std.proofs.lemmas.Bool.{cases_lt, and_parts, Decides.nat_tests}
use Rattle.mm_word.specs.declared.{perm.{Perm.{Perm, TheVariants.{Ro, Rw, Xu, Xp, Eu, Ep, Key as KeyPerm}}}}
use Rattle.mm_word.specs.{Perm.{can_load, can_store, is_privileged}, Pointer.{Pointer, Covers, base_of}}
use Rattle.mm_word.proofs.Below.{Covers-short}
use Rattle.mm_model.specs.Reach.{LoadsAt, StoresAt}
use Rattle.mm_graph.specs.Key.{loads_words, stores_words, is_entry}

pub covers_in : (p : Pointer) (w : ℕ) → Covers p w → (base_of p ≤ w) × (w < base_of p + 2 ^ p.log)
covers_in p w c =
    let e = c 0 (omega arith) in
    let lo = div-mul-le_self (w + 0) (2 ^ p.log) in
    let hi = lt-div-mul-add {a = w + 0} (pow_pos p.log) in
    let lo2 : p.addr / 2 ^ p.log * 2 ^ p.log ≤ w + 0 = rw e at lo in
    let hi2 : w + 0 < p.addr / 2 ^ p.log * 2 ^ p.log + 2 ^ p.log = rw e at hi in
    (omega arith, omega arith)

-- a segment of at least a word is made of words
pub record OfWords (p : Pointer) : Type 0 where
  pub units : ℕ
  pub start : ℕ
  pub size : units * 8 ≡ 2 ^ p.log
  pub base : start * 8 ≡ base_of p

pub assoc : (x y z : ℕ) → x * y * z ≡ x * (y * z)
assoc x y z = grind arith

pub of_words : (p : Pointer) → 3 ≤ p.log → OfWords p
of_words p long =
    let eight : 2 ^ (p.log - 3) * 8 ≡ 2 ^ p.log = sym (pow-add 2 (p.log - 3) 3) ∙ ap (λ v. 2 ^ v) (let e : (p.log - 3) + 3 ≡ p.log = omega arith in e) in
    record {
      units = 2 ^ (p.log - 3);
      start = p.addr / 2 ^ p.log * 2 ^ (p.log - 3);
      size = eight;
      base = assoc (p.addr / 2 ^ p.log) (2 ^ (p.log - 3)) 8 ∙ ap (λ v. p.addr / 2 ^ p.log * v) eight;
    }

pub in_covers : (p : Pointer) (w : ℕ) → 3 ≤ p.log → w % 8 ≡ 0 → base_of p ≤ w → w < base_of p + 2 ^ p.log → Covers p w
in_covers p w long aligned lo hi k small =
    let o = of_words p long in
    let size = o.size in
    let base = o.base in
    let under : w + k < base_of p + 2 ^ p.log = omega arith in
    div-eq_of_lt-le (2 ^ p.log) (omega arith) (subst (λ v. w + k < v) (step (p.addr / 2 ^ p.log) (2 ^ p.log)) under)
  where
    step : (b u : ℕ) → b * u + u ≡ (b + 1) * u
    step b u = grind arith

pub three : (n : ℕ) → nat_le 3 n ≡ true → 3 ≤ n
three n h = grind (arith, nat_tests)

pub three_then : (n : ℕ) → 3 ≤ n → nat_le 3 n ≡ true
three_then n h = grind (arith, nat_tests)

join : (a b : Bool) → a ≡ true → b ≡ true → a && b ≡ true
join true true x y = refl
join true false x y = cc
join false b x y = cc

pub loads_then : (p : Pointer) → loads_words p ≡ true → (can_load p.perm ≡ true) × (3 ≤ p.log)
loads_then p h = let x = and_parts (can_load p.perm) (nat_le 3 p.log) h in (x.0, three p.log x.1)

pub stores_then : (p : Pointer) → stores_words p ≡ true → (can_store p.perm ≡ true) × (3 ≤ p.log)
stores_then p h = let x = and_parts (can_store p.perm) (nat_le 3 p.log) h in (x.0, three p.log x.1)

pub long : (p : Pointer) (w : ℕ) → Covers p w → 3 ≤ p.log
long p w c = elim (cases_lt p.log 3) [ inl short ↦ absurd (Covers-short p short w c) | inr le ↦ le ]

pub loads_test : (p : Pointer) (w : ℕ) → LoadsAt p w → loads_words p ≡ true
loads_test p w h = join (can_load p.perm) (nat_le 3 p.log) h.right (three_then p.log (long p w h.covers))

pub stores_test : (p : Pointer) (w : ℕ) → StoresAt p w → stores_words p ≡ true
stores_test p w h = join (can_store p.perm) (nat_le 3 p.log) h.right (three_then p.log (long p w h.covers))

pub makes_test : (p : Perm) → p ≡ Xp → is_privileged p ≡ true
makes_test p e = ap is_privileged e

pub makes_then : (p : Perm) → is_privileged p ≡ true → p ≡ Xp
makes_then Xp h = refl
makes_then Ro h = cc
makes_then Rw h = cc
makes_then Xu h = cc
makes_then Eu h = cc
makes_then Ep h = cc
makes_then KeyPerm h = cc

pub entry_test : (p : Perm) → (p ≡ Eu) ⊎ (p ≡ Ep) → is_entry p ≡ true
entry_test p (inl e) = ap is_entry e
entry_test p (inr e) = ap is_entry e

pub entry_then : (p : Perm) → is_entry p ≡ true → (p ≡ Eu) ⊎ (p ≡ Ep)
entry_then Eu h = inl refl
entry_then Ep h = inr refl
entry_then Ro h = cc
entry_then Rw h = cc
entry_then Xu h = cc
entry_then Xp h = cc
entry_then KeyPerm h = cc
