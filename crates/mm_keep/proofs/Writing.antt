-- The words that pointers can write, and the segments that cover them.
use Rattle.std.proofs.Common.{◌≡◌, ◌⊎◌, inl, inr, ℕ, zero, suc, ◌+◌, ◌-◌, ◌*◌, ◌/◌, ◌%◌, ◌^◌, ◌<◌, ◌≤◌, Bool, true}
use Rattle.std.proofs.Common.{false, ◌&&◌, ◌||◌, List, [], ◌∷◌, length, take, get_or, refl, sym, ap, ◌∙◌, subst, arith}
use Rattle.std.proofs.Common.{pow_pos, eq-eqb, eqb-true, Result, Ok, Err}
use Rattle.std.proofs.Math.Nat.{div-mul-le_self, lt-div-mul-add, div-eq_of_lt-le}
use Rattle.std.proofs.lemmas.{Bool.{both_ways}, List.{take_all, Folds.list_any_more}}
use Rattle.std.proofs.lemmas.Nat.{pow-add, shl-shr, shr_split}
use Rattle.std.proofs.lemmas.List.Sorted.{list_any-IsPermutation}
use Rattle.std.specs.{Prelude.{OnOk}, List.{list_any, Sorted.IsPermutation}}
use Rattle.mm_word.specs.{Perm.can_store, Pointer.{Pointer, InSegment, IsWellFormed, base_of, in_segment, holds_word}}
use Rattle.mm_seg.specs.Segments.{IsSegment, IsMaximal, Covered, SomeHolds, segment_at, end_of}
use Rattle.mm_seg.proofs.Inserts.{at_in, in_at, in_first, in_rest, in_cases}
use Rattle.mm_kernel.specs.Segments.{may_write}
use Rattle.mm_keep.specs.Kernels.{CoversWritten, WritesToo}

-- the segment of a pointer
abbrev segment_of : Pointer → ℕ × ℕ
segment_of p = (base_of p, p.log)

pub pointer_segment : (p : Pointer) → IsWellFormed p → 3 ≤ p.log → IsSegment (base_of p, p.log)
pointer_segment p w long = record {
  low = long;
  high = w.log_in_range;
  aligned = ap (λ v. v * 2 ^ p.log) (shl-shr (p.addr / 2 ^ p.log) p.log);
  below = (let e = shr_split p.addr p.log in let b = w.addr_in_range in omega arith);
}

between : (p : Pointer) (a : ℕ) → InSegment p a → (base_of p ≤ a) × (a < end_of (segment_of p))
between p a h =
    let lo = div-mul-le_self a (2 ^ p.log) in
    let hi = lt-div-mul-add {a = a} (pow_pos p.log) in
    let lo2 : p.addr / 2 ^ p.log * 2 ^ p.log ≤ a = rw h at lo in
    let hi2 : a < p.addr / 2 ^ p.log * 2 ^ p.log + 2 ^ p.log = rw h at hi in
    (omega arith, omega arith)

in_by : (p : Pointer) (a : ℕ) → base_of p ≤ a → a < end_of (segment_of p) → InSegment p a
in_by p a lo hi = div-eq_of_lt-le (2 ^ p.log) lo (subst (λ v. a < v) (step (p.addr / 2 ^ p.log) (2 ^ p.log)) hi)
  where
    step : (b u : ℕ) → b * u + u ≡ (b + 1) * u
    step b u = grind arith

-- the length of a segment of at least a word is a multiple of eight
eights : (log : ℕ) → 3 ≤ log → 2 ^ log ≡ 8 * 2 ^ (log - 3)
eights log le = ap (λ n. 2 ^ n) (let e : log ≡ 3 + (log - 3) = omega arith in e) ∙ pow-add 2 3 (log - 3)

eight_first : (b r : ℕ) → b * (8 * r) ≡ 8 * (b * r)
eight_first b r = grind arith

whole : (b u r : ℕ) → u ≡ 8 * r → b * u ≡ 8 * (b * r)
whole b u r e = ap (λ v. b * v) e ∙ eight_first b r

-- an aligned word that begins in a segment ends in it
last_byte : (p : Pointer) (w : ℕ) → 3 ≤ p.log → w % 8 ≡ 0 → w < end_of (segment_of p) → w + 7 < end_of (segment_of p)
last_byte p w long even lt =
    let u = eights p.log long in
    let b = whole (p.addr / 2 ^ p.log) (2 ^ p.log) (2 ^ (p.log - 3)) u in
    omega arith

both_true : (a b : Bool) → a ≡ true → b ≡ true → (a && b) ≡ true
both_true true b e f = f
both_true false b e f = cc

pub may_write_in : (p : Pointer) (w : ℕ) → can_store p.perm ≡ true → 3 ≤ p.log → w % 8 ≡ 0
    → base_of p ≤ w → w < end_of (segment_of p) → may_write w p ≡ true
may_write_in p w stores long even lo hi =
    let last = last_byte p w long even hi in
    both_true (can_store p.perm) (holds_word p w) stores
    (both_true (in_segment p w) (in_segment p (w + 7)) (eq-eqb _ _ (in_by p w lo hi)) (eq-eqb _ _ (in_by p (w + 7) (omega arith) last)))

halves : (a b : Bool) → (a && b) ≡ true → (a ≡ true) × (b ≡ true)
halves true b e = (refl, e)
halves false b e = cc

pub written_in : (p : Pointer) (w : ℕ) → may_write w p ≡ true → (can_store p.perm ≡ true) × (base_of p ≤ w) × (w < end_of (segment_of p))
written_in p w e =
    let h = halves (can_store p.perm) (holds_word p w) e in
    let k = halves (in_segment p w) (in_segment p (w + 7)) h.1 in
    let b = between p w (eqb-true _ _ k.0) in
    (h.0, b.0, b.1)

-- a pointer to less than a word writes none
short : (log : ℕ) → (log < 3) → (log ≡ 0) ⊎ ((log ≡ 1) ⊎ (log ≡ 2))
short zero lt = inl refl
short (suc zero) lt = inr (inl refl)
short (suc (suc zero)) lt = inr (inr refl)
short (suc (suc (suc n))) lt = absurd (omega (arith, lt))

pub none_short : (p : Pointer) (w : ℕ) → p.log < 3 → w % 8 ≡ 0 → may_write w p ≡ true → ⊥
none_short p w lt even e =
    let h = halves (can_store p.perm) (holds_word p w) e in
    let k = halves (in_segment p w) (in_segment p (w + 7)) h.1 in
    let same : w / 2 ^ p.log ≡ (w + 7) / 2 ^ p.log = eqb-true _ _ k.0 ∙ sym (eqb-true _ _ k.1) in
    elim (short p.log lt) [
      | inl z ↦ let s : w / 2 ^ 0 ≡ (w + 7) / 2 ^ 0 = subst (λ n. w / 2 ^ n ≡ (w + 7) / 2 ^ n) z same in omega (arith, s, even)
      | inr m ↦ elim m [
        | inl z ↦ let s : w / 2 ^ 1 ≡ (w + 7) / 2 ^ 1 = subst (λ n. w / 2 ^ n ≡ (w + 7) / 2 ^ n) z same in omega (arith, s, even)
        | inr z ↦ let s : w / 2 ^ 2 ≡ (w + 7) / 2 ^ 2 = subst (λ n. w / 2 ^ n ≡ (w + 7) / 2 ^ n) z same in omega (arith, s, even)
      ]
    ]

-- after the insert of the segment of a pointer that stores
pub inserted : (p : Pointer) (old new : List (ℕ × ℕ)) → can_store p.perm ≡ true → 3 ≤ p.log → IsMaximal ((base_of p, p.log) ∷ old) new → WritesToo p old new
inserted p old new stores long m = record { covers = λ w even. (to w even, from w even) }
  where
    to : (w : ℕ) → w % 8 ≡ 0 → Covered new w → Covered old w ⊎ (may_write w p ≡ true)
    to w even c = elim (in_cases (segment_of p) (segment_at new c.by) old (m.from c.by c.at.0)) [
      | inl e ↦ inr (may_write_in p w stores long even
          (subst (λ (s : ℕ × ℕ). s.0 ≤ w) e c.at.1) (subst (λ (s : ℕ × ℕ). w < end_of s) e c.at.2))
      | inr more ↦ let f = in_at old (segment_at new c.by) more in
          inl (record { by = f.at; at = (f.small, subst (λ (s : ℕ × ℕ). s.0 ≤ w) f.is c.at.1, subst (λ (s : ℕ × ℕ). w < end_of s) f.is c.at.2) })
    ]

    wider : (w : ℕ) (s : ℕ × ℕ) → SomeHolds new s → s.0 ≤ w → w < end_of s → Covered new w
    wider w s b lo hi = record { by = b.at; at = (b.small, let p = b.within.0 in omega arith, let p = b.within.1 in omega arith) }

    from : (w : ℕ) → w % 8 ≡ 0 → Covered old w ⊎ (may_write w p ≡ true) → Covered new w
    from w even (inl c) = wider w (segment_at old c.by) (m.holds (segment_at old c.by) (in_rest (segment_of p) (segment_at old c.by) old (at_in old c.by c.at.0))) c.at.1 c.at.2
    from w even (inr e) = let b = written_in p w e in wider w (segment_of p) (m.holds (segment_of p) (in_first (segment_of p) old)) b.1 b.2

-- the same after an insert that may fail
pub inserted_ok : {E : Type 0} (p : Pointer) (old new : List (ℕ × ℕ)) (r : Result (Unit {0}) E) → can_store p.perm ≡ true → 3 ≤ p.log
    → OnOk r (IsMaximal ((base_of p, p.log) ∷ old) new) → OnOk r (WritesToo p old new)
inserted_ok p old new (Ok x) stores long m = inserted p old new stores long m
inserted_ok p old new (Err e) stores long m = tt

-- a pointer that writes no word
skipped : (p : Pointer) (set : List (ℕ × ℕ)) → ((w : ℕ) → w % 8 ≡ 0 → may_write w p ≡ true → ⊥) → WritesToo p set set
skipped p set none = record {
  covers = λ w even. (λ c. inl c, λ h. elim h [ inl c ↦ c | inr e ↦ absurd (none w even e) ]);
}

pub skips_store : (p : Pointer) (set : List (ℕ × ℕ)) → can_store p.perm ≡ false → WritesToo p set set
skips_store p set off = skipped p set (λ w even e. both_ways (can_store p.perm) off (written_in p w e).0)

pub skips_short : (p : Pointer) (set : List (ℕ × ℕ)) → p.log < 3 → WritesToo p set set
skips_short p set lt = skipped p set (λ w even e. none_short p w lt even e)

either : (a b : Bool) → (a || b) ≡ true → (a ≡ true) ⊎ (b ≡ true)
either true b e = inl refl
either false b e = inr e

left_true : (a b : Bool) → a ≡ true → (a || b) ≡ true
left_true true b e = refl
left_true false b e = cc

right_true : (a b : Bool) → b ≡ true → (a || b) ≡ true
right_true true b e = refl
right_true false b e = e

-- one pointer more
pub more_written : (ps : List Pointer) (k : ℕ) (p : Pointer) (old new : List (ℕ × ℕ)) → k < length ps → p ≡ get_or ps k p
    → CoversWritten (take k ps) old → WritesToo p old new → CoversWritten (take (k + 1) ps) new
more_written ps k p old new lt is before step = record { covers = λ w even. (to w even, from w even) }
  where
    more : (w : ℕ) → list_any (may_write w) (take (k + 1) ps) ≡ (list_any (may_write w) (take k ps) || may_write w p)
    more w = list_any_more (may_write w) ps k p lt ∙ ap (λ q. list_any (may_write w) (take k ps) || may_write w q) (sym is)

    to : (w : ℕ) → w % 8 ≡ 0 → list_any (may_write w) (take (k + 1) ps) ≡ true → Covered new w
    to w even e = elim (either (list_any (may_write w) (take k ps)) (may_write w p) (sym (more w) ∙ e)) [
      | inl early ↦ (step.covers w even).1 (inl ((before.covers w even).0 early))
      | inr here ↦ (step.covers w even).1 (inr here)
    ]

    from : (w : ℕ) → w % 8 ≡ 0 → Covered new w → list_any (may_write w) (take (k + 1) ps) ≡ true
    from w even c = elim ((step.covers w even).0 c) [
      | inl early ↦ more w ∙ left_true (list_any (may_write w) (take k ps)) (may_write w p) ((before.covers w even).1 early)
      | inr here ↦ more w ∙ right_true (list_any (may_write w) (take k ps)) (may_write w p) here
    ]

pub none_written : CoversWritten [] []
none_written = record { covers = λ w even. (λ e. cc, λ c. absurd (let lt = c.at.0 in omega (arith, lt))) }

-- all pointers
pub all_written : (ps : List Pointer) (k : ℕ) (set : List (ℕ × ℕ)) → length ps ≤ k → CoversWritten (take k ps) set → CoversWritten ps set
all_written ps k set le h = subst (λ l. CoversWritten l set) (take_all k ps le) h

-- the pointers in another order
pub written_in_order : (ps qs : List Pointer) (set : List (ℕ × ℕ)) → IsPermutation ps qs → CoversWritten qs set → CoversWritten ps set
written_in_order ps qs set same h = record {
  covers = λ w even. let e = list_any-IsPermutation (may_write w) ps qs same in
      ((λ c. (h.covers w even).0 (sym e ∙ c)), (λ c. e ∙ (h.covers w even).1 c));
}
