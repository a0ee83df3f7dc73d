-- A pointer whose segment shares an address with a kept one meets the kept segments; what lies within it does not leave it.
use Rattle.std.proofs.Common.{◌≡◌, ℕ, ◌/◌, ◌^◌, ◌<◌, ◌≤◌, ◌⊎◌, inl, inr, Bool, true, false, ◌||◌, List, [], ◌∷◌, refl}
use Rattle.std.proofs.Common.{sym, ap, ◌∙◌, subst, arith, eqb-true, eq-eqb, leb-true, nat_le, ◌+◌}
use Rattle.std.proofs.lemmas.Bool.{cases_lt, and_parts, and_from, or_cases, or_left, or_right, le-leb}
use Rattle.std.{proofs.lemmas.{Bool.false_from_ne_true, Nat.shl-shr}, specs.List.list_any}
use Rattle.mm_word.specs.Pointer.{Pointer, InSegment, in_segment, holds_word, base_of, IsBelow}
use Rattle.mm_word.proofs.Segments.{segment_widens, inside_is_shorter}
use Rattle.mm_kernel.specs.Segments.{Segment, lies_in, is_kept, meets_segment, meets, lies_inside, is_inside}
use Rattle.mm_kernel.specs.Forms.{segment_of, PointsInside}

-- 1. Lists.

pub any_mono : {A : Type 0} (p q : A → Bool) → ((x : A) → p x ≡ true → q x ≡ true) → (xs : List A) → list_any p xs ≡ true → list_any q xs ≡ true
any_mono p q f [] e = e
any_mono p q f (x ∷ xs) e = by (or_cases (p x) (list_any p xs) e) (λ k. any_mono p q f xs k)
  where
    by : (p x ≡ true) ⊎ (list_any p xs ≡ true) → (list_any p xs ≡ true → list_any q xs ≡ true) → (q x || list_any q xs) ≡ true
    by (inl k) rest = or_left (q x) (list_any q xs) (f x k)
    by (inr k) rest = or_right (q x) (list_any q xs) (rest k)

-- 2. Within.

-- a pointer's segment lies in another's
pub record Within (q p : Pointer) : Type 0 where
  pub shorter : q.log ≤ p.log
  pub here : InSegment p q.addr

pub within_all : (q p : Pointer) → Within q p → (a : ℕ) → InSegment q a → InSegment p a
within_all q p h a e = segment_widens q.log p.log a q.addr h.shorter e ∙ h.here

pub below_within : (q p : Pointer) → IsBelow q p → Within q p
below_within q p (inl e) = subst (λ x. Within x p) (sym e) (record { shorter = omega arith; here = refl })
below_within q p (inr n) = record { shorter = inside_is_shorter q.log p.log q.addr p.addr n.inside; here = n.inside q.addr refl }

-- 3. Meeting.

segment_common : (p : Pointer) (seg : Segment) (a : ℕ) → InSegment p a → a / 2 ^ seg.1 ≡ seg.0 / 2 ^ seg.1 → meets_segment p seg ≡ true
segment_common p seg a h k = by (cases_lt p.log seg.1)
  where
    by : (p.log < seg.1) ⊎ (seg.1 ≤ p.log) → (in_segment p seg.0 || lies_in p.addr seg) ≡ true
    by (inl lt) = or_right (in_segment p seg.0) (lies_in p.addr seg) (eq-eqb (p.addr / 2 ^ seg.1) (seg.0 / 2 ^ seg.1) (sym (segment_widens p.log seg.1 a p.addr (omega arith) h) ∙ k))
    by (inr le) = or_left (in_segment p seg.0) (lies_in p.addr seg) (eq-eqb (seg.0 / 2 ^ p.log) (p.addr / 2 ^ p.log) (sym (segment_widens seg.1 p.log a seg.0 le k) ∙ h))

segment_within : (q p : Pointer) → Within q p → (seg : Segment) → meets_segment q seg ≡ true → meets_segment p seg ≡ true
segment_within q p h seg e = by (or_cases (in_segment q seg.0) (lies_in q.addr seg) e)
  where
    by : (in_segment q seg.0 ≡ true) ⊎ (lies_in q.addr seg ≡ true) → meets_segment p seg ≡ true
    by (inl k) = segment_common p seg seg.0 (within_all q p h seg.0 (eqb-true (seg.0 / 2 ^ q.log) (q.addr / 2 ^ q.log) k)) refl
    by (inr k) = segment_common p seg q.addr h.here (eqb-true (q.addr / 2 ^ seg.1) (seg.0 / 2 ^ seg.1) k)

pub meets_within : (kept : List Segment) (q p : Pointer) → Within q p → meets kept q ≡ true → meets kept p ≡ true
unfolding meets
meets_within kept q p h e = any_mono (meets_segment q) (meets_segment p) (segment_within q p h) kept e

pub outside_within : (kept : List Segment) (q p : Pointer) → Within q p → meets kept p ≡ false → meets kept q ≡ false
outside_within kept q p h e = false_from_ne_true (meets kept q) (λ k. let m = meets_within kept q p h k in cc)

-- a pointer with a kept word in its segment meets the kept segments
pub meets_kept : (kept : List Segment) (p : Pointer) (w : ℕ) → InSegment p w → is_kept kept w ≡ true → meets kept p ≡ true
unfolding meets is_kept
meets_kept kept p w h e = any_mono (lies_in w) (meets_segment p) (λ seg k. segment_common p seg w h (eqb-true (w / 2 ^ seg.1) (seg.0 / 2 ^ seg.1) k)) kept e

pub not_kept : (kept : List Segment) (p : Pointer) (w : ℕ) → InSegment p w → meets kept p ≡ false → is_kept kept w ≡ false
not_kept kept p w h e = false_from_ne_true (is_kept kept w) (λ k. let m = meets_kept kept p w h k in cc)

pub holds_in : (p : Pointer) (w : ℕ) → holds_word p w ≡ true → InSegment p w
holds_in p w h = eqb-true (w / 2 ^ p.log) (p.addr / 2 ^ p.log) (and_parts (in_segment p w) (in_segment p (w + 7)) h).0

-- meeting goes by the segment alone
pub meets_same : (kept : List Segment) (p q : Pointer) → q.log ≡ p.log → q.addr ≡ p.addr → meets kept q ≡ meets kept p
unfolding meets
meets_same kept p q l a = by kept
  where
    one : (seg : Segment) → meets_segment q seg ≡ meets_segment p seg
    one seg = cc

    by : (xs : List Segment) → list_any (meets_segment q) xs ≡ list_any (meets_segment p) xs
    by [] = refl
    by (x ∷ xs) = by2 (one x) (by xs)
      where
        by2 : meets_segment q x ≡ meets_segment p x → list_any (meets_segment q) xs ≡ list_any (meets_segment p) xs
            → (meets_segment q x || list_any (meets_segment q) xs) ≡ (meets_segment p x || list_any (meets_segment p) xs)
        by2 e f = ap (λ b. b || list_any (meets_segment q) xs) e ∙ ap (λ b. meets_segment p x || b) f

-- 4. Inside.

segment_inside : (q p : Pointer) → Within q p → (seg : Segment) → lies_inside p seg ≡ true → lies_inside q seg ≡ true
segment_inside q p h seg e =
    let parts = and_parts (nat_le p.log seg.1) (lies_in p.addr seg) e in
    let le : p.log ≤ seg.1 = leb-true p.log seg.1 parts.0 in
    let shorter = h.shorter in
    and_from (nat_le q.log seg.1) (lies_in q.addr seg) (le-leb q.log seg.1 (omega arith))
    (eq-eqb (q.addr / 2 ^ seg.1) (seg.0 / 2 ^ seg.1) (segment_widens p.log seg.1 q.addr p.addr le h.here ∙ eqb-true (p.addr / 2 ^ seg.1) (seg.0 / 2 ^ seg.1) parts.1))

pub inside_within : (kept : List Segment) (q p : Pointer) → Within q p → is_inside kept p ≡ true → is_inside kept q ≡ true
unfolding is_inside
inside_within kept q p h e = any_mono (lies_inside p) (lies_inside q) (segment_inside q p h) kept e

segment_holds : (p : Pointer) (a : ℕ) → InSegment p a → (seg : Segment) → lies_inside p seg ≡ true → lies_in a seg ≡ true
segment_holds p a h seg e =
    let parts = and_parts (nat_le p.log seg.1) (lies_in p.addr seg) e in
    eq-eqb (a / 2 ^ seg.1) (seg.0 / 2 ^ seg.1) (segment_widens p.log seg.1 a p.addr (leb-true p.log seg.1 parts.0) h ∙ eqb-true (p.addr / 2 ^ seg.1) (seg.0 / 2 ^ seg.1) parts.1)

-- each word in the segment of a pointer that is inside is kept
pub inside_kept : (kept : List Segment) (p : Pointer) (w : ℕ) → InSegment p w → is_inside kept p ≡ true → is_kept kept w ≡ true
unfolding is_inside is_kept
inside_kept kept p w h e = any_mono (lies_inside p) (lies_in w) (segment_holds p w h) kept e

base_same : (p : Pointer) → base_of p / 2 ^ p.log ≡ p.addr / 2 ^ p.log
base_same p = shl-shr (p.addr / 2 ^ p.log) p.log

-- what points inside another lies within it, and the other way round
pub points_within : (outer q : Pointer) → PointsInside outer q → Within q outer
points_within outer q h =
    let parts = and_parts (nat_le q.log outer.log) (lies_in q.addr (segment_of outer)) h.inside in
    record {
      shorter = leb-true q.log outer.log parts.0;
      here = eqb-true (q.addr / 2 ^ outer.log) (base_of outer / 2 ^ outer.log) parts.1 ∙ base_same outer;
    }

pub within_points : (outer q : Pointer) → q.perm ≡ outer.perm → Within q outer → PointsInside outer q
within_points outer q perm h = record {
  perm = perm;
  inside = and_from (nat_le q.log outer.log) (lies_in q.addr (segment_of outer)) (le-leb q.log outer.log h.shorter)
      (eq-eqb (q.addr / 2 ^ outer.log) (base_of outer / 2 ^ outer.log) (h.here ∙ sym (base_same outer)));
}

-- a word of the inner one lies in the part of the outer one
pub word_in_part : (outer q : Pointer) (w : ℕ) → Within q outer → InSegment q w → lies_in w (outer.addr, outer.log) ≡ true
word_in_part outer q w h e = eq-eqb (w / 2 ^ outer.log) (outer.addr / 2 ^ outer.log) (within_all q outer h w e)

pub within_trans : (p q r : Pointer) → Within q p → Within r q → Within r p
within_trans p q r h k = let a = h.shorter in let b = k.shorter in record { shorter = omega arith; here = within_all q p h r.addr k.here }

pub within_base : (p q : Pointer) → Within q p → Within q (record p { addr = base_of p })
within_base p q h = record { shorter = h.shorter; here = h.here ∙ sym (base_same p) }
