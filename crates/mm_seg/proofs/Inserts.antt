-- One segment put in place of those that lie in it.
use Rattle.std.proofs.Math.Nat.{mul-le-mul_right, mul_assoc}
use Rattle.std.proofs.lemmas.{List.{get_or-drop, get_or_default, Elements.Contains-get_or}, Bool.cases_lt}
use Rattle.std.proofs.Common.{◌≡◌, ℕ, zero, suc, ◌+◌, ◌-◌, ◌*◌, ◌/◌, ◌^◌, ◌<◌, ◌≤◌, ◌⊎◌, inl, inr, List, [], ◌∷◌, ◌++◌}
use Rattle.std.proofs.Common.{length, take, drop, refl, sym, ap, ◌∙◌, subst, arith, pow_pos, pow-add, length-drop}
use Rattle.std.specs.List.{Contains, slice_index_or}
use Rattle.mm_seg.specs.Segments.{IsSet, IsSegment, LiesIn, SomeHolds, IsMaximal, EndsBy, BeginsBy, segment_at, end_of}

abbrev put : List (ℕ × ℕ) → ℕ → ℕ → ℕ × ℕ → List (ℕ × ℕ)
put xs i j s = take i xs ++ s ∷ drop j xs

pub length_put : (xs : List (ℕ × ℕ)) (i j : ℕ) (s : ℕ × ℕ) → i ≤ j → j ≤ length xs → length (put xs i j s) + j ≡ i + 1 + length xs
length_put xs zero zero s a b = omega arith
length_put xs zero (suc j) s a b = let e = length-drop (suc j) xs in omega arith
length_put [] (suc i) j s a b = absurd (omega arith)
length_put (x ∷ xs) (suc i) zero s a b = absurd (omega arith)
length_put (x ∷ xs) (suc i) (suc j) s a b = let e = length_put xs i j s (omega arith) (omega arith) in omega arith

at_left : (xs : List (ℕ × ℕ)) (i j : ℕ) (s : ℕ × ℕ) (k : ℕ) → i ≤ j → i ≤ length xs → k < i → segment_at (put xs i j s) k ≡ segment_at xs k
at_left xs zero j s k a b lt = absurd (omega arith)
at_left [] (suc i) j s k a b lt = absurd (omega arith)
at_left (x ∷ xs) (suc i) j s zero a b lt = refl
at_left (x ∷ xs) (suc i) zero s (suc k) a b lt = absurd (omega arith)
at_left (x ∷ xs) (suc i) (suc j) s (suc k) a b lt = at_left xs i j s k (omega arith) (omega arith) (omega arith)

at_mid : (xs : List (ℕ × ℕ)) (i j : ℕ) (s : ℕ × ℕ) → i ≤ j → i ≤ length xs → segment_at (put xs i j s) i ≡ s
at_mid xs zero j s a b = refl
at_mid [] (suc i) j s a b = absurd (omega arith)
at_mid (x ∷ xs) (suc i) zero s a b = absurd (omega arith)
at_mid (x ∷ xs) (suc i) (suc j) s a b = at_mid xs i j s (omega arith) (omega arith)

at_right : (xs : List (ℕ × ℕ)) (i j : ℕ) (s : ℕ × ℕ) (k : ℕ) → i ≤ j → i ≤ length xs → segment_at (put xs i j s) (i + 1 + k) ≡ segment_at xs (j + k)
at_right xs zero j s k a b = ap (segment_at (s ∷ drop j xs)) one ∙ get_or-drop j xs k (0, 0)
  where
    one : zero + 1 + k ≡ suc k
    one = omega arith
at_right [] (suc i) j s k a b = absurd (omega arith)
at_right (x ∷ xs) (suc i) zero s k a b = absurd (omega arith)
at_right (x ∷ xs) (suc i) (suc j) s k a b = ap (segment_at (x ∷ put xs i j s)) one ∙ at_right xs i j s k (omega arith) (omega arith) ∙ ap (segment_at (x ∷ xs)) (sym two)
  where
    one : suc i + 1 + k ≡ suc (i + 1 + k)
    one = omega arith

    two : suc j + k ≡ suc (j + k)
    two = omega arith

-- a segment that begins at a multiple of its length
abbrev pub IsAligned : ℕ × ℕ → Type 0
IsAligned s = s.0 / 2 ^ s.1 * 2 ^ s.1 ≡ s.0

-- segments that meet lie one in the other
longer : (s t : ℕ × ℕ) → IsAligned s → IsAligned t → t.1 ≤ s.1 → s.0 < end_of t → t.0 < end_of s → LiesIn t s
longer s t a b le h k = scaled (2 ^ t.1) (2 ^ (s.1 - t.1)) (t.0 / 2 ^ t.1) (s.0 / 2 ^ s.1) (2 ^ s.1) s.0 t.0 (pow_pos t.1) whole b a h k
  where
    whole : 2 ^ (s.1 - t.1) * 2 ^ t.1 ≡ 2 ^ s.1
    whole = sym (pow-add 2 (s.1 - t.1) t.1) ∙ ap (λ v. 2 ^ v) (let e : (s.1 - t.1) + t.1 ≡ s.1 = omega arith in e)

    scaled : (u m q r v x y : ℕ) → 0 < u → m * u ≡ v → q * u ≡ y → r * v ≡ x → x < y + u → y < x + v → (x ≤ y) × (y + u ≤ x + v)
    scaled u m q r v x y pos e f g h k =
        let as_units : (r * m) * u ≡ x = mul_assoc r m u ∙ ap (λ z. r * z) e ∙ g in
        let low : r * m < q + 1 = less (r * m) (q + 1) (omega (arith, f, as_units)) in
        let high : q < r * m + m = less q (r * m + m) (omega (arith, f, as_units, e)) in
        let left = mul-le-mul_right u (let le2 : r * m ≤ q = omega arith in le2) in
        let right = mul-le-mul_right u (let le3 : q + 1 ≤ r * m + m = omega arith in le3) in
        (omega arith, omega arith)
      where
        less : (a b : ℕ) → a * u < b * u → a < b
        less a b lt = elim (cases_lt a b) [ inl z ↦ z | inr z ↦ absurd (let more = mul-le-mul_right u z in omega arith) ]

pub nested_aligned : (s t : ℕ × ℕ) → IsAligned s → IsAligned t → s.0 < end_of t → t.0 < end_of s → LiesIn t s ⊎ LiesIn s t
nested_aligned s t a b h k = elim (cases_lt s.1 t.1) [
  | inl lt ↦ inr (longer t s b a (omega arith) k h)
  | inr le ↦ inl (longer s t a b le h k)
]

pub nested : (s t : ℕ × ℕ) → IsSegment s → IsSegment t → s.0 < end_of t → t.0 < end_of s → LiesIn t s ⊎ LiesIn s t
nested s t a b h k = nested_aligned s t a.aligned b.aligned h k

pub at_in : (xs : List (ℕ × ℕ)) (k : ℕ) → k < length xs → Contains xs (segment_at xs k)
at_in xs k lt = Contains-get_or xs k (0, 0) lt

pub record Found (xs : List (ℕ × ℕ)) (s : ℕ × ℕ) : Type 0 where
  pub at : ℕ
  pub small : at < length xs
  pub is : s ≡ segment_at xs at

pub in_at : (xs : List (ℕ × ℕ)) (s : ℕ × ℕ) → Contains xs s → Found xs s
in_at xs s m = record { at = m.0; small = m.1; is = sym m.2 ∙ get_or_default xs m.0 s (0, 0) m.1 }

pub in_first : (s : ℕ × ℕ) (xs : List (ℕ × ℕ)) → Contains (s ∷ xs) s
in_first s xs = (0, omega arith, refl)

pub in_rest : (s t : ℕ × ℕ) (xs : List (ℕ × ℕ)) → Contains xs t → Contains (s ∷ xs) t
in_rest s t xs m = (suc m.0, (let lt = m.1 in omega arith), m.2)

-- the first one, or one of the rest
pub in_cases : (s t : ℕ × ℕ) (xs : List (ℕ × ℕ)) → Contains (s ∷ xs) t → (t ≡ s) ⊎ Contains xs t
in_cases s t xs m = at_place m.0 m.1 m.2
  where
    at_place : (k : ℕ) → k < length (s ∷ xs) → slice_index_or (s ∷ xs) k t ≡ t → (t ≡ s) ⊎ Contains xs t
    at_place zero lt e = inl (sym e)
    at_place (suc k) lt e = inr (k, omega arith, e)

-- what stands at a place after the segment was put
data Place (xs : List (ℕ × ℕ)) (i j : ℕ) (s : ℕ × ℕ) (k : ℕ) : Type 0 where
  left : k < i → segment_at (put xs i j s) k ≡ segment_at xs k → Place xs i j s k
  mid : k ≡ i → segment_at (put xs i j s) k ≡ s → Place xs i j s k
  right : (n : ℕ) → k ≡ i + 1 + n → segment_at (put xs i j s) k ≡ segment_at xs (j + n) → Place xs i j s k

place : (xs : List (ℕ × ℕ)) (i j : ℕ) (s : ℕ × ℕ) (k : ℕ) → i ≤ j → i ≤ length xs → Place xs i j s k
place xs i j s k a b = elim (cases_lt k i) [
  | inl lt ↦ left lt (at_left xs i j s k a b lt)
  | inr le ↦ elim (cases_lt i k) [
    | inl lt ↦
        let e : k ≡ i + 1 + (k - (i + 1)) = omega arith in
        right (k - (i + 1)) e (ap (segment_at (put xs i j s)) e ∙ at_right xs i j s (k - (i + 1)) a b)
    | inr ge ↦ let e : k ≡ i = omega arith in mid e (ap (segment_at (put xs i j s)) e ∙ at_mid xs i j s a b)
  ]
]

module _ (xs : List (ℕ × ℕ)) (set : IsSet xs) (s : ℕ × ℕ) (seg : IsSegment s) (i j : ℕ) (ends : EndsBy xs s.0 i) (begins : BeginsBy xs (end_of s) j) where
  pub order : i ≤ j
  order = elim (cases_lt j i) [
    | inr le ↦ le
    | inl lt ↦
        let e = ends.before j lt in
        let fit = ends.fits in
        let b = begins.after j (omega arith) (omega arith) in
        let big = pow_pos s.1 in
        let size = pow_pos (segment_at xs j).1 in
        absurd (omega arith)
  ]

  first : i ≤ length xs
  first = ends.fits

  len : length (put xs i j s) + j ≡ i + 1 + length xs
  len = length_put xs i j s order begins.fits

  pub put_set : IsSet (put xs i j s)
  put_set = record {
    segments = λ k lt. elim (place xs i j s k order first) [
      | left a e ↦ subst IsSegment (sym e) (set.segments k (omega arith))
      | mid a e ↦ subst IsSegment (sym e) seg
      | right n a e ↦ subst IsSegment (sym e) (set.segments (j + n) (let l = len in omega arith))
    ];
    rise = λ p q lt small. rise_at p q lt small (place xs i j s p order first) (place xs i j s q order first);
  }
    where
      ordered : (p q : ℕ) (x y : ℕ × ℕ) → segment_at (put xs i j s) p ≡ x → segment_at (put xs i j s) q ≡ y → end_of x ≤ y.0 → end_of (segment_at (put xs i j s) p) ≤ (segment_at (put xs i j s) q).0
      ordered p q x y e f h = subst (λ v. end_of v ≤ (segment_at (put xs i j s) q).0) (sym e) (subst (λ v. end_of x ≤ v.0) (sym f) h)

      rise_at : (p q : ℕ) → p < q → q < length (put xs i j s) → Place xs i j s p → Place xs i j s q → end_of (segment_at (put xs i j s) p) ≤ (segment_at (put xs i j s) q).0
      rise_at p q lt small (left a e) (left b f) = ordered p q _ _ e f (set.rise p q lt (let z = first in omega arith))
      rise_at p q lt small (left a e) (mid b f) = ordered p q _ _ e f (ends.before p a)
      rise_at p q lt small (left a e) (right n b f) = ordered p q _ _ e f (set.rise p (j + n) (let z = order in omega arith) (let l = len in omega arith))
      rise_at p q lt small (mid a e) (left b f) = absurd (omega arith)
      rise_at p q lt small (mid a e) (mid b f) = absurd (omega arith)
      rise_at p q lt small (mid a e) (right n b f) = ordered p q _ _ e f (begins.after (j + n) (omega arith) (let l = len in omega arith))
      rise_at p q lt small (right m a e) (left b f) = absurd (omega arith)
      rise_at p q lt small (right m a e) (mid b f) = absurd (omega arith)
      rise_at p q lt small (right m a e) (right n b f) = ordered p q _ _ e f (set.rise (j + m) (j + n) (omega arith) (let l = len in omega arith))

  pub put_maximal : (i < length xs → LiesIn s (segment_at xs i) → ⊥) → IsMaximal (s ∷ xs) (put xs i j s)
  put_maximal outside = record {
    from = λ k lt. elim (place xs i j s k order first) [
      | left a e ↦ in_rest s _ xs (subst (Contains xs) (sym e) (at_in xs k (omega arith)))
      | mid a e ↦ subst (Contains (s ∷ xs)) (sym e) (in_first s xs)
      | right n a e ↦ in_rest s _ xs (subst (Contains xs) (sym e) (at_in xs (j + n) (let l = len in omega arith)))
    ];
    holds = λ t h. elim (in_cases s t xs h) [
      | inl e ↦ record {
        at = i;
        small = (let l = len in let f = begins.fits in omega arith);
        within = subst
            (λ v. LiesIn t v) (sym (at_mid xs i j s order first))
            (subst (λ v. LiesIn v s) (sym e) (omega arith, omega arith));
      }
      | inr m ↦ let f = in_at xs t m in subst (SomeHolds (put xs i j s)) (sym f.is) (held f.at f.small)
    ];
  }
    where
      itself : (t : ℕ × ℕ) → LiesIn t t
      itself t = (omega arith, omega arith)

      held : (k : ℕ) → k < length xs → SomeHolds (put xs i j s) (segment_at xs k)
      held k lt = elim (cases_lt k i) [
        | inl less ↦ record {
          at = k;
          small = (let l = len in let f = begins.fits in omega arith);
          within = subst
              (LiesIn (segment_at xs k)) (sym (at_left xs i j s k order first less)) (itself (segment_at xs k));
        }
        | inr ge ↦ elim (cases_lt k j) [
          | inr far ↦
              let e : j + (k - j) ≡ k = omega arith in
              record {
                at = i + 1 + (k - j);
                small = (let l = len in omega arith);
                within = subst
                    (LiesIn (segment_at xs k)) (sym (at_right xs i j s (k - j) order first ∙ ap (segment_at xs) e))
                    (itself (segment_at xs k));
              }
          | inl near ↦ record {
            at = i;
            small = (let l = len in let f = begins.fits in omega arith);
            within = subst
                (LiesIn (segment_at xs k)) (sym (at_mid xs i j s order first)) (inside k lt ge near);
          }
        ]
      ]
        where
          inside : (k : ℕ) → k < length xs → i ≤ k → k < j → LiesIn (segment_at xs k) s
          inside k lt ge near = elim (nested s (segment_at xs k) seg (set.segments k lt) (ends.after k ge lt) (begins.before k near)) [
            | inl w ↦ w
            | inr w ↦ elim (cases_lt i k) [
              | inr le ↦ let e : k ≡ i = omega arith in absurd (outside (omega arith) (subst (λ v. LiesIn s (segment_at xs v)) e w))
              | inl less ↦ let up = set.rise i k less lt in let past = ends.after i (omega arith) (omega arith) in let low = w.0 in absurd (omega arith)
            ]
          ]

-- where a kept segment holds the new one, nothing changes
pub kept_maximal : (xs : List (ℕ × ℕ)) (s : ℕ × ℕ) → SomeHolds xs s → IsMaximal (s ∷ xs) xs
kept_maximal xs s h = record {
  from = λ k lt. in_rest s _ xs (at_in xs k lt);
  holds = λ t m. elim (in_cases s t xs m) [
    | inl e ↦ subst (SomeHolds xs) (sym e) h
    | inr n ↦ let f = in_at xs t n in record { at = f.at; small = f.small; within = subst (λ v. LiesIn v (segment_at xs f.at)) (sym f.is) (omega arith, omega arith) }
  ];
}
