-- One insert after others, and what the set covers.
use Rattle.std.{proofs.Common.{ℕ, inl, inr, List, [], ◌∷◌, sym, subst, arith}, specs.List.Contains}
use Rattle.mm_seg.specs.Segments.{SomeHolds, IsMaximal, segment_at}
use Rattle.mm_seg.specs.Laws.{HoldsAllInserts, CoversAllInserts, Inserts.{none, one_more}}
use Rattle.mm_seg.proofs.Inserts.{at_in, in_at, in_first, in_rest, in_cases}

pub maximal_none : IsMaximal [] []
maximal_none = record { from = λ k lt. absurd (omega arith); holds = λ s m. absurd (let lt = m.1 in omega arith) }

-- the maximal segments of a list, and then of one segment more
pub maximal_more : (xs ys zs : List (ℕ × ℕ)) (s : ℕ × ℕ) → IsMaximal xs ys → IsMaximal (s ∷ ys) zs → IsMaximal (s ∷ xs) zs
maximal_more xs ys zs s h k = record {
  from = λ n lt. elim (in_cases s (segment_at zs n) ys (k.from n lt)) [
    | inl e ↦ subst (Contains (s ∷ xs)) (sym e) (in_first s xs)
    | inr m ↦ let f = in_at ys (segment_at zs n) m in in_rest s (segment_at zs n) xs (subst (Contains xs) (sym f.is) (h.from f.at f.small))
  ];
  holds = λ t m. elim (in_cases s t xs m) [
    | inl e ↦ subst (SomeHolds zs) (sym e) (k.holds s (in_first s ys))
    | inr old ↦
        let a = h.holds t old in
        let b = k.holds (segment_at ys a.at) (in_rest s (segment_at ys a.at) ys (at_in ys a.at a.small)) in
        record { at = b.at; small = b.small; within = (let p = a.within.0 in let q = b.within.0 in omega arith, let p = a.within.1 in let q = b.within.1 in omega arith) }
  ];
}

pub holds_all : HoldsAllInserts
holds_all xs zs none = maximal_none
holds_all xs zs (one_more {inserted = ys} {old = old} {s = s} before m) = maximal_more ys old zs s (holds_all ys old before) m

pub covers_all : CoversAllInserts
covers_all xs zs a ins =
    let h = holds_all xs zs ins in (
      λ c. record { segment = segment_at zs c.by; is_in = h.from c.by c.at.0; low = c.at.1; high = c.at.2 },
      λ c. let b = h.holds c.segment c.is_in in
          record { by = b.at; at = (b.small, let p = b.within.0 in let q = c.low in omega arith, let p = b.within.1 in let q = c.high in omega arith) },
    )
