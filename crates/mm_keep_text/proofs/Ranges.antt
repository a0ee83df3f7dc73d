-- The uses of one origin.
use Rattle.std.proofs.Common.{◌≡◌, ℕ, ◌+◌, ◌&&◌, Bool, true, not, List, [], ◌++◌, map, sym, ap, ◌∙◌, subst, arith, append-nil}
use Rattle.std.proofs.lemmas.Bool.Decides.{nat_tests}
use Rattle.std.specs.declared.ops.Bound.TheVariants.{Included, Excluded}
use Rattle.std.specs.{Prelude.{Contains, ◌↔◌}, List.filter, Ordering.{nat_cmp, ordering_then, is_le}, BTreeMap.Range.range_contains}
use Rattle.mm_kernel.specs.Segments.{Segment}
use Rattle.mm_span.proofs.Members.{in_map, map_in, in_filter, filter_in}
use Rattle.mm_keep_text.specs.Parts.{Use, order}

-- the uses from an origin up to the next
abbrev pub of_origin : ℕ × ℕ → Use → Bool
of_origin o = range_contains order (Included (o, (0, 0))) (Excluded ((o.0, o.1 + 1), (0, 0)))

abbrev pub part_in : Use → Segment
part_in u = u.1

from_origin : (k n a b l m : ℕ)
    → (is_le (ordering_then (ordering_then (nat_cmp k a) (nat_cmp n b)) (ordering_then (nat_cmp 0 l) (nat_cmp 0 m)))
    && not (is_le (ordering_then (ordering_then (nat_cmp k a) (nat_cmp (n + 1) b)) (ordering_then (nat_cmp 0 l) (nat_cmp 0 m))))) ≡ true
    → (a ≡ k) × (b ≡ n)
from_origin k n a b l m h = (grind (arith, nat_tests), grind (arith, nat_tests))

to_origin : (k n l m : ℕ)
    → (is_le (ordering_then (ordering_then (nat_cmp k k) (nat_cmp n n)) (ordering_then (nat_cmp 0 l) (nat_cmp 0 m)))
    && not (is_le (ordering_then (ordering_then (nat_cmp k k) (nat_cmp (n + 1) n)) (ordering_then (nat_cmp 0 l) (nat_cmp 0 m))))) ≡ true
to_origin k n l m = grind (arith, nat_tests)

pub parts_are : (o : ℕ × ℕ) (keys : List Use) (part : Segment)
    → Contains (map part_in (filter (of_origin o) keys)) part ↔ Contains keys (o, part)
parts_are o keys part = (
  λ h.
      let from = map_in part_in (filter (of_origin o) keys) part h in
      let u = from.source in
      let passed = filter_in (of_origin o) keys u from.inside in
      let same = from_origin o.0 o.1 u.0.0 u.0.1 u.1.0 u.1.1 passed.1 in
      let own : u ≡ (o, part) = λ j. ((same.0 j, same.1 j), from.gives j) in
      subst (Contains keys) own passed.0,
  λ h. in_map part_in (filter (of_origin o) keys) (o, part) (in_filter (of_origin o) keys (o, part) h (to_origin o.0 o.1 part.0 part.1)),
)

-- no uses are left after the parts so far
pub parts_left : (parts all : List Segment) (left : List Use) → left ≡ [] → parts ++ map part_in left ≡ all → parts ≡ all
parts_left parts all left none whole = sym (append-nil parts) ∙ ap (λ l. parts ++ map part_in l) (sym none) ∙ whole
