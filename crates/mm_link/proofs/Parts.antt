-- The parts of objects: where each comes from, what it is, and in which order they are placed.
use Rattle.std.proofs.Common.{◌≡◌, ℕ, suc, ◌+◌, ◌^◌, List, [], ◌∷◌, sum_by, slice_get, Some, refl, sym, ap, ◌∙◌, arith}
use Rattle.std.proofs.lemmas.List.{Sorted.{sum_by-IsPermutation, Contains-permutation}, Sums.sum_by-cons}
use Rattle.std.specs.List.{flat_map, filter, AllByRecursion, Sorted.IsPermutation}
use Rattle.mm_object.specs.Objects.{Segment, Object, IsSegment, IsObject}
use Rattle.mm_object.proofs.Members.{In, from_flat, from_filter, each_in, each_from, each_more, contained}
use Rattle.mm_object.proofs.Members.{from_contained}
use Rattle.mm_link.specs.Placing.{Part, parts_from, parts_of, has_log, falling_logs, by_length, bytes_of}
use Rattle.mm_link.proofs.Buckets.{PassesOnce, buckets_shuffle, once_falling}

-- 1. What a part is.

pub record IsPart (p : Part) : Type 0 where
  pub object : IsObject p.object
  pub segment : IsSegment p.segment
  pub place : slice_get p.object.segments p.number ≡ Some p.segment

parts_at : (o : Object) → IsObject o → (number : ℕ) (segments : List Segment) → AllByRecursion IsSegment segments
    → ((k : ℕ) (s : Segment) → slice_get segments k ≡ Some s → slice_get o.segments (number + k) ≡ Some s) → AllByRecursion IsPart (parts_from o number segments)
parts_at o is number [] each at = tt
parts_at o is number (s ∷ segments) each at = (
  record { object = is; segment = each.0; place = ap (slice_get o.segments) (omega arith) ∙ at 0 s refl },
  parts_at o is (number + 1) segments each.1 (λ k x e. ap (slice_get o.segments) (omega arith) ∙ at (suc k) x e),
)

object_parts : (o : Object) → IsObject o → AllByRecursion IsPart (parts_from o 0 o.segments)
object_parts o is = parts_at o is 0 o.segments is.segments (λ k s e. ap (slice_get o.segments) (omega arith) ∙ e)

pub are_parts : (objects : List Object) → AllByRecursion IsObject objects → AllByRecursion IsPart (parts_of objects)
unfolding parts_of
are_parts [] h = tt
are_parts (o ∷ objects) h = each_more IsPart (parts_from o 0 o.segments) (flat_map (λ (x : Object). parts_from x 0 x.segments) objects) (object_parts o h.0) (are_parts objects h.1)

-- 2. Their order.

once : (p : Part) → IsPart p → PassesOnce (λ log. has_log log p) falling_logs
once p is =
    let low = is.segment.least in
    let high = is.segment.greatest in
    once_falling 20 18 0 p.segment.log high (omega arith) (omega arith) (omega arith)

each_once : (parts : List Part) → AllByRecursion IsPart parts → AllByRecursion (λ p. PassesOnce (λ log. has_log log p) falling_logs) parts
each_once [] h = tt
each_once (p ∷ parts) h = (once p h.0, each_once parts h.1)

pub placed : (parts : List Part) → AllByRecursion IsPart parts → IsPermutation parts (by_length parts)
unfolding by_length
placed parts h = buckets_shuffle has_log falling_logs parts (each_once parts h)

pub from_by_length : (p : Part) (parts : List Part) → In p (by_length parts) → In p parts
unfolding by_length
from_by_length p parts h = let r = from_flat (λ log. filter (has_log log) parts) p falling_logs h in (from_filter (has_log r.0) p parts r.2).0

-- each part is in its bucket
pub in_by_length : (p : Part) (parts : List Part) → AllByRecursion IsPart parts → In p parts → In p (by_length parts)
in_by_length p parts h is = from_contained p (by_length parts) (Contains-permutation parts (by_length parts) p (placed parts h) (contained p parts is))

pub are_placed_parts : (parts : List Part) → AllByRecursion IsPart parts → AllByRecursion IsPart (by_length parts)
are_placed_parts parts h = each_from IsPart (by_length parts) (λ p is. each_in IsPart p parts h (from_by_length p parts is))

bytes_sum : (parts : List Part) → bytes_of parts ≡ sum_by (λ (p : Part). 2 ^ p.segment.log) parts
bytes_sum [] = refl
bytes_sum (p ∷ parts) = ap (λ n. 2 ^ p.segment.log + n) (bytes_sum parts) ∙ sym (sum_by-cons (λ (x : Part). 2 ^ x.segment.log) p parts)

-- they have as many bytes in either order
pub bytes_placed : (parts : List Part) → AllByRecursion IsPart parts → bytes_of (by_length parts) ≡ bytes_of parts
bytes_placed parts h = bytes_sum (by_length parts) ∙ sum_by-IsPermutation (λ (p : Part). 2 ^ p.segment.log) parts (by_length parts) (placed parts h) ∙ sym (bytes_sum parts)
