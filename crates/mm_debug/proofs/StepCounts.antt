-- A step issues as many cycles as it asks for, fewer only where the order or the limit has ended.
use Rattle.std.proofs.Common.{◌≡◌, ℕ, zero, suc, ◌+◌, ◌<◌, ◌≤◌, Option, Some, None, refl, arith}
use Rattle.mm_model.specs.Run.{after}
use Rattle.mm_debug.specs.{Session.{Session, total_of, next_item, issued, then_stepped, stepped}, Laws.StepsIssueCycles}

-- so many cycles lead from one session to the other, fewer only where there is no next item
record UpTo (s : Session) (count : ℕ) (t : Session) : Type 0 where
  cycles : ℕ
  most : cycles ≤ count
  total : total_of t ≡ total_of s + cycles
  ended : cycles < count → next_item t ≡ None

one_more : (s : Session) (count item : ℕ) (t : Session) → UpTo (issued s item) count t → UpTo s (suc count) t
unfolding after
one_more s count item t u =
    let most = u.most in
    let total = u.total in
    record { cycles = u.cycles + 1; most = omega arith; total = omega arith; ended = λ lt. u.ended (omega arith) }

then_up_to : (s : Session) (count : ℕ) (o : Option ℕ) (rest : ℕ → Session) → next_item s ≡ o → ((item : ℕ) → UpTo (issued s item) count (rest item)) → UpTo s (suc count) (then_stepped s o rest)
then_up_to s count None rest is later = record { cycles = 0; most = omega arith; total = omega arith; ended = λ lt. is }
then_up_to s count (Some item) rest is later = one_more s count item (rest item) (later item)

stepped_up_to : (s : Session) (count : ℕ) → UpTo s count (stepped s count)
unfolding stepped
stepped_up_to s zero = record { cycles = 0; most = omega arith; total = omega arith; ended = λ lt. absurd (omega arith) }
stepped_up_to s (suc count) = then_up_to s count (next_item s) (λ item. stepped (issued s item) count) refl (λ item. stepped_up_to (issued s item) count)

pub steps_issue : StepsIssueCycles
steps_issue s count =
    let u = stepped_up_to s count in
    record { issued = u.cycles; most = u.most; total = u.total; ended = u.ended }
