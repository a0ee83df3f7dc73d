-- What is found is kept.
use Rattle.std.proofs.Common.{◌≡◌, ℕ, true, List, [], Result, Ok, Err, IfOk, sym, subst}
use Rattle.std.specs.Prelude.{Contains}
use Rattle.mm_model.specs.Image.{Image}
use Rattle.mm_kernel.specs.{Segments.{Segment, is_user}, Derived.Keeps, Uses.HasAtMost}
use Rattle.mm_span.proofs.Members.{none_in}
use Rattle.mm_keep_text.specs.{Told.Told, Answers.{IsAnswer, IsTold}}
use Rattle.mm_confine_text.specs.declared.kept.Kept.{Kept}
use Rattle.mm_confine_text.specs.Found.{IsFound, IsKept, IsReach}

module _ (i : Image) (kept : List Segment) where
  -- a kernel of which no leak is told keeps its segments
  pub keeps_told : is_user i ≡ true → (told : Told) → IsTold i kept told → told.leaks ≡ [] → Keeps i kept
  keeps_told user told h none = record {
    user = user;
    no_leak = λ leak derived. none_in leak (subst (λ l. Contains l leak) none ((h.leaks leak).1 derived));
  }

  pub one_kept : (limit : ℕ) → is_user i ≡ true → HasAtMost i kept limit → (k : Kept) → IsFound i kept k → IsKept i kept limit k
  one_kept limit user few k h = record {
    answer = subst (IsAnswer i kept limit) (sym h.is) (user, few, h.told_is);
    reach = subst (λ a. IsReach i kept a k.reach) (sym h.is) h.reach;
  }

  pub found_kept : {E : Type 0} (limit : ℕ) → is_user i ≡ true → HasAtMost i kept limit → (r : Result Kept E) → IfOk r (IsFound i kept) → IfOk r (IsKept i kept limit)
  found_kept limit user few (Ok k) h = one_kept limit user few k h
  found_kept limit user few (Err e) h = tt
