-- Round robin goes on from the state and the last item.
use Rattle.std.proofs.Common.{◌≡◌, ℕ, zero, suc, ◌+◌, List, ◌∷◌, ◌++◌, Option, Some, None, refl, sym, ap, ◌∙◌, arith}
use Rattle.mm_model.specs.{State.State, Run.{after, run, next_running, then_issued, robin_from, last_item}}
use Rattle.mm_machine.proofs.Rounds.{robin_ends}

pub goes_on : (s : State) (last : Option ℕ) (first more : ℕ)
    → robin_from s last (first + more) ≡ robin_from s last first ++ robin_from (run s (robin_from s last first)) (last_item last (robin_from s last first)) more
unfolding robin_from run
goes_on s last zero more = let same : zero + more ≡ more = omega arith in ap (robin_from s last) same
goes_on s last (suc first) more =
    let one : suc first + more ≡ suc (first + more) = omega arith in
    ap (robin_from s last) one ∙ by (next_running s.core.rows last) refl (λ n. goes_on (after s n) (Some n) first more)
  where
    by : (o : Option ℕ) → next_running s.core.rows last ≡ o
        → ((n : ℕ) → robin_from (after s n) (Some n) (first + more)
        ≡ robin_from (after s n) (Some n) first
        ++ robin_from (run (after s n) (robin_from (after s n) (Some n) first)) (last_item (Some n) (robin_from (after s n) (Some n) first)) more)
        → then_issued o (λ n. robin_from (after s n) (Some n) (first + more))
        ≡ then_issued o (λ n. robin_from (after s n) (Some n) first)
        ++ robin_from (run s (then_issued o (λ n. robin_from (after s n) (Some n) first))) (last_item last (then_issued o (λ n. robin_from (after s n) (Some n) first))) more
    by None is later = sym (robin_ends s last more is)
    by (Some n) is later = ap (λ (items : List ℕ). n ∷ items) (later n)
