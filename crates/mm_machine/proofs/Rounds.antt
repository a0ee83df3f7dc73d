-- Round robin and lists, one cycle at a time.
use Rattle.std.proofs.Common.{◌≡◌, ℕ, zero, suc, ◌+◌, ◌<◌, ◌≤◌, List, [], ◌∷◌, ◌++◌, length, take, get_or, Option, Some}
use Rattle.std.proofs.Common.{None, refl, sym, ap, ◌∙◌, arith, append_assoc, append-nil}
use Rattle.std.proofs.lemmas.List.{take_more, length-take}
use Rattle.mm_model.specs.{Schedule.first_items, State.State, Run.{after, next_running, then_issued, robin_from}}

pub after_cycles : (s : State) (n : ℕ) → (after s n).cycles ≡ s.cycles + 1
unfolding after
after_cycles s n = refl

-- the slot that is next goes first, and round robin goes on behind it
pub robin_goes : (s : State) (last : Option ℕ) (n count less : ℕ) → next_running s.core.rows last ≡ Some n → count ≡ suc less
    → robin_from s last count ≡ n ∷ robin_from (after s n) (Some n) less
unfolding robin_from
robin_goes s last n count less next more =
    ap (robin_from s last) more ∙ ap (λ item. then_issued item (λ m. robin_from (after s m) (Some m) less)) next

-- it ends where no slot is next
pub robin_ends : (s : State) (last : Option ℕ) (count : ℕ) → next_running s.core.rows last ≡ None → robin_from s last count ≡ []
unfolding robin_from
robin_ends s last zero next = refl
robin_ends s last (suc count) next = ap (λ item. then_issued item (λ m. robin_from (after s m) (Some m) count)) next

-- and where no cycle is left
pub robin_done : (s : State) (last : Option ℕ) (count : ℕ) → count ≡ 0 → robin_from s last count ≡ []
unfolding robin_from
robin_done s last zero none = refl
robin_done s last (suc count) none = absurd (omega arith)

-- some items were issued and one more is
pub one_more : (before front : List ℕ) (n : ℕ) → (before ++ front) ++ n ∷ [] ≡ before ++ (front ++ n ∷ [])
one_more before front n = append_assoc before front (n ∷ [])

pub one_item_more : (before items : List ℕ) (k n : ℕ) → k < length items → n ≡ get_or items k 0 → (before ++ take k items) ++ n ∷ [] ≡ before ++ take (k + 1) items
one_item_more before items k n within is =
    append_assoc before (take k items) (n ∷ [])
    ∙ ap (λ (x : ℕ). before ++ (take k items ++ x ∷ [])) is
    ∙ ap (λ (xs : List ℕ). before ++ xs) (sym (take_more items k 0 within))

-- what was issued and the rest are the whole, with one item more too
pub robin_step : (s t : State) (last now : Option ℕ) (n count less : ℕ) (front whole : List ℕ) → next_running s.core.rows last ≡ Some n → count ≡ suc less
    → t ≡ after s n → now ≡ Some n → front ++ robin_from s last count ≡ whole → (front ++ n ∷ []) ++ robin_from t now less ≡ whole
robin_step s t last now n count less front whole next more is last_is so_far =
    append_assoc front (n ∷ []) (robin_from t now less)
    ∙ ap (λ (x : State). front ++ n ∷ robin_from x now less) is
    ∙ ap (λ (x : Option ℕ). front ++ n ∷ robin_from (after s n) x less) last_is
    ∙ ap (λ (xs : List ℕ). front ++ xs) (sym (robin_goes s last n count less next more))
    ∙ so_far

-- where nothing is left, what was issued is the whole
pub robin_over : (s : State) (last : Option ℕ) (count : ℕ) (front whole : List ℕ) → robin_from s last count ≡ [] → front ++ robin_from s last count ≡ whole
    → front ≡ whole
robin_over s last count front whole none so_far = sym (append-nil front) ∙ ap (λ (xs : List ℕ). front ++ xs) (sym none) ∙ so_far

-- no more items are issued than there are cycles
pub robin_length : (s : State) (last : Option ℕ) (count : ℕ) → length (robin_from s last count) ≤ count
unfolding robin_from
robin_length s last zero = omega arith
robin_length s last (suc count) = by (next_running s.core.rows last) (λ n. robin_length (after s n) (Some n) count)
  where
    by : (o : Option ℕ) → ((n : ℕ) → length (robin_from (after s n) (Some n) count) ≤ count) → length (then_issued o (λ n. robin_from (after s n) (Some n) count)) ≤ suc count
    by None rest = omega arith
    by (Some n) rest = omega (arith, rest n)

pub first_length : (items : List ℕ) (count : ℕ) → length (first_items items count) ≤ count
first_length items count = omega (arith, length-take count items)
