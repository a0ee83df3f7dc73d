-- The longest runs of equal items, run by run from the front.
use Rattle.std.proofs.Common.{◌≡◌, ℕ, suc, ◌+◌, ◌==◌, Bool, true, false, cond, List, [], ◌∷◌, ◌<◌, length, drop, get_or}
use Rattle.std.proofs.Common.{refl, sym, ap, ◌∙◌, arith, eqb-true}
use Rattle.std.proofs.lemmas.{List.{drop_more, drop-drop}, Bool.Decides.nat_tests}
use Rattle.mm_explore.specs.{Repeats.leading, Texts.{Repeat, repeat_before, repeats_of}}

abbrev pub repeat : ℕ → ℕ → Repeat
repeat n count = record { item = n; count = count }

same_way : (n m : ℕ) (b : Bool) → (m == n) ≡ b → (n == m) ≡ b
same_way n m true e = grind (arith, nat_tests)
same_way n m false e = grind (arith, nat_tests)

pub first_repeat : (n : ℕ) (items : List ℕ) → repeats_of (n ∷ items) ≡ repeat n (leading n items + 1) ∷ repeats_of (drop (leading n items) items)
first_repeat n [] = refl
first_repeat n (m ∷ items) = ap (repeat_before n) (first_repeat m items) ∙ by (first_repeat m items) (m == n) refl
  where
    by : repeats_of (m ∷ items) ≡ repeat m (leading m items + 1) ∷ repeats_of (drop (leading m items) items) → (b : Bool) → (m == n) ≡ b
        → repeat_before n (repeat m (leading m items + 1) ∷ repeats_of (drop (leading m items) items))
        ≡ repeat n (cond b (1 + leading n items) 0 + 1) ∷ repeats_of (drop (cond b (1 + leading n items) 0) (m ∷ items))
    by rest true e =
        let same : m ≡ n = eqb-true m n e in
        let count : leading m items + 1 + 1 ≡ 1 + leading m items + 1 = omega arith in
        let long : 1 + leading m items ≡ suc (leading m items) = omega arith in
        ap (λ b. cond b (repeat m (leading m items + 1 + 1) ∷ repeats_of (drop (leading m items) items))
        (repeat n 1 ∷ repeat m (leading m items + 1) ∷ repeats_of (drop (leading m items) items))) (same_way n m true e)
        ∙ ap (λ k. repeat m k ∷ repeats_of (drop (leading m items) items)) count
        ∙ ap (λ k. repeat m (1 + leading m items + 1) ∷ repeats_of (drop k (m ∷ items))) (sym long)
        ∙ ap (λ x. repeat x (1 + leading x items + 1) ∷ repeats_of (drop (1 + leading x items) (m ∷ items))) same
    by rest false e =
        ap (λ b. cond b (repeat m (leading m items + 1 + 1) ∷ repeats_of (drop (leading m items) items))
        (repeat n 1 ∷ repeat m (leading m items + 1) ∷ repeats_of (drop (leading m items) items))) (same_way n m false e)
        ∙ ap (λ l. repeat n 1 ∷ l) (sym rest)

pub repeats_more : (items : List ℕ) (at n more : ℕ) → at < length items → n ≡ get_or items at 0 → more ≡ leading n (drop (at + 1) items)
    → repeats_of (drop at items) ≡ repeat n (more + 1) ∷ repeats_of (drop (at + (more + 1)) items)
repeats_more items at n more lt is count =
    let there : drop at items ≡ n ∷ drop (at + 1) items = drop_more items at 0 lt ∙ ap (λ x. x ∷ drop (at + 1) items) (sym is) in
    let far : (at + 1) + more ≡ at + (more + 1) = omega arith in
    ap repeats_of there ∙ first_repeat n (drop (at + 1) items)
    ∙ ap (λ k. repeat n (k + 1) ∷ repeats_of (drop k (drop (at + 1) items))) (sym count)
    ∙ ap (λ l. repeat n (more + 1) ∷ repeats_of l) (drop-drop more (at + 1) items ∙ ap (λ k. drop k items) far)
