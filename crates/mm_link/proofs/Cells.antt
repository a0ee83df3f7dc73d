-- Cells, pages of them, and slots, one more at a time.
use Rattle.std.proofs.Common.{◌≡◌, ℕ, suc, ◌+◌, ◌-◌, ◌<◌, ◌≢◌, true, false, cond, min, List, [], ◌∷◌, ◌++◌, length}
use Rattle.std.proofs.Common.{get_or, take, drop, map, replicate, refl, sym, ap, ◌∙◌, arith, append_assoc, append-nil}
use Rattle.std.proofs.{Common.{inl, inr, eqb-true, eq-eqb}, Math.Seq.take-append-add}
use Rattle.std.proofs.lemmas.Bool.{cases_lt, false_from_ne_true}
use Rattle.std.proofs.lemmas.List.{take_all, drop_all, take-append-le, take-replicate}
use Rattle.std.specs.{Prelude.◌==◌, List.{flat_map, range_with_len}}
use Rattle.mm_word.specs.declared.word.Cell.{Cell}
use Rattle.mm_object.specs.{declared.thread.Thread.Thread, Objects.Object}
use Rattle.mm_model.specs.{Slot.Slot, Memory.zero_page}
use Rattle.mm_link.{specs.{Placing.Site, Linked.{pages_from, slot_of}, Steps.numbered}, proofs.Lists.{pushing, itself}}

-- 1. Pages.

module _ {A : Type 0} (n : ℕ) (z : A) (xs : List A) (kept : ℕ) (least : kept ≡ min (length xs) n) where
  -- the first n items, with others behind them where there are fewer
  pub filled : take kept xs ++ replicate (n - kept) z ≡ take n (xs ++ replicate n z)
  filled =
      elim (cases_lt (length xs) n) [
        | inl short ↦
            let k : kept ≡ length xs = omega arith in
            let all : n ≡ length xs + (n - kept) = omega arith in
            ap (λ ys. ys ++ replicate (n - kept) z) (take_all kept xs (omega arith)) ∙ ap (λ ys. xs ++ ys) (sym (take-replicate (n - kept) n z (omega arith)))
            ∙ sym (take-append-add xs (replicate n z) (n - kept)) ∙ ap (λ k. take k (xs ++ replicate n z)) (sym all)
        | inr long ↦
            let k : kept ≡ n = omega arith in
            let none : n - kept ≡ 0 = omega arith in
            ap (λ k. take kept xs ++ replicate k z) none ∙ append-nil (take kept xs) ∙ ap (λ k. take k xs) k ∙ sym (take-append-le n xs (replicate n z) long)
      ]

  pub beyond : drop kept xs ≡ drop n xs
  beyond =
      elim (cases_lt (length xs) n) [
        | inl short ↦ drop_all kept xs (omega arith) ∙ sym (drop_all n xs (omega arith))
        | inr long ↦ let k : kept ≡ n = omega arith in ap (λ k. drop k xs) k
      ]

-- one page more
pub page_more : (all pages new : List (ℕ × List Cell)) (count k first : ℕ) (rest after : List Cell) (page : ℕ × List Cell) → k < count
    → pages ++ pages_from (count - k) (first + k) rest ≡ all → new ≡ pages ++ page ∷ []
    → page ≡ (first + k, take 512 (rest ++ zero_page)) → after ≡ drop 512 rest → new ++ pages_from (count - (k + 1)) (first + (k + 1)) after ≡ all
page_more all pages new count k first rest after page lt so_far now is left =
    let more : count - k ≡ suc (count - (k + 1)) = omega arith in
    let next : first + (k + 1) ≡ first + k + 1 = omega arith in
    ap (λ cells. new ++ pages_from (count - (k + 1)) (first + (k + 1)) cells) left ∙ ap (λ n. new ++ pages_from (count - (k + 1)) n (drop 512 rest)) next
    ∙ ap (λ ps. ps ++ pages_from (count - (k + 1)) (first + k + 1) (drop 512 rest)) now ∙ append_assoc pages (page ∷ [])
    (pages_from (count - (k + 1)) (first + k + 1) (drop 512 rest))
    ∙ ap (λ (p : ℕ × List Cell). pages ++ p ∷ pages_from (count - (k + 1)) (first + k + 1) (drop 512 rest)) is ∙ ap (λ n. pages ++ pages_from n (first + k) rest) (sym more) ∙ so_far

-- 2. Slots.

module _ (sites : List Site) (o : Object) (n : ℕ) (t : Thread) (threads : List Thread) where
  choice : numbered n (map (slot_of sites o) (t ∷ threads)) ≡ cond (t.slot == n) (slot_of sites o t ∷ numbered n (map (slot_of sites o) threads))
      (numbered n (map (slot_of sites o) threads))
  unfolding slot_of
  choice = refl

  pub numbered_here : (t.slot == n) ≡ true → numbered n (map (slot_of sites o) (t ∷ threads)) ≡ (slot_of sites o t ∷ []) ++ numbered n (map (slot_of sites o) threads)
  numbered_here h = choice ∙ ap (λ b. cond b (slot_of sites o t ∷ numbered n (map (slot_of sites o) threads)) (numbered n (map (slot_of sites o) threads))) h

  pub numbered_other : (t.slot == n) ≡ false → numbered n (map (slot_of sites o) (t ∷ threads)) ≡ numbered n (map (slot_of sites o) threads)
  numbered_other h = choice ∙ ap (λ b. cond b (slot_of sites o t ∷ numbered n (map (slot_of sites o) threads)) (numbered n (map (slot_of sites o) threads))) h

-- one thread more, which has the number or not
module _ (sites : List Site) (o : Object) (n : ℕ) (threads : List Thread) (i : ℕ) (d : Thread) (old all new : List Slot) (lt : i < length threads)
    (so_far : old ++ numbered n (map (slot_of sites o) (drop i threads)) ≡ all) where
  pub slot_pushed : (s : Slot) → (get_or threads i d).slot ≡ n → s ≡ slot_of sites o (get_or threads i d) → new ≡ old ++ s ∷ []
      → new ++ numbered n (map (slot_of sites o) (drop (i + 1) threads)) ≡ all
  slot_pushed s here is now =
      let t = get_or threads i d in
      pushing (λ k ts. numbered n (map (slot_of sites o) ts)) all old threads i so_far new (slot_of sites o t ∷ []) t lt (itself threads i d lt) (now ∙ ap (λ x. old ++ x ∷ []) is)
      (numbered_here sites o n t (drop (i + 1) threads) (eq-eqb t.slot n here))

  pub slot_passed : (get_or threads i d).slot ≢ n → new ≡ old → new ++ numbered n (map (slot_of sites o) (drop (i + 1) threads)) ≡ all
  slot_passed other now =
      let t = get_or threads i d in
      pushing (λ k ts. numbered n (map (slot_of sites o) ts)) all old threads i so_far new [] t lt (itself threads i d lt) (now ∙ sym (append-nil old))
      (numbered_other sites o n t (drop (i + 1) threads) (false_from_ne_true (t.slot == n) (λ e. other (eqb-true t.slot n e))))

-- 3. Slots by rising number.

module _ (slots whole : List Slot) where
  -- the slots of the numbers from `n` on
  abbrev pub from_number : ℕ → List Slot
  from_number n = flat_map (λ k. numbered k slots) (range_with_len n (16 - n))

  pub number_more : (old new : List Slot) (n : ℕ) → n < 16 → old ++ from_number n ≡ whole → new ≡ old ++ numbered n slots → new ++ from_number (n + 1) ≡ whole
  number_more old new n lt so_far now =
      let more : 16 - n ≡ suc (16 - (n + 1)) = omega arith in
      ap (λ v. v ++ from_number (n + 1)) now ∙ append_assoc old (numbered n slots) (from_number (n + 1))
      ∙ ap (λ k. old ++ flat_map (λ k. numbered k slots) (range_with_len n k)) (sym more) ∙ so_far

  pub number_last : (new : List Slot) (n : ℕ) → n ≡ 16 → new ++ from_number n ≡ whole → new ≡ whole
  number_last new n end so_far = sym (append-nil new) ∙ ap (λ k. new ++ from_number k) (sym end) ∙ so_far
