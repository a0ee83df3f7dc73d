-- The answer is determined by the image, its kept segments and the limit.
use Rattle.std.proofs.Common.{◌≡◌, ◌⊎◌, inl, inr, ℕ, zero, suc, ◌≤◌, true, false, List, [], ◌∷◌, ◌++◌, map, length}
use Rattle.std.proofs.Common.{Option, Some, Result, Ok, Err, IfOk, slice_get, refl, sym, ap, ◌∙◌, subst, arith}
use Rattle.std.proofs.lemmas.{Option.{slice_get_within, get_or_from_slice_get}, Cmp.nat_list_cmp_total}
use Rattle.std.specs.declared.cmp.Ordering.{Ordering, TheVariants.{Less, Equal, Greater}}
use Rattle.std.specs.{Prelude.{Contains}, List.{AllByRecursion, AllZip}, Ordering.{is_lt, nat_cmp}, Cmp.Lexicographic.slice_cmp}
use Rattle.mm_model.specs.{Image.Image, Spelling.IsImage}
use Rattle.mm_kernel.specs.Segments.{Segment, is_user}
use Rattle.mm_kernel.specs.declared.thread.{Origin.{Origin, TheVariants.{Door, Slot as OfSlot}}}
use Rattle.mm_kernel.specs.{Derived.IsCode, Uses.{IsUsed, Reads, Writes, HasMore, HasAtMost}}
use Rattle.mm_kernel.proofs.Runs.{kernels_keep}
use Rattle.mm_span.proofs.{Members.{none_in, in_first, in_rest, in_cases, all_at}, Ones.spans_one}
use Rattle.mm_keep_text.specs.declared.told.Answer.{Answer, TheVariants.{Privileged, More, Found}}
use Rattle.mm_keep_text.specs.Keys.{pointer_key, cell_key, leak_key, Ascend}
use Rattle.mm_keep_text.specs.{Told.{Party, Told}, Answers.{IsParty, IsTold, IsAnswer, kernel_slots, answer_text, told_text}}
use Rattle.mm_keep_text.specs.Laws.{AnswersAreOne, YesKeeps, KeepsIfYes}

-- 1. No more distinct elements than a list has, if each is in it.

module _ {X : Type 0} where
  drop_at : List X → ℕ → List X
  drop_at [] k = []
  drop_at (y ∷ ys) zero = ys
  drop_at (y ∷ ys) (suc k) = y ∷ drop_at ys k

  got : (xs : List X) (x : X) → Contains xs x → (k : ℕ) × (slice_get xs k ≡ Some x)
  got [] x h = absurd (none_in x h)
  got (y ∷ ys) x h = elim (in_cases y ys x h) [
    | inl e ↦ (0, ap Some e)
    | inr later ↦ let one = got ys x later in (suc one.0, one.1)
  ]

  there_is : (xs : List X) (k : ℕ) (x : X) → slice_get xs k ≡ Some x → Contains xs x
  there_is xs k x e = (k, slice_get_within xs k x e, get_or_from_slice_get xs k x x e)

  drop_short : (ys : List X) (k : ℕ) (y : X) → slice_get ys k ≡ Some y → length ys ≡ suc (length (drop_at ys k))
  unfolding drop_at
  drop_short [] k y e = cc
  drop_short (z ∷ ys) zero y e = refl
  drop_short (z ∷ ys) (suc k) y e = ap suc (drop_short ys k y e)

  still_in : (ys : List X) (j k : ℕ) (y : X) → slice_get ys j ≡ Some y → (j ≡ k → ⊥) → Contains (drop_at ys k) y
  unfolding drop_at
  still_in [] j k y e ne = cc
  still_in (z ∷ ys) zero zero y e ne = absurd (ne refl)
  still_in (z ∷ ys) zero (suc k) y e ne = let same : z ≡ y = cc in subst (Contains (z ∷ drop_at ys k)) same (in_first z (drop_at ys k))
  still_in (z ∷ ys) (suc j) zero y e ne = there_is ys j y e
  still_in (z ∷ ys) (suc j) (suc k) y e ne = in_rest z (drop_at ys k) y (still_in ys j k y e (λ same. ne (ap suc same)))

  pub no_more : (xs ys : List X) → ((j k : ℕ) (x : X) → slice_get xs j ≡ Some x → slice_get xs k ≡ Some x → j ≡ k)
      → ((x : X) → Contains xs x → Contains ys x) → length xs ≤ length ys
  no_more [] ys distinct each = omega arith
  no_more (x ∷ xs) ys distinct each =
      let at = got ys x (each x (in_first x xs)) in
      let short = drop_short ys at.0 x at.1 in
      let rest = no_more xs (drop_at ys at.0)
      (λ j k y a b. let same = distinct (suc j) (suc k) y a b in omega (arith, same))
      (λ y there.
      let place = got ys y (each y (in_rest x xs y there)) in
      let own = got xs y there in
      still_in ys place.0 at.0 y place.1 (λ same.
      let two : ◌≡◌ {A = Option X} (Some y) (Some x) = sym place.1 ∙ ap (slice_get ys) same ∙ at.1 in
      let twice : zero ≡ suc own.0 = distinct zero (suc own.0) x refl (own.1 ∙ two) in
      omega (arith, twice))) in
      omega (arith, short, rest)

-- 2. Lists in the order of their keys.

abbrev cmp : List ℕ → List ℕ → Ordering
cmp = slice_cmp nat_cmp

less : (o : Ordering) → is_lt o ≡ true → o ≡ Less
less Less e = refl
less Equal e = cc
less Greater e = cc

not_both : (a b : List ℕ) → is_lt (cmp a b) ≡ true → is_lt (cmp b a) ≡ true → ⊥
not_both a b x y =
    let up = less (cmp a b) x in
    let down = less (cmp b a) y in
    let turned = nat_list_cmp_total.antisymm a b in
    cc

module _ {V : Type 0} (key : V → List ℕ) where
  abbrev Below : V → V → Type 0
  Below a b = is_lt (cmp (key a) (key b)) ≡ true

  same_head : (x y : V) (a b : List V) → AllByRecursion (Below x) a → AllByRecursion (Below y) b → (y ≡ x) ⊎ Contains b x
      → (x ≡ y) ⊎ Contains a y → x ≡ y
  same_head x y a b up down (inl e) own = sym e
  same_head x y a b up down (inr later) (inl e) = e
  same_head x y a b up down (inr later) (inr own) =
      absurd (not_both (key y) (key x) (all_at (Below y) b x down later) (all_at (Below x) a y up own))

  -- an element after the first is another
  other : (x : V) (a : List V) → AllByRecursion (Below x) a → Contains a x → ⊥
  other x a up there = let low = all_at (Below x) a x up there in not_both (key x) (key x) low low

  in_tail : (x y v : V) (a b : List V) → AllByRecursion (Below x) a → x ≡ y → Contains a v → (y ≡ v) ⊎ Contains b v → Contains b v
  in_tail x y v a b up same there (inl e) = absurd (other x a up (subst (Contains a) (sym (same ∙ e)) there))
  in_tail x y v a b up same there (inr later) = later

  pub lists_one : (a b : List V) → Ascend key a → Ascend key b → ((v : V) → Contains a v → Contains b v)
      → ((v : V) → Contains b v → Contains a v) → a ≡ b
  lists_one [] [] up down to back = refl
  lists_one [] (y ∷ b) up down to back = absurd (none_in y (back y (in_first y b)))
  lists_one (x ∷ a) [] up down to back = absurd (none_in x (to x (in_first x a)))
  lists_one (x ∷ a) (y ∷ b) up down to back =
      let same = same_head x y a b up.0 down.0 (in_cases y b x (to x (in_first x a))) (in_cases x a y (back y (in_first y b))) in
      let rest = lists_one a b up.1 down.1
      (λ v there. in_tail x y v a b up.0 same there (in_cases y b v (to v (in_rest x a v there))))
      (λ v there. in_tail y x v b a down.0 (sym same) there (in_cases x a v (back v (in_rest y b v there)))) in
      λ j. same j ∷ rest j

-- 3. Answers.

module _ (i : Image) (kept : List Segment) where
  party_one : (o : Origin) (a b : Party) → IsParty i kept o a → IsParty i kept o b → a ≡ b
  party_one o a b h k =
      let origin = h.origin_is ∙ sym k.origin_is in
      let reads = spans_one (IsUsed Reads i kept o) a.reads b.reads h.reads_are k.reads_are in
      let writes = spans_one (IsUsed Writes i kept o) a.writes b.writes h.writes_are k.writes_are in
      λ j. record { origin = origin j; reads = reads j; writes = writes j }

  parties_one : (os : List Origin) (a b : List Party) → AllZip (IsParty i kept) os a → AllZip (IsParty i kept) os b → a ≡ b
  parties_one [] [] [] h k = refl
  parties_one [] (x ∷ a) b h k = absurd h
  parties_one [] [] (y ∷ b) h k = absurd k
  parties_one (o ∷ os) [] b h k = absurd h
  parties_one (o ∷ os) (x ∷ a) [] h k = absurd k
  parties_one (o ∷ os) (x ∷ a) (y ∷ b) h k =
      let one = party_one o x y h.0 k.0 in
      let rest = parties_one os a b h.1 k.1 in
      λ j. one j ∷ rest j

  pub told_one : (a b : Told) → IsTold i kept a → IsTold i kept b → a ≡ b
  told_one a b h k =
      let doors = lists_one pointer_key h.doors k.doors h.doors_are.ascend k.doors_are.ascend
      (λ p there. (k.doors_are.each p).1 ((h.doors_are.each p).0 there)) (λ p there. (h.doors_are.each p).1 ((k.doors_are.each p).0 there)) in
      let parties = parties_one (map Door k.doors ++ map OfSlot (kernel_slots i kept)) a.parties b.parties
      (subst (λ ds. AllZip (IsParty i kept) (map Door ds ++ map OfSlot (kernel_slots i kept)) a.parties) doors h.parties) k.parties in
      let code = spans_one (IsCode i kept) a.code b.code h.code k.code in
      let cells = lists_one cell_key a.cells b.cells h.cells_ascend k.cells_ascend
      (λ x there. (k.cells x).1 ((h.cells x).0 there)) (λ x there. (h.cells x).1 ((k.cells x).0 there)) in
      let leaks = lists_one leak_key a.leaks b.leaks h.leaks_ascend k.leaks_ascend
      (λ x there. (k.leaks x).1 ((h.leaks x).0 there)) (λ x there. (h.leaks x).1 ((k.leaks x).0 there)) in
      λ j. record { parties = parties j; code = code j; cells = cells j; leaks = leaks j }

  pub not_at_most : (limit : ℕ) → HasMore i kept limit → HasAtMost i kept limit → ⊥
  not_at_most limit h k =
      let short = no_more h.threads k.threads h.distinct (λ t there. k.whole t (h.derived t there)) in
      let many = h.many in
      let few = k.few in
      omega (arith, short, many, few)

  pub not_user : is_user i ≡ false → is_user i ≡ true → ⊥
  not_user off on = let wrong : false ≡ true = sym off ∙ on in cc

  text_one : (limit : ℕ) (a b : Answer) → IsAnswer i kept limit a → IsAnswer i kept limit b → answer_text a ≡ answer_text b
  text_one limit Privileged Privileged h k = refl
  text_one limit Privileged More h k = absurd (not_user h k.0)
  text_one limit Privileged (Found told) h k = absurd (not_user h k.0)
  text_one limit More Privileged h k = absurd (not_user k h.0)
  text_one limit More More h k = refl
  text_one limit More (Found told) h k = absurd (not_at_most limit h.1 k.1)
  text_one limit (Found told) Privileged h k = absurd (not_user k h.0)
  text_one limit (Found told) More h k = absurd (not_at_most limit k.1 h.1)
  text_one limit (Found a) (Found b) h k = ap told_text (told_one a b h.2 k.2)

pub answers_are_one : AnswersAreOne
answers_are_one i kept limit a b h k = text_one i kept limit a b h k

-- 4. No leak.

pub yes_keeps : YesKeeps
yes_keeps i kept limit told h none = record {
  user = h.0;
  no_leak = λ leak derived. none_in leak (subst (λ l. Contains l leak) none ((h.2.leaks leak).1 derived));
}

-- what an answer means
pub kept_by : (i : Image) (kept : List Segment) (limit : ℕ) (answer : Answer) → IsImage i → IsAnswer i kept limit answer → KeepsIfYes i kept answer
kept_by i kept limit (Found told) spelled is none j items also variant = kernels_keep i j kept items spelled also (yes_keeps i kept limit told is none) variant
kept_by i kept limit answer spelled is none j items also variant = absurd none

pub kept_if_made : {E : Type 0} (i : Image) (kept : List Segment) (limit : ℕ) (r : Result Answer E) → IfOk r (IsAnswer i kept limit) → IsImage i
    → IfOk r (KeepsIfYes i kept)
kept_if_made i kept limit (Ok answer) is spelled = kept_by i kept limit answer spelled is
kept_if_made i kept limit (Err e) is spelled = tt
