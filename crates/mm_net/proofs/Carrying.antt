-- What a link took and put.
use Rattle.std.proofs.Common.{◌≡◌, ◌⊎◌, inl, inr, ℕ, ◌+◌, ◌<◌, ◌≤◌, Bool, true, false, not, eqb, if◌then◌else◌, List}
use Rattle.std.proofs.Common.{[], ◌∷◌, ◌++◌, length, take, slice_get, Option, Some, None, refl, sym, ap, ◌∙◌, subst}
use Rattle.std.proofs.Common.{arith}
use Rattle.std.proofs.lemmas.{List.{take_more, length-take-le}, Option.{slice_get_within, get_or_from_slice_get}}
use Rattle.std.proofs.lemmas.Bool.{eqb-true}
use Rattle.mm_word.specs.{declared.word.{Word.Word, Cell.Cell, Pre.TheVariants.{Full, Empty}}, Word.word_bits}
use Rattle.mm_mem.specs.{declared.answer.{Loaded.Loaded, Stored.Stored}, Answers.{loaded, stored}}
use Rattle.mm_net.specs.Nets.{Carried, due, with_arrived, bits_in, is_free}
use Rattle.mm_mem.specs.declared.answer.Loaded.TheVariants as loads
use Rattle.mm_mem.specs.declared.answer.Stored.TheVariants as stores

-- 1. An integer that is due.

pub record IsDue (carried : Carried) (k bits : ℕ) : Type 0 where
  pub next : k ≡ length carried.arrived
  pub taken : slice_get carried.sent k ≡ Some bits

pub due_is : (carried : Carried) (k bits : ℕ) → due carried k ≡ Some bits → IsDue carried k bits
due_is carried k bits = by (eqb k (length carried.arrived)) refl
  where
    by : (test : Bool) → eqb k (length carried.arrived) ≡ test → (if test then slice_get carried.sent k else None) ≡ Some bits → IsDue carried k bits
    by true same is = record { next = eqb-true k (length carried.arrived) same; taken = is }
    by false other is = cc

pub some_left : (carried : Carried) (k bits : ℕ) → due carried k ≡ Some bits → length carried.arrived < length carried.sent
some_left carried k bits is =
    let d = due_is carried k bits is in
    omega (arith, d.next, slice_get_within carried.sent k bits d.taken)

-- the first integers of those that were sent
abbrev front : List ℕ → ℕ → Carried
front sent n = record { sent = sent; arrived = take n sent }

pub one_more : (sent : List ℕ) (n k bits : ℕ) → n ≤ length sent → due (front sent n) k ≡ Some bits → front sent (n + 1) ≡ with_arrived (front sent n) bits true
one_more sent n k bits inside is =
    let d = due_is (front sent n) k bits is in
    let here : k ≡ n = d.next ∙ length-take-le n sent inside in
    let at : slice_get sent n ≡ Some bits = subst (λ (x : ℕ). slice_get sent x ≡ Some bits) here d.taken in
    let more : take (n + 1) sent ≡ take n sent ++ bits ∷ [] = take_more sent n 0 (slice_get_within sent n bits at) ∙ ap (λ (x : ℕ). take n sent ++ x ∷ []) (get_or_from_slice_get sent n bits 0 at) in
    ap (λ (xs : List ℕ). let c : Carried = record { sent = sent; arrived = xs } in c) more

-- 2. What the memory answers.

pub took : (cell : Option Cell) (word : Word) → loaded Full cell ≡ loads.Value word → bits_in cell ≡ Some (word_bits word)
took None word is = cc
took (Some cell) word is = by cell.full is
  where
    by : (full : Bool) → (if full then loads.Value cell.word else loads.NotReady) ≡ loads.Value word → (if full then Some (word_bits cell.word) else None) ≡ Some (word_bits word)
    by true is = let same : cell.word ≡ word = cc in ap (λ (w : Word). Some (word_bits w)) same
    by false is = cc

pub took_nothing : (cell : Option Cell) (answer : Loaded) → loaded Full cell ≡ answer → ((word : Word) → answer ≡ loads.Value word → ⊥) → bits_in cell ≡ None
took_nothing None answer is never = refl
took_nothing (Some cell) answer is never = by cell.full is never
  where
    by : (full : Bool) → (if full then loads.Value cell.word else loads.NotReady) ≡ answer
        → ((word : Word) → answer ≡ loads.Value word → ⊥) → (if full then Some (word_bits cell.word) else None) ≡ None
    by true is never = absurd (never cell.word (sym is))
    by false is never = refl

pub neither : (answer : Loaded) → (answer ≡ loads.NotReady) ⊎ (answer ≡ loads.NoPage) → (word : Word) → answer ≡ loads.Value word → ⊥
neither answer (inl is) word value = let clash : loads.NotReady ≡ loads.Value word = sym is ∙ value in cc
neither answer (inr is) word value = let clash : loads.NoPage ≡ loads.Value word = sym is ∙ value in cc

pub put : (cell : Option Cell) → stored Empty cell ≡ stores.Done → is_free cell ≡ true
put None is = cc
put (Some cell) is = by cell.full is
  where
    by : (full : Bool) → (if not full then stores.Done else stores.NotReady) ≡ stores.Done → not full ≡ true
    by true is = cc
    by false is = refl

pub put_nothing : (cell : Option Cell) (answer : Stored) → stored Empty cell ≡ answer → (answer ≡ stores.Done → ⊥) → is_free cell ≡ false
put_nothing None answer is never = refl
put_nothing (Some cell) answer is never = by cell.full is never
  where
    by : (full : Bool) → (if not full then stores.Done else stores.NotReady) ≡ answer → (answer ≡ stores.Done → ⊥) → not full ≡ false
    by true is never = refl
    by false is never = absurd (never (sym is))

pub not_done : (answer : Stored) → (answer ≡ stores.NotReady) ⊎ (answer ≡ stores.NoPage) → answer ≡ stores.Done → ⊥
not_done answer (inl is) done = let clash : stores.NotReady ≡ stores.Done = sym is ∙ done in cc
not_done answer (inr is) done = let clash : stores.NoPage ≡ stores.Done = sym is ∙ done in cc
