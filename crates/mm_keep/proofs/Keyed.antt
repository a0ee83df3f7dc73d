-- Rows of threads that are numbers of the threads which they give: none stands at two places, and no thread either.
use Rattle.std.proofs.Common.{◌≡◌, ℕ, zero, suc, Bool, true, false, List, [], ◌∷◌, ◌++◌, map, Some, refl, sym, ap}
use Rattle.std.proofs.Common.{◌∙◌, subst, inl, inr}
use Rattle.std.proofs.lemmas.{Bool.{cases_Bool, both_ways}, Option.same_Some}
use Rattle.std.specs.{Prelude.{slice_get, if◌then◌else◌}, List.{AllByRecursion, IsDistinct, list_any}}
use Rattle.indexmap.specs.IndexSet.{insert_key}
use Rattle.mm_kernel.specs.{declared.thread.Thread.Thread, Uses.AreDistinct}
use Rattle.mm_keep.specs.Rows.{Row, AreKeyed, IsKey, numbers_of, thread_of}
use Rattle.mm_keep.proofs.Same.{eq_row, own_row}

module _ {X : Type 0} (P : X → Type 0) where
  all_got : (xs : List X) (k : ℕ) (x : X) → AllByRecursion P xs → slice_get xs k ≡ Some x → P x
  all_got [] k x h e = cc
  all_got (y ∷ ys) zero x h e = subst P (same_Some y x e) h.0
  all_got (y ∷ ys) (suc k) x h e = all_got ys k x h.1 e

  all_push : (xs : List X) (x : X) → AllByRecursion P xs → P x → AllByRecursion P (xs ++ x ∷ [])
  all_push [] x h p = (p, tt)
  all_push (y ∷ ys) x h p = (h.0, all_push ys x h.1 p)

-- 1. Places.

module _ {K : Type 0} (eq : K → K → Bool) (own : (x : K) → eq x x ≡ true) where
  differs : (y : K) (ys : List K) (k : ℕ) (x : K) → AllByRecursion (λ z. eq y z ≡ false) ys → y ≡ x → slice_get ys k ≡ Some x → ⊥
  differs y ys k x h same e = both_ways (eq y x) (all_got (λ z. eq y z ≡ false) ys k x h e) (ap (eq y) (sym same) ∙ own y)

  one_place : (xs : List K) → IsDistinct eq xs → (j k : ℕ) (x : K) → slice_get xs j ≡ Some x → slice_get xs k ≡ Some x → j ≡ k
  unfolding IsDistinct
  one_place [] h j k x a b = cc
  one_place (y ∷ ys) h zero zero x a b = refl
  one_place (y ∷ ys) h zero (suc k) x a b = absurd (differs y ys k x h.0 (same_Some y x a) b)
  one_place (y ∷ ys) h (suc j) zero x a b = absurd (differs y ys j x h.0 (same_Some y x b) a)
  one_place (y ∷ ys) h (suc j) (suc k) x a b = ap suc (one_place ys h.1 j k x a b)

-- the element of which one of a map is made
record Source {K X : Type 0} (f : K → X) (ks : List K) (k : ℕ) (x : X) : Type 0 where
  pub key : K
  pub at : slice_get ks k ≡ Some key
  pub gives : f key ≡ x

source : {K X : Type 0} (f : K → X) (ks : List K) (k : ℕ) (x : X) → slice_get (map f ks) k ≡ Some x → Source f ks k x
source f [] k x e = cc
source f (y ∷ ys) zero x e = record { key = y; at = refl; gives = same_Some (f y) x e }
source f (y ∷ ys) (suc k) x e = let s = source f ys k x e in record { key = s.key; at = s.at; gives = s.gives }

pub threads_distinct : (rows : List Row) → IsDistinct eq_row rows → AreKeyed rows → AreDistinct (map thread_of rows)
threads_distinct rows d keyed j k t a b =
    let x = source thread_of rows j t a in
    let y = source thread_of rows k t b in
    let kx = all_got IsKey rows j x.key keyed.each x.at in
    let ky = all_got IsKey rows k y.key keyed.each y.at in
    let same : y.key ≡ x.key = sym ky ∙ ap numbers_of (y.gives ∙ sym x.gives) ∙ kx in
    one_place eq_row own_row rows d j k x.key x.at (y.at ∙ ap Some same)

-- 2. Inserts.

pub keyed_more : (rows now : List Row) (row : Row) → now ≡ insert_key eq_row rows row → IsKey row → AreKeyed rows → AreKeyed now
keyed_more rows now row e key keyed = elim (cases_Bool (list_any (eq_row row) rows)) [
  | inl there ↦ subst AreKeyed (sym (e ∙ ap (λ (b : Bool). if b then rows else rows ++ row ∷ []) there)) keyed
  | inr absent ↦ subst AreKeyed (sym (e ∙ ap (λ (b : Bool). if b then rows else rows ++ row ∷ []) absent))
      (record { each = all_push IsKey rows row keyed.each key })
]

pub is_key : (t : Thread) (row : Row) → row ≡ numbers_of t → thread_of row ≡ t → IsKey row
is_key t row is again = ap numbers_of again ∙ sym is
