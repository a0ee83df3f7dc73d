-- What the marks and numbers of nodes are, before and after a step.
use Rattle.std.proofs.Common.{◌≡◌, ◌≢◌, inl, inr, ℕ, zero, suc, ◌<◌, true, List, [], ◌∷◌, length, take, drop, refl, sym, ap, ◌∙◌}
use Rattle.std.proofs.Common.{Result, Ok, Err, OnOk, slice_index_or, subst, arith}
use Rattle.std.proofs.lemmas.{Bool.cases_lt, List.{get_or_past, take-append-drop, Elements.Contains-append_right}}
use Rattle.std.specs.Prelude.{Contains}
use Rattle.mm_endless.specs.declared.walk.Mark.{Mark, TheVariants.{Unmet, OnPath, Passed, Closed}}
use Rattle.mm_endless.specs.Stages.{Stage, mark_of, is_done, IsOnPath, IsDone}

unmet_not : ◌≡◌ {A = Mark} Unmet OnPath → ⊥
unmet_not e = cc

pub path_inside : (s : Stage) (v : ℕ) → IsOnPath s v → v < length s.marks
path_inside s v h = elim (cases_lt v (length s.marks)) [
  | inl lt ↦ lt
  | inr past ↦ absurd (unmet_not (sym (get_or_past s.marks v Unmet past) ∙ h))
]

pub done_inside : (s : Stage) (v : ℕ) → IsDone s v → v < length s.marks
done_inside s v h = elim (cases_lt v (length s.marks)) [
  | inl lt ↦ lt
  | inr past ↦ let e = ap is_done (sym (get_or_past s.marks v Unmet past)) ∙ h in cc
]

-- a node is on the path, done, or neither
pub not_both : (s : Stage) (v : ℕ) → IsOnPath s v → IsDone s v → ⊥
not_both s v h d = let e = ap is_done (sym h) ∙ d in cc

pub path_not_unmet : (s : Stage) (u v : ℕ) → IsOnPath s u → mark_of s v ≡ Unmet → u ≢ v
path_not_unmet s u v h unmet e = unmet_not (sym unmet ∙ ap (mark_of s) (sym e) ∙ h)

pub done_not_unmet : (s : Stage) (u v : ℕ) → IsDone s u → mark_of s v ≡ Unmet → u ≢ v
done_not_unmet s u v d unmet e = let k = ap is_done (sym (ap (mark_of s) e ∙ unmet)) ∙ d in cc

pub data Kind (m : Mark) : Type 0 where
  unmet : m ≡ Unmet → Kind m
  path : m ≡ OnPath → Kind m
  over : is_done m ≡ true → Kind m

pub kind_of : (m : Mark) → Kind m
kind_of Unmet = unmet refl
kind_of OnPath = path refl
kind_of Passed = over refl
kind_of Closed = over refl

pub ok_more : {T E P Q : Type 0} → (r : Result T E) → (P → Q) → OnOk r P → OnOk r Q
ok_more (Ok t) f h = f h
ok_more (Err e) f h = h

pub ok_both : {T E P Q R : Type 0} → (r : Result T E) → (P → Q → R) → OnOk r P → OnOk r Q → OnOk r R
ok_both (Ok t) f h k = f h k
ok_both (Err e) f h k = h

pub ok_so : {T E P : Type 0} → (r : Result T E) → P → OnOk r P
ok_so (Ok t) h = h
ok_so (Err e) h = tt

-- an element that is read is in its list
pub read_in : (xs : List ℕ) (k x : ℕ) → k < length xs → x ≡ slice_index_or xs k x → Contains xs x
read_in xs k x lt e = (k, lt, sym e)

pub read_as : {X : Type 0} (xs : List X) (k : ℕ) (x d : X) → k < length xs → x ≡ slice_index_or xs k x → slice_index_or xs k d ≡ x
read_as [] k x d lt e = absurd (omega (arith, lt))
read_as (y ∷ xs) zero x d lt e = sym e
read_as (y ∷ xs) (suc k) x d lt e = read_as xs k x d (omega (arith, lt)) e

pub in_drop : (from : ℕ) (xs : List ℕ) (v : ℕ) → Contains (drop from xs) v → Contains xs v
in_drop from xs v inside = subst (λ l. Contains l v) (take-append-drop from xs) (Contains-append_right (take from xs) (drop from xs) v inside)
