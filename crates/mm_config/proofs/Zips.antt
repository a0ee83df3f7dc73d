-- Lists that are related.
use Rattle.std.proofs.Common.{◌≡◌, ℕ, zero, suc, ◌<◌, List, [], ◌∷◌, ◌++◌, length, slice_get, slice_index_or, Some, refl, ap, subst, arith}
use Rattle.std.specs.List.{AllByRecursion, AllZip}

module _ {A B : Type 0} (R : A → B → Type 0) where
  pub zip_long : (xs : List A) (ys : List B) → AllZip R xs ys → length xs ≡ length ys
  zip_long [] [] h = refl
  zip_long [] (y ∷ ys) h = absurd h
  zip_long (x ∷ xs) [] h = absurd h
  zip_long (x ∷ xs) (y ∷ ys) h = ap suc (zip_long xs ys h.1)

  pub zip_at : (xs : List A) (ys : List B) → AllZip R xs ys → (at : ℕ) (y : B) → slice_get ys at ≡ Some y → (x : A) × (slice_get xs at ≡ Some x) × R x y
  zip_at [] [] h at y e = cc
  zip_at [] (z ∷ ys) h at y e = absurd h
  zip_at (x ∷ xs) [] h at y e = absurd h
  zip_at (x ∷ xs) (z ∷ ys) h zero y e = let same : z ≡ y = cc in (x, refl, subst (R x) same h.0)
  zip_at (x ∷ xs) (z ∷ ys) h (suc at) y e = zip_at xs ys h.1 at y e

  pub zip_from : (xs : List A) (ys : List B) → AllZip R xs ys → (at : ℕ) (d : A) (e : B) → at < length xs → R (slice_index_or xs at d) (slice_index_or ys at e)
  zip_from [] ys h at d e lt = absurd (omega (arith, lt))
  zip_from (x ∷ xs) [] h at d e lt = absurd h
  zip_from (x ∷ xs) (y ∷ ys) h zero d e lt = h.0
  zip_from (x ∷ xs) (y ∷ ys) h (suc at) d e lt = zip_from xs ys h.1 at d e (omega (arith, lt))

  pub zip_more : (xs : List A) (ys : List B) (x : A) (y : B) → AllZip R xs ys → R x y → AllZip R (xs ++ x ∷ []) (ys ++ y ∷ [])
  zip_more [] [] x y h r = (r, tt)
  zip_more [] (w ∷ ys) x y h r = absurd h
  zip_more (w ∷ xs) [] x y h r = absurd h
  zip_more (v ∷ xs) (w ∷ ys) x y h r = (h.0, zip_more xs ys x y h.1 r)

pub each_at : {A : Type 0} (P : A → Type 0) (xs : List A) → AllByRecursion P xs → (at : ℕ) (d : A) → at < length xs → P (slice_index_or xs at d)
each_at P [] e at d lt = absurd (omega (arith, lt))
each_at P (x ∷ xs) e zero d lt = e.0
each_at P (x ∷ xs) e (suc at) d lt = each_at P xs e.1 at d (omega (arith, lt))
