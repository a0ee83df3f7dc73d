-- Spots of addresses at which there may be a break.
use Rattle.std.proofs.Common.{◌≡◌, inl, inr, ℕ, zero, suc, ◌<◌, Bool, true, false, ◌&&◌, ◌||◌, ◌==◌, List, [], ◌∷◌}
use Rattle.std.proofs.Common.{length, set, get_or, get_or-set_other, Result, Ok, Err, OnOk, OnErr, refl, sym, ap, ◌∙◌}
use Rattle.std.proofs.{Common.{subst, arith}, lemmas.{Bool.{cases_eq, Decides.nat_tests}, Grind.get_or-set_at}}
use Rattle.std.{proofs.Math.Bool.and-false, specs.List.{list_any, insert, AllByRecursion}}
use Rattle.arrayvec.specs.ArrayVec.{ArrayVec}
use Rattle.mm_debug.specs.{declared.breakpoints.Break.Break, Breakpoints.{is_break, has_break, spot_of, AreSpotted}}

-- 1. An address whose spot is not set has no break.

is_other : (spots : List Bool) (slot address : ℕ) (b : Break) → get_or spots (spot_of b.address) false ≡ true → get_or spots (spot_of address) false ≡ false → is_break slot address b ≡ false
is_other spots slot address b set_there unset = by (b.address == address) refl
  where
    by : (t : Bool) → (b.address == address) ≡ t → is_break slot address b ≡ false
    by true e =
        let same : b.address ≡ address = grind (arith, nat_tests) in
        let clash : true ≡ false = sym set_there ∙ ap (λ (a : ℕ). get_or spots (spot_of a) false) same ∙ unset in
        absurd (cc)
    by false e = ap (λ t. (b.slot == slot) && t) e ∙ and-false (b.slot == slot)

pub none_at : (spots : List Bool) (slot address : ℕ) (breaks : List Break) → AreSpotted spots breaks → get_or spots (spot_of address) false ≡ false → has_break breaks slot address ≡ false
none_at spots slot address [] all unset = refl
none_at spots slot address (b ∷ breaks) all unset =
    ap (λ t. t || list_any (is_break slot address) breaks) (is_other spots slot address b all.0 unset) ∙ none_at spots slot address breaks all.1 unset

-- 2. One spot more.

still : (spots : List Bool) (spot : ℕ) (breaks : List Break) → spot < length spots → AreSpotted spots breaks → AreSpotted (set spots spot true) breaks
still spots spot [] inside all = tt
still spots spot (b ∷ breaks) inside all = (
  elim (cases_eq (spot_of b.address) spot) [
    | inl same ↦ get_or-set_at spots spot (spot_of b.address) true false same inside
    | inr other ↦ get_or-set_other spots spot (spot_of b.address) true false other ∙ all.0
  ],
  still spots spot breaks inside all.1,
)

each_inserted : {A : Type 0} (P : A → Type 0) (xs : List A) (i : ℕ) (x : A) → P x → AllByRecursion P xs → AllByRecursion P (insert xs i x)
each_inserted P [] zero x here all = (here, tt)
each_inserted P [] (suc i) x here all = (here, tt)
each_inserted P (y ∷ ys) zero x here all = (here, all)
each_inserted P (y ∷ ys) (suc i) x here all = (all.0, each_inserted P ys i x here all.1)

module _ {T E : Type 0} where
  pub new_spotted : (spots : List Bool) (i slot address spot : ℕ) (old new : ArrayVec Break) → spot ≡ spot_of address → spot < length spots → AreSpotted spots old.items → (r : Result T E)
      → OnOk r (new.items ≡ insert old.items i (record { slot = slot; address = address })) → OnErr r (new ≡ old) → AreSpotted (set spots spot true) new.items
  new_spotted spots i slot address spot old new is inside all (Ok done) ok err =
      subst (AreSpotted (set spots spot true)) (sym ok)
      (each_inserted (λ (b : Break). get_or (set spots spot true) (spot_of b.address) false ≡ true) old.items i (record { slot = slot; address = address })
      (get_or-set_at spots spot (spot_of address) true false (sym is) inside) (still spots spot old.items inside all))
  new_spotted spots i slot address spot old new is inside all (Err e) ok err =
      subst (λ (v : ArrayVec Break). AreSpotted (set spots spot true) v.items) (sym err) (still spots spot old.items inside all)
