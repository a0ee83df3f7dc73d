-- Lists, and tests that are made late.
use Rattle.std.proofs.Common.{◌≡◌, ℕ, zero, suc, ◌+◌, ◌≤◌, Bool, true, false, cond, List, [], ◌∷◌, ◌++◌, length, map}
use Rattle.std.proofs.{Common.{Option, Some, None, refl, sym, ap, subst, ◌∙◌, arith}, lemmas.List.length-append}
use Rattle.std.specs.List.{flat_map}
use Rattle.mm_format.specs.Formats.{Format, IsFormat, IsSpelledAt, Late, first_late, after, answer, late, cons_fits}
use Rattle.mm_format.specs.Formats.{cons_spell, cons, times, each}
use Rattle.mm_format.specs.Formats.Parsed.{Got}
use Rattle.mm_format.proofs.Formats.{after_got, ends_within, stand_both, stands_first, stands_second, done_is}

got_both : {A : Type 0} {a b : A} {m n : ℕ} → Got a m ≡ Got b n → (a ≡ b) × (m ≡ n)
got_both e = (cc, cc)

-- 1. Lists.

module _ {A : Type 0} (f : Format A) (rest : A → Format (List A)) (first : IsFormat f)
    (others : (a : A) → f.Fits a → IsFormat (rest a)) where
  read_again : (bytes : List ℕ) (at : ℕ) (xs : List A) → cons_fits f rest xs → IsSpelledAt bytes at (cons_spell f rest xs)
      → at ≤ length bytes
      → after (f.read bytes at) (λ a next. after ((rest a).read bytes next) (λ os end. Got (a ∷ os) end))
      ≡ Got xs (at + length (cons_spell f rest xs))
  read_again bytes at [] fits stands low = absurd fits
  read_again bytes at (a ∷ os) fits stands low =
      let x = f.spell a in
      let y = (rest a).spell os in
      let here = stands_first bytes at x y stands in
      rw (
        first.complete bytes at a fits.0 here low,
        (others a fits.0).complete bytes (at + length x) os fits.1 (stands_second bytes at x y stands)
            (ends_within bytes at x here low),
      ) (ap (Got (a ∷ os)) (omega (arith, length-append x y)))

  pub cons_is : IsFormat (cons f rest)
  unfolding cons
  cons_is = record {
    sound = λ bytes fits at xs end e.
        let s = after_got (f.read bytes at) (λ a next. after ((rest a).read bytes next) (λ os n. Got (a ∷ os) n)) xs end
        e in
        let t = after_got ((rest s.0).read bytes s.1) (λ os n. Got (s.0 ∷ os) n) xs end s.3 in
        let p = first.sound bytes fits at s.0 s.1 s.2 in
        let q = (others s.0 p.0).sound bytes fits s.1 t.0 t.1 t.2 in
        let x = f.spell s.0 in
        let y = (rest s.0).spell t.0 in
        let same = got_both t.3 in
        subst (λ ys. cons_fits f rest ys × IsSpelledAt bytes at (cons_spell f rest ys)
        × (end ≡ at + length (cons_spell f rest ys))) same.0 (
          (p.0, q.0),
          stand_both bytes at x y p.1 (subst (λ n. IsSpelledAt bytes n y) p.2 q.1),
          omega (arith, p.2, q.2, same.1, length-append x y),
        );
    complete = λ bytes at xs fits stands low. read_again bytes at xs fits stands low;
  }

module _ {S A : Type 0} (f : S → Format A) (onward : S → A → S) where
  pub times_is : ((s : S) → IsFormat (f s)) → (n : ℕ) (s : S) → IsFormat (times f onward n s)
  times_is is zero s = done_is []
  times_is is (suc n) s = cons_is (f s) (λ a. times f onward n (onward s a)) (is s) (λ a _. times_is is n (onward s a))

  pub times_long : (n : ℕ) (s : S) (xs : List A) → (times f onward n s).Fits xs → length xs ≡ n
  unfolding cons
  times_long zero s xs fits = ap length fits
  times_long (suc n) s [] fits = absurd fits
  times_long (suc n) s (x ∷ xs) fits = ap suc (times_long n (onward s x) xs fits.1)

  pub times_spell : (g : A → List ℕ) → ((s : S) (a : A) → (f s).spell a ≡ g a) → (n : ℕ) (s : S) (xs : List A)
      → length xs ≡ n → (times f onward n s).spell xs ≡ flat_map g xs
  unfolding cons
  times_spell g same zero s [] long = refl
  times_spell g same zero s (x ∷ xs) long = absurd (omega arith)
  times_spell g same (suc n) s [] long = absurd (omega arith)
  times_spell g same (suc n) s (x ∷ xs) long =
      ap (λ t. t ++ (times f onward n (onward s x)).spell xs) (same s x)
      ∙ ap (λ t. g x ++ t) (times_spell g same n (onward s x) xs (omega arith))

module _ {B A : Type 0} (f : B → Format A) where
  pub each_is : ((b : B) → IsFormat (f b)) → (bs : List B) → IsFormat (each f bs)
  each_is is [] = done_is []
  each_is is (b ∷ bs) = cons_is (f b) (λ _. each f bs) (is b) (λ _ _. each_is is bs)

  pub each_long : (bs : List B) (xs : List A) → (each f bs).Fits xs → length xs ≡ length bs
  unfolding cons
  each_long [] xs fits = ap length fits
  each_long (b ∷ bs) [] fits = absurd fits
  each_long (b ∷ bs) (x ∷ xs) fits = ap suc (each_long bs xs fits.1)

  pub each_spell : (g : A → List ℕ) → ((b : B) (a : A) → (f b).spell a ≡ g a) → (bs : List B) (xs : List A)
      → length xs ≡ length bs → (each f bs).spell xs ≡ flat_map g xs
  unfolding cons
  each_spell g same [] [] long = refl
  each_spell g same [] (x ∷ xs) long = absurd (omega arith)
  each_spell g same (b ∷ bs) [] long = absurd (omega arith)
  each_spell g same (b ∷ bs) (x ∷ xs) long =
      ap (λ t. t ++ (each f bs).spell xs) (same b x) ∙ ap (λ t. g x ++ t) (each_spell g same bs xs (omega arith))

-- the values of a list, of which each tells its format
pub each_own : {B A : Type 0} (f : B → Format A) (tag : A → B) (xs : List A)
    → (each f (map tag xs)).spell xs ≡ flat_map (λ x. (f (tag x)).spell x) xs
unfolding cons
each_own f tag [] = refl
each_own f tag (x ∷ xs) = ap (λ t. (f (tag x)).spell x ++ t) (each_own f tag xs)

-- 2. Late tests.

pub none_anywhere : (at from : ℕ) (tests : List Late) → first_late at tests ≡ None → first_late from tests ≡ None
none_anywhere at from [] e = refl
none_anywhere at from (t ∷ tests) e = go t.bad (none_anywhere at from tests) e
  where
    go : (b : Bool) → (first_late at tests ≡ None → first_late from tests ≡ None)
        → cond b (Some (t.number, at + t.offset)) (first_late at tests) ≡ None
        → cond b (Some (t.number, from + t.offset)) (first_late from tests) ≡ None
    go true others e = absurd cc
    go false others e = others e

module _ {A : Type 0} (f : Format A) (tests : A → List Late) where
  answered : (o : Option (ℕ × ℕ)) (a b : A) (m n : ℕ) → answer o a m ≡ Got b n → (o ≡ None) × (a ≡ b) × (m ≡ n)
  answered None a b m n e = (refl, cc, cc)
  answered (Some p) a b m n e = absurd cc

  pub late_is : IsFormat f → IsFormat (late f tests)
  late_is is = record {
    sound = λ bytes fits at a next e.
        let s = after_got (f.read bytes at) (λ x n. answer (first_late at (tests x)) x n) a next e in
        let t = answered (first_late at (tests s.0)) s.0 a s.1 next s.3 in
        let p = is.sound bytes fits at s.0 s.1 s.2 in
        subst (λ x. (late f tests).Fits x × IsSpelledAt bytes at (f.spell x) × (next ≡ at + length (f.spell x))) t.1
        ((p.0, none_anywhere at 0 (tests s.0) t.0), p.1, sym t.2 ∙ p.2);
    complete = λ bytes at a fits stands low.
        rw (is.complete bytes at a fits.0 stands low)
        (ap (λ o. answer o a (at + length (f.spell a))) (none_anywhere 0 at (tests a) fits.1));
  }
