-- What each way to make a format keeps.
use Rattle.std.proofs.Common.{◌≡◌, ℕ, ◌+◌, ◌^◌, ◌<◌, ◌≤◌, Bool, true, false, not, cond, List, [], ◌∷◌, ◌++◌, length}
use Rattle.std.proofs.Common.{take, drop, refl, sym, ap, subst, ◌∙◌, arith}
use Rattle.std.proofs.lemmas.{Bool.{ltb-false, le-ltb, not-false}, List.{length-append, length-take, length-drop}}
use Rattle.std.{proofs.lemmas.Slice.Eq.bytes_eq-Decides, specs.{Int.{w16, w32, w64, to_be_bytes}, Str.bytes_eq}}
use Rattle.mm_model.specs.Bytes.{IsBytes, number_at}
use Rattle.mm_model.proofs.Bytes.Numbers.{number_is_4}
use Rattle.mm_model.proofs.Bytes.Parts.{join_at, length-part, IsBytes-part, one_byte, two_bytes, four_bytes}
use Rattle.mm_model.proofs.Bytes.Parts.{eight_bytes, below_8, below_16, below_64}
use Rattle.mm_model.proofs.Bytes.Apart.{split, number_in_1, number_in_2, number_in_4, number_in_8}
use Rattle.mm_format.specs.Formats.{Parsed, Format, IsFormat, IsSpelledAt, whole, number, byte, u16, u32, u64, text}
use Rattle.mm_format.specs.Formats.{raw, tried, test, literal, Part, after, ◌>>=◌, done}
use Rattle.mm_format.specs.Formats.Parsed.{Got, Bad}

-- 1. Texts at a place.

module _ (bytes : List ℕ) (at : ℕ) where
  pub ends_within : (text : List ℕ) → IsSpelledAt bytes at text → at ≤ length bytes → at + length text ≤ length bytes
  ends_within text e low = omega (arith, ap length e, length-take (length text) (drop at bytes), length-drop at bytes)

  module _ (x y : List ℕ) where
    pub stand_both : IsSpelledAt bytes at x → IsSpelledAt bytes (at + length x) y → IsSpelledAt bytes at (x ++ y)
    stand_both p q =
        sym (join_at bytes at (at + length x) (length x) (length y) (length (x ++ y)) x y (sym p) (sym q) refl
        (sym (length-append x y)))

    in_two : IsSpelledAt bytes at (x ++ y) → Rattle.mm_model.proofs.Bytes.Apart.InTwo bytes at (length x) (length y) x y
    in_two e =
        split bytes at (length x) (length y) x y
        (ap (λ n. take n (drop at bytes)) (sym (length-append x y)) ∙ e) refl

    pub stands_first : IsSpelledAt bytes at (x ++ y) → IsSpelledAt bytes at x
    stands_first e = (in_two e).front

    pub stands_second : IsSpelledAt bytes at (x ++ y) → IsSpelledAt bytes (at + length x) y
    stands_second e = (in_two e).back

-- 2. Outcomes.

pub is_whole : {A : Type 0} (b : Bool) (end n next : ℕ) (v a : A) → cond b (Bad 1 end) (Got v n) ≡ Got a next
    → (b ≡ false) × (v ≡ a) × (n ≡ next)
is_whole true end n next v a e = absurd cc
is_whole false end n next v a e = (refl, cc, cc)

pub after_got : {A B : Type 0} (o : Parsed A) (rest : A → ℕ → Parsed B) (b : B) (next : ℕ) → after o rest ≡ Got b next
    → (a : A) × (middle : ℕ) × (o ≡ Got a middle) × (rest a middle ≡ Got b next)
after_got (Got a middle) rest b next e = (a, middle, refl, e)
after_got (Bad n p) rest b next e = absurd cc

tried_got : {A : Type 0} (number at : ℕ) (bad : A → Bool) (o : Parsed A) (a : A) (next : ℕ)
    → tried number at bad o ≡ Got a next → (o ≡ Got a next) × (bad a ≡ false)
tried_got number at bad (Bad n p) a next e = absurd cc
tried_got number at bad (Got x n) a next e = go (bad x) refl e
  where
    go : (b : Bool) → bad x ≡ b → cond b (Bad number at) (Got x n) ≡ Got a next → (Got x n ≡ Got a next)
        × (bad a ≡ false)
    go true is e = absurd cc
    go false is e = let same : x ≡ a = cc in (e, ap bad (sym same) ∙ is)

-- 3. Fields.

module _ (size : ℕ) where
  whole_is : {A : Type 0} (value : List ℕ → ℕ → A) (bytes : List ℕ) (at : ℕ) → at + size ≤ length bytes
      → whole value size bytes at ≡ Got (value bytes at) (at + size)
  whole_is value bytes at le = rw (le-ltb (length bytes) (at + size) le) refl

  pub record IsDigits (digits : ℕ → List ℕ) : Type 0 where
    pub long : (n : ℕ) → length (digits n) ≡ size
    pub back : (bytes : List ℕ) (at : ℕ) → IsBytes bytes → at + size ≤ length bytes
        → digits (number_at bytes at size) ≡ take size (drop at bytes)
    pub below : (bytes : List ℕ) (at : ℕ) → IsBytes bytes → at + size ≤ length bytes
        → number_at bytes at size < 256 ^ size
    pub again : (bytes : List ℕ) (at n : ℕ) → n < 256 ^ size → take size (drop at bytes) ≡ digits n
        → number_at bytes at size ≡ n

  pub number_is : (digits : ℕ → List ℕ) → IsDigits digits → IsFormat (number size digits)
  number_is digits is = record {
    sound = λ bytes fits at a next e.
        let w = is_whole _ _ _ _ _ _ e in
        let le = ltb-false _ _ w.0 in
        let here : IsSpelledAt bytes at (digits (number_at bytes at size)) =
        ap (λ n. take n (drop at bytes)) (is.long _) ∙ sym (is.back bytes at fits le) in
        rw (← w.1) (is.below bytes at fits le, here, omega (arith, w.2, is.long (number_at bytes at size)));
    complete = λ bytes at a fits stands low.
        let long = is.long a in
        let here : take size (drop at bytes) ≡ digits a = ap (λ n. take n (drop at bytes)) (sym long) ∙ stands in
        let le : at + size ≤ length bytes = omega (arith, ends_within bytes at (digits a) stands low, long) in
        whole_is (λ bytes at. number_at bytes at size) bytes at le
        ∙ ap (λ n. Got n (at + size)) (is.again bytes at a fits here) ∙ ap (λ n. Got a (at + n)) (sym long);
  }

  pub text_is : IsFormat (text size)
  text_is = record {
    sound = λ bytes fits at a next e.
        let w = is_whole _ _ _ _ _ _ e in
        let le = ltb-false _ _ w.0 in
        let long = length-part bytes at size le in
        rw (← w.1) (long, ap (λ n. take n (drop at bytes)) long, omega (arith, w.2, long));
    complete = λ bytes at a fits stands low.
        let le : at + size ≤ length bytes = omega (arith, ends_within bytes at a stands low, fits) in
        whole_is (λ bytes at. take size (drop at bytes)) bytes at le
        ∙ ap (λ xs. Got xs (at + size)) (ap (λ n. take n (drop at bytes)) (sym fits) ∙ stands)
        ∙ ap (λ n. Got a (at + n)) (sym fits);
  }

  pub raw_is : IsFormat (raw size)
  raw_is = record {
    sound = λ bytes fits at a next e.
        let t = text_is.sound bytes fits at a next e in
        ((t.0, subst IsBytes (is_whole _ _ _ _ _ _ e).1 (IsBytes-part bytes at size fits)), t.1, t.2);
    complete = λ bytes at a fits stands low. text_is.complete bytes at a fits.0 stands low;
  }

below_32 : (bytes : List ℕ) (at : ℕ) → IsBytes bytes → at + 4 ≤ length bytes → number_at bytes at 4 < 256 ^ 4
unfolding number_at
below_32 bytes at fits le =
    let f = IsBytes-part bytes at 4 fits in
    rw (number_is_4 (take 4 (drop at bytes)) (length-part bytes at 4 le)) (omega (arith, f 0, f 1, f 2, f 3))

pub byte_is : IsFormat byte
byte_is = number_is 1 (λ n. n ∷ []) (record {
  long = λ n. refl;
  back = λ bytes at fits le. one_byte bytes at le;
  below = λ bytes at fits le. below_8 bytes at fits le;
  again = λ bytes at n lt e. number_in_1 bytes at n e;
})

pub u16_is : IsFormat u16
u16_is = number_is 2 (to_be_bytes w16) (record {
  long = λ n. refl;
  back = λ bytes at fits le. two_bytes bytes at fits le;
  below = λ bytes at fits le. below_16 bytes at fits le;
  again = λ bytes at n lt e. number_in_2 bytes at n lt e;
})

pub u32_is : IsFormat u32
u32_is = number_is 4 (to_be_bytes w32) (record {
  long = λ n. refl;
  back = λ bytes at fits le. four_bytes bytes at fits le;
  below = λ bytes at fits le. below_32 bytes at fits le;
  again = λ bytes at n lt e. number_in_4 bytes at n lt e;
})

pub u64_is : IsFormat u64
u64_is = number_is 8 (to_be_bytes w64) (record {
  long = λ n. refl;
  back = λ bytes at fits le. eight_bytes bytes at fits le;
  below = λ bytes at fits le. below_64 bytes at fits le;
  again = λ bytes at n lt e. number_in_8 bytes at n lt e;
})

-- 4. Tests.

pub test_is : {A : Type 0} (f : Format A) → IsFormat f → (number : ℕ) (bad : A → Bool) → IsFormat (test f number bad)
test_is f is number bad = record {
  sound = λ bytes fits at a next e.
      let t = tried_got number at bad (f.read bytes at) a next e in
      let s = is.sound bytes fits at a next t.0 in
      ((s.0, t.1), s.1, s.2);
  complete = λ bytes at a fits stands low. rw (is.complete bytes at a fits.0 stands low, fits.1) refl;
}

pub literal_is : (letters : List ℕ) (number : ℕ) → IsFormat (literal letters number)
literal_is letters number = test_is _ (text_is (length letters)) number (λ xs. not (bytes_eq xs letters))

pub literal_read : (letters : List ℕ) (number : ℕ) (xs : List ℕ) → (literal letters number).Fits xs → letters ≡ xs
literal_read letters number xs fits = sym ((bytes_eq-Decides xs letters).0 (not-false (bytes_eq xs letters) fits.1))

-- 5. One part after the other.

pub done_is : {B : Type 0} (value : B) → IsFormat (done value)
done_is value = record {
  sound = λ bytes fits at b next e. (cc, refl, omega (arith, place e));
  complete = λ bytes at b fits stands low. let there : at ≡ at + 0 = omega arith in ap (λ v. Got v at) (sym fits)
      ∙ ap (Got b) there;
}
  where
    place : {b : _} {at next : ℕ} → Got value at ≡ Got b next → at ≡ next
    place e = cc

pub then_is : {A B : Type 0} (p : Part B A) (rest : A → Format B) → IsFormat p.format
    → ((a : A) → p.format.Fits a → IsFormat (rest a))
    → ((a : A) (b : B) → p.format.Fits a → (rest a).Fits b → p.of b ≡ a)
    → IsFormat (p >>= rest)
then_is p rest first then reads = record {
  sound = λ bytes fits at b next e.
      let s = after_got (p.format.read bytes at) (λ a n. (rest a).read bytes n) b next e in
      let f = first.sound bytes fits at s.0 s.1 s.2 in
      let g = (then s.0 f.0).sound bytes fits s.1 b next s.3 in
      let x = p.format.spell s.0 in
      let y = (rest s.0).spell b in
      rw (reads s.0 b f.0 g.0) (
        (f.0, g.0),
        stand_both bytes at x y f.1 (subst (λ n. IsSpelledAt bytes n y) f.2 g.1),
        omega (arith, f.2, g.2, length-append x y),
      );
  complete = λ bytes at b fits stands low.
      let x = p.format.spell (p.of b) in
      let y = (rest (p.of b)).spell b in
      let here = stands_first bytes at x y stands in
      rw (first.complete bytes at (p.of b) fits.0 here low)
      ((then (p.of b) fits.0).complete bytes (at + length x) b fits.1 (stands_second bytes at x y stands)
      (ends_within bytes at x here low)
      ∙ ap (Got b) (omega (arith, length-append x y)));
}
