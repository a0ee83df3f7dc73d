-- A record that has to be whole before it is tested.
use Rattle.std.proofs.Common.{◌≡◌, ℕ, List, length, ap, ◌∙◌}
use Rattle.mm_format.specs.declared.reader.ReadError.{ReadError, TheVariants.{Fault, NoMemory}}
use Rattle.mm_format.specs.{Formats.{Parsed, Format, IsFormat, text, after, Parsed.{Got, Bad}}, Reading.FailsOr}
use Rattle.mm_format.proofs.Formats.{after_got, text_is}
use Rattle.mm_object.specs.Format.{renamed, framed}

named : {A : Type 0} (number at : ℕ) (o : Parsed A) (a : A) (next : ℕ) → renamed number at o ≡ Got a next
    → o ≡ Got a next
named number at (Got x n) a next e = e
named number at (Bad n p) a next e = absurd cc

module _ {A : Type 0} (size : ℕ) (f : Format A) (number : ℕ) where
  module _ (bytes : List ℕ) (at : ℕ) (xs : List ℕ) (end : ℕ) (whole : (text size).read bytes at ≡ Got xs end) where
    then_read : (framed size f number).read bytes at ≡ renamed number at (f.read bytes at)
    then_read = ap (λ o. after o (λ _ _. renamed number at (f.read bytes at))) whole

    pub framed_got : (a : A) (next : ℕ) → f.read bytes at ≡ Got a next → (framed size f number).read bytes at ≡ Got a next
    framed_got a next e = then_read ∙ ap (renamed number at) e

    pub framed_bad : {K : Type 0} (kind : K → ℕ) (e : ReadError K) → FailsOr ⊥ kind (f.read bytes at) e
        → (framed size f number).read bytes at ≡ Bad number at
    framed_bad kind NoMemory fails = absurd fails
    framed_bad kind (Fault k p) fails = then_read ∙ ap (renamed number at) fails

  pub framed_is : IsFormat f → ((a : A) → f.Fits a → length (f.spell a) ≡ size) → IsFormat (framed size f number)
  framed_is is long = record {
    sound = λ bytes fits at a next e.
        let s = after_got ((text size).read bytes at) (λ _ _. renamed number at (f.read bytes at)) a next e in
        is.sound bytes fits at a next (named number at (f.read bytes at) a next s.3);
    complete = λ bytes at a fits stands low.
        framed_got bytes at (f.spell a) _ ((text_is size).complete bytes at (f.spell a) (long a fits) stands low) a _
        (is.complete bytes at a fits stands low);
  }
