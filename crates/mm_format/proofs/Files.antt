-- Whole files: what a format is there and back.
use Rattle.std.proofs.Common.{◌≡◌, ℕ, ◌+◌, ◌≤◌, Bool, true, false, cond, ltb, List, length, take, Option, Some, None}
use Rattle.std.proofs.Common.{Ok, Err, inl, inr, refl, sym, ap, ◌∙◌, arith}
use Rattle.std.proofs.lemmas.{Bool.{ltb-false, le-ltb}, List.take_all}
use Rattle.mm_model.specs.Bytes.{IsBytes}
use Rattle.mm_format.specs.declared.reader.ReadError.{ReadError, TheVariants.{Fault, NoMemory}}
use Rattle.mm_format.specs.Formats.{Parsed, Format, IsFormat, IsSpelledAt, file, fault_in, RoundTrips, IsOneToOne}
use Rattle.mm_format.specs.{Formats.Parsed.{Got, Bad}, Reading.{Fails, AnswersFile, fault_named_by}}
use Rattle.mm_format.proofs.Formats.{after_got}

module _ {A : Type 0} (f : Format A) (is : IsFormat f) where
  ended : (bytes : List ℕ) (trailing : ℕ) (b : Bool) (end : ℕ) (a c : A) (next : ℕ) → ltb end (length bytes) ≡ b
      → cond b (Bad trailing end) (Got a end) ≡ Got c next → (a ≡ c) × (length bytes ≤ end)
  ended bytes trailing true end a c next is e = absurd cc
  ended bytes trailing false end a c next is e = (cc, ltb-false end (length bytes) is)

  -- a text at the front of the bytes is all of them if they end with it
  all_of : (bytes text : List ℕ) → IsSpelledAt bytes 0 text → length bytes ≤ length text → bytes ≡ text
  all_of bytes text stands le = sym (take_all (length text) bytes le) ∙ stands

  -- what is read without a fault is spelled by the bytes
  pub spelled_by : (trailing : ℕ) (bytes : List ℕ) → IsBytes bytes → (a : A) (next : ℕ) → file f trailing bytes
      ≡ Got a next
      → f.Fits a × (bytes ≡ f.spell a)
  spelled_by trailing bytes fits a next e =
      let s = after_got (f.read bytes 0) (λ x n. cond (ltb n (length bytes)) (Bad trailing n) (Got x n)) a next e in
      let t = ended bytes trailing (ltb s.1 (length bytes)) s.1 s.0 a next refl s.3 in
      let r = is.sound bytes fits 0 s.0 s.1 s.2 in
      rw (← t.0) (r.0, all_of bytes (f.spell s.0) r.1 (omega (arith, t.1, r.2)))

  -- what fits and is spelled by the bytes is read
  pub read_whole : (trailing : ℕ) (bytes : List ℕ) (a : A) → f.Fits a → bytes ≡ f.spell a → file f trailing bytes
      ≡ Got a (length bytes)
  read_whole trailing bytes a fits same =
      let long : length (f.spell a) ≡ length bytes = ap length (sym same) in
      let front : IsSpelledAt bytes 0 (f.spell a) = take_all (length (f.spell a)) bytes (omega (arith, long)) ∙ same in
      rw (is.complete bytes 0 a fits front (omega arith))
      (rw (le-ltb (0 + length (f.spell a)) (length bytes) (omega (arith, long))) (ap (Got a) (omega (arith, long))))

  pub round_trips : RoundTrips f
  round_trips trailing bytes fits a =
      (λ e. spelled_by trailing bytes fits a (length bytes) e, λ p. read_whole trailing bytes a p.0 p.1)

  pub one_to_one : IsOneToOne f
  one_to_one a b fits others same =
      let text = f.spell a in
      let front : IsSpelledAt text 0 text = take_all (length text) text (omega arith) in
      let first = is.complete text 0 a fits front (omega arith) in
      let second = is.complete text 0 b others (ap (λ t. take (length t) text) (sym same) ∙ front ∙ same)
      (omega arith) in
      value (sym first ∙ second)
    where
      value : {m n : ℕ} → Got a m ≡ Got b n → a ≡ b
      value e = cc

-- what was read, and its fault
module _ {A : Type 0} where
  pub same_value : {a b : A} {m n : ℕ} → Got a m ≡ Got b n → a ≡ b
  same_value e = cc

  pub clean_got : (o : Parsed A) → fault_in o ≡ None → (a : A) × (next : ℕ) × (o ≡ Got a next)
  clean_got (Got a next) none = (a, next, refl)
  clean_got (Bad number at) none = absurd cc

-- what a reader of the whole file answers
module _ {A K E : Type 0} (file : Parsed A) (Spells : A → Type 0)
    (end : ℕ) (reads : (a : A) → Spells a → file ≡ Got a end) (number : K → ℕ) (fault_of : E → Option (ℕ × ℕ)) where
  pub answers_ok : (a : A) (next : ℕ) → file ≡ Got a next → Spells a → AnswersFile fault_of Spells (fault_in file) (Ok a)
  answers_ok a next is spells = record {
    spelled = spells;
    again = λ b s. (same_value (sym is ∙ reads b s), tt);
    named = tt;
    first = λ f some. let clash : None ≡ Some f = sym (ap fault_in is) ∙ some in absurd cc;
  }

  pub answers_err : (e : ReadError K) (told : E) → fault_of told ≡ fault_named_by number e → Fails number file e
      → AnswersFile fault_of Spells (fault_in file) (Err told)
  answers_err NoMemory told same h = record {
    spelled = tt;
    again = λ a s. (tt, same);
    named = λ f some. let clash : None ≡ Some f = sym same ∙ some in absurd cc;
    first = λ f some. inl same;
  }
  answers_err (Fault kind offset) told same h = record {
    spelled = tt;
    again = λ a s. let clash : Got a end ≡ Bad (number kind) offset = sym (reads a s) ∙ h in absurd cc;
    named = λ f some. ap fault_in h ∙ sym same ∙ some;
    first = λ f some. inr (same ∙ sym (ap fault_in h) ∙ some);
  }

-- an error of a reader, if there is something to be read
pub read_fails : {A K : Type 0} (number : K → ℕ) (o : Parsed A) (e : ReadError K) → Fails number o e → (a : A) (next : ℕ)
    → o ≡ Got a next → e ≡ NoMemory
read_fails number o NoMemory h a next e = refl
read_fails number o (Fault kind offset) h a next e =
    let both : Got a next ≡ Bad (number kind) offset = sym e ∙ h in absurd cc
