-- What loops that push, and late tests, read.
use Rattle.std.proofs.Common.{◌≡◌, ℕ, ◌-◌, true, List, [], Option, Some, None, ap, ◌∙◌, arith}
use Rattle.mm_format.specs.declared.reader.ReadError.{ReadError, TheVariants.{Fault, NoMemory}}
use Rattle.mm_format.specs.Formats.{Parsed, Format, Late, after, answer, first_late, times, Parsed.{Got, Bad}}
use Rattle.mm_format.{specs.Reading.FailsOr, proofs.Loops.{prefixed, nothing_before}}
use Rattle.mm_object.specs.Format.{push}

-- nothing is pushed yet
pub push_begin : {A : Type 0} (f : List A → Format A) (count : ℕ) (bytes : List ℕ) (at : ℕ) (xs : List A) → xs ≡ []
    → prefixed xs ((times f push (count - 0) xs).read bytes at) ≡ (times f push count []).read bytes at
push_begin f count bytes at xs none =
    let all : count - 0 ≡ count = omega arith in
    rw (none, all) (nothing_before ((times f push count []).read bytes at))

-- a late test refuses what was read
pub late_refused : {K A : Type 0} (number : K → ℕ) (wants : Type 0) (tests : A → List Late) (at : ℕ) (read : Parsed A)
    (a : A) (next : ℕ) → read ≡ Got a next → (e : ReadError K)
    → FailsOr ⊥ number (answer (first_late at (tests a)) true 0) e
    → FailsOr wants number (after read (λ a next. answer (first_late at (tests a)) a next)) e
late_refused number wants tests at read a next is NoMemory fails = absurd fails
late_refused number wants tests at read a next is (Fault kind offset) fails =
    ap (λ o. after o (λ a next. answer (first_late at (tests a)) a next)) is ∙ by (first_late at (tests a)) fails
  where
    by : (o : Option (ℕ × ℕ)) → answer o true 0 ≡ Bad (number kind) offset → answer o a next ≡ Bad (number kind) offset
    by None e = absurd cc
    by (Some fault) e = let one : fault.0 ≡ number kind = cc in
        let two : fault.1 ≡ offset = cc in
        ap (λ n. Bad n fault.1) one ∙ ap (Bad (number kind)) two
