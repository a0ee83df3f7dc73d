-- What code that reads a format answers.
use Rattle.std.specs.{Prelude.{◌≡◌, ◌⊎◌, ℕ, List, Option, Some, None, Result, Ok, Err, IfOk, IfErr}, Result.IsErrAnd}
use Rattle.mm_format.specs.declared.reader.{ReadError.{ReadError, TheVariants.{Fault, NoMemory}}, Reader.Reader}
use Rattle.mm_format.specs.Formats.{Parsed}

-- an error is the fault that reading gives, or says that memory ran out, and then `wants` holds
abbrev pub FailsOr : {K A : Type 0} → (wants : Type 0) → (K → ℕ) → Parsed A → ReadError K → Type 0
FailsOr wants number read (Fault kind offset) = read ≡ Parsed.Bad (number kind) offset
FailsOr wants number read NoMemory = wants

-- an error is the fault that reading gives, unless memory ran out
abbrev pub Fails : {K A : Type 0} → (K → ℕ) → Parsed A → ReadError K → Type 0
Fails number read e = FailsOr (Unit {0}) number read e

-- What a function returned is the outcome of a reading: the value, whose view it has, and where the next field begins, or
-- the fault. With `wants` empty it never returned that memory ran out.
abbrev pub GivesOr : {K X A : Type 0} → (wants : Type 0) → (K → ℕ) → (X → A) → Parsed A → (next : ℕ)
    → Result X (ReadError K) → Type 0
GivesOr wants number view read next (Ok x) = read ≡ Parsed.Got (view x) next
GivesOr wants number view read next (Err e) = FailsOr wants number read e

-- what a function that takes no memory returned is an outcome, and never that memory ran out
abbrev pub GivesAlone : {K X A : Type 0} → (K → ℕ) → (X → A) → Parsed A → (next : ℕ) → Result X (ReadError K)
    → Type 0
GivesAlone number view read next r = GivesOr ⊥ number view read next r

-- From a reader of some bytes comes one of the same bytes, and what a function returned is what reading gives from where
-- the old one stood to where the new one stands.
abbrev pub ReadsOr : {K X A : Type 0} → (wants : Type 0) → (K → ℕ) → (X → A) → (List ℕ → ℕ → Parsed A)
    → (old new : Reader) → Result X (ReadError K) → Type 0
ReadsOr wants number view read old new r =
    GivesOr wants number view (read old.bytes.now old.at) new.at r × (new.bytes.now ≡ old.bytes.now)

abbrev pub Reads : {K X A : Type 0} → (K → ℕ) → (X → A) → (List ℕ → ℕ → Parsed A) → (old new : Reader)
    → Result X (ReadError K) → Type 0
Reads number view read old new r = ReadsOr (Unit {0}) number view read old new r

-- the same of a function that takes no memory: it never returns that memory ran out
abbrev pub ReadsAlone : {K X A : Type 0} → (K → ℕ) → (X → A) → (List ℕ → ℕ → Parsed A) → (old new : Reader)
    → Result X (ReadError K) → Type 0
ReadsAlone number view read old new r = ReadsOr ⊥ number view read old new r

-- what a function returned is what a whole file says
abbrev pub ReadsFile : {K X A : Type 0} → (K → ℕ) → (X → A) → Parsed A → Result X (ReadError K) → Type 0
ReadsFile number view read (Ok x) = (next : ℕ) × (read ≡ Parsed.Got (view x) next)
ReadsFile number view read (Err e) = Fails number read e

-- the number and the offset of the fault that an error names, if memory did not run out
abbrev pub fault_named_by : {K : Type 0} → (K → ℕ) → ReadError K → Option (ℕ × ℕ)
fault_named_by number (Fault kind offset) = Some (number kind, offset)
fault_named_by number NoMemory = None

-- what the reader of a whole file answers; `fault_of` is the fault that an error names, none if memory ran out
pub record AnswersFile {A E : Type 0} (fault_of : E → Option (ℕ × ℕ)) (Spells : A → Type 0) (fault : Option (ℕ × ℕ))
    (answer : Result A E) : Type 0 where
  -- the bytes spell the value that is read, and a value that they spell is read, unless memory ran out
  pub spelled : IfOk answer Spells
  pub again : (value : A) → Spells value → IfOk answer (λ x. x ≡ value) × IfErr answer (λ e. fault_of e ≡ None)
  -- a fault that is named is the first one, and if the file has a fault, it is named, unless memory ran out
  pub named : IfErr answer (λ e. (f : ℕ × ℕ) → fault_of e ≡ Some f → fault ≡ Some f)
  pub first : (f : ℕ × ℕ) → fault ≡ Some f → IsErrAnd answer (λ e. (fault_of e ≡ None) ⊎ (fault_of e ≡ Some f))
