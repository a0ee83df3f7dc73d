-- Formats of files: of one description, how a value is spelled, what is read from bytes, and the first fault.
use Rattle.std.specs.Prelude.{◌≡◌, ◌↔◌, ℕ, zero, suc, ◌+◌, ◌^◌, ◌<◌, ◌≤◌, Bool, false, not, nat_lt, if◌then◌else◌, List}
use Rattle.std.specs.{Prelude.{[], ◌∷◌, ◌++◌, length, take, drop, Option, Some, None}, Int.{w16, w32, w64, to_be_bytes}}
use Rattle.std.specs.Str.{bytes_eq}
use Rattle.mm_model.specs.Bytes.{IsBytes, number_at}

-- 1. Formats.

-- what is read at a place: a value and where the next field begins, or the number and the place of the first fault
pub data Parsed (A : Type 0) : Type 0 where
  Got : A → (next : ℕ) → Parsed A
  Bad : (number at : ℕ) → Parsed A

-- a format of values: which of them have a spelling, how each is spelled, and what is read from bytes at a place
pub record Format (A : Type 0) : Type 1 where
  pub Fits : A → Type 0
  pub spell : A → List ℕ
  pub read : (bytes : List ℕ) (at : ℕ) → Parsed A

-- the text is what the bytes have at this place
abbrev pub IsSpelledAt : (bytes : List ℕ) (at : ℕ) (text : List ℕ) → Type 0
IsSpelledAt bytes at text = take (length text) (drop at bytes) ≡ text

-- what a format has to be: what is read fits and is spelled where it was read; what fits is read where it is spelled
pub record IsFormat {A : Type 0} (f : Format A) : Type 0 where
  pub sound : (bytes : List ℕ) → IsBytes bytes → (at : ℕ) (a : A) (next : ℕ) → f.read bytes at ≡ Parsed.Got a next
      → f.Fits a × IsSpelledAt bytes at (f.spell a) × (next ≡ at + length (f.spell a))
  pub complete : (bytes : List ℕ) (at : ℕ) (a : A) → f.Fits a → IsSpelledAt bytes at (f.spell a)
      → at ≤ length bytes → f.read bytes at ≡ Parsed.Got a (at + length (f.spell a))

-- 2. Fields.

-- a field of this size, which has to be whole: else fault 1 is at the end of the file
abbrev pub whole : {A : Type 0} → (List ℕ → ℕ → A) → (size : ℕ) → (bytes : List ℕ) (at : ℕ) → Parsed A
whole value size bytes at =
    if nat_lt (length bytes) (at + size) then Parsed.Bad 1 (length bytes) else Parsed.Got (value bytes at) (at + size)

-- a number of this size in bytes, spelled by these digits
abbrev pub number : (size : ℕ) (digits : ℕ → List ℕ) → Format ℕ
number size digits =
    record { Fits = λ n. n < 256 ^ size; spell = digits; read = whole (λ bytes at. number_at bytes at size) size }

abbrev pub byte : Format ℕ
byte = number 1 (λ n. n ∷ [])

abbrev pub u16 : Format ℕ
u16 = number 2 (to_be_bytes w16)

abbrev pub u32 : Format ℕ
u32 = number 4 (to_be_bytes w32)

abbrev pub u64 : Format ℕ
u64 = number 8 (to_be_bytes w64)

-- a list of this length, spelled as it is, whatever its numbers are
abbrev pub text : (size : ℕ) → Format (List ℕ)
text size = record {
  Fits = λ xs. length xs ≡ size;
  spell = λ xs. xs;
  read = whole (λ bytes at. take size (drop at bytes)) size;
}

-- a list of this count of bytes, spelled as it is
abbrev pub raw : (size : ℕ) → Format (List ℕ)
raw size = record {
  Fits = λ xs. (length xs ≡ size) × IsBytes xs;
  spell = λ xs. xs;
  read = whole (λ bytes at. take size (drop at bytes)) size;
}

-- 3. Tests.

abbrev pub tried : {A : Type 0} → (number at : ℕ) (bad : A → Bool) → Parsed A → Parsed A
tried number at bad (Parsed.Got a next) = if bad a then Parsed.Bad number at else Parsed.Got a next
tried number at bad (Parsed.Bad n place) = Parsed.Bad n place

-- a value that is not bad: else the fault of this number is where it begins
abbrev pub test : {A : Type 0} → Format A → (number : ℕ) (bad : A → Bool) → Format A
test f number bad = record {
  Fits = λ a. f.Fits a × (bad a ≡ false);
  spell = f.spell;
  read = λ bytes at. tried number at bad (f.read bytes at);
}

-- the text of these letters; any other text of their count is the fault of this number
abbrev pub literal : (letters : List ℕ) (number : ℕ) → Format (List ℕ)
literal letters number = test (text (length letters)) number (λ xs. not (bytes_eq xs letters))

-- 4. One part after the other.

-- a part of a value, and how it is spelled
pub record Part (B A : Type 0) : Type 1 where
  pub of : B → A
  pub format : Format A

abbrev pub after : {A B : Type 0} → Parsed A → (A → ℕ → Parsed B) → Parsed B
after (Parsed.Got a next) rest = rest a next
after (Parsed.Bad number at) rest = Parsed.Bad number at

-- a part, and after it the rest, which may depend on what the part is
infixl 10 ◌>>=◌
abbrev pub ◌>>=◌ : {A B : Type 0} → Part B A → (A → Format B) → Format B
part >>= rest = record {
  Fits = λ b. part.format.Fits (part.of b) × (rest (part.of b)).Fits b;
  spell = λ b. part.format.spell (part.of b) ++ (rest (part.of b)).spell b;
  read = λ bytes at. after (part.format.read bytes at) (λ a next. (rest a).read bytes next);
}

-- the value is complete
abbrev pub done : {B : Type 0} → B → Format B
done value = record { Fits = λ b. b ≡ value; spell = λ b. []; read = λ bytes at. Parsed.Got value at }

-- the part that a function takes from a value
abbrev pub part : {A B : Type 0} → (B → A) → Format A → Part B A
part of format = record { of = of; format = format }

-- 5. Whole files.

-- what the bytes of a file say: if they go on after the last field, the fault of this number is there
abbrev pub file : {A : Type 0} → Format A → (trailing : ℕ) → (bytes : List ℕ) → Parsed A
file f trailing bytes =
    after (f.read bytes 0)
    (λ a next. if nat_lt next (length bytes) then Parsed.Bad trailing next else Parsed.Got a next)

-- a file has no fault exactly if it spells a value that fits, and that value is read
abbrev pub RoundTrips : {A : Type 0} → Format A → Type 0
RoundTrips {A} f =
    (trailing : ℕ) (bytes : List ℕ) → IsBytes bytes → (a : A)
    → (file f trailing bytes ≡ Parsed.Got a (length bytes)) ↔ (f.Fits a × (bytes ≡ f.spell a))

-- different values have different spellings
abbrev pub IsOneToOne : {A : Type 0} → Format A → Type 0
IsOneToOne {A} f = (a b : A) → f.Fits a → f.Fits b → f.spell a ≡ f.spell b → a ≡ b

-- the number and the place of the fault, if that is what was read
abbrev pub fault_in : {A : Type 0} → Parsed A → Option (ℕ × ℕ)
fault_in (Parsed.Got value next) = None
fault_in (Parsed.Bad number at) = Some (number, at)

-- 6. Lists.

abbrev pub cons_fits : {A : Type 0} → Format A → (A → Format (List A)) → List A → Type 0
cons_fits f rest [] = ⊥
cons_fits f rest (a ∷ others) = f.Fits a × (rest a).Fits others

abbrev pub cons_spell : {A : Type 0} → Format A → (A → Format (List A)) → List A → List ℕ
cons_spell f rest [] = []
cons_spell f rest (a ∷ others) = f.spell a ++ (rest a).spell others

-- a first value, and after it the others
unfoldable pub cons : {A : Type 0} → Format A → (A → Format (List A)) → Format (List A)
cons f rest = record {
  Fits = cons_fits f rest;
  spell = cons_spell f rest;
  read = λ bytes at. after (f.read bytes at)
      (λ a next. after ((rest a).read bytes next) (λ others end. Parsed.Got (a ∷ others) end));
}

-- a list of this count of values; the format of each depends on what comes before it
abbrev pub times : {S A : Type 0} → (S → Format A) → (S → A → S) → ℕ → S → Format (List A)
times f onward zero s = done []
times f onward (suc n) s = cons (f s) (λ a. times f onward n (onward s a))

-- a list of one value for each of another list
abbrev pub each : {B A : Type 0} → (B → Format A) → List B → Format (List A)
each f [] = done []
each f (b ∷ bs) = cons (f b) (λ _. each f bs)

-- 7. Tests that are made after a part was read.

-- if it is bad, the fault of this number is at this offset from the beginning
pub record Late : Type 0 where
  pub number : ℕ
  pub offset : ℕ
  pub bad : Bool

abbrev pub first_late : (at : ℕ) → List Late → Option (ℕ × ℕ)
first_late at [] = None
first_late at (t ∷ tests) = if t.bad then Some (t.number, at + t.offset) else first_late at tests

-- a value, if there is no fault
abbrev pub answer : {A : Type 0} → Option (ℕ × ℕ) → A → (next : ℕ) → Parsed A
answer None value next = Parsed.Got value next
answer (Some fault) value next = Parsed.Bad fault.0 fault.1

-- the first of these faults, if there is one
abbrev pub late : {A : Type 0} → Format A → (A → List Late) → Format A
late f tests = record {
  Fits = λ a. f.Fits a × (first_late 0 (tests a) ≡ None);
  spell = f.spell;
  read = λ bytes at. after (f.read bytes at) (λ a next. answer (first_late at (tests a)) a next);
}

-- 8. Reading alone.

-- the records of a count, each read with what comes before it
abbrev pub runs : {S A : Type 0} → (S → List ℕ → ℕ → Parsed A) → (S → A → S) → ℕ → S → List ℕ → ℕ → Parsed (List A)
runs read onward zero s bytes at = Parsed.Got [] at
runs read onward (suc n) s bytes at =
    after (read s bytes at)
    (λ a next. after (runs read onward n (onward s a) bytes next) (λ others end. Parsed.Got (a ∷ others) end))

-- the values of sixteen places
unfoldable pub sixteen : {A : Type 0} → (ℕ → List ℕ → ℕ → Parsed A) → List ℕ → ℕ → Parsed (List A)
sixteen read bytes at = runs read (λ k _. k + 1) 16 0 bytes at
