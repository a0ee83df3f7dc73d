-- The number with which a text begins: one, and no less than what its first digits say.
use Rattle.std.proofs.Common.{◌≡◌, ℕ, zero, suc, ◌+◌, ◌-◌, ◌*◌, ◌<◌, ◌≤◌, ◌^◌, ◌⊎◌, inl, inr, append-nil, List, [], ◌∷◌}
use Rattle.std.proofs.Common.{◌++◌, length, drop, take, get_or, decimal, refl, sym, ap, ◌∙◌, subst, arith}
use Rattle.std.proofs.lemmas.Fmt.{decimal_injective, decimal_digit, decimal_nonempty, first_decimal, digits_decimal}
use Rattle.std.proofs.lemmas.{Fmt.{digits_value-decimal, decimal-digits_value}, Int.Digits.digits_value_more}
use Rattle.std.proofs.lemmas.List.{length-append, length-take-le, take-append-le, take-append-drop, get_or-take}
use Rattle.std.proofs.lemmas.List.{drop_more, take_rest}
use Rattle.std.proofs.lemmas.Str.{digit_value_digit}
use Rattle.std.proofs.lemmas.Str.Parse.{IsNumeralModel, numerals_by_value, tells_by_index, digits_value-take-le}
use Rattle.std.proofs.Math.{ListN.{get_or-append, drop_of_length-le}, Seq.get_or-append_seam}
use Rattle.std.specs.{Char.{IsAsciiDigit, IsNotAsciiDigit}, Int.IsInRange, Str.Parse.digits_value}
use Rattle.mm_model.specs.Schedule.{IsItem, item_limit}
use Rattle.mm_sched.specs.Numbers.{NoDigitFirst, Begins, IsCount}

-- the bytes before a place are digits
pub record DigitsTo (text : List ℕ) (end : ℕ) : Type 0 where
  pub each : (k : ℕ) → k < end → IsAsciiDigit (get_or text k 0)

abbrev AreDigits : List ℕ → Type 0
AreDigits ds = (k : ℕ) → k < length ds → IsInRange 48 57 (get_or ds k 0)

own : IsNumeralModel AreDigits (digits_value 10)
own = numerals_by_value AreDigits tells_by_index

decimal_digits : (n : ℕ) → n < 2 ^ 64 → AreDigits (decimal n)
decimal_digits n h = digits_decimal own n h

-- 1. What stands in a text that begins with a number.

up_to : (a b : ℕ) → (b < a → ⊥) → a ≤ b
up_to a b h = omega arith

-- digits from the beginning on are digits of the number
inside_rest : (n k : ℕ) (rest : List ℕ) → NoDigitFirst rest → k ≤ length (decimal n ++ rest) → DigitsTo (decimal n ++ rest) k → k ≤ length (decimal n)
inside_rest n k [] ends le digits = omega (arith, length-append (decimal n) [])
inside_rest n k (b ∷ rest) ends le digits =
    up_to k (length (decimal n)) (λ less. ends (subst IsAsciiDigit (get_or-append_seam (decimal n) b rest 0) (digits.each (length (decimal n)) less)))

inside : (text rest : List ℕ) (n k : ℕ) → Begins text n rest → k ≤ length text → DigitsTo text k → k ≤ length (decimal n)
inside text rest n k b le digits =
    inside_rest n k rest b.ends (subst (λ (t : List ℕ). k ≤ length t) b.spelled le) (subst (λ (t : List ℕ). DigitsTo t k) b.spelled digits)

-- so the number is no less than what these digits say
pub at_least : (text rest : List ℕ) (n k : ℕ) → n < 2 ^ 64 → Begins text n rest → k ≤ length text → DigitsTo text k → digits_value 10 (take k text) ≤ n
at_least text rest n k h b le digits =
    let front : take k text ≡ take k (decimal n) = ap (λ (t : List ℕ). take k t) b.spelled ∙ take-append-le k (decimal n) rest (inside text rest n k b le digits) in
    let value : digits_value 10 (decimal n) ≡ n = digits_value-decimal own n h in
    let less : digits_value 10 (take k (decimal n)) ≤ digits_value 10 (decimal n) = digits_value-take-le 10 (decimal n) k (omega arith) in
    let same : digits_value 10 (take k text) ≡ digits_value 10 (take k (decimal n)) = ap (digits_value 10) front in
    omega arith

first_of : (text rest : List ℕ) (n : ℕ) → n < 2 ^ 64 → Begins text n rest → get_or text 0 0 ≡ get_or (decimal n) 0 0
first_of text rest n h b = ap (λ (t : List ℕ). get_or t 0 0) b.spelled ∙ get_or-append (decimal n) rest 0 0 (decimal_nonempty n h)

-- its first byte is a digit
pub first_digit : (text rest : List ℕ) (n : ℕ) → n < 2 ^ 64 → Begins text n rest → (0 < length text) × IsAsciiDigit (get_or text 0 0)
first_digit text rest n h b =
    let some : 0 < length (decimal n) = decimal_nonempty n h in
    let sizes : length text ≡ length (decimal n) + length rest = ap length b.spelled ∙ length-append (decimal n) rest in
    (omega arith, subst IsAsciiDigit (sym (first_of text rest n h b)) (decimal_digits n h 0 some))

-- and no 0 where a second digit follows
pub no_leading_zero : (text rest : List ℕ) (n k : ℕ) → n < 2 ^ 64 → Begins text n rest → 1 < k → k ≤ length text → DigitsTo text k → get_or text 0 0 ≡ 48 → ⊥
no_leading_zero text rest zero k h b more le digits e =
    let single : length (decimal 0) ≡ 1 = ap length (decimal_digit 0 (omega arith)) in
    let long : k ≤ length (decimal 0) = inside text rest 0 k b le digits in
    omega arith
no_leading_zero text rest (suc n) k h b more le digits e =
    let first : 48 < get_or (decimal (suc n)) 0 0 = first_decimal (suc n) (omega arith) h in
    let same : get_or text 0 0 ≡ get_or (decimal (suc n)) 0 0 = first_of text rest (suc n) h b in
    omega arith

-- 2. A text whose first digits are read, with one more and to their end.

pub below_or : (k n : ℕ) → k < n + 1 → (k < n) ⊎ (n ≡ k)
below_or k n h = grind arith

pub digits_more : (text : List ℕ) (end : ℕ) → DigitsTo text end → IsAsciiDigit (get_or text end 0) → DigitsTo text (end + 1)
digits_more text end digits digit = record {
  each = λ k lt. elim (below_or k end lt) [
    | inl less ↦ digits.each k less
    | inr same ↦ subst (λ (i : ℕ). IsAsciiDigit (get_or text i 0)) same digit
  ];
}

pub value_more : (text : List ℕ) (end value : ℕ) → end < length text → IsAsciiDigit (get_or text end 0) → digits_value 10 (take end text) ≡ value
    → digits_value 10 (take (end + 1) text) ≡ value * 10 + (get_or text end 0 - 48)
value_more text end value lt digit e = omega (arith, digits_value_more 10 text end lt, digit_value_digit (get_or text end 0) digit)

pub not_digit : (b : ℕ) → IsNotAsciiDigit b → ¬ (IsAsciiDigit b)
not_digit b out digit = elim out [ inl low ↦ omega arith | inr high ↦ omega arith ]

-- the text ends at a place, or no digit stands there
abbrev pub EndsAt : List ℕ → ℕ → Type 0
EndsAt text end = (length text ≤ end) ⊎ ((end < length text) × ¬ (IsAsciiDigit (get_or text end 0)))

no_digit_behind : (text : List ℕ) (end : ℕ) → EndsAt text end → NoDigitFirst (drop end text)
no_digit_behind text end (inl e) = rw (drop_of_length-le text e) tt
no_digit_behind text end (inr e) = rw (drop_more text end 0 e.0) e.1

pub begins_with : (text : List ℕ) (end value : ℕ) → 0 < end → end ≤ length text → DigitsTo text end → digits_value 10 (take end text) ≡ value → value < 2 ^ 64
    → (get_or text 0 0 ≡ 48 → end ≡ 1) → EndsAt text end → Begins text value (drop end text)
begins_with text end value some le digits e small lead ends =
    let size : length (take end text) ≡ end = length-take-le end text le in
    let first : get_or (take end text) 0 0 ≡ get_or text 0 0 = get_or-take end text 0 0 some in
    let spelled : decimal (digits_value 10 (take end text)) ≡ take end text =
    decimal-digits_value own (take end text) (λ k lt. subst IsAsciiDigit (sym (get_or-take end text k 0 (omega arith))) (digits.each k (omega arith))) (omega arith)
    (λ zero. size ∙ lead (sym first ∙ zero)) (omega arith) in
    record {
      spelled = sym (ap (λ (ds : List ℕ). ds ++ drop end text) (ap decimal (sym e) ∙ spelled) ∙ take-append-drop end text);
      ends = no_digit_behind text end ends;
    }

-- a text that is all digits, the first of which is 0 only if it is the last
whole_number : (text : List ℕ) (value : ℕ) → 0 < length text → DigitsTo text (length text) → digits_value 10 (take (length text) text) ≡ value → value < 2 ^ 64
    → (get_or text 0 0 ≡ 48 → length text ≡ 1) → text ≡ decimal value
whole_number text value some digits e small lead =
    let begun = begins_with text (length text) value some (omega arith) digits e small lead (inl (omega arith)) in
    let rest : drop (length text) text ≡ [] = drop_of_length-le text (omega arith) in
    begun.spelled ∙ ap (λ (r : List ℕ). decimal value ++ r) rest ∙ append-nil (decimal value)

no_digits : (text : List ℕ) → DigitsTo text 0
no_digits text = record { each = λ k lt. absurd (omega arith) }

pub one_digit : (text : List ℕ) → length text ≡ 1 → IsAsciiDigit (get_or text 0 0) → text ≡ decimal (get_or text 0 0 - 48)
one_digit text one digit =
    let digits : DigitsTo text 1 = digits_more text 0 (no_digits text) digit in
    let value = value_more text 0 0 (omega arith) digit refl in
    whole_number text (get_or text 0 0 - 48) (omega arith) (rw one digits) (rw one (omega (arith, value))) (omega (arith, digit)) (λ _. one)

pub two_digits : (text : List ℕ) → length text ≡ 2 → IsAsciiDigit (get_or text 0 0) → IsAsciiDigit (get_or text 1 0) → (get_or text 0 0 ≡ 48 → ⊥)
    → text ≡ decimal (10 * (get_or text 0 0 - 48) + (get_or text 1 0 - 48))
two_digits text two first second lead =
    let digits : DigitsTo text 2 = digits_more text 1 (digits_more text 0 (no_digits text) first) second in
    let tens = value_more text 0 0 (omega arith) first refl in
    let value = value_more text 1 (get_or text 0 0 - 48) (omega arith) second (omega (arith, tens)) in
    whole_number text (10 * (get_or text 0 0 - 48) + (get_or text 1 0 - 48)) (omega arith) (rw two digits) (rw two (omega (arith, value)))
    (omega (arith, first, second)) (λ zero. absurd (lead zero))

-- 3. A text begins with one number.

digits_split : (a b r s : List ℕ) → AreDigits a → AreDigits b → NoDigitFirst r → NoDigitFirst s → a ++ r ≡ b ++ s → (a ≡ b) × (r ≡ s)
digits_split [] [] r s da db nr ns e = (refl, e)
digits_split [] (y ∷ b) r s da db nr ns e = absurd (subst NoDigitFirst e nr (db 0 (omega arith)))
digits_split (x ∷ a) [] r s da db nr ns e = absurd (subst NoDigitFirst (sym e) ns (da 0 (omega arith)))
digits_split (x ∷ a) (y ∷ b) r s da db nr ns e =
    let head : x ≡ y = cc in
    let tail : a ++ r ≡ b ++ s = cc in
    let rest = digits_split a b r s (λ k lt. da (suc k) (omega arith)) (λ k lt. db (suc k) (omega arith)) nr ns tail in
    let same : a ≡ b = rest.0 in
    (cc, rest.1)

pub begins_unique : (text r s : List ℕ) (n m : ℕ) → n < 2 ^ 64 → m < 2 ^ 64 → Begins text n r → Begins text m s → (n ≡ m) × (r ≡ s)
begins_unique text r s n m hn hm a b =
    let both = digits_split (decimal n) (decimal m) r s (decimal_digits n hn) (decimal_digits m hm) a.ends b.ends (sym a.spelled ∙ b.spelled) in
    (decimal_injective n m hn hm both.0, both.1)

pub begins_whole : (text : List ℕ) (n : ℕ) → text ≡ decimal n → Begins text n []
begins_whole text n e = record { spelled = e ∙ sym (append-nil (decimal n)); ends = tt }

pub whole_begins : (text rest : List ℕ) (n : ℕ) → Begins text n rest → length rest ≡ 0 → text ≡ decimal n
whole_begins text [] n b e = b.spelled ∙ append-nil (decimal n)
whole_begins text (x ∷ rest) n b e = absurd (omega arith)

-- 4. What a word says, which begins with a number.

pub short_item : (word : List ℕ) (n : ℕ) → word ≡ decimal n → n < 100 → IsItem word n 1
short_item word n same small = record { number_limit = omega arith; some = omega arith; count_limit = omega arith; spelled = inl (same, refl) }

pub begins_starred : (word digits : List ℕ) (n : ℕ) → word ≡ decimal n ++ 42 ∷ digits → Begins word n (42 ∷ digits)
begins_starred word digits n e = record { spelled = e; ends = λ digit. omega arith }

pub begins_item : (word : List ℕ) (n k : ℕ) → IsItem word n k → (rest : List ℕ) × Begins word n rest × IsCount rest k
begins_item word n k item = elim item.spelled [
  | inl same ↦ ([], begins_whole word n same.0, record { some = item.some; limit = item.count_limit; spelled = inl (refl, same.1) })
  | inr same ↦ (42 ∷ decimal k, begins_starred word (decimal k) n same, record { some = item.some; limit = item.count_limit; spelled = inr refl })
]

pub item_begun : (word rest : List ℕ) (n k : ℕ) → n ≤ 255 → Begins word n rest → IsCount rest k → IsItem word n k
item_begun word rest n k le b count = record {
  number_limit = le;
  some = count.some;
  count_limit = count.limit;
  spelled = elim count.spelled [
    | inl none ↦ inl (whole_begins word rest n b (ap length none.0), none.1)
    | inr same ↦ inr (b.spelled ∙ ap (λ (r : List ℕ). decimal n ++ r) same)
  ];
}

-- the word says nothing else
pub says : (word rest : List ℕ) (name n k : ℕ) → name ≤ 255 → Begins word name rest → IsItem word n k → (name ≡ n) × IsCount rest k
says word rest name n k le b item =
    let f = begins_item word n k item in
    let same = begins_unique word rest f.0 name n (omega arith) (omega (arith, item.number_limit)) b f.1 in
    (same.0, subst (λ (r : List ℕ). IsCount r k) (sym same.1) f.2)

-- the number behind a `*` is the count
pub count_read : (rest : List ℕ) (k count : ℕ) → 1 ≤ length rest → take (length rest - 1) (drop 1 rest) ≡ decimal k → k ≤ item_limit → IsCount rest count → k ≡ count
count_read rest k count some read le said = elim said.spelled [
  | inl none ↦ absurd (omega (arith, ap length none.0))
  | inr same ↦ decimal_injective k count (omega arith) (omega (arith, said.limit)) (sym read ∙ take_rest rest 1 ∙ ap (drop 1) same)
]
