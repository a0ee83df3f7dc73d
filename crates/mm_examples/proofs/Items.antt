-- Words that are items, and words that are not.
use Rattle.std.proofs.Common.{◌≡◌, ℕ, ◌<◌, ◌^◌, ◌==◌, if◌then◌else◌, List, [], ◌∷◌, ◌++◌, length, decimal, refl, sym}
use Rattle.std.proofs.Common.{ap, ◌∙◌, arith, inl, inr}
use Rattle.std.proofs.lemmas.Str.Parse.{IsNumeralModel, numerals_by_value, tells_digits, digit_from_value}
use Rattle.std.proofs.lemmas.{Fmt.{digits_decimal, digits_value-decimal, decimal_nonempty}, Bool.Decides.nat_tests}
use Rattle.std.specs.Str.Parse.{AllDigits, digits_value}
use Rattle.mm_model.specs.Schedule.{IsItem}

own : IsNumeralModel (AllDigits 10) (digits_value 10)
own = numerals_by_value (AllDigits 10) tells_digits

-- what stands behind the first `*`
abbrev pub behind_star : List ℕ → List ℕ
behind_star [] = []
behind_star (b ∷ bytes) = if b == 42 then bytes else behind_star bytes

behind_digits : (digits bytes : List ℕ) → AllDigits 10 digits → behind_star (digits ++ 42 ∷ bytes) ≡ bytes
behind_digits [] bytes all = refl
behind_digits (d ∷ digits) bytes all = grind (arith, nat_tests, digit_from_value d all.0, behind_digits digits bytes all.1)

nothing_behind : (digits : List ℕ) → AllDigits 10 digits → behind_star digits ≡ []
nothing_behind [] all = refl
nothing_behind (d ∷ digits) all = grind (arith, nat_tests, digit_from_value d all.0, nothing_behind digits all.1)

-- an item without a count
pub plain_item : {word : List ℕ} {number count : ℕ} → IsItem word number count → behind_star word ≡ [] → word ≡ decimal number
plain_item {word} {number} {count} item none = elim item.spelled [
  | inl plain ↦ plain.0
  | inr counted ↦
      let digits = digits_decimal own number (omega (arith, item.number_limit)) in
      let behind : behind_star word ≡ decimal count = ap behind_star counted ∙ behind_digits (decimal number) (decimal count) digits in
      let empty : length (decimal count) ≡ 0 = ap (λ (bytes : List ℕ). length bytes) (sym behind ∙ none) in
      absurd (omega (arith, empty, decimal_nonempty count (omega (arith, item.count_limit))))
]

-- an item with a count
pub counted_item : {word : List ℕ} {number count : ℕ} (some : ℕ) (more : List ℕ) → IsItem word number count → behind_star word ≡ some ∷ more → some ∷ more ≡ decimal count
counted_item {word} {number} {count} some more item is = elim item.spelled [
  | inl plain ↦
      let digits = digits_decimal own number (omega (arith, item.number_limit)) in
      let none : some ∷ more ≡ [] = sym is ∙ ap behind_star plain.0 ∙ nothing_behind (decimal number) digits in
      absurd (cc)
  | inr counted ↦
      let digits = digits_decimal own number (omega (arith, item.number_limit)) in
      sym is ∙ ap behind_star counted ∙ behind_digits (decimal number) (decimal count) digits
]

-- the number that decimal digits write
pub value_is : (word : List ℕ) (n : ℕ) → n < 2 ^ 64 → word ≡ decimal n → digits_value 10 word ≡ n
value_is word n small is = ap (digits_value 10) is ∙ digits_value-decimal own n small
