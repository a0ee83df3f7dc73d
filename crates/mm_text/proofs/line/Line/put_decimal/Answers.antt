use Rattle.std.proofs.Common.{◌≡◌, ℕ, ◌+◌, ◌<◌, ◌≤◌, ◌/◌, ◌%◌, List, [], ◌∷◌, ◌++◌, decimal, sym, ap, ◌∙◌, arith}
use Rattle.std.proofs.lemmas.Fmt.{decimal_digit, decimal_step}
use Rattle.mm_text.proofs.line.Line.put_decimal.Goals as goal

one_digit : (n : ℕ) → n < 10 → decimal n ≡ (48 + n % 10) ∷ []
one_digit n few = let same : n % 10 ≡ n = omega arith in rw same (decimal_digit n few)

two_digits : (n : ℕ) → 10 ≤ n → n / 10 < 10 → decimal n ≡ (48 + n / 10 % 10) ∷ (48 + n % 10) ∷ []
two_digits n many few = decimal_step n many (omega arith) ∙ ap (λ (text : List ℕ). text ++ (48 + n % 10) ∷ []) (one_digit (n / 10) few)

three_digits : (n : ℕ) → n < 256 → 10 ≤ n / 10 → decimal n ≡ (48 + n / 10 / 10) ∷ (48 + n / 10 % 10) ∷ (48 + n % 10) ∷ []
three_digits n small many =
    let first : n / 10 / 10 % 10 ≡ n / 10 / 10 = omega arith in
    decimal_step n (omega arith) (omega arith)
    ∙ ap (λ (text : List ℕ). text ++ (48 + n % 10) ∷ []) (two_digits (n / 10) many (omega arith))
    ∙ ap (λ (d : ℕ). (48 + d) ∷ (48 + n / 10 % 10) ∷ (48 + n % 10) ∷ []) first

-- digits that stand before a text
before : {digits number whole : List ℕ} (text : List ℕ) → whole ≡ digits ++ text → number ≡ digits → whole ≡ number ++ text
before text stands is = stands ∙ ap (λ (digits : List ℕ). digits ++ text) (sym is)

pub returns-then-rest-ge10 : goal.returns-then-rest-ge10
returns-then-rest-ge10 c =
    let n = c.args.number in
    before c.args.self.now
    (c.put_byte-then-rest-ge10.ensures
    ∙ ap (λ (text : List ℕ). (48 + n / 10 / 10) ∷ text) (c.put_byte-then-number-ge10.ensures ∙ ap (λ (text : List ℕ). (48 + n / 10 % 10) ∷ text) c.put_byte.ensures))
    (three_digits n c.ranges.number.fits c.if-rest-ge10.true)

pub returns-else-rest-ge10 : goal.returns-else-rest-ge10
returns-else-rest-ge10 c =
    let n = c.args.number in
    before c.args.self.now (c.put_byte-then-number-ge10.ensures ∙ ap (λ (text : List ℕ). (48 + n / 10 % 10) ∷ text) c.put_byte.ensures)
    (two_digits n c.if-number-ge10.true c.if-rest-ge10.false)

pub returns-else-number-ge10 : goal.returns-else-number-ge10
returns-else-number-ge10 c = before c.args.self.now c.put_byte.ensures (one_digit c.args.number c.if-number-ge10.false)
