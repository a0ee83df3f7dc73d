-- Numbers that digits write.
use Rattle.std.proofs.Common.{◌≡◌, ℕ, suc, ◌+◌, ◌*◌, ◌^◌, ◌<◌, ◌≤◌, Bool, true, false, cond, List, [], ◌∷◌, length}
use Rattle.std.proofs.Common.{take, drop, Some, None, refl, sym, ap, ◌∙◌, arith, get_or}
use Rattle.std.proofs.{lemmas.{Bool.ltb-true, List.{drop_more, drop_all}}, Math.Nat.mul-le-mul_left}
use Rattle.std.specs.{List.prefix_len, Char.digit_value, Str.Parse.{AllDigits, digits_value_after}}
use Rattle.mm_line.specs.{Tokens.{is_in, run}, Seen.limited, declared.class.Class.TheVariants.{Decimal, Hexadecimal}}

pub value_after_ge : (radix n : ℕ) (ds : List ℕ) → 1 ≤ radix → n ≤ digits_value_after radix n ds
value_after_ge radix n [] h = omega arith
value_after_ge radix n (d ∷ ds) h = omega (arith, value_after_ge radix (n * radix + digit_value d) ds h, mul-le-mul_left n h)

pub fits : (n : ℕ) → n < 2 ^ 64 → limited n ≡ Some n
fits n h = grind arith

pub too_large : (n : ℕ) → 2 ^ 64 ≤ n → limited n ≡ None
too_large n h = grind arith

-- the number so far is past 64 bits already
pub past : (radix value : ℕ) (ds : List ℕ) (total : ℕ) (i : ℕ) → 2 ≤ radix → i < length ds → digits_value_after radix
    value (drop i ds) ≡ total → 2 ^ 64 ≤ value * radix + digit_value (get_or ds i 0) → limited total ≡ None
past radix value ds total i two lt e big =
    let d : digits_value_after radix value (drop i ds) ≡ digits_value_after radix
    (value * radix + digit_value (get_or ds i 0)) (drop (i + 1) ds) = ap (digits_value_after radix value)
    (drop_more ds i 0 lt) in
    let one : 1 ≤ radix = omega arith in
    too_large total (omega (arith, value_after_ge radix (value * radix + digit_value (get_or ds i 0)) (drop (i + 1) ds) one))

pub AllDigits_run : (radix : ℕ) (p : ℕ → Bool) (q : (b : ℕ) → p b ≡ true → digit_value b < radix) (bytes : List ℕ) → AllDigits radix (take (prefix_len p bytes) bytes)
AllDigits_run radix p q [] = tt
AllDigits_run radix p q (b ∷ bytes) =
    let step : (v : Bool) → p b ≡ v → AllDigits radix (take (cond v (1 + prefix_len p bytes) 0) (b ∷ bytes)) = λ v.
    elim v as (λ w. p b ≡ w → AllDigits radix (take (cond w (1 + prefix_len p bytes) 0) (b ∷ bytes))) [
      | true ↦ λ e. let s : 1 + prefix_len p bytes ≡ suc (prefix_len p bytes) = omega arith in rw s (q b e, AllDigits_run radix p q bytes)
      | false ↦ λ e. tt
    ] in step (p b) refl

pub whole : (radix value : ℕ) (ds : List ℕ) (total i : ℕ) → length ds ≤ i → value < 2 ^ 64 → digits_value_after radix value (drop i ds) ≡ total → Some value ≡ limited total
whole radix value ds total i le lt e =
    let d : value ≡ total = sym (ap (digits_value_after radix value) (drop_all i ds le)) ∙ e in
    sym (fits value lt) ∙ ap limited d

pub decimal_run : (bytes : List ℕ) → AllDigits 10 (take (run Decimal bytes) bytes)
decimal_run bytes = AllDigits_run 10 (is_in Decimal) (λ b e. ltb-true _ _ e) bytes

pub hexadecimal_run : (bytes : List ℕ) → AllDigits 16 (take (run Hexadecimal bytes) bytes)
hexadecimal_run bytes = AllDigits_run 16 (is_in Hexadecimal) (λ b e. ltb-true _ _ e) bytes
