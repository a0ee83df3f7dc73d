-- The names of registers.
use Rattle.std.proofs.Common.{◌≡◌, ℕ, zero, suc, ◌+◌, ◌<◌, ◌&&◌, ◌==◌, List, [], ◌∷◌, ◌++◌, codes, Some, refl, sym, ap}
use Rattle.std.proofs.Common.{◌∙◌, arith}
use Rattle.std.proofs.lemmas.{Fmt.decimal_digit, Str.{digit_value_digit, Parse.digit_from_value}}
use Rattle.std.proofs.lemmas.Bool.{ltb-true, and_parts, eqb-true}
use Rattle.std.specs.{Fmt.{decimal, digits}, Char.{is_digit, digit_value}}
use Prim.Native.Char.{code}
use Rattle.mm_line.{specs.Words.register_named, proofs.Choices.some_same}

abbrev named : ℕ → List ℕ
named r = codes "r" ++ decimal r

pub register_again : (r : ℕ) → r < 16 → register_named (named r) ≡ Some r
unfolding digits
register_again zero h = refl
register_again (suc zero) h = refl
register_again (suc (suc zero)) h = refl
register_again (suc (suc (suc zero))) h = refl
register_again (suc (suc (suc (suc zero)))) h = refl
register_again (suc (suc (suc (suc (suc zero))))) h = refl
register_again (suc (suc (suc (suc (suc (suc zero)))))) h = refl
register_again (suc (suc (suc (suc (suc (suc (suc zero))))))) h = refl
register_again (suc (suc (suc (suc (suc (suc (suc (suc zero)))))))) h = refl
register_again (suc (suc (suc (suc (suc (suc (suc (suc (suc zero))))))))) h = refl
register_again (suc (suc (suc (suc (suc (suc (suc (suc (suc (suc zero)))))))))) h = refl
register_again (suc (suc (suc (suc (suc (suc (suc (suc (suc (suc (suc zero))))))))))) h = refl
register_again (suc (suc (suc (suc (suc (suc (suc (suc (suc (suc (suc (suc zero)))))))))))) h = refl
register_again (suc (suc (suc (suc (suc (suc (suc (suc (suc (suc (suc (suc (suc zero))))))))))))) h = refl
register_again (suc (suc (suc (suc (suc (suc (suc (suc (suc (suc (suc (suc (suc (suc zero)))))))))))))) h = refl
register_again (suc (suc (suc (suc (suc (suc (suc (suc (suc (suc (suc (suc (suc (suc (suc zero))))))))))))))) h = refl
register_again (suc (suc (suc (suc (suc (suc (suc (suc (suc (suc (suc (suc (suc (suc (suc (suc r)))))))))))))))) h = absurd (omega arith)

digit_is : (b : ℕ) → digit_value b < 10 → b ≡ 48 + digit_value b
digit_is b h = let v = digit_value_digit b (digit_from_value b h) in omega (arith, v)

two_digits : (d : ℕ) → d < 6 → decimal (10 + d) ≡ 49 ∷ (48 + d) ∷ []
unfolding digits
two_digits zero h = refl
two_digits (suc zero) h = refl
two_digits (suc (suc zero)) h = refl
two_digits (suc (suc (suc zero))) h = refl
two_digits (suc (suc (suc (suc zero)))) h = refl
two_digits (suc (suc (suc (suc (suc zero))))) h = refl
two_digits (suc (suc (suc (suc (suc (suc d)))))) h = absurd (omega arith)

-- only these are names of registers
pub register_only : (name : List ℕ) (r : ℕ) → register_named name ≡ Some r → (r < 16) × (name ≡ named r)
register_only [] r e = cc
register_only (a ∷ []) r e = cc
register_only (a ∷ b ∷ []) r e =
    let s = some_same (a == code "r" && is_digit b 10) (digit_value b) r e in
    let t = and_parts (a == code "r") (is_digit b 10) s.0 in
    let small = ltb-true (digit_value b) 10 t.1 in
    let first : a ≡ code "r" = eqb-true a (code "r") t.0 in
    let second : b ∷ [] ≡ decimal r = ap (λ x. x ∷ []) (digit_is b small) ∙ sym (decimal_digit (digit_value b) small) ∙ ap decimal s.1 in
    (omega (arith, s.1), ap (λ x. x ∷ b ∷ []) first ∙ ap (λ x. code "r" ∷ x) second)
register_only (a ∷ b ∷ c ∷ []) r e =
    let s = some_same (a == code "r" && b == code "1" && is_digit c 6) (10 + digit_value c) r e in
    let t = and_parts (a == code "r" && b == code "1") (is_digit c 6) s.0 in
    let u = and_parts (a == code "r") (b == code "1") t.0 in
    let small = ltb-true (digit_value c) 6 t.1 in
    let first : a ≡ code "r" = eqb-true a (code "r") u.0 in
    let second : b ≡ code "1" = eqb-true b (code "1") u.1 in
    let third : c ≡ 48 + digit_value c = digit_is c (omega arith) in
    let all : 49 ∷ (48 + digit_value c) ∷ [] ≡ decimal r = sym (two_digits (digit_value c) small) ∙ ap decimal s.1 in
    (omega (arith, s.1), ap (λ x. x ∷ b ∷ c ∷ []) first ∙ ap (λ x. code "r" ∷ x ∷ c ∷ []) second ∙ ap (λ x. code "r" ∷ code "1" ∷ x ∷ []) third ∙ ap (λ x. code "r" ∷ x) all)
register_only (a ∷ b ∷ c ∷ d ∷ s) r e = cc
