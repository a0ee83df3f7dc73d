-- The kind of an access is found again from its code.
use Rattle.std.{specs.Prelude.{◌≡◌, ℕ, ◌<◌}, proofs.{Common.{arith, ap}, lemmas.Bool.Decides.nat_tests}}
use Rattle.mm_word.specs.{declared.access.Access.TheInside.Inside, Access.{IsGranted, kind_code, kind_of}}

pub kind_again : (n : ℕ) → n < 4 → kind_code (kind_of n) ≡ n
kind_again n small = grind (arith, nat_tests)

pub inside_again : (a : Inside) → IsGranted (record { ptr = a.ptr; addr = a.addr; kind = kind_of a.code })
    × (a.code < 4)
    → record { ptr = a.ptr; addr = a.addr; code = kind_code (kind_of a.code) } ≡ a
inside_again a h =
    let make : ℕ → Inside = λ n. record { ptr = a.ptr; addr = a.addr; code = n } in ap make (kind_again a.code h.1)
