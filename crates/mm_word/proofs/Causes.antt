-- Each cause has a number of its own, from 1 to the last one.
use Rattle.std.proofs.Common.{◌≡◌, ℕ, zero, suc, ◌+◌, ◌<◌, ◌≤◌, true, nat_eq, List, [], ◌∷◌, length, Some, refl, sym}
use Rattle.std.{proofs.Common.{ap, ◌∙◌, arith, eqb-true}, specs.Prelude.{slice_get, unwrap_or}}
use Rattle.mm_word.specs.declared.cause.Cause.{Cause}
use Rattle.mm_word.specs.declared.cause.Cause.TheVariants.{NotPointer, Perm, Bounds, Align, NoPage, Sync, Illegal, Priv}
use Rattle.mm_word.specs.declared.cause.Cause.TheVariants.{DivZero, Malformed, Trap, NoSlot, OutFull}
use Rattle.mm_word.specs.Cause.{number_of, causes, cause_of}

-- 1. From a cause to its number and back.

known : (c : Cause) → (cause_of (number_of c) ≡ Some c) × (1 ≤ number_of c) × (number_of c ≤ 13)
known NotPointer = (refl, omega arith, omega arith)
known Perm = (refl, omega arith, omega arith)
known Bounds = (refl, omega arith, omega arith)
known Align = (refl, omega arith, omega arith)
known NoPage = (refl, omega arith, omega arith)
known Sync = (refl, omega arith, omega arith)
known Illegal = (refl, omega arith, omega arith)
known Priv = (refl, omega arith, omega arith)
known DivZero = (refl, omega arith, omega arith)
known Malformed = (refl, omega arith, omega arith)
known Trap = (refl, omega arith, omega arith)
known NoSlot = (refl, omega arith, omega arith)
known OutFull = (refl, omega arith, omega arith)

pub cause_back : (c : Cause) → cause_of (number_of c) ≡ Some c
cause_back c = (known c).0

pub number_within : (c : Cause) → (1 ≤ number_of c) × (number_of c ≤ 13)
number_within c = ((known c).1, (known c).2)

pub causes_same : (c d : Cause) → nat_eq (number_of c) (number_of d) ≡ true → c ≡ d
causes_same c d e =
    let same : Some c ≡ Some d = sym (cause_back c) ∙ ap cause_of (eqb-true (number_of c) (number_of d) e) ∙ cause_back d in
    ap (λ o. unwrap_or o c) same

-- 2. From a number to its cause and back.

abbrev AreNumbered : ℕ → List Cause → Type 0
AreNumbered k [] = Unit {0}
AreNumbered k (c ∷ cs) = (number_of c ≡ suc k) × AreNumbered (suc k) cs

named : (k : ℕ) (cs : List Cause) → AreNumbered k cs → (n : ℕ) → n < length cs
    → (c : Cause) × (slice_get cs n ≡ Some c) × (number_of c ≡ suc (k + n))
named k [] are n lt = absurd (omega arith)
named k (c ∷ cs) are zero lt = (c, refl, omega (arith, are.0))
named k (c ∷ cs) are (suc n) lt =
    let rest = named (suc k) cs are.1 n (omega arith) in (rest.0, rest.1, omega (arith, rest.2))

-- the cause of a number from 1 to the last one
pub number_back : (n : ℕ) → 1 ≤ n → n ≤ 13 → (c : Cause) × (cause_of n ≡ Some c) × (number_of c ≡ n)
number_back zero some le = absurd (omega arith)
number_back (suc n) some le =
    let it = named 0 causes
    (refl, (refl, (refl, (refl, (refl, (refl, (refl, (refl, (refl, (refl, (refl, (refl, (refl, tt))))))))))))) n (omega arith) in
    (it.0, it.1, omega (arith, it.2))
