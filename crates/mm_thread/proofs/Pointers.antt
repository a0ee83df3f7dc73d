-- Pointers that a slot goes on at, and words made of two halves.
use Rattle.std.proofs.Common.{◌≡◌, ℕ, ◌+◌, ◌*◌, ◌%◌, ◌^◌, ◌<◌, true, bit_or, refl, arith, ℤ, pos, ◌+ℤ◌, subst, Option}
use Rattle.std.proofs.{Common.{Result, Ok}, lemmas.Nat.or_shifted}
use Rattle.mm_model.proofs.EffectWords.{executable_moves}
use Rattle.mm_model.specs.{Slot.{Slot, register}, Effect.{sets_pointer, if_pointer}}
use Rattle.mm_word.specs.{Perm.can_fetch, Pointer.{Pointer, moved_to, lea_result}}
use Rattle.mm_word.specs.declared.{cause.Cause.Cause, word.Word.{Word, TheVariants.{Int, Ptr}}}
use Rattle.mm_thread.specs.Ends.{EndsAlone, pointer_in}

pub lea_result-code : (p : Pointer) (by : ℤ) → can_fetch p.perm ≡ true → lea_result p by ≡ moved_to p (pos p.addr +ℤ by)
lea_result-code p by code = rw (executable_moves p.perm code) refl

-- 32 bits above and 32 bits below
pub or_halves : (high low : ℕ) → low < 2 ^ 32 → bit_or (high * 2 ^ 32 % 2 ^ 64) low ≡ high * 2 ^ 32 % 2 ^ 64 + low
or_halves high low below =
    let moved : high * 2 ^ 32 % 2 ^ 64 ≡ high % 2 ^ 32 * 2 ^ 32 = omega arith in
    rw moved (or_shifted (high % 2 ^ 32) 32 low below)

through_word :
    (w : Word) (s new : Slot) (rd : ℕ) (p : Pointer) (ended : Result (Option Pointer) Cause) (make : Pointer → Result Pointer Cause) →
    Ok p ≡ pointer_in w →
    EndsAlone (sets_pointer s rd (make p)) s new ended →
    EndsAlone (if_pointer w (λ q. sets_pointer s rd (make q))) s new ended
through_word (Int bits) s new rd p ended make there ends = cc
through_word (Ptr q) s new rd p ended make there ends =
    let same : p ≡ q = cc in
    subst (λ (r : Pointer). EndsAlone (sets_pointer s rd (make r)) s new ended) same ends

-- an instruction that makes a pointer from the pointer in register ra ends as one that was given the pointer
pub through_pointer :
    (s new : Slot) (rd ra : ℕ) (p : Pointer) (ended : Result (Option Pointer) Cause) (make : Pointer → Result Pointer Cause) (made : Result Pointer Cause) →
    Ok p ≡ pointer_in (register s ra) →
    made ≡ make p →
    EndsAlone (sets_pointer s rd made) s new ended →
    EndsAlone (if_pointer (register s ra) (λ q. sets_pointer s rd (make q))) s new ended
through_pointer s new rd ra p ended make made there is ends =
    through_word (register s ra) s new rd p ended make there
    (subst (λ (m : Result Pointer Cause). EndsAlone (sets_pointer s rd m) s new ended) is ends)
