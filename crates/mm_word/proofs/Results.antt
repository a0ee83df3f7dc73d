use Rattle.std.proofs.{Common.{◌≡◌, ℕ, ◌%◌, ◌<◌, true, arith, add-zero}, lemmas.Grind.common_steps}
use Rattle.std.specs.Prelude.{ℤ, pos, negsuc, ◌+ℤ◌, Ok, Some}
use Rattle.mm_word.specs.{declared.{perm.Kind.Kind, word.Word.{Word, TheVariants.{Int, Ptr}}}, Perm.{can_move, allows}}
use Rattle.mm_word.specs.Pointer.{Pointer, IsWellFormed, InSegment, Covers, holds_word, moved_to, lea_result}
use Rattle.mm_word.specs.Pointer.{leab_result, restrict_result, subseg_result, setptr_result, next_result, enter_result}
use Rattle.mm_word.specs.{Pointer.IsBelow, Word.IsWord, Access.{AccessValue, IsGranted, touch_at, check_result}}
use Rattle.mm_word.proofs.{Segments.segment_below, Below.{IsBelow-shorter, holds_word-Covers}}

-- a pointer moved in its segment is below
moved_to-IsBelow : (p q : Pointer) (z : ℤ) → can_move p.perm ≡ true → moved_to p z ≡ Ok q → IsBelow q p
moved_to-IsBelow p q (pos a) m e = grind (arith, common_steps)
moved_to-IsBelow p q (negsuc a) m e = cc

pub lea_result-IsBelow : (p q : Pointer) (by : ℤ) → lea_result p by ≡ Ok q → IsBelow q p
lea_result-IsBelow p q by e = grind (arith, common_steps, moved_to-IsBelow)

pub leab_result-IsBelow : (p q : Pointer) (by : ℤ) → leab_result p by ≡ Ok q → IsBelow q p
leab_result-IsBelow p q by e = grind (arith, common_steps, moved_to-IsBelow)

pub restrict_result-IsBelow : (p q : Pointer) (code : ℕ) → restrict_result p code ≡ Ok q → IsBelow q p
restrict_result-IsBelow p q code e = grind (arith, common_steps)

subseg_result-tells : (p q : Pointer) (log : ℕ) → subseg_result p log ≡ Ok q →
    (can_move p.perm ≡ true) × (log < p.log) × (record p { log = log } ≡ q)
subseg_result-tells p q log e = grind (arith, common_steps)

pub subseg_result-IsBelow : (p q : Pointer) (log : ℕ) → subseg_result p log ≡ Ok q → IsBelow q p
subseg_result-IsBelow p q log e =
    let tells = subseg_result-tells p q log e in
    rw (← tells.2) (IsBelow-shorter p log tells.0 (omega arith))

pub next_result-IsBelow : (p q : Pointer) → next_result p ≡ Some q → IsBelow q p
next_result-IsBelow p q e = grind (arith, common_steps)

pub enter_result-well_formed : (p q : Pointer) → IsWellFormed p → enter_result p ≡ Some q → IsWellFormed q
enter_result-well_formed p q w e = grind (arith, common_steps)

pub setptr_result-well_formed : (bits : ℕ) (p : Pointer) → setptr_result bits ≡ Ok p → IsWellFormed p
setptr_result-well_formed bits p e = grind (arith, common_steps)

touch_at-tells : (p : Pointer) (a : ℕ) (kind : Kind) (t : AccessValue) → touch_at p (pos a) kind ≡ Ok t →
    (holds_word p a ≡ true) × (a % 8 ≡ 0) × (record { ptr = p; addr = a; kind = kind } ≡ t)
touch_at-tells p a kind t e = grind (arith, common_steps)

-- an access that a well-formed pointer passes is granted
touch_at-IsGranted : (p : Pointer) (z : ℤ) (kind : Kind) (t : AccessValue) → IsWellFormed p → allows p.perm kind ≡ true → touch_at p z kind ≡ Ok t → IsGranted t
touch_at-IsGranted p (pos a) kind t w right e =
    let tells = touch_at-tells p a kind t e in
    let covered : Covers p a = holds_word-Covers p a tells.0 in
    let first : InSegment p a = rw add-zero at (covered 0 (omega arith)) in
    rw (← tells.2) (record {
      right = right;
      inside = covered;
      aligned = tells.1;
      below = segment_below p.log a p.addr w.log_in_range w.addr_in_range first;
    })
touch_at-IsGranted p (negsuc a) kind t w right e = cc

check_result-tells : (p : Pointer) (by : ℤ) (kind : Kind) (t : AccessValue) → check_result (Ptr p) by kind ≡ Ok t →
    (allows p.perm kind ≡ true) × (touch_at p (pos p.addr +ℤ by) kind ≡ Ok t)
check_result-tells p by kind t e = grind (arith, common_steps)

pub check_result-IsGranted : (w : Word) (by : ℤ) (kind : Kind) (t : AccessValue) → IsWord w → check_result w by kind ≡ Ok t → IsGranted t
check_result-IsGranted (Int n) by kind t h e = cc
check_result-IsGranted (Ptr p) by kind t h e =
    let tells = check_result-tells p by kind t e in
    touch_at-IsGranted p (pos p.addr +ℤ by) kind t h tells.0 tells.1
