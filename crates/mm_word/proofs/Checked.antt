-- What the result of a check tells.
use Rattle.std.proofs.Common.{◌≡◌, ◌≢◌, ◌↔◌, ℕ, ◌+◌, ◌%◌, ◌^◌, ◌≤◌, Bool, ◌&&◌, FitsSigned, refl, sym, ap, ◌∙◌, subst, add-zero, true, false, Option}
use Rattle.std.proofs.Common.{None, Some, Result, Ok, Err, OnOk, IfOk, IfErr, pos, negsuc, ◌+ℤ◌, [], ◌∷◌, arith}
use Rattle.std.{proofs.lemmas.Grind.common_steps, specs.{Prelude.{ℤ, if◌then◌else◌}, Int.{w64, cast_unsigned}}}
use Rattle.mm_word.specs.declared.{perm.Kind.Kind, cause.Cause.Cause, word.Word.{Word, TheVariants.{Int, Ptr}}}
use Rattle.mm_word.specs.{Cause.first_failing, Word.IsPointerAnd, Perm.allows}
use Rattle.mm_word.specs.Pointer.{Pointer, IsWellFormed, InSegment, in_segment, Covers, holds_word}
use Rattle.mm_word.specs.Access.{AccessValue, touch_at, check_result, first_fault, holds_word_at, is_aligned}
use Rattle.mm_word.{specs.Access.{IsUncovered, IsMisaligned}, proofs.{Below.holds_word-Covers, Segments.{wraps_to, wraps_above, far_outside}}}
use Rattle.mm_word.specs.declared.cause.Cause.TheVariants as cause

-- the result at an exact sum
abbrev result_at : Pointer → ℤ → Kind → Result AccessValue Cause
result_at p z kind = if allows p.perm kind then touch_at p z kind else Err cause.Perm

abbrev fault_at : Pointer → ℤ → Kind → Option Cause
fault_at p z kind = first_failing ((true, cause.NotPointer) ∷ (allows p.perm kind, cause.Perm) ∷ (holds_word_at p z, cause.Bounds) ∷ (is_aligned z, cause.Align) ∷ [])

refused_at : (p : Pointer) (z : ℤ) (kind : Kind) (c : Cause) → result_at p z kind ≡ Err c → fault_at p z kind ≡ Some c
refused_at p (pos a) kind c e = grind (arith, common_steps)
refused_at p (negsuc a) kind c e = grind (arith, common_steps)

passed_at : (p : Pointer) (z : ℤ) (kind : Kind) (t : AccessValue) → result_at p z kind ≡ Ok t → fault_at p z kind ≡ None
passed_at p (pos a) kind t e = grind (arith, common_steps)
passed_at p (negsuc a) kind t e = grind (arith, common_steps)

is_at : (p : Pointer) (z : ℤ) (kind : Kind) (t : AccessValue) → result_at p z kind ≡ Ok t → (p ≡ t.ptr) × (pos t.addr ≡ z) × (t.kind ≡ kind)
is_at p (pos a) kind t e = grind (arith, common_steps)
is_at p (negsuc a) kind t e = grind (arith, common_steps)

-- the access at an exact sum is that at the number that the sum wraps to
wraps_at : (p : Pointer) (w : ℕ) (by : ℤ) (kind : Kind) (z : ℤ) → IsWellFormed p → FitsSigned w64 by → w ≡ (p.addr + cast_unsigned w64 by) % 2 ^ 64 → pos p.addr +ℤ by ≡ z
    → touch_at p z kind ≡ touch_at p (pos w) kind
wraps_at p w by kind (pos a) h f e s = ap (λ (n : ℕ). touch_at p (pos n) kind) (sym (e ∙ wraps_to p.addr a by h.addr_in_range f s))
wraps_at p w by kind (negsuc k) h f e s =
    let far : 2 ^ 54 ≤ w = omega (arith, e, wraps_above p.addr k by h.addr_in_range f s) in
    let out : holds_word p w ≡ false = ap (λ (b : Bool). b && in_segment p (w + 7)) (far_outside p w h far) in
    rw out refl

pub touch_wraps : (p : Pointer) (w : ℕ) (by : ℤ) (kind : Kind) → IsWellFormed p → FitsSigned w64 by → w ≡ (p.addr + cast_unsigned w64 by) % 2 ^ 64
    → touch_at p (pos p.addr +ℤ by) kind ≡ touch_at p (pos w) kind
touch_wraps p w by kind h f e = wraps_at p w by kind (pos p.addr +ℤ by) h f e refl

-- a word whose first and last bytes are in the segment
pub Covers-holds_word : (p : Pointer) (a : ℕ) → Covers p a → holds_word p a ≡ true
Covers-holds_word p a covers =
    let first : InSegment p a = rw add-zero at (covers 0 (omega arith)) in
    let last : InSegment p (a + 7) = covers 7 (omega arith) in
    grind (arith, common_steps)

covered_is : (p : Pointer) (a b : ℕ) → pos b ≡ pos a → Covers p b → holds_word p a ≡ true
covered_is p a b same covers = let is : b ≡ a = grind arith in Covers-holds_word p a (subst (Covers p) is covers)

bounds_at : (p : Pointer) (z : ℤ) (kind : Kind) → result_at p z kind ≡ Err cause.Bounds → (allows p.perm kind ≡ true) × (holds_word_at p z ≡ false)
bounds_at p (pos a) kind e = grind (arith, common_steps)
bounds_at p (negsuc a) kind e = grind (arith, common_steps)

uncovered : (p : Pointer) (z : ℤ) → holds_word_at p z ≡ false → IsUncovered p z
uncovered p (pos a) out b same covers = let holds : holds_word p a ≡ true = covered_is p a b same covers in absurd (cc)
uncovered p (negsuc a) out b same covers = absurd (cc)

out_of_bounds : (p : Pointer) (z : ℤ) (kind : Kind) → allows p.perm kind ≡ true → IsUncovered p z → result_at p z kind ≡ Err cause.Bounds
out_of_bounds p (pos a) kind right out =
    let none : holds_word p a ≢ true = λ holds. out a refl (holds_word-Covers p a holds) in
    grind (arith, common_steps)
out_of_bounds p (negsuc a) kind right out = grind (arith, common_steps)

align_at : (p : Pointer) (z : ℤ) (kind : Kind) → result_at p z kind ≡ Err cause.Align → (allows p.perm kind ≡ true) × IsMisaligned p z
align_at p (pos a) kind e =
    let tests : (allows p.perm kind ≡ true) × (holds_word p a ≡ true) × (a % 8 ≢ 0) = grind (arith, common_steps) in
    (tests.0, (a, refl, holds_word-Covers p a tests.1, tests.2))
align_at p (negsuc a) kind e = absurd (grind (arith, common_steps))

misaligned : (p : Pointer) (z : ℤ) (kind : Kind) → allows p.perm kind ≡ true → IsMisaligned p z → result_at p z kind ≡ Err cause.Align
misaligned p (pos b) kind right (a, same, covers, odd) =
    let is : a ≡ b = grind arith in
    let holds : holds_word p b ≡ true = covered_is p b a same covers in
    let remains : b % 8 ≢ 0 = subst (λ (n : ℕ). n % 8 ≢ 0) is odd in
    grind (arith, common_steps)
misaligned p (negsuc b) kind right (a, same, covers, odd) = absurd (cc)

-- the same through a word

pub refused_by : (w : Word) (by : ℤ) (kind : Kind) (r : Result AccessValue Cause) → r ≡ check_result w by kind → IfErr r (λ c. first_fault w by kind ≡ Some c)
refused_by w by kind (Ok t) e = tt
refused_by (Int n) by kind (Err c) e = grind (arith, common_steps)
refused_by (Ptr p) by kind (Err c) e = refused_at p (pos p.addr +ℤ by) kind c (sym e)

pub passed_by : (w : Word) (by : ℤ) (kind : Kind) (r : Result AccessValue Cause) → r ≡ check_result w by kind → OnOk r (first_fault w by kind ≡ None)
passed_by w by kind (Err c) e = tt
passed_by (Int n) by kind (Ok t) e = absurd (cc)
passed_by (Ptr p) by kind (Ok t) e = passed_at p (pos p.addr +ℤ by) kind t (sym e)

pub pointer_by : (w : Word) (by : ℤ) (kind : Kind) (r : Result AccessValue Cause) → r ≡ check_result w by kind → IfOk r (λ t. w ≡ Ptr t.ptr)
pointer_by w by kind (Err c) e = tt
pointer_by (Int n) by kind (Ok t) e = absurd (cc)
pointer_by (Ptr p) by kind (Ok t) e = let tells = is_at p (pos p.addr +ℤ by) kind t (sym e) in ap (λ (q : Pointer). Ptr q) tells.0

pub address_by : (w : Word) (by : ℤ) (kind : Kind) (r : Result AccessValue Cause) → r ≡ check_result w by kind → IfOk r (λ t. pos t.addr ≡ pos t.ptr.addr +ℤ by)
address_by w by kind (Err c) e = tt
address_by (Int n) by kind (Ok t) e = absurd (cc)
address_by (Ptr p) by kind (Ok t) e = let tells = is_at p (pos p.addr +ℤ by) kind t (sym e) in tells.1 ∙ ap (λ (q : Pointer). pos q.addr +ℤ by) tells.0

pub kind_by : (w : Word) (by : ℤ) (kind : Kind) (r : Result AccessValue Cause) → r ≡ check_result w by kind → IfOk r (λ t. t.kind ≡ kind)
kind_by w by kind (Err c) e = tt
kind_by (Int n) by kind (Ok t) e = absurd (cc)
kind_by (Ptr p) by kind (Ok t) e = let tells = is_at p (pos p.addr +ℤ by) kind t (sym e) in tells.2

pub bounds_by : (w : Word) (by : ℤ) (kind : Kind) (r : Result AccessValue Cause) → r ≡ check_result w by kind →
    (r ≡ Err cause.Bounds) ↔ IsPointerAnd w (λ p. (allows p.perm kind ≡ true) × IsUncovered p (pos p.addr +ℤ by))
bounds_by (Int n) by kind r e = (λ is. absurd (cc), λ none. absurd none)
bounds_by (Ptr p) by kind r e =
    let z = pos p.addr +ℤ by in
    (λ is. let tells = bounds_at p z kind (sym e ∙ is) in (tells.0, uncovered p z tells.1), λ out. e ∙ out_of_bounds p z kind out.0 out.1)

pub align_by : (w : Word) (by : ℤ) (kind : Kind) (r : Result AccessValue Cause) → r ≡ check_result w by kind →
    (r ≡ Err cause.Align) ↔ IsPointerAnd w (λ p. (allows p.perm kind ≡ true) × IsMisaligned p (pos p.addr +ℤ by))
align_by (Int n) by kind r e = (λ is. absurd (cc), λ none. absurd none)
align_by (Ptr p) by kind r e =
    let z = pos p.addr +ℤ by in
    (λ is. align_at p z kind (sym e ∙ is), λ odd. e ∙ misaligned p z kind odd.0 odd.1)
