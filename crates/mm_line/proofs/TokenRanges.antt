-- What is read, or its fault: one after the other.
use Rattle.std.proofs.Common.{◌≡◌, ◌≢◌, ℕ, ◌+◌, ◌-◌, ◌^◌, ◌<◌, ◌≤◌, Bool, true, false, not, ◌&&◌, ◌||◌, ◌==◌, nat_le}
use Rattle.std.proofs.Common.{if◌then◌else◌, List, [], ◌∷◌, length, codes, Option, Some, None, ok_or, Result, Ok, Err}
use Rattle.std.proofs.Common.{ℤ, FitsSigned, refl, sym, subst, arith}
use Rattle.std.proofs.lemmas.{Bool.{leb-true, ltb-true, and_parts, eqb-false}, Nat.mod_below}
use Rattle.std.proofs.Math.Facts.{sfits_to_z, Fits-bits}
use Rattle.std.specs.{Int.{w32, cast_signed}, Str.bytes_eq, Char.{is_digit, digit_value}}
use Prim.Native.Char.{code}
use Rattle.mm_line.proofs.{Claims.ok_same, Choices.{either, some_same}, TokenPlaces.Found}
use Rattle.mm_line.specs.declared.{fault.{Fault.Fault, Problem.Problem}, name.Mark.Mark}
use Rattle.mm_line.specs.declared.token.Token.{Token, TheVariants.{Name, Number, Wide, Bad}}
use Rattle.mm_line.specs.{Tokens.Next, Words.{look_up, ip_perms, register_named}, Faults.{number_of as fault_number}}
use Rattle.mm_line.specs.Reading.{◌>>=◌, at, wrong, wrong_token, name_of, known, word_of, register_of, ranged, between}
use Rattle.mm_line.specs.Reading.{number_of, modulo, integer_of, immediate, immediate_of, handler_of}
use Rattle.mm_line.specs.Ranges.{IsMark, IsProblem, IsHandler, Reads}
use Rattle.mm_word.specs.{declared.perm.Perm.{Perm, TheVariants.{Xu, Xp}}, Perm.can_fetch}
use Rattle.mm_line.specs.declared.fault.Fault.TheVariants as faults

err_same : {A B : Type 0} (x y : B) → let left : Result A B = Err x in let right : Result A B = Err y in left ≡ right → x ≡ y
err_same x y e = cc

ok_no_err : {A B : Type 0} (x : A) (y : B) → let left : Result A B = Ok x in let right : Result A B = Err y in left ≢ right
ok_no_err x y e = cc

pub reads_ok : {A : Type 0} (most : ℕ) (P : A → Type 0) (x : A) → P x → Reads most P (Ok x)
reads_ok most P x h = record {
  ok = λ y e. subst P (ok_same x y e) h;
  err = λ p e. absurd (ok_no_err x p e);
}

pub reads_err : {A : Type 0} (most : ℕ) (P : A → Type 0) (p : Problem) → IsProblem most p → Reads most P (Err p)
reads_err most P p h = record {
  ok = λ y e. absurd (ok_no_err y p (sym e));
  err = λ q e. subst (IsProblem most) (err_same p q e) h;
}

pub reads_or : {A : Type 0} (most : ℕ) (P : A → Type 0) (o : Option A) (p : Problem) → ((x : A) → o ≡ Some x → P x) → IsProblem most p → Reads most P (ok_or o p)
reads_or most P None p h bad = reads_err most P p bad
reads_or most P (Some x) p h bad = reads_ok most P x (h x refl)

pub reads_then : {A B : Type 0} (most : ℕ) (P : A → Type 0) (Q : B → Type 0) (r : Result A Problem)
    (f : A → Result B Problem) → Reads most P r → ((x : A) → P x → Reads most Q (f x)) → Reads most Q (r >>= f)
reads_then most P Q (Ok x) f h k = k x (h.ok x refl)
reads_then most P Q (Err p) f h k = reads_err most Q p (h.err p refl)

pub reads_weaker : {A : Type 0} (most : ℕ) (P Q : A → Type 0) (r : Result A Problem) → Reads most P r → ((x : A) → P x → Q x) → Reads most Q r
reads_weaker most P Q r h weaker = record { ok = λ x e. weaker x (h.ok x e); err = h.err }

module _ (most : ℕ) where
  pub problem : (fault : Fault) (n : Next) → fault_number fault ≤ 4 → Found most n → IsProblem most (at fault n)
  problem fault n own f = record { number = own; place = f.place }

  wrong_number : (t : Token) → fault_number (wrong_token t) ≤ 4
  wrong_number Bad = omega arith
  wrong_number _ = omega arith

  pub is_wrong : (n : Next) → Found most n → IsProblem most (wrong n)
  is_wrong n f = problem (wrong_token n.token) n (wrong_number n.token) f

  pub range_fault : (n : Next) → Found most n → IsProblem most (at faults.Range n)
  range_fault n f = problem faults.Range n (omega arith) f

  pub name_fault : (n : Next) → Found most n → IsProblem most (at faults.Name n)
  name_fault n f = problem faults.Name n (omega arith) f

  pub name_reads : (n : Next) → Found most n → Reads most (IsMark most) (name_of n)
  name_reads n f = of n.token refl
    where
      mark : Mark
      mark = record { name = n.text; left = n.left }

      of : (t : Token) → n.token ≡ t → Reads most (IsMark most) (elim t [ Name ↦ if nat_le (length n.text) 31 then Ok mark else Err (at faults.Name n) | _ ↦ Err (wrong n) ])
      of Name e = either (Reads most (IsMark most)) (nat_le (length n.text) 31) (Ok mark) (Err (at faults.Name n))
          (λ short. reads_ok most (IsMark most) mark (record { name = f.name e; length = leb-true (length n.text) 31 short; place = f.place }))
          (λ _. reads_err most (IsMark most) _ (name_fault n f))
      of _ e = reads_err most (IsMark most) _ (is_wrong n f)

  pub known_reads : {A : Type 0} (P : A → Type 0) (value : Option A) (n : Next) → ((x : A) → value ≡ Some x → P x) → Found most n → Reads most P (known value n)
  known_reads P value n h f = of n.token
    where
      of : (t : Token) → Reads most P (elim t [ Name ↦ ok_or value (at faults.Name n) | _ ↦ Err (wrong n) ])
      of Name = reads_or most P value _ h (name_fault n f)
      of _ = reads_err most P _ (is_wrong n f)

  pub ranged_reads : {A : Type 0} (P : A → Type 0) (rule : Bool → ℕ → Option A) (n : Next)
      → ((negative : Bool) (m : ℕ) (x : A) → rule negative m ≡ Some x → P x) → Found most n
      → Reads most P (ranged rule n)
  ranged_reads P rule n h f = of n.token
    where
      of : (t : Token) → Reads most P (elim t [ Number negative m ↦ ok_or (rule negative m) (at faults.Range n) | Wide ↦ Err (at faults.Range n) | _ ↦ Err (wrong n) ])
      of (Number negative m) = reads_or most P (rule negative m) _ (h negative m) (range_fault n f)
      of Wide = reads_err most P _ (range_fault n f)
      of _ = reads_err most P _ (is_wrong n f)

  between_is : (low high : ℕ) (negative : Bool) (m x : ℕ) → between low high negative m ≡ Some x → (low ≤ x) × (x ≤ high)
  between_is low high negative m x e =
      let s = some_same (nat_le low m && nat_le m high && (not negative || m == 0)) m x e in
      let t = and_parts (nat_le low m && nat_le m high) (not negative || m == 0) s.0 in
      let u = and_parts (nat_le low m) (nat_le m high) t.0 in
      let l = leb-true low m u.0 in
      let h = leb-true m high u.1 in
      (omega (arith, s.1), omega (arith, s.1))

  pub number_reads : (low high : ℕ) (n : Next) → Found most n → Reads most (λ x. (low ≤ x) × (x ≤ high)) (number_of low high n)
  number_reads low high n f = ranged_reads (λ x. (low ≤ x) × (x ≤ high)) (between low high) n (between_is low high) f

  modulo_below : (n : ℕ) (negative : Bool) (m : ℕ) → 0 < n → modulo n negative m < n
  modulo_below n true m some = mod_below (n - m) n some
  modulo_below n false m some = mod_below m n some

  pub integer_reads : (n : Next) → Found most n → Reads most (λ x. x < 2 ^ 64) (integer_of n)
  integer_reads n f = ranged_reads (λ x. x < 2 ^ 64) (λ negative m. Some (modulo (2 ^ 64) negative m)) n
      (λ negative m x e. let same : modulo (2 ^ 64) negative m ≡ x = cc in omega
      (arith, same, modulo_below (2 ^ 64) negative m (omega arith))) f

  immediate_fits : (negative : Bool) (m : ℕ) (x : ℤ) → immediate negative m ≡ Some x → FitsSigned w32 x
  immediate_fits negative m x e =
      let s = some_same (nat_le m (if negative then 2 ^ 31 else 2 ^ 32 - 1)) (cast_signed w32 (modulo (2 ^ 32) negative m)) x e in
      let low : modulo (2 ^ 32) negative m < 2 ^ 32 = modulo_below (2 ^ 32) negative m (omega arith) in
      subst (FitsSigned w32) s.1 (sfits_to_z (Fits-bits 32 tt low))

  pub immediate_reads : (n : Next) → Found most n → Reads most (FitsSigned w32) (immediate_of n)
  immediate_reads n f = ranged_reads (FitsSigned w32) immediate n immediate_fits f

  pub register_reads : (n : Next) → Found most n → Reads most (λ r. r < 16) (register_of n)
  register_reads n f = reads_or most (λ r. r < 16) (register_named n.text) _ (register_small n.text) (is_wrong n f)
    where
      register_small : (name : List ℕ) (r : ℕ) → register_named name ≡ Some r → r < 16
      register_small [] r e = cc
      register_small (a ∷ []) r e = cc
      register_small (a ∷ b ∷ []) r e =
          let s = some_same (a == code "r" && is_digit b 10) (digit_value b) r e in
          let t = ltb-true (digit_value b) 10 (and_parts (a == code "r") (is_digit b 10) s.0).1 in
          omega (arith, s.1, t)
      register_small (a ∷ b ∷ c ∷ []) r e =
          let s = some_same (a == code "r" && b == code "1" && is_digit c 6) (10 + digit_value c) r e in
          let t = ltb-true (digit_value c) 6 (and_parts (a == code "r" && b == code "1") (is_digit c 6) s.0).1 in
          omega (arith, s.1, t)
      register_small (a ∷ b ∷ c ∷ d ∷ s) r e = cc

  fetched : (xu xp : Bool) (perm : Perm) → (if xu then Some Xu else if xp then Some Xp else None) ≡ Some perm → can_fetch perm ≡ true
  fetched true xp perm e = let same : Xu ≡ perm = cc in subst (λ p. can_fetch p ≡ true) same refl
  fetched false true perm e = let same : Xp ≡ perm = cc in subst (λ p. can_fetch p ≡ true) same refl
  fetched false false perm e = cc

  pub ip_perm_reads : (n : Next) → Found most n → Reads most (λ perm. can_fetch perm ≡ true) (word_of ip_perms n)
  ip_perm_reads n f = known_reads (λ perm. can_fetch perm ≡ true) (look_up ip_perms n.text) n fetches f
    where
      fetches : (perm : Perm) → look_up ip_perms n.text ≡ Some perm → can_fetch perm ≡ true
      fetches perm e = fetched (bytes_eq n.text (codes "xu")) (bytes_eq n.text (codes "xp")) perm e

  pub handler_reads : (slot : ℕ) (n : Next) → Found most n → Reads most (IsHandler slot) (handler_of slot n)
  handler_reads slot n f = either (Reads most (IsHandler slot)) (bytes_eq n.text (codes "none")) (Ok None) _
      (λ _. reads_ok most (IsHandler slot) None tt)
      (λ _. reads_then most (λ x. (0 ≤ x) × (x ≤ 15)) (IsHandler slot) (number_of 0 15 n) _ (number_reads 0 15 n f) (λ h in_range.
      either (Reads most (IsHandler slot)) (h == slot) (Err (at faults.Range n)) (Ok (Some h))
      (λ _. reads_err most (IsHandler slot) _ (range_fault n f))
      (λ other. reads_ok most (IsHandler slot) (Some h) (omega (arith, in_range.1), λ same. eqb-false h slot other same))))
