-- Numbers, as code reads them from a field.
use Rattle.std.proofs.Common.{◌≡◌, ℕ, ◌+◌, ◌*◌, Bool, true, false, cond, List, [], ◌∷◌, length, get_or, sym, ap, ◌∙◌}
use Rattle.std.{proofs.{Common.arith, lemmas.Bool.ltb-false}, specs.Int.{w16, w32, w64, from_be_bytes}}
use Rattle.mm_model.specs.Bytes.{number_at}
use Rattle.mm_model.proofs.Bytes.{Numbers.{number_is_2, number_is_4, number_is_8}, Parts.length-part}
use Rattle.mm_format.{specs.Formats.{text, byte, u16, u32, u64, Parsed.{Got, Bad}}, proofs.Formats.is_whole}

module _ (bytes : List ℕ) (at : ℕ) where
  same_bad : {A B : Type 0} (b : Bool) (end n k p : ℕ) (v : A) (w : B) → cond b (Bad 1 end) (Got v n) ≡ Bad k p
      → cond b (Bad 1 end) (Got w n) ≡ Bad k p
  same_bad true end n k p v w e = cc
  same_bad false end n k p v w e = absurd cc

  same_got : {A B : Type 0} (b : Bool) (end n next : ℕ) (v a : A) (w : B) → cond b (Bad 1 end) (Got v n) ≡ Got a next
      → cond b (Bad 1 end) (Got w n) ≡ Got w next
  same_got true end n next v a w e = absurd cc
  same_got false end n next v a w e = cc

  pub u16_bad : (k p : ℕ) → (text 2).read bytes at ≡ Bad k p → u16.read bytes at ≡ Bad k p
  u16_bad k p e = same_bad _ _ _ k p _ _ e

  pub u16_got : (xs : List ℕ) (next : ℕ) → (text 2).read bytes at ≡ Got xs next
      → u16.read bytes at ≡ Got (from_be_bytes w16 (get_or xs 0 0 ∷ get_or xs 1 0 ∷ [])) next
  unfolding number_at
  u16_got xs next e =
      let w = is_whole _ _ _ _ _ _ e in
      let long = ap length (sym w.1) ∙ length-part bytes at 2 (ltb-false _ _ w.0) in
      same_got _ _ _ next _ xs (number_at bytes at 2) e
      ∙ ap (λ n. Got n next) (ap (Rattle.std.specs.List.fold (λ n b. n * 256 + b) 0) w.1 ∙ number_is_2 xs long)

  pub u32_bad : (k p : ℕ) → (text 4).read bytes at ≡ Bad k p → u32.read bytes at ≡ Bad k p
  u32_bad k p e = same_bad _ _ _ k p _ _ e

  pub u32_got : (xs : List ℕ) (next : ℕ) → (text 4).read bytes at ≡ Got xs next
      → u32.read bytes at ≡ Got
      (from_be_bytes w32 (get_or xs 0 0 ∷ get_or xs 1 0 ∷ get_or xs 2 0 ∷ get_or xs 3 0 ∷ [])) next
  unfolding number_at
  u32_got xs next e =
      let w = is_whole _ _ _ _ _ _ e in
      let long = ap length (sym w.1) ∙ length-part bytes at 4 (ltb-false _ _ w.0) in
      same_got _ _ _ next _ xs (number_at bytes at 4) e
      ∙ ap (λ n. Got n next) (ap (Rattle.std.specs.List.fold (λ n b. n * 256 + b) 0) w.1 ∙ number_is_4 xs long)

  pub u64_bad : (k p : ℕ) → (text 8).read bytes at ≡ Bad k p → u64.read bytes at ≡ Bad k p
  u64_bad k p e = same_bad _ _ _ k p _ _ e

  pub u64_got : (xs : List ℕ) (next : ℕ) → (text 8).read bytes at ≡ Got xs next
      → u64.read bytes at ≡ Got
      (from_be_bytes w64 (get_or xs 0 0 ∷ get_or xs 1 0 ∷ get_or xs 2 0 ∷ get_or xs 3 0 ∷ get_or xs 4 0 ∷ get_or
      xs 5 0 ∷ get_or xs 6 0 ∷ get_or xs 7 0 ∷ [])) next
  unfolding number_at
  u64_got xs next e =
      let w = is_whole _ _ _ _ _ _ e in
      let long = ap length (sym w.1) ∙ length-part bytes at 8 (ltb-false _ _ w.0) in
      same_got _ _ _ next _ xs (number_at bytes at 8) e
      ∙ ap (λ n. Got n next) (ap (Rattle.std.specs.List.fold (λ n b. n * 256 + b) 0) w.1 ∙ number_is_8 xs long)

  pub byte_bad : (k p : ℕ) → (text 1).read bytes at ≡ Bad k p → byte.read bytes at ≡ Bad k p
  byte_bad k p e = same_bad _ _ _ k p _ _ e

  pub byte_got : (xs : List ℕ) (next : ℕ) → (text 1).read bytes at ≡ Got xs next → byte.read bytes at
      ≡ Got (get_or xs 0 0) next
  unfolding number_at
  byte_got xs next e =
      let w = is_whole _ _ _ _ _ _ e in
      let long = ap length (sym w.1) ∙ length-part bytes at 1 (ltb-false _ _ w.0) in
      same_got _ _ _ next _ xs (number_at bytes at 1) e
      ∙ ap (λ n. Got n next) (ap (Rattle.std.specs.List.fold (λ n b. n * 256 + b) 0) w.1 ∙ one xs long)
    where
      one : (xs : List ℕ) → length xs ≡ 1 → Rattle.std.specs.List.fold (λ n b. n * 256 + b) 0 xs ≡ get_or xs 0 0
      one (a ∷ []) long = omega arith
      one _ long = absurd (omega arith)
