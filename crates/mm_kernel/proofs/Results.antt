-- What an operation makes of words, its form stands for.
use Rattle.std.proofs.Common.{◌≡◌, ℕ, ◌+◌, ◌*◌, ◌/◌, ◌%◌, ◌^◌, ◌<◌, inl, inr, Bool, true, false, ◌&&◌, nat_lt, if◌then◌else◌}
use Rattle.std.proofs.Common.{eqb-true, eq-eqb, ℤ, pos, ◌+ℤ◌, List, Option, Some, None, Result, Ok, Err, refl, sym, ap}
use Rattle.std.proofs.Common.{◌∙◌, subst, arith}
use Rattle.std.proofs.lemmas.{Bool.{and_parts, and_from}, Nat.shr_high, Grind.common_steps}
use Rattle.std.specs.Prelude.{Contains}
use Rattle.mm_word.specs.declared.{perm.Perm.{Perm, TheVariants.{Ro, Rw, Xu, Xp, Eu, Ep, Key}}, cause.Cause.Cause}
use Rattle.mm_word.specs.declared.word.Word.{Word, TheVariants.{Int, Ptr}}
use Rattle.mm_word.specs.Perm.{code_of, perm_of, can_move, can_become, can_load}
use Rattle.mm_word.specs.Pointer.{Pointer, IsWellFormed, IsBelow, bits_of, base_of, moved_to, lea_result, leab_result}
use Rattle.mm_word.specs.Pointer.{restrict_result, restricted_to, subseg_result}
use Rattle.mm_word.specs.Word.{IsWord, IsPointerAnd, word_bits}
use Rattle.mm_word.proofs.Results.{lea_result-IsBelow, leab_result-IsBelow, subseg_result-IsBelow}
use Rattle.mm_isa.specs.declared.instr.AluOp.{AluOp}
use Rattle.mm_isa.specs.declared.instr.AluOp.TheVariants.{Add, Sub, Mul, Divu, Remu, And, Or, Xor, Shl, Shr, Sar, Eq}
use Rattle.mm_isa.specs.{declared.instr.{AluOp.TheVariants.{Ltu, Lts}, DivZero.DivZero}, Alu.alu_result}
use Rattle.mm_model.specs.{Effect.{same_word, test, high_and_low}, Image.Image}
use Rattle.mm_model.proofs.{EffectSteps.moved_perm, Filters.{contained_filter, filter_contained}}
use Rattle.mm_kernel.specs.{Segments.{Segment, meets}, Variants.IsShared}
use Rattle.mm_kernel.specs.declared.form.Form.{Form}
use Rattle.mm_kernel.specs.declared.form.Form.TheVariants.{Number, Pointer as Exactly, Integer, Open, Any, Inside}
use Rattle.mm_kernel.specs.Forms.{PointsInside, carries, exact_bits, exact, around, around_as}
use Rattle.mm_kernel.specs.Operations.{small, small_result, leaves_code, alu_by, alu_if_exact, alu_form, equal_if_exact}
use Rattle.mm_kernel.specs.Operations.{equal_form, high_if_exact, high_form, permissions, may_name, choices, inside_as}
use Rattle.mm_kernel.specs.Operations.{with_permission, permission_of}
use Rattle.mm_kernel.proofs.Owns.{Who, Mode, Mode.{AsAnyone, AsKernel}, World, Owes, Mine, Has}
use Rattle.mm_kernel.proofs.Segs.{Within, outside_within, meets_same, points_within, within_points, within_trans}
use Rattle.mm_kernel.proofs.Segs.{within_base}
use Rattle.mm_kernel.proofs.Values.{Clean, clean_below, shared_outside, key_shared, open_outside, Holds, Fits, Moved}
use Rattle.mm_kernel.proofs.Values.{moved_within, shared_moved}
use Rattle.mm_word.specs.declared.cause.Cause.TheVariants as cause

-- the code of a permission
pub code_named : (n : ℕ) (to : Perm) → perm_of n ≡ Some to → n ≡ code_of to
code_named n to e = grind (arith, common_steps)

module _ (i : Image) (kept : List Segment) where
  -- 1. Exact forms, and permissions.

  pub exact_bits_is : (f : Form) (w : Word) → Holds i kept f w → (b : ℕ) → exact_bits f ≡ Some b → b ≡ word_bits w
  exact_bits_is (Number n) w h b e = let one : n ≡ b = cc in sym one ∙ sym (ap word_bits h)
  exact_bits_is (Exactly p) w h b e = let one : bits_of p ≡ b = cc in sym one ∙ sym (ap word_bits h)
  exact_bits_is Integer w h b e = cc
  exact_bits_is (Open perm) w h b e = cc
  exact_bits_is Any w h b e = cc
  exact_bits_is (Inside outer) w h b e = cc

  pub exact_is : (f : Form) (w : Word) → Holds i kept f w → (x : Word) → exact f ≡ Some x → x ≡ w
  exact_is (Number n) w h x e = let one : Int n ≡ x = cc in sym one ∙ sym h
  exact_is (Exactly p) w h x e = let one : Ptr p ≡ x = cc in sym one ∙ sym h
  exact_is Integer w h x e = cc
  exact_is (Open perm) w h x e = cc
  exact_is Any w h x e = cc
  exact_is (Inside outer) w h x e = cc

  code_of_bits : (p : Pointer) → IsWellFormed p → bits_of p / 2 ^ 60 ≡ code_of p.perm
  code_of_bits p h =
      let log = h.log_in_range in
      let addr = h.addr_in_range in
      let low : p.log * 2 ^ 54 + p.addr < 2 ^ 60 = omega arith in
      let sum : bits_of p ≡ code_of p.perm * 2 ^ 60 + (p.log * 2 ^ 54 + p.addr) = omega arith in
      ap (λ n. n / 2 ^ 60) sum ∙ shr_high (code_of p.perm) 60 (p.log * 2 ^ 54 + p.addr) low

  -- a shift by 60 bits leaves a pointer's permission
  shifted : (op : AluOp) (p : Pointer) (b x : ℕ) → IsWellFormed p → leaves_code op b ≡ true → alu_result op (bits_of p) b ≡ Ok x → x ≡ code_of p.perm
  shifted Shr p b x h e r =
      let sixty : b % 64 ≡ 60 = eqb-true (b % 64) 60 e in
      let is : bits_of p / 2 ^ (b % 64) ≡ x = cc in
      sym is ∙ ap (λ n. bits_of p / 2 ^ n) sixty ∙ code_of_bits p h
  shifted Add p b x h e r = cc
  shifted Sub p b x h e r = cc
  shifted Mul p b x h e r = cc
  shifted Divu p b x h e r = cc
  shifted Remu p b x h e r = cc
  shifted And p b x h e r = cc
  shifted Or p b x h e r = cc
  shifted Xor p b x h e r = cc
  shifted Shl p b x h e r = cc
  shifted Sar p b x h e r = cc
  shifted Eq p b x h e r = cc
  shifted Ltu p b x h e r = cc
  shifted Lts p b x h e r = cc

  points_perm : (outer : Pointer) (w : Word) → IsPointerAnd w (PointsInside outer) → IsPointerAnd w (λ (p : Pointer). p.perm ≡ outer.perm)
  points_perm outer (Int n) h = h
  points_perm outer (Ptr p) h = h.perm

  -- the permission of a form is that of its pointers
  pub permission_is : (f : Form) (p : Pointer) (from : Perm) → permission_of f ≡ Some from → Holds i kept f (Ptr p) → p.perm ≡ from
  permission_is (Exactly o) p from e h = let same : p ≡ o = cc in let is : o.perm ≡ from = cc in ap (λ (x : Pointer). x.perm) same ∙ is
  permission_is (Open perm) p from e h = let is : perm ≡ from = cc in h.0 ∙ is
  permission_is (Inside outer) p from e h = let is : outer.perm ≡ from = cc in h.perm ∙ is
  permission_is (Number n) p from e h = cc
  permission_is Integer p from e h = cc
  permission_is Any p from e h = cc

  -- 2. The permissions that an operand may name.

  all_permissions : (to : Perm) → Contains permissions to
  all_permissions Ro = (0, omega arith, refl)
  all_permissions Rw = (1, omega arith, refl)
  all_permissions Xu = (2, omega arith, refl)
  all_permissions Xp = (3, omega arith, refl)
  all_permissions Eu = (4, omega arith, refl)
  all_permissions Ep = (5, omega arith, refl)
  all_permissions Key = (6, omega arith, refl)

  may_be_named : (o : Option ℕ) (to : Perm) → ((b : ℕ) → o ≡ Some b → b ≡ code_of to) → may_name o to ≡ true
  may_be_named None to h = refl
  may_be_named (Some b) to h = eq-eqb b (code_of to) (h b refl)

  pub chosen : (from to : Perm) (b : Form) → can_become from to ≡ true → ((n : ℕ) → exact_bits b ≡ Some n → n ≡ code_of to) → Contains (choices from b) to
  unfolding choices
  chosen from to b becomes named =
      contained_filter (λ (c : Perm). can_become from c && may_name (exact_bits b) c) permissions to (all_permissions to)
      (and_from (can_become from to) (may_name (exact_bits b) to) becomes (may_be_named (exact_bits b) to named))

  pub choice_becomes : (from to : Perm) (b : Form) → Contains (choices from b) to → (can_become from to ≡ true) × (may_name (exact_bits b) to ≡ true)
  unfolding choices
  choice_becomes from to b c =
      let k = filter_contained (λ (x : Perm). can_become from x && may_name (exact_bits b) x) permissions to c in
      and_parts (can_become from to) (may_name (exact_bits b) to) k.1

  -- 3. Pointers that are moved, and pointers with another permission.

  moved_in : (q p : Pointer) (z : ℤ) → moved_to p z ≡ Ok q → q.perm ≡ p.perm
  moved_in q p z e = moved_perm p q z e

  pub lea_moved : (p q : Pointer) (by : ℤ) → lea_result p by ≡ Ok q → Moved q p
  lea_moved p q by e = go (can_move p.perm) refl e
    where
      go : (b : Bool) → can_move p.perm ≡ b → (if b then moved_to p (pos p.addr +ℤ by) else Err cause.Perm) ≡ Ok q → Moved q p
      go true at is = record { below = lea_result-IsBelow p q by e; perm = moved_perm p q (pos p.addr +ℤ by) is; movable = at }
      go false at is = cc

  pub leab_moved : (p q : Pointer) (by : ℤ) → leab_result p by ≡ Ok q → Moved q p
  leab_moved p q by e = go (can_move p.perm) refl e
    where
      go : (b : Bool) → can_move p.perm ≡ b → (if b then moved_to p (pos (base_of p) +ℤ by) else Err cause.Perm) ≡ Ok q → Moved q p
      go true at is = record { below = leab_result-IsBelow p q by e; perm = moved_perm p q (pos (base_of p) +ℤ by) is; movable = at }
      go false at is = cc

  pub subseg_moved : (p q : Pointer) (log : ℕ) → subseg_result p log ≡ Ok q → Moved q p
  subseg_moved p q log e = go (can_move p.perm) refl e
    where
      short : (c : Bool) → can_move p.perm ≡ true → (if c then Ok (record p { log = log }) else Err cause.Bounds) ≡ Ok q → Moved q p
      short true at is = let same : record p { log = log } ≡ q = cc in record { below = subseg_result-IsBelow p q log e; perm = sym (ap (λ (x : Pointer). x.perm) same); movable = at }
      short false at is = cc

      go : (b : Bool) → can_move p.perm ≡ b → (if b then (if nat_lt log p.log then Ok (record p { log = log }) else Err cause.Bounds) else Err cause.Perm) ≡ Ok q → Moved q p
      go true at is = short (nat_lt log p.log) at is
      go false at is = cc

  clean_moved : (q p : Pointer) → Moved q p → Clean i p → Clean i q
  clean_moved q p h c = clean_below i q p h.below c

  pub record Narrowed (q p : Pointer) : Type 0 where
    pub to : Perm
    pub becomes : can_become p.perm to ≡ true
    pub is : record p { perm = to } ≡ q

  pub restrict_tells : (p q : Pointer) (code : ℕ) → restrict_result p code ≡ Ok q → (n : Narrowed q p) × (code ≡ code_of n.to)
  restrict_tells p q code e = by (perm_of code) refl e
    where
      ok : (to : Perm) (b : Bool) → perm_of code ≡ Some to → can_become p.perm to ≡ b → (if b then Ok (record p { perm = to }) else Err cause.Perm) ≡ Ok q → (n : Narrowed q p) × (code ≡ code_of n.to)
      ok to true at is r = (record { to = to; becomes = is; is = cc }, code_named code to at)
      ok to false at is r = cc

      by : (o : Option Perm) → perm_of code ≡ o → ◌≡◌ {A = Result Pointer Cause} (elim o [ Some to ↦ restricted_to p to | None ↦ Err cause.Malformed ]) (Ok q)
          → (n : Narrowed q p) × (code ≡ code_of n.to)
      by None at r = cc
      by (Some to) at r = ok to (can_become p.perm to) at refl r

  become_loads : (p q : Perm) → can_become p q ≡ true → can_load p ≡ true
  become_loads Ro q e = refl
  become_loads Rw q e = refl
  become_loads Xu q e = refl
  become_loads Xp q e = refl
  become_loads Eu q e = cc
  become_loads Ep q e = cc
  become_loads Key q e = cc

  become_moves : (p q : Perm) → can_become p q ≡ true → can_move p ≡ true
  become_moves Ro q e = refl
  become_moves Rw q e = refl
  become_moves Xu q e = refl
  become_moves Xp q e = refl
  become_moves Eu q e = cc
  become_moves Ep q e = cc
  become_moves Key q e = cc

  narrowed_below : (p : Pointer) (to : Perm) → can_become p.perm to ≡ true → IsBelow (record p { perm = to }) p
  narrowed_below p to becomes = inr (record { movable = become_moves p.perm to becomes; inside = λ a e. e; rights = inr becomes })

  narrowed_outside : (p : Pointer) (to : Perm) → can_become p.perm to ≡ true → Clean i p → meets kept p ≡ false → IsShared i kept (Ptr (record p { perm = to }))
  narrowed_outside p to becomes c out =
      shared_outside i kept (record p { perm = to }) (meets_same kept p (record p { perm = to }) refl refl ∙ out) (clean_below i (record p { perm = to }) p (narrowed_below p to becomes) c).user

  clean_narrowed : (p : Pointer) (to : Perm) → can_become p.perm to ≡ true → Clean i p → Clean i (record p { perm = to })
  clean_narrowed p to becomes c = clean_below i (record p { perm = to }) p (narrowed_below p to becomes) c

module _ (i : Image) (kept : List Segment) (M : Form → Pointer → Type 0) where
  -- 4. Integers.

  int_fits : (n : ℕ) → Fits i kept M Integer (Int n)
  int_fits n = record { holds = refl; clean = tt; mine = tt }

  number_fits : (n m : ℕ) → m ≡ n → Fits i kept M (Number n) (Int m)
  number_fits n m e = record { holds = ap (λ (x : ℕ). Int x) e; clean = tt; mine = tt }

  pub high_fits : (f : Form) (w : Word) (imm : ℤ) → Holds i kept f w → Fits i kept M (high_form f imm) (Int (high_and_low (word_bits w) imm))
  unfolding high_form
  high_fits f w imm h = by (exact_bits f) refl
    where
      by : (o : Option ℕ) → exact_bits f ≡ o → Fits i kept M (high_if_exact o imm) (Int (high_and_low (word_bits w) imm))
      by None e = int_fits (high_and_low (word_bits w) imm)
      by (Some b) e = number_fits (high_and_low b imm) (high_and_low (word_bits w) imm) (ap (λ n. high_and_low n imm) (sym (exact_bits_is i kept f w h b e)))

  pub equal_fits : (f g : Form) (v w : Word) → Holds i kept f v → Holds i kept g w → Fits i kept M (equal_form f g) (Int (test (same_word v w)))
  unfolding equal_form
  equal_fits f g v w h k = by (exact f) (exact g) refl refl
    where
      by : (o p : Option Word) → exact f ≡ o → exact g ≡ p → Fits i kept M (equal_if_exact o p) (Int (test (same_word v w)))
      by None p e d = int_fits (test (same_word v w))
      by (Some x) None e d = int_fits (test (same_word v w))
      by (Some x) (Some y) e d =
          number_fits (test (same_word x y)) (test (same_word v w))
          (ap (λ (z : Word). test (same_word z w)) (sym (exact_is i kept f v h x e)) ∙ ap (λ (z : Word). test (same_word x z)) (sym (exact_is i kept g w k y d)))

  small_fits : (x : ℕ) → Fits i kept M (small x) (Int x)
  small_fits x = by (nat_lt x 64)
    where
      by : (b : Bool) → Fits i kept M (if b then Number x else Integer) (Int x)
      by true = number_fits x x refl
      by false = int_fits x

  small_result_fits : (r : Result ℕ DivZero) (x : ℕ) → r ≡ Ok x → Fits i kept M (small_result r) (Int x)
  small_result_fits (Ok n) x e = let same : n ≡ x = cc in subst (λ y. Fits i kept M (small n) (Int y)) same (small_fits n)
  small_result_fits (Err d) x e = cc

  code_fits : (op : AluOp) (perm : Perm) (w : Word) (b x : ℕ) → IsWord w → IsPointerAnd w (λ (p : Pointer). p.perm ≡ perm) → alu_result op (word_bits w) b ≡ Ok x
      → Fits i kept M (if leaves_code op b then Number (code_of perm) else Integer) (Int x)
  code_fits op perm (Int n) b x h k r = absurd k
  code_fits op perm (Ptr p) b x h k r = by (leaves_code op b) refl
    where
      by : (c : Bool) → leaves_code op b ≡ c → Fits i kept M (if c then Number (code_of perm) else Integer) (Int x)
      by true e = number_fits (code_of perm) x (shifted i kept op p b x h e r ∙ ap code_of k)
      by false e = int_fits x

  alu_by_fits : (op : AluOp) (f : Form) (w : Word) (b x : ℕ) → IsWord w → Holds i kept f w → alu_result op (word_bits w) b ≡ Ok x → Fits i kept M (alu_by op f b) (Int x)
  alu_by_fits op (Number n) w b x h k r = small_result_fits (alu_result op n b) x (ap (λ (y : Word). alu_result op (word_bits y) b) (sym k) ∙ r)
  alu_by_fits op (Exactly p) w b x h k r = small_result_fits (alu_result op (bits_of p) b) x (ap (λ (y : Word). alu_result op (word_bits y) b) (sym k) ∙ r)
  alu_by_fits op (Open perm) w b x h k r = code_fits op perm w b x h k.0 r
  alu_by_fits op (Inside outer) w b x h k r = code_fits op outer.perm w b x h (points_perm i kept outer w k) r
  alu_by_fits op Integer w b x h k r = int_fits x
  alu_by_fits op Any w b x h k r = int_fits x

  pub alu_fits : (op : AluOp) (f g : Form) (v w : Word) (x : ℕ) → IsWord v → Holds i kept f v → Holds i kept g w → alu_result op (word_bits v) (word_bits w) ≡ Ok x
      → Fits i kept M (alu_form op f g) (Int x)
  unfolding alu_form
  alu_fits op f g v w x h k l r = by (exact_bits g) refl
    where
      by : (o : Option ℕ) → exact_bits g ≡ o → Fits i kept M (alu_if_exact op f o) (Int x)
      by None e = int_fits x
      by (Some b) e = alu_by_fits op f v b x h k (ap (alu_result op (word_bits v)) (exact_bits_is i kept g w l b e) ∙ r)

-- 5. What is held.

pub owes_like : (md : Mode) (f g : Form) → (carries f ≡ true → carries g ≡ true) → Owes md f → Owes md g
owes_like AsAnyone f g h o = tt
owes_like AsKernel f g h o = h o

pub owes_any : (md : Mode) → Owes md Any
owes_any AsAnyone = tt
owes_any AsKernel = refl

pub open_carries : (perm : Perm) → (perm ≡ Key → ⊥) → carries (Open perm) ≡ true
open_carries Ro ne = refl
open_carries Rw ne = refl
open_carries Xu ne = refl
open_carries Xp ne = refl
open_carries Eu ne = refl
open_carries Ep ne = refl
open_carries Key ne = absurd (ne refl)

pub owes_open : (md : Mode) (perm : Perm) → (perm ≡ Key → ⊥) → Owes md (Open perm)
owes_open AsAnyone perm ne = tt
owes_open AsKernel perm ne = open_carries perm ne

pub moves_no_key : (perm : Perm) → can_move perm ≡ true → perm ≡ Key → ⊥
moves_no_key perm e key = let no : can_move perm ≡ false = ap can_move key in cc

module _ (i : Image) (kept : List Segment) (wd : World i kept) (x : Who) where
  pub mine_below : (p q : Pointer) → IsBelow q p → Mine i kept wd x p → Mine i kept wd x q
  mine_below p q (inl e) (inl key) = inl (ap (λ (y : Pointer). y.perm) e ∙ key)
  mine_below p q (inr n) (inl key) = absurd (moves_no_key p.perm n.movable key)
  mine_below p q b (inr own) = inr (wd.rules.below x p q own b)

  pub own_of : (p : Pointer) → (p.perm ≡ Key → ⊥) → Mine i kept wd x p → wd.Own x p
  own_of p ne (inl key) = absurd (ne key)
  own_of p ne (inr own) = own

module _ (i : Image) (kept : List Segment) (wd : World i kept) (x : Who) (md : Mode) where
  -- what is below a pointer of a form
  pub has_below : (f g : Form) (p q : Pointer) → (carries g ≡ true → carries f ≡ true) → IsBelow q p → Has i kept wd x md f p → Has i kept wd x md g q
  has_below f g p q c b h = λ o. mine_below i kept wd x p q b (h (owes_like md g f c o))

  -- an open form, and one of a part, stand for what is moved
  pub open_moved : (perm : Perm) (q p : Pointer) → Moved q p → Fits i kept (Has i kept wd x md) (Open perm) (Ptr p) → Fits i kept (Has i kept wd x md) (Open perm) (Ptr q)
  open_moved perm q p h f = record {
    holds = (h.perm ∙ f.holds.0, shared_moved i kept q p h f.holds.1);
    clean = clean_moved i kept q p h f.clean;
    mine = has_below (Open perm) (Open perm) p q (λ e. e) h.below f.mine;
  }

  pub any_moved : (q p : Pointer) → Moved q p → Fits i kept (Has i kept wd x md) Any (Ptr p) → Fits i kept (Has i kept wd x md) Any (Ptr q)
  any_moved q p h f = record { holds = shared_moved i kept q p h f.holds; clean = clean_moved i kept q p h f.clean; mine = has_below Any Any p q (λ e. e) h.below f.mine }

  pub inside_moved : (outer q p : Pointer) → Moved q p → Fits i kept (Has i kept wd x md) (Inside outer) (Ptr p) → Fits i kept (Has i kept wd x md) (Inside outer) (Ptr q)
  inside_moved outer q p h f = record {
    holds = within_points outer q (h.perm ∙ f.holds.perm) (within_trans outer p q (points_within outer p f.holds) (moved_within q p h));
    clean = clean_moved i kept q p h f.clean;
    mine = has_below (Inside outer) (Inside outer) p q (λ e. e) h.below f.mine;
  }

  pub around_moved : (q p : Pointer) → Moved q p → Clean i p → Has i kept wd x md (around kept p) p → Fits i kept (Has i kept wd x md) (around kept p) (Ptr q)
  unfolding around
  around_moved q p h c mine = by (meets kept p) refl mine
    where
      clean : Clean i q
      clean = clean_moved i kept q p h c

      by : (b : Bool) → meets kept p ≡ b → Has i kept wd x md (around_as p b) p → Fits i kept (Has i kept wd x md) (around_as p b) (Ptr q)
      by true e mi = record {
        holds = within_points (record p { addr = base_of p }) q h.perm (within_base p q (moved_within q p h));
        clean = clean;
        mine = has_below (around_as p true) (around_as p true) p q (λ e. e) h.below mi;
      }
      by false e mi = record {
        holds = (h.perm, shared_outside i kept q (outside_within kept q p (moved_within q p h) e) clean.user);
        clean = clean;
        mine = has_below (around_as p false) (around_as p false) p q (λ e. e) h.below mi;
      }

  -- pointers with another permission

  inside_as_fits : (outer p : Pointer) (to : Perm) → Within p outer → Clean i (record p { perm = to }) → Has i kept wd x md (inside_as outer to) (record p { perm = to })
      → Fits i kept (Has i kept wd x md) (inside_as outer to) (Ptr (record p { perm = to }))
  inside_as_fits outer p Key w c n = record { holds = (refl, key_shared i kept (record p { perm = Key }) refl); clean = c; mine = n }
  inside_as_fits outer p Ro w c n = record { holds = within_points (record outer { perm = Ro }) (record p { perm = Ro }) refl (record { shorter = w.shorter; here = w.here }); clean = c; mine = n }
  inside_as_fits outer p Rw w c n = record { holds = within_points (record outer { perm = Rw }) (record p { perm = Rw }) refl (record { shorter = w.shorter; here = w.here }); clean = c; mine = n }
  inside_as_fits outer p Xu w c n = record { holds = within_points (record outer { perm = Xu }) (record p { perm = Xu }) refl (record { shorter = w.shorter; here = w.here }); clean = c; mine = n }
  inside_as_fits outer p Xp w c n = record { holds = within_points (record outer { perm = Xp }) (record p { perm = Xp }) refl (record { shorter = w.shorter; here = w.here }); clean = c; mine = n }
  inside_as_fits outer p Eu w c n = record { holds = within_points (record outer { perm = Eu }) (record p { perm = Eu }) refl (record { shorter = w.shorter; here = w.here }); clean = c; mine = n }
  inside_as_fits outer p Ep w c n = record { holds = within_points (record outer { perm = Ep }) (record p { perm = Ep }) refl (record { shorter = w.shorter; here = w.here }); clean = c; mine = n }

  inside_carries : (outer : Pointer) (to : Perm) → carries (inside_as outer to) ≡ true → false ≡ true
  inside_carries outer Key e = e
  inside_carries outer Ro e = e
  inside_carries outer Rw e = e
  inside_carries outer Xu e = e
  inside_carries outer Xp e = e
  inside_carries outer Eu e = e
  inside_carries outer Ep e = e

  -- a form with another permission stands for the pointer with that
  pub narrowed_fits : (f : Form) (p : Pointer) (to : Perm) (from : Perm) → permission_of f ≡ Some from → can_become p.perm to ≡ true → Fits i kept (Has i kept wd x md) f (Ptr p)
      → Fits i kept (Has i kept wd x md) (with_permission f to) (Ptr (record p { perm = to }))
  unfolding with_permission
  narrowed_fits (Exactly o) p to from e becomes h =
      let held : Ptr p ≡ Ptr o = h.holds in
      let same : p ≡ o = cc in
      record {
        holds = ap (λ (x : Pointer). Ptr (record x { perm = to })) same;
        clean = clean_narrowed i kept p to becomes h.clean;
        mine = has_below (Exactly o) (Exactly (record o { perm = to })) p (record p { perm = to }) (λ e. e) (narrowed_below i kept p to becomes) h.mine;
      }
  narrowed_fits (Open perm) p to from e becomes h = record {
    holds = (refl, narrowed_outside i kept p to becomes h.clean (open_outside kept p h.holds.1.open_word (become_loads i kept p.perm to becomes)));
    clean = clean_narrowed i kept p to becomes h.clean;
    mine = has_below (Open perm) (Open to) p (record p { perm = to }) (λ e. open_carries perm (λ key. moves_no_key p.perm (become_moves i kept p.perm to becomes) (h.holds.0 ∙ key)))
        (narrowed_below i kept p to becomes) h.mine;
  }
  narrowed_fits (Inside outer) p to from e becomes h =
      inside_as_fits outer p to (points_within outer p h.holds) (clean_narrowed i kept p to becomes h.clean)
      (has_below (Inside outer) (inside_as outer to) p (record p { perm = to }) (inside_carries outer to) (narrowed_below i kept p to becomes) h.mine)
  narrowed_fits (Number n) p to from e becomes h = cc
  narrowed_fits Integer p to from e becomes h = cc
  narrowed_fits Any p to from e becomes h = cc

  pub any_narrowed : (p : Pointer) (to : Perm) → can_become p.perm to ≡ true → Fits i kept (Has i kept wd x md) Any (Ptr p) → Fits i kept (Has i kept wd x md) Any (Ptr (record p { perm = to }))
  any_narrowed p to becomes h = record {
    holds = narrowed_outside i kept p to becomes h.clean (open_outside kept p h.holds.open_word (become_loads i kept p.perm to becomes));
    clean = clean_narrowed i kept p to becomes h.clean;
    mine = has_below Any Any p (record p { perm = to }) (λ e. e) (narrowed_below i kept p to becomes) h.mine;
  }
