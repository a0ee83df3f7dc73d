-- Pointers that stand for others.
use Rattle.std.proofs.Common.{◌≡◌, ◌≢◌, ℕ, ◌*◌, ◌/◌, ◌^◌, ◌<◌, ◌≤◌, ◌⊎◌, inl, inr, Bool, true, false, Option, Some}
use Rattle.std.proofs.Common.{None, option_map, option_and_then, if◌then◌else◌, refl, sym, ap, ◌∙◌, subst, arith}
use Rattle.std.proofs.lemmas.{Nat.{shl-shr, shr_split}, Bool.Decides.nat_tests}
use Rattle.mm_word.proofs.{Results.enter_result-well_formed, Packing.pointer_of-bits_of}
use Rattle.mm_word.specs.declared.{perm.{Perm.{Perm, TheVariants.{Ro, Rw, Xu, Xp, Eu, Ep, Key as KeyPerm}}}}
use Rattle.mm_word.specs.Perm.{can_move, execute_form}
use Rattle.mm_word.specs.Pointer.{Pointer, IsWellFormed, IsBelow, base_of, enter_result}
use Rattle.mm_graph.specs.{Summary.IsPowerless, declared.canonical_ptr.CanonicalPtr.CanonicalPtr}
use Rattle.mm_graph.specs.Key.{key_of, pointer_at, is_powerless_at, is_powerless, standing_for, standing_key, entry_key}

-- the test of powerless pointers

pub powerless_then : (p : Perm) (log : ℕ) → is_powerless_at p log ≡ true → (p ≡ KeyPerm) ⊎ ((log < 3) × (p ≢ Xp) × (p ≢ Ep))
powerless_then KeyPerm log h = inl refl
powerless_then Xp log h = cc
powerless_then Ep log h = cc
powerless_then Ro log h = inr (grind (arith, nat_tests), λ e. cc, λ e. cc)
powerless_then Rw log h = inr (grind (arith, nat_tests), λ e. cc, λ e. cc)
powerless_then Xu log h = inr (grind (arith, nat_tests), λ e. cc, λ e. cc)
powerless_then Eu log h = inr (grind (arith, nat_tests), λ e. cc, λ e. cc)

-- the base of the segment

pub base-block : (log a : ℕ) → (a / 2 ^ log * 2 ^ log) / 2 ^ log ≡ a / 2 ^ log
base-block log a = shl-shr (a / 2 ^ log) log

pub base_below : (p : Pointer) → base_of p ≤ p.addr
base_below p = let e = shr_split p.addr p.log in omega arith

abbrev pub at_base : Pointer → Pointer
at_base p = record p { addr = base_of p }

move_cases : (b : Bool) (p : Pointer) (P : Pointer → Type 0) → (b ≡ true → P (at_base p)) → (b ≡ false → P p) → P (if b then at_base p else p)
move_cases true p P x y = x refl
move_cases false p P x y = y refl

pub standing-well_formed : (p : Pointer) → IsWellFormed p → IsWellFormed (standing_for p)
standing-well_formed p w = move_cases (can_move p.perm) p IsWellFormed
    (λ e. record {
      log_in_range = w.log_in_range;
      addr_in_range = let le = base_below p in let lt = w.addr_in_range in
          omega arith;
    }) (λ e. w)

-- each is below the other
pub below_standing : (p : Pointer) → IsBelow p (standing_for p)
below_standing p = move_cases (can_move p.perm) p (λ q. IsBelow p q)
    (λ e. inr (record { movable = e; inside = λ a h. h ∙ sym (base-block p.log p.addr); rights = inl refl })) (λ e. inl refl)

pub standing_below : (p : Pointer) → IsBelow (standing_for p) p
standing_below p = move_cases (can_move p.perm) p (λ q. IsBelow q p)
    (λ e. inr (record { movable = e; inside = λ a h. h ∙ base-block p.log p.addr; rights = inl refl })) (λ e. inl refl)

pub pointer_at-key_of : (p : Pointer) → IsWellFormed p → pointer_at (key_of p) ≡ p
pointer_at-key_of p w = pointer_of-bits_of p w

-- what a key stands for
pub record Stands (p : Pointer) (k : CanonicalPtr) : Type 0 where
  pub powerless : is_powerless p ≡ false
  pub is : k ≡ key_of (standing_for p)

pub same_some : {x y : CanonicalPtr} → ◌≡◌ {A = Option CanonicalPtr} (Some x) (Some y) → x ≡ y
same_some h = cc

pub stands_from : (p : Pointer) (k : CanonicalPtr) → standing_key p ≡ Some k → Stands p k
stands_from p k = at (is_powerless p) refl
  where
    at : (b : Bool) → is_powerless p ≡ b → (if b then None else Some (key_of (standing_for p))) ≡ Some k → Stands p k
    at true e h = cc
    at false e h = record { powerless = e; is = sym (same_some h) }

pub standing_none : (p : Pointer) → standing_key p ≡ None → IsPowerless p
standing_none p = at (is_powerless p) refl
  where
    at : (b : Bool) → is_powerless p ≡ b → (if b then None else Some (key_of (standing_for p))) ≡ None → IsPowerless p
    at true e h = powerless_then p.perm p.log e
    at false e h = cc

pub stands-pointer : (p : Pointer) (k : CanonicalPtr) → IsWellFormed p → Stands p k → pointer_at k ≡ standing_for p
stands-pointer p k w s = ap pointer_at s.is ∙ pointer_at-key_of (standing_for p) (standing-well_formed p w)

pub stands_above : (p : Pointer) (k : CanonicalPtr) → IsWellFormed p → Stands p k → IsBelow p (pointer_at k)
stands_above p k w s = subst (IsBelow p) (sym (stands-pointer p k w s)) (below_standing p)

pub stands_below : (p : Pointer) (k : CanonicalPtr) → IsWellFormed p → Stands p k → IsBelow (pointer_at k) p
stands_below p k w s = subst (λ v. IsBelow v p) (sym (stands-pointer p k w s)) (standing_below p)

-- a pointer that stands stands for itself, and an entry by what an entry gives gives it again

same_perm : (p : Pointer) → (standing_for p).perm ≡ p.perm
same_perm p = move_cases (can_move p.perm) p (λ q. q.perm ≡ p.perm) (λ e. refl) (λ e. refl)

same_log : (p : Pointer) → (standing_for p).log ≡ p.log
same_log p = move_cases (can_move p.perm) p (λ q. q.log ≡ p.log) (λ e. refl) (λ e. refl)

standing_again : (p : Pointer) → standing_for (standing_for p) ≡ standing_for p
standing_again p = move_cases (can_move p.perm) p (λ q. standing_for q ≡ q)
    (λ e. ap (λ b. if b then at_base (at_base p) else at_base p) e ∙ ap (λ a. record p { addr = a * 2 ^ p.log }) (base-block p.log p.addr)) (λ e. ap (λ b. if b then at_base p else p) e)

pub stands_again : (p : Pointer) (k : CanonicalPtr) → IsWellFormed p → Stands p k → standing_key (pointer_at k) ≡ Some k
stands_again p k w s =
    let is = stands-pointer p k w s in
    let powerless : is_powerless (standing_for p) ≡ false = ap (λ v. is_powerless_at v (standing_for p).log) (same_perm p) ∙ ap (is_powerless_at p.perm) (same_log p) ∙ s.powerless in
    ap standing_key is ∙ ap (λ b. if b then None else Some (key_of (standing_for (standing_for p)))) powerless ∙ ap (λ q. Some (key_of q)) (standing_again p) ∙ ap Some (sym s.is)

form_again : (p q : Perm) → execute_form p ≡ Some q → execute_form q ≡ Some q
form_again Xu q h = let e : Xu ≡ q = cc in subst (λ v. execute_form v ≡ Some v) e refl
form_again Xp q h = let e : Xp ≡ q = cc in subst (λ v. execute_form v ≡ Some v) e refl
form_again Eu q h = let e : Xu ≡ q = cc in subst (λ v. execute_form v ≡ Some v) e refl
form_again Ep q h = let e : Xp ≡ q = cc in subst (λ v. execute_form v ≡ Some v) e refl
form_again Ro q h = cc
form_again Rw q h = cc
form_again KeyPerm q h = cc

-- what an entry gives
pub record EntersTo (p q : Pointer) : Type 0 where
  pub perm : Perm
  pub form : execute_form p.perm ≡ Some perm
  pub is : q ≡ record p { perm = perm }

pub enters_from : (p q : Pointer) → enter_result p ≡ Some q → EntersTo p q
enters_from p q = at (execute_form p.perm) refl
  where
    at : (o : Option Perm) → execute_form p.perm ≡ o → option_map (λ perm. record p { perm = perm }) o ≡ Some q → EntersTo p q
    at None e h = cc
    at (Some x) e h = record { perm = x; form = e; is = cc }

-- the entry of a key, taken apart
pub record EntryFrom (p : Pointer) (x : CanonicalPtr) : Type 0 where
  pub to : Pointer
  pub enters : enter_result p ≡ Some to
  pub stands : standing_key to ≡ Some x

pub entry_from : (p : Pointer) (x : CanonicalPtr) → option_and_then standing_key (enter_result p) ≡ Some x → EntryFrom p x
entry_from p x = at (enter_result p) refl
  where
    at : (o : Option Pointer) → enter_result p ≡ o → option_and_then standing_key o ≡ Some x → EntryFrom p x
    at None e h = cc
    at (Some q) e h = record { to = q; enters = e; stands = h }

pub entry_again : (k x : CanonicalPtr) → IsWellFormed (pointer_at k) → entry_key k ≡ Some x → entry_key x ≡ Some x
entry_again k x w h =
    let f = entry_from (pointer_at k) x h in
    let wq = enter_result-well_formed (pointer_at k) f.to w f.enters in
    let e = enters_from (pointer_at k) f.to f.enters in
    let s = stands_from f.to x f.stands in
    let is = stands-pointer f.to x wq s in
    let perm : (pointer_at x).perm ≡ e.perm = ap (λ (v : Pointer). v.perm) is ∙ same_perm f.to ∙ ap (λ (v : Pointer). v.perm) e.is in
    let form : execute_form (pointer_at x).perm ≡ Some e.perm = ap execute_form perm ∙ form_again (pointer_at k).perm e.perm e.form in
    let itself : enter_result (pointer_at x) ≡ Some (pointer_at x) = ap (option_map (λ v. record (pointer_at x) { perm = v })) form ∙ ap (λ v. Some (record (pointer_at x) { perm = v })) (sym perm) in
    ap (option_and_then standing_key) itself ∙ stands_again f.to x wq s
