-- What a pointer below another permits.
use Rattle.std.proofs.Common.{◌≡◌, ℕ, ◌+◌, ◌≤◌, ◌⊎◌, inl, inr, true, refl, sym, ap, ◌∙◌, subst, arith}
use Rattle.mm_word.proofs.{Rights.can_store-loads, Below.Covers-short, Segments.inside_is_shorter}
use Rattle.mm_word.specs.declared.perm.Perm.{Perm, TheVariants.{Ro, Rw, Xu, Xp, Eu, Ep, Key}}
use Rattle.mm_word.specs.{Perm.{can_load, can_store, can_move, can_become}, Pointer.{Pointer, InSegment, IsBelow}}
use Rattle.mm_model.specs.Reach.{LoadsAt, StoresAt}
use Rattle.mm_graph.specs.Summary.{IsPowerless}

-- a segment in another is no longer
pub inside-log : (p q : Pointer) → ((a : ℕ) → InSegment q a → InSegment p a) → q.log ≤ p.log
inside-log p q h = inside_is_shorter q.log p.log q.addr p.addr h

pub move-load : (p : Perm) → can_move p ≡ can_load p
move-load Ro = refl
move-load Rw = refl
move-load Xu = refl
move-load Xp = refl
move-load Eu = refl
move-load Ep = refl
move-load Key = refl

pub powerless_loads : (p : Pointer) (w : ℕ) → IsPowerless p → LoadsAt p w → ⊥
powerless_loads p w (inl e) h = let no : can_load Key ≡ true = subst (λ v. can_load v ≡ true) e h.right in cc
powerless_loads p w (inr s) h = Covers-short p s.0 w h.covers

pub below-loads : (p q : Pointer) (w : ℕ) → IsBelow q p → LoadsAt q w → LoadsAt p w
below-loads p q w (inl e) h = subst (λ v. LoadsAt v w) e h
below-loads p q w (inr b) h = record { word = h.word; right = sym (move-load p.perm) ∙ b.movable; covers = λ k lt. b.inside (w + k) (h.covers k lt) }

pub stores-loads : (p : Pointer) (w : ℕ) → StoresAt p w → LoadsAt p w
stores-loads p w h = record { word = h.word; right = can_store-loads p.perm h.right; covers = h.covers }

becomes_stores : (p q : Perm) → can_become p q ≡ true → can_store q ≡ true → ⊥
becomes_stores p Ro h k = cc
becomes_stores Ro Rw h k = cc
becomes_stores Rw Rw h k = cc
becomes_stores Xu Rw h k = cc
becomes_stores Xp Rw h k = cc
becomes_stores Eu Rw h k = cc
becomes_stores Ep Rw h k = cc
becomes_stores Key Rw h k = cc
becomes_stores p Xu h k = cc
becomes_stores p Xp h k = cc
becomes_stores p Eu h k = cc
becomes_stores p Ep h k = cc
becomes_stores p Key h k = cc

-- a pointer that stores is below pointers that store alone
pub below-can_store : (p q : Pointer) → IsBelow q p → can_store q.perm ≡ true → can_store p.perm ≡ true
below-can_store p q (inl e) h = subst (λ v. can_store v.perm ≡ true) e h
below-can_store p q (inr b) h = elim b.rights [ inl e ↦ sym (ap can_store e) ∙ h | inr t ↦ absurd (becomes_stores p.perm q.perm t h) ]

pub below-can_load : (p q : Pointer) → IsBelow q p → can_load q.perm ≡ true → can_load p.perm ≡ true
below-can_load p q (inl e) h = subst (λ v. can_load v.perm ≡ true) e h
below-can_load p q (inr b) h = sym (move-load p.perm) ∙ b.movable

pub below-stores : (p q : Pointer) (w : ℕ) → IsBelow q p → StoresAt q w → StoresAt p w
below-stores p q w b h = record { word = h.word; right = below-can_store p q b h.right; covers = (below-loads p q w b (stores-loads q w h)).covers }

-- no permission becomes XP, and XP alone becomes EP
pub never_xp : (p : Perm) → can_become p Xp ≡ true → ⊥
never_xp Ro h = cc
never_xp Rw h = cc
never_xp Xu h = cc
never_xp Xp h = cc
never_xp Eu h = cc
never_xp Ep h = cc
never_xp Key h = cc

pub only_xp : (p : Perm) → can_become p Ep ≡ true → p ≡ Xp
only_xp Ro h = cc
only_xp Rw h = cc
only_xp Xu h = cc
only_xp Xp h = refl
only_xp Eu h = cc
only_xp Ep h = cc
only_xp Key h = cc

pub only_x : (p : Perm) → can_become p Eu ≡ true → (p ≡ Xu) ⊎ (p ≡ Xp)
only_x Ro h = cc
only_x Rw h = cc
only_x Xu h = inl refl
only_x Xp h = inr refl
only_x Eu h = cc
only_x Ep h = cc
only_x Key h = cc

key_moves : (p : Perm) → p ≡ Key → can_move p ≡ true → ⊥
key_moves p e h = let no : can_move Key ≡ true = subst (λ v. can_move v ≡ true) e h in cc

-- what is below a powerless pointer is powerless
pub below-powerless : (p q : Pointer) → IsPowerless p → IsBelow q p → IsPowerless q
below-powerless p q i (inl e) = subst IsPowerless (sym e) i
below-powerless p q (inl e) (inr b) = absurd (key_moves p.perm e b.movable)
below-powerless p q (inr s) (inr b) =
    let le = inside-log p q b.inside in
    let lt = s.0 in
    elim b.rights [
      | inl e ↦ inr (omega arith, λ x. s.1 (sym e ∙ x), λ x. s.2 (sym e ∙ x))
      | inr t ↦ inr (omega arith, λ x. never_xp p.perm (ap (can_become p.perm) (sym x) ∙ t), λ x. s.1 (only_xp p.perm (ap (can_become p.perm) (sym x) ∙ t)))
    ]
