-- A closed summary holds all that is granted.
use Rattle.std.proofs.Common.{◌≡◌, ℕ, ◌+◌, ◌/◌, ◌%◌, ◌^◌, ◌<◌, ◌⊎◌, inl, inr, Bool, true, IsTrue, Option, Some}
use Rattle.std.proofs.{Common.{option_map, refl, sym, ap, ◌∙◌, subst, arith}, Math.Nat.div-eq_of_lt}
use Rattle.mm_word.specs.declared.perm.Perm.{Perm, TheVariants.{Xp, Eu, Ep, Key}}
use Rattle.mm_word.specs.{declared.word.{Word.TheVariants.Ptr, Cell.Cell}, Perm.{can_move, can_become, execute_form}}
use Rattle.mm_word.{specs.Pointer.{Pointer, IsBelow, IsWellFormed, enter_result}, proofs.Below.IsBelow-trans}
use Rattle.mm_model.specs.{Memory.cell_at, Image.Image}
use Rattle.mm_model.specs.Reach.{Entries, Grants, MayEnter, LoadsAt, StoresAt}
use Rattle.mm_model.specs.Reach.Grants.{in_register, runs_by, in_cell, below, passed, entered, served, made}
use Rattle.mm_graph.specs.Summary.{IsPowerless, Holds, Includes, IsClosed, IsSound, IsExact, SomeLoads, SomeStores}
use Rattle.mm_graph.proofs.Segments.{powerless_loads, below-loads, below-stores, stores-loads, below-powerless}
use Rattle.mm_graph.proofs.Segments.{never_xp, only_xp, only_x}

-- the pointer with the form of a permission
abbrev form_of : Pointer → Perm → Option Pointer
form_of p v = option_map (λ perm. record p { perm = perm }) (execute_form v)

same_some : {x y : Pointer} → ◌≡◌ {A = Option Pointer} (Some x) (Some y) → x ≡ y
same_some h = cc

eu_moves : (p : Perm) → p ≡ Eu → can_move p ≡ true → ⊥
eu_moves p f h = let no : can_move Eu ≡ true = subst (λ v. can_move v ≡ true) f h in cc

ep_moves : (p : Perm) → p ≡ Ep → can_move p ≡ true → ⊥
ep_moves p f h = let no : can_move Ep ≡ true = subst (λ v. can_move v ≡ true) f h in cc

module _ (i : Image) (e : Entries) (privileged : ℕ → Bool) (known : ℕ → Pointer → Type 0) where
  abbrev Has : ℕ → Pointer → Type 0
  Has g q = Holds privileged known g q

  has_below : (g : ℕ) (p q : Pointer) → Has g p → IsBelow q p → Has g q
  has_below g p q (inl t) b = inl t
  has_below g p q (inr (inl t)) b = inr (inl (below-powerless p q t b))
  has_below g p q (inr (inr t)) b = inr (inr (record { by = t.by; knows = t.knows; below = IsBelow-trans t.by p q t.below b }))

  module _ (closed : IsClosed i e privileged known) where
    makes_all : (g : ℕ) (p : Pointer) → Has g p → p.perm ≡ Xp → IsTrue (privileged g)
    makes_all g p (inl t) x = t
    makes_all g p (inr (inl (inl k))) x = let no : ◌≡◌ {A = Perm} Key Xp = sym k ∙ x in cc
    makes_all g p (inr (inl (inr s))) x = absurd (s.1 x)
    makes_all g p (inr (inr t)) x = from t.below
      where
        from : IsBelow p t.by → IsTrue (privileged g)
        from (inl f) = closed.makes g t.by t.knows (sym (ap (λ v. v.perm) f) ∙ x)
        from (inr b) = elim b.rights [
          | inl f ↦ closed.makes g t.by t.knows (sym f ∙ x)
          | inr m ↦ absurd (never_xp t.by.perm (ap (can_become t.by.perm) (sym x) ∙ m))
        ]

    -- what the group that lends has, the group that shares has
    includes : (g h : ℕ) (q : Pointer) → Includes privileged known g h → Has h q → Has g q
    includes g h q c (inl t) = inl (c.rights t)
    includes g h q c (inr (inl t)) = inr (inl t)
    includes g h q c (inr (inr t)) = has_below g t.by q (c.pointers t.by t.knows) t.below

    passes_in : (g h w : ℕ) (p q r : Pointer) → Has h q → Has h p → StoresAt p w → Has g r → LoadsAt r w → Has g q
    passes_in g h w p q r hq hp st (inl t) ld = inl t
    passes_in g h w p q r hq hp st (inr (inl t)) ld = absurd (powerless_loads r w t ld)
    passes_in g h w p q r hq (inl t) st (inr (inr u)) ld = inl (closed.by_maker g h w u.by t u.knows (below-loads u.by r w u.below ld))
    passes_in g h w p q r hq (inr (inl t)) st (inr (inr u)) ld = absurd (powerless_loads p w t (stores-loads p w st))
    passes_in g h w p q r hq (inr (inr t)) st (inr (inr u)) ld =
        includes g h q (closed.shared g h w t.by u.by t.knows (below-stores t.by p w t.below st) u.knows (below-loads u.by r w u.below ld)) hq

    loads_in : (g w : ℕ) (p q : Pointer) (c : Cell) → Has g p → LoadsAt p w → cell_at i.memory w ≡ Some c → c.word ≡ Ptr q → Has g q
    loads_in g w p q c (inl t) ld at is = inl t
    loads_in g w p q c (inr (inl t)) ld at is = absurd (powerless_loads p w t ld)
    loads_in g w p q c (inr (inr t)) ld at is = closed.loaded g w t.by q c t.knows (below-loads t.by p w t.below ld) at is

    enters_in : (g : ℕ) (p q : Pointer) → Has g p → MayEnter e g p → (p.perm ≡ Eu) ⊎ (p.perm ≡ Ep) → enter_result p ≡ Some q → Has g q
    enters_in g p q (inl t) may perm is = inl t
    enters_in g p q (inr (inl (inl k))) may (inl x) is = let no : ◌≡◌ {A = Perm} Key Eu = sym k ∙ x in cc
    enters_in g p q (inr (inl (inl k))) may (inr x) is = let no : ◌≡◌ {A = Perm} Key Ep = sym k ∙ x in cc
    enters_in g p q (inr (inl (inr s))) may (inr x) is = absurd (s.2 x)
    enters_in g p q (inr (inl (inr s))) may (inl x) is = inr (inl (subst IsPowerless (same_some (sym (ap (form_of p) x) ∙ is)) (inr (s.0, λ no. cc, λ no. cc))))
    enters_in g p q (inr (inr t)) may (inl x) is = from t.below
      where
        from : IsBelow p t.by → Has g q
        from (inl f) = closed.enters g p q (subst (known g) (sym f) t.knows) may (inl x) is
        from (inr b) = elim b.rights [
          | inl f ↦ absurd (eu_moves t.by.perm (sym f ∙ x) b.movable)
          | inr m ↦ elim (only_x t.by.perm (ap (can_become t.by.perm) (sym x) ∙ m)) [
            | inr f ↦ inl (closed.makes g t.by t.knows f)
            | inl f ↦ inr (inr (record {
              by = t.by;
              knows = t.knows;
              below = subst (λ v. IsBelow v t.by)
                  (same_some (sym (ap (form_of p) x) ∙ is))
                  (inr (record { movable = b.movable; inside = b.inside; rights = inl (sym f) }));
            }))
          ]
        ]
    enters_in g p q (inr (inr t)) may (inr x) is = from t.below
      where
        from : IsBelow p t.by → Has g q
        from (inl f) = closed.enters g p q (subst (known g) (sym f) t.knows) may (inr x) is
        from (inr b) = elim b.rights [
          | inl f ↦ absurd (ep_moves t.by.perm (sym f ∙ x) b.movable)
          | inr m ↦ inl (closed.makes g t.by t.knows (only_xp t.by.perm (ap (can_become t.by.perm) (sym x) ∙ m)))
        ]

    pub has : (g : ℕ) (q : Pointer) → Grants i e g q → Has g q
    has g q (in_register s at is reg) = subst (λ v. Has v q) is (closed.held s q at reg)
    has g q (runs_by s at is ip) = subst (λ v. Has v q) is (subst (Has s.group) ip (closed.runs s at))
    has g q (in_cell p w c by ld at is) = loads_in g w p q c (has g p by) ld at is
    has g q (below p by b) = has_below g p q (has g p by) b
    has g q (passed h w p r what to st by ld) = passes_in g h w p q r (has h q what) (has h p to) st (has g r by) ld
    has g q (entered p by perm may is) = enters_in g p q (has g p by) may perm is
    has g q (served h by s) = includes g h q (closed.served g h s) (has h q by)
    has g q (made p by x well) = inl (makes_all g p (has g p by) x)

-- the whole memory
abbrev pub whole_by : Perm → Pointer
whole_by p = record { perm = p; log = 54; addr = 0 }

-- it covers each word: eight bytes from a multiple of eight on stay below a multiple of eight
below_top : (w top k : ℕ) → w % 8 ≡ 0 → w < top → top % 8 ≡ 0 → k < 8 → w + k < top
below_top w top k e lt f small = omega arith

pub whole_covers : (w : ℕ) → w % 8 ≡ 0 → w < 2 ^ 54 → (k : ℕ) → k < 8 → (w + k) / 2 ^ 54 ≡ 0 / 2 ^ 54
whole_covers w word lt k small = div-eq_of_lt (below_top w (2 ^ 54) k word lt refl small)

pub whole_fits : (p : Perm) → IsWellFormed (whole_by p)
whole_fits p = record { log_in_range = omega arith; addr_in_range = omega arith }

module _ (i : Image) (e : Entries) (privileged : ℕ → Bool) (known : ℕ → Pointer → Type 0) (sound : IsSound i e privileged known) (closed : IsClosed i e privileged known) where
  loads_by : (g w : ℕ) (q : Pointer) → LoadsAt q w → Holds privileged known g q → IsTrue (privileged g) ⊎ SomeLoads (known g) w
  loads_by g w q ld (inl t) = inl t
  loads_by g w q ld (inr (inl t)) = absurd (powerless_loads q w t ld)
  loads_by g w q ld (inr (inr t)) = inr (record { by = t.by; knows = t.knows; loads = below-loads t.by q w t.below ld })

  stores_by : (g w : ℕ) (q : Pointer) → StoresAt q w → Holds privileged known g q → IsTrue (privileged g) ⊎ SomeStores (known g) w
  stores_by g w q st (inl t) = inl t
  stores_by g w q st (inr (inl t)) = absurd (powerless_loads q w t (stores-loads q w st))
  stores_by g w q st (inr (inr t)) = inr (record { by = t.by; knows = t.knows; stores = below-stores t.by q w t.below st })

  -- a sound and closed summary is exact
  pub exact : IsExact i e privileged known
  exact = record {
    rights = λ g. (sound.rights g, λ p. makes_all i e privileged known closed g p.by (has i e privileged known closed g p.by p.granted) p.perm);
    known_granted = sound.pointers;
    granted_held = has i e privileged known closed;
    touches = λ g w c. loads_by g w c.by c.loads (has i e privileged known closed g c.by c.granted);
    writes = λ g w c. stores_by g w c.by c.stores (has i e privileged known closed g c.by c.granted);
  }
