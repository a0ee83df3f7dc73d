-- The lines that a rule names.
use Rattle.std.proofs.Common.{◌≡◌, ℕ, inl, inr, refl, sym, subst}
use Rattle.mm_why.specs.{declared.line.Rule.Rule, Derivations.Names}
use Rattle.mm_why.specs.declared.line.Rule.TheVariants as rules

named : (k : ℕ) (r : Rule) {s : Rule} → r ≡ s → Names s k → Names r k
named k r e h = subst (λ v. Names v k) (sym e) h

pub by_cell : (r : Rule) (w j : ℕ) → r ≡ rules.Cell w j → Names r j
by_cell r w j e = named j r e refl

pub by_below : (r : Rule) (j : ℕ) → r ≡ rules.Below j → Names r j
by_below r j e = named j r e refl

pub by_from : (r : Rule) (w j s l : ℕ) → r ≡ rules.Passed w j s l → Names r j
by_from r w j s l e = named j r e (inl refl)

pub by_store : (r : Rule) (w j s l : ℕ) → r ≡ rules.Passed w j s l → Names r s
by_store r w j s l e = named s r e (inr (inl refl))

pub by_load : (r : Rule) (w j s l : ℕ) → r ≡ rules.Passed w j s l → Names r l
by_load r w j s l e = named l r e (inr (inr refl))

pub by_entered : (r : Rule) (j : ℕ) → r ≡ rules.Entered j → Names r j
by_entered r j e = named j r e refl

pub by_served : (r : Rule) (n j : ℕ) → r ≡ rules.Served n j → Names r j
by_served r n j e = named j r e refl

pub by_made : (r : Rule) (j : ℕ) → r ≡ rules.Made j → Names r j
by_made r j e = named j r e refl
