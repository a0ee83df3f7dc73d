-- Each line of a derivation is granted.
use Rattle.std.proofs.Common.{◌≡◌, ℕ, zero, suc, ◌<◌, ◌≤◌, inl, inr, List, length, slice_index_or, arith, subst, sym}
use Rattle.std.proofs.{Common.◌∙◌, lemmas.{Bool.cases_lt, List.{get_or_past, Elements.Contains-get_or}}}
use Rattle.std.specs.List.{Contains}
use Rattle.mm_word.specs.{declared.word.Word.{Word, TheVariants.{Int, Ptr}}, Pointer.Pointer}
use Rattle.mm_model.specs.{Slot.{Slot, register}, Image.Image}
use Rattle.mm_model.specs.Reach.{Grants}
use Rattle.mm_model.specs.Reach.Grants.{in_register, runs_by, in_cell, below, passed, entered, served, made}
use Rattle.mm_model.specs.Reach.Entries.{All}
use Rattle.mm_why.specs.{declared.line.{Line.Line, Rule.Rule}, Derivations.{Says, line_at, Follows, EachFollows}}
use Rattle.mm_why.specs.declared.line.Rule.TheVariants as rules

-- a pointer that a register is said to have stands among the registers
holds_pointer : (words : List Word) (r : ℕ) (p : Pointer) → slice_index_or words r (Int 0) ≡ Ptr p → Contains words (Ptr p)
holds_pointer words r p h = elim (cases_lt r (length words)) [
  | inl lt ↦ subst (Contains words) h (Contains-get_or words r (Int 0) lt)
  | inr le ↦ let past = sym (get_or_past words r (Int 0) le) ∙ h in cc
]

in_a_register : (s : Slot) (r : ℕ) (p : Pointer) → register s r ≡ Ptr p → Contains s.regs (Ptr p)
unfolding register
in_a_register s r p h = holds_pointer s.regs r p h

module _ (i : Image) (lines : List Line) where
  abbrev GrantedAt : ℕ → Type 0
  GrantedAt k = Grants i All (line_at lines k).group (line_at lines k).pointer

  said : (top j g : ℕ) (p : Pointer) → ((k : ℕ) → k < top → GrantedAt k) → Says lines top j g p → Grants i All g p
  said top j g p all h = subst (λ q. Grants i All g q) h.pointer (subst (λ v. Grants i All v (line_at lines j).pointer) h.group (all j h.earlier))

  -- what follows from granted lines is granted
  one_granted : (top g : ℕ) (p : Pointer) (rule : Rule) → ((k : ℕ) → k < top → GrantedAt k) → Follows i lines top g p rule
      → Grants i All g p
  one_granted top g p (rules.Register n r) all h = in_register h.slot h.stands h.group (in_a_register h.slot r p h.holds)
  one_granted top g p (rules.Runs n) all h = runs_by h.slot h.stands h.group h.ip
  one_granted top g p (rules.Cell w j) all h = in_cell h.by w h.cell (said top j g h.by all h.says) h.loads h.at h.holds
  one_granted top g p (rules.Below j) all h = below h.by (said top j g h.by all h.says) h.below
  one_granted top g p (rules.Passed w j s l) all h =
      passed h.giver w h.store h.load (said top j h.giver p all h.gives) (said top s h.giver h.store all h.says_store) h.stores
      (said top l g h.load all h.says_load) h.loads
  one_granted top g p (rules.Entered j) all h = entered h.by (said top j g h.by all h.says) h.enters tt h.leaves
  one_granted top g p (rules.Served n j) all h = served h.giver (said top j h.giver p all h.gives) h.serves
  one_granted top g p (rules.Made j) all h = made h.by (said top j g h.by all h.says) h.privileged h.well_formed

  -- all lines before an index are granted
  granted_before : EachFollows i lines → (top : ℕ) → top ≤ length lines → (k : ℕ) → k < top → GrantedAt k
  granted_before each zero fits k lt = absurd (omega arith)
  granted_before each (suc top) fits k lt =
      one_granted k (line_at lines k).group (line_at lines k).pointer (line_at lines k).rule
      (λ j small. granted_before each top (omega arith) j (omega arith)) (each k (omega arith))

pub derivations_grant : (i : Image) (lines : List Line) → EachFollows i lines → (k : ℕ) → k < length lines
    → Grants i All (line_at lines k).group (line_at lines k).pointer
derivations_grant i lines each k lt = granted_before i lines each (length lines) (omega arith) k lt
