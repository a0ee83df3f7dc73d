-- Granted pointers are well-formed.
use Rattle.std.proofs.Common.{ℕ, ◌<◌, ◌≤◌, inl, inr, sym, subst, arith}
use Rattle.std.{proofs.lemmas.List.Elements.{All-from_recursion, All-contains}, specs.List.Contains}
use Rattle.mm_word.proofs.{Results.enter_result-well_formed, Below.IsBelow-well_formed}
use Rattle.mm_word.specs.{declared.word.Word.TheVariants.Ptr, Word.IsWord, Pointer.{Pointer, IsWellFormed}}
use Rattle.mm_model.specs.{Slot.Slot, Image.{Image, slot_limit}, Spelling.{IsImage, IsFresh}}
use Rattle.mm_model.specs.Reach.{Entries, Grants, Serves}
use Rattle.mm_model.specs.Reach.Grants.{in_register, runs_by, in_cell, below, passed, entered, served, made}
use Rattle.mm_graph.proofs.CellWords.{well_formed}

pub limit_small : (i : Image) → IsImage i → slot_limit i.version ≤ 64
limit_small i image = elim image.version [ inl e ↦ subst (λ v. slot_limit v ≤ 64) (sym e) (omega arith) | inr e ↦ subst (λ v. slot_limit v ≤ 64) (sym e) (omega arith) ]

module _ (i : Image) (e : Entries) (image : IsImage i) where
  fresh : (x : Slot) → Contains i.slots x → IsFresh (slot_limit i.version) i.slots x
  fresh x h = All-contains (IsFresh (slot_limit i.version) i.slots) i.slots x (All-from_recursion _ i.slots image.fresh) h

  pub granted-well_formed : (g : ℕ) (q : Pointer) → Grants i e g q → IsWellFormed q
  granted-well_formed g q (in_register s at is reg) = All-contains IsWord s.regs (Ptr q) (All-from_recursion IsWord s.regs (fresh s at).words) reg
  granted-well_formed g q (runs_by s at is ip) = subst IsWellFormed ip (fresh s at).ip
  granted-well_formed g q (in_cell p w c by ld at is) = well_formed i.memory image.words w c q at is
  granted-well_formed g q (below p by b) = IsBelow-well_formed p q (granted-well_formed g p by) b
  granted-well_formed g q (passed h w p r what to st by ld) = granted-well_formed h q what
  granted-well_formed g q (entered p by perm may is) = enter_result-well_formed p q (granted-well_formed g p by) is
  granted-well_formed g q (served h by s) = granted-well_formed h q by
  granted-well_formed g q (made p by x well) = well

  -- only groups below 64 are granted any

  group_small : (s : Slot) → Contains i.slots s → s.group < 64
  group_small s at = let a = (fresh s at).group in let b = limit_small i image in omega arith

  served_small : (g h : ℕ) → Serves i g h → g < 64
  served_small g h s = elim s.groups [
    | inl p ↦ subst (λ v. v < 64) p.0 (group_small s.served s.one)
    | inr p ↦ subst (λ v. v < 64) p.1 (group_small s.server s.other)
  ]

  pub granted-small : (g : ℕ) (q : Pointer) → Grants i e g q → g < 64
  granted-small g q (in_register s at is reg) = subst (λ v. v < 64) is (group_small s at)
  granted-small g q (runs_by s at is ip) = subst (λ v. v < 64) is (group_small s at)
  granted-small g q (in_cell p w c by ld at is) = granted-small g p by
  granted-small g q (below p by b) = granted-small g p by
  granted-small g q (passed h w p r what to st by ld) = granted-small g r by
  granted-small g q (entered p by perm may is) = granted-small g p by
  granted-small g q (served h by s) = served_small g h s
  granted-small g q (made p by x well) = granted-small g p by
