-- Cells, each of which has one form.
use Rattle.std.proofs.Common.{◌≡◌, ℕ, true, sym, ap, ◌∙◌}
use Rattle.mm_model.specs.Memory.{zero_cell}
use Rattle.mm_pairs.proofs.Inserts.{same_pair, own_pair}
use Rattle.mm_config.specs.Forms.{cell_form, cell_from, IsCellForm}

pub one_form : (x y : ℕ × ℕ) → IsCellForm x → IsCellForm y → cell_from x ≡ cell_from y → same_pair x y ≡ true
one_form x y p q e = own_pair x y (sym p.again ∙ ap cell_form e ∙ q.again)

pub not_zero : (x : ℕ × ℕ) → IsCellForm x → cell_from x ≡ zero_cell → ⊥
not_zero x p e = p.some (sym p.again ∙ ap cell_form e)
