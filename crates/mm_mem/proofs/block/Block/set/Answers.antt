use Rattle.std.proofs.Common.{ℕ, List, set, sym, ap, subst, ◌∙◌}
use Rattle.mm_word.specs.declared.word.Cell.{Cell}
use Rattle.mm_mem.{specs.Packed.{block_of, IsPackedBlock}, proofs.PackedCells.{cell_set, set_is}}
use Rattle.mm_mem.proofs.block.Block.set.Goals as goal

pub invariant_of-self : goal.invariant_of-self
invariant_of-self c =
    let b = c.self.inside in
    let tags = c.with_bit-self-inside in
    let fulls = c.with_bit-self-inside-2 in
    subst (λ (n : ℕ). IsPackedBlock (set b.bits c.args.index n) tags.result fulls.result) (sym c.bits.ensures.value)
    (set_is b.bits b.tags b.fulls c.self.invariant c.args.index c.requires c.args.cell c.bits.ensures.word tags.result fulls.result
    (tags.ensures.own ∙ c.is_pointer.ensures) tags.ensures.others fulls.ensures.own fulls.ensures.others tags.type_inv fulls.type_inv)

pub returns : goal.returns
returns c =
    let b = c.self.inside in
    let tags = c.with_bit-self-inside in
    let fulls = c.with_bit-self-inside-2 in
    ap (λ (n : ℕ). block_of (set b.bits c.args.index n) tags.result fulls.result) c.bits.ensures.value
    ∙ cell_set b.bits b.tags b.fulls c.self.invariant c.args.index c.requires c.args.cell c.bits.ensures.word tags.result fulls.result
    (tags.ensures.own ∙ c.is_pointer.ensures) tags.ensures.others fulls.ensures.own fulls.ensures.others
    ∙ ap (λ (cells : List Cell). set cells c.args.index c.args.cell) c.self.view_is
