use Rattle.std.proofs.Common.{ℕ, List, sym, subst, ap, ◌∙◌}
use Rattle.mm_mem.specs.{Packed.{block_of, IsPackedBlock}, Unpacked.{words_of, tags_of}}
use Rattle.mm_mem.proofs.PackedCells.{block_packed, packed_is}
use Rattle.mm_mem.proofs.block.Block.of.Goals as goal

pub invariant_of-result : goal.invariant_of-result
invariant_of-result c =
    subst (λ (ws : List ℕ). IsPackedBlock ws c.tags_of.result c.fulls_of.result) (sym c.put_words.ensures.bits)
    (subst (λ (n : ℕ). IsPackedBlock (words_of c.args.cells.now) n c.fulls_of.result) (sym c.tags_of.ensures)
    (subst (IsPackedBlock (words_of c.args.cells.now) (tags_of c.args.cells.now)) (sym c.fulls_of.ensures)
    (packed_is c.args.cells.now c.requires c.put_words.ensures.words)))

pub returns : goal.returns
returns c =
    ap (λ (ws : List ℕ). block_of ws c.tags_of.result c.fulls_of.result) c.put_words.ensures.bits
    ∙ ap (λ (n : ℕ). block_of (words_of c.args.cells.now) n c.fulls_of.result) c.tags_of.ensures
    ∙ ap (block_of (words_of c.args.cells.now) (tags_of c.args.cells.now)) c.fulls_of.ensures
    ∙ block_packed c.args.cells.now c.requires c.put_words.ensures.words
