use Rattle.std.proofs.Common.{◌<◌, Bool, List, get_or, sym, ap, ◌∙◌, arith, Some, slice_get, length}
use Rattle.std.proofs.lemmas.Option.{slice_get-get_or}
use Rattle.mm_word.specs.declared.word.{Word.Word, Cell.Cell}
use Rattle.mm_model.specs.{Memory.zero_cell, Flags.in_mask}
use Rattle.mm_mem.{specs.Packed.{word_of, block_of}, proofs.PackedCells.{get_or-block_of, length-block_of}}
use Rattle.mm_mem.proofs.block.Block.cell.Goals as goal

pub returns-clause-cell : goal.returns-clause-cell
returns-clause-cell c =
    let b = c.self.inside in
    let index = c.args.index in
    let cells : List Cell = block_of b.bits b.tags b.fulls in
    let within : index < length cells = omega (arith, c.requires, length-block_of b.bits b.tags b.fulls) in
    let word = c.word_of.ensures ∙ ap (word_of (get_or b.bits index 0)) c.is_set.ensures in
    sym (ap (λ (cells : List Cell). slice_get cells index) c.self.view_is)
    ∙ slice_get-get_or cells index zero_cell within
    ∙ ap Some (get_or-block_of b.bits b.tags b.fulls index zero_cell c.requires
    ∙ ap (λ (w : Word). record { word = w; full = in_mask b.fulls index }) (sym word)
    ∙ ap (λ (full : Bool). record { word = c.word_of.result; full = full }) (sym c.is_set-2.ensures))

pub returns-clause-whole : goal.returns-clause-whole
returns-clause-whole c = let b = c.self.inside in ap length (sym c.self.view_is) ∙ length-block_of b.bits b.tags b.fulls
