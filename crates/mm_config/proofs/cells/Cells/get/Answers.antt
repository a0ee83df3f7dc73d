use Rattle.std.proofs.Common.{◌≡◌, ◌-◌, ◌≤◌, ◌%◌, List, sym, ap, ◌∙◌, subst, length, map, slice_index_or}
use Rattle.std.specs.Prelude.{◌==◌}
use Rattle.mm_word.specs.declared.word.Cell.{Cell}
use Rattle.mm_model.specs.Memory.{zero_cell}
use Rattle.mm_pairs.{specs.Named.named, proofs.Inserts.named_before}
use Rattle.mm_config.specs.Forms.{cell_from}
use Rattle.mm_config.proofs.cells.Cells.get.Goals as goal

pub returns : goal.returns
returns c =
    let rows = c.as_slice.result.now in
    let all : map cell_from rows ≡ c.args.self.now = ap (map cell_from) c.as_slice.ensures.keys ∙ c.self.view_is in
    let read = named_before cell_from zero_cell rows c.args.name (0, 0) c.if-name-eq0.false (subst (λ (l : List Cell). c.args.name ≤ length l) (sym all) c.requires) in
    ap (λ w. record { word = w; full = (slice_index_or rows (c.args.name - 1) (0, 0)).1 % 2 == 1 }) c.word_of.ensures ∙ read ∙ ap (λ (l : List Cell). named zero_cell l c.args.name) all
