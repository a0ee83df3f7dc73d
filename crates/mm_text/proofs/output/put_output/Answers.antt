use Rattle.std.proofs.Common.{◌++◌, ◌∙◌, ap, append_assoc, length, ◌<◌, rules}
use Rattle.mm_model.specs.Lines.{output_lines, output_row}
use Rattle.mm_text.proofs.{Appending.appends_then, OutputRows.output_lines-step}
use Rattle.mm_text.proofs.output.put_output.Goals as goal

pub loop-rest-preserved : goal.loop-rest-preserved
loop-rest-preserved g c =
    let before = c.loop-rest.invariant in
    let rest = c.loop-rest.rest.now in
    let row = c.split_at.result.0.now in
    let others = c.split_at.result.1.now in
    let some : 0 < length rest = search rules in
    let step = output_lines-step rest row others _ some c.min.ensures c.split_at.ensures.front c.split_at.ensures.back in
    record {
      done = before.done ++ output_row row;
      appends = appends_then before.appends c.put_row.ensures;
      left = append_assoc before.done (output_row row) (output_lines others) ∙ ap (λ text. before.done ++ text) step ∙ before.left;
    }
